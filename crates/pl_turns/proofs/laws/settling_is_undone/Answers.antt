use Rattle.pl_turns.proofs.Backs as proof
use Rattle.pl_turns.proofs.laws.settling_is_undone.Goals as goal

pub returns : goal.returns
returns c = proof.older_left
