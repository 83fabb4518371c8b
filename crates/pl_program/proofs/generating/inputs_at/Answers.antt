use Rattle.std.proofs.Common.{◌||◌, List, ℕ, false, not, bytes_eq, ap}
use Rattle.pl_value.proofs.Levels.{is_value-Whole}
use Rattle.pl_value.specs.Marks.{secret_key}
use Rattle.pl_program.proofs.generating.inputs_at.Goals as goal

pub push-requires-clause-sound : goal.push-requires-clause-sound
push-requires-clause-sound c = is_value-Whole _

pub push-requires-clause-unmarked : goal.push-requires-clause-unmarked
unfolding secret_key
push-requires-clause-unmarked c = ap (λ (key : List ℕ). not (bytes_eq key secret_key) || false) c.in_ok-from_str.ensures
