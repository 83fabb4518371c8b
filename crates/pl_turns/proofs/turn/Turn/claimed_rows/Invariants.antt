use Rattle.pl_model.specs.Decisions.{claims_at}
use Rattle.pl_turns.specs.Seen.{seen_turn}
use Rattle.pl_turns.proofs.Chains.{Lists}
use Rattle.pl_turns.proofs.turn.Turn.claimed_rows.Given as goal

abbrev pub invariant-loop-row : goal.invariant-loop-row
invariant-loop-row l = Lists (claims_at (seen_turn l.self)) l.row l.claimed
