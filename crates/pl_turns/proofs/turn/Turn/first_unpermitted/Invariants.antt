use Rattle.std.proofs.Common.{◌≡◌, None, take}
use Rattle.pl_decide.specs.Limited.{first_unpermitted}
use Rattle.pl_state.specs.Chain.{rows_at}
use Rattle.pl_model.specs.Decisions.{claims_at}
use Rattle.pl_model.specs.Run.{rows_of}
use Rattle.pl_turns.specs.Seen.{seen_turn}
use Rattle.pl_turns.proofs.turn.Turn.first_unpermitted.Given as goal

abbrev pub invariant-loop-place : goal.invariant-loop-place
invariant-loop-place l =
    first_unpermitted l.self.claims.now.run.limits (claims_at (seen_turn l.self))
    (rows_at (rows_of l.self.claims.now.run) (take l.place-index l.places)) ≡ None
