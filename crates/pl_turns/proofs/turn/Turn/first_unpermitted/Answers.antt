use Rattle.std.proofs.Common.{◌<◌, ℕ, Bool, not, arith, length}
use Rattle.pl_decide.specs.Permits.{permits_chained}
use Rattle.pl_state.specs.declared.entry.Entry.{Entry}
use Rattle.pl_model.specs.Decisions.{claims_at}
use Rattle.pl_model.specs.Run.{rows_of}
use Rattle.pl_turns.specs.Seen.{seen_turn}
use Rattle.pl_turns.specs.declared.turn.Turn.{Turn}
use Rattle.pl_turns.proofs.Chains.{first_found, first_more}
use Rattle.pl_turns.proofs.turn.Turn.first_unpermitted.Goals as goal

abbrev is_unpermitted : Turn → ℕ × Entry → Bool
is_unpermitted turn row =
    not (permits_chained turn.claims.now.run.limits (claims_at (seen_turn turn) row.0) row.1.doomed row.1.urn)

pub returns-in-Some : goal.returns-in-Some
returns-in-Some c =
    let inside : c.loop-place.place-index < length c.args.places.now = omega arith in
    first_found (is_unpermitted c.args.self.now) (rows_of c.args.self.now.claims.now.run) c.args.places.now c.loop-place.place-index c.in-Some.row.now
    inside c.loop-place.invariant c.in-Some.ensures

pub loop-place-preserved : goal.loop-place-preserved
loop-place-preserved c =
    let inside : c.loop-place.place-index < length c.args.places.now = omega arith in
    first_more (is_unpermitted c.args.self.now) (rows_of c.args.self.now.claims.now.run) c.args.places.now c.loop-place.place-index
    inside c.loop-place.invariant c.in_default.ensures
