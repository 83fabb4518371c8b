use Rattle.std.proofs.Common.{◌≡◌, ◌<◌, ◌∙◌, false, length, Some, option_map, sym, ap, subst}
use Rattle.std.specs.Option.{IfSome}
use Rattle.pl_claims.specs.Columns.{Kept}
use Rattle.pl_model.specs.Claims.{is_claimed}
use Rattle.pl_model.specs.Run.{rows_of}
use Rattle.pl_turns.specs.Next.{next_decided}
use Rattle.pl_turns.specs.declared.decided.Settled.{Settled}
use Rattle.pl_turns.proofs.Reached.{next_row, next_unclaimed}
use Rattle.pl_turns.proofs.settling.decide_next.Goals as goal

pub decide_prepared-requires-clause-claim : goal.decide_prepared-requires-clause-claim
decide_prepared-requires-clause-claim c =
    let next : next_decided c.args.requests.now c.args.errands.now c.args.claims.now ≡ Some c.in-Some.one.decided =
    sym c.in_ok-decided_next.ensures.decided ∙ ap (option_map (λ (one : Settled). one.decided)) c.in-Some.is in
    subst (λ (kept : Kept). IfSome c.in-Some.one.decided.claim (λ row. row < length (rows_of kept.run))) (sym c.in_ok-prepare-in-Some.ensures.ready)
    (next_row c.args.claims.now.run c.args.errands.now.tickets.answers c.args.requests.now.goals c.args.claims.now.decided c.in-Some.one.decided next)

pub decide_prepared-requires-clause-unclaimed : goal.decide_prepared-requires-clause-unclaimed
decide_prepared-requires-clause-unclaimed c =
    let next : next_decided c.args.requests.now c.args.errands.now c.args.claims.now ≡ Some c.in-Some.one.decided =
    sym c.in_ok-decided_next.ensures.decided ∙ ap (option_map (λ (one : Settled). one.decided)) c.in-Some.is in
    subst (λ (kept : Kept). IfSome c.in-Some.one.decided.claim (λ row. is_claimed kept.decided row ≡ false)) (sym c.in_ok-prepare-in-Some.ensures.ready)
    (next_unclaimed c.args.claims.now.run c.args.errands.now.tickets.answers c.args.requests.now.goals c.args.claims.now.decided c.in-Some.one.decided next)
