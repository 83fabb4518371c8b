use Rattle.std.proofs.Common.{◌≡◌, ℕ, refl, sym, subst}
use Rattle.pl_decide.specs.declared.outcome.Outcome.{Outcome}
use Rattle.pl_world.specs.Counts.{Rose}
use Rattle.pl_engine.specs.Content.{IsBad, IsUnreadable}
use Rattle.pl_engine.specs.Printed.{IsStateServed}
use Rattle.pl_engine.proofs.Printing.{served-unreadable}
use Rattle.pl_engine.proofs.hostless.serve_state.Goals as goal

pub returns-in-Err-clause-served : goal.returns-in-Err-clause-served
returns-in-Err-clause-served g c =
    let same : g.S.Store.faults c.read_state-found.new.store ≡ g.S.Store.faults c.stop.result.world.store = rw c.stop.ensures.kept refl in
    subst (λ (o : Outcome). IsStateServed c.args.work (g.S.Store.story c.args.world.store) (Rose (g.S.Store.faults c.args.world.store) (g.S.Store.faults c.stop.result.world.store))
    (Rose (g.W.Sink.faults c.args.world.sink) (g.W.Sink.faults c.stop.result.world.sink)) c.stop.result.run.wanted
    (g.W.Sink.written c.args.world.sink) (g.W.Sink.written c.stop.result.world.sink) o) (sym c.stop.ensures.outcome)
    (served-unreadable c.args.work (g.S.Store.story c.args.world.store) _ _ c.stop.result.run.wanted _ _ c.in-Err.outcome
    (subst (λ (n : ℕ). IsUnreadable (IsBad (g.S.Store.story c.args.world.store)) (Rose (g.S.Store.faults c.args.world.store) n) c.in-Err.outcome) same c.in-Err.ensures.refused)
    c.stop.ensures.shown)
