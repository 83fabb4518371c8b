use Rattle.std.proofs.Common.{◌≡◌, ◌++◌, List, map, ap, sym, ◌∙◌}
use Rattle.std.proofs.lemmas.Result.{on_ok_weaker}
use Rattle.pl_state.specs.declared.pending.Pending.{Pending}
use Rattle.pl_snap.proofs.RowLemmas.{pending-waiting}
use Rattle.pl_snap.proofs.waiting.Waitings.copy_into.Goals as goal

pub returns : goal.returns
returns c =
    let a = c.self.inside in
    let operations : c.as_slice.result.now ≡ map (λ one. one.pending) c.args.self.now = c.as_slice.ensures.value ∙ sym (pending-waiting a.tags.items a.operations.items c.self.invariant.0) ∙ ap (map (λ one. one.pending)) c.self.view_is in
    on_ok_weaker c.copy_pending.result (λ h. h ∙ ap (λ (all : List Pending). c.args.into.now ++ all) operations) c.copy_pending.ensures
