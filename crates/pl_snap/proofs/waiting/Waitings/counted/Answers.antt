use Rattle.std.proofs.Common.{count_by, ap, sym, ◌∙◌}
use Rattle.pl_snap.specs.Rows.{is_counted}
use Rattle.pl_snap.proofs.RowLemmas.{counted-waiting}
use Rattle.pl_snap.proofs.waiting.Waitings.counted.Goals as goal

pub returns : goal.returns
returns c =
    let a = c.self.inside in
    c.self.invariant.1 ∙ sym (counted-waiting a.tags.items a.operations.items c.self.invariant.0) ∙ ap (count_by (λ one. is_counted one.pending)) c.self.view_is
