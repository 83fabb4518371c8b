use Rattle.std.proofs.Common.{length, ap, sym, ◌∙◌}
use Rattle.pl_snap.specs.Rows.{tagged_pending}
use Rattle.pl_snap.proofs.ListLemmas.{length-zip}
use Rattle.pl_snap.proofs.waiting.Waitings.len.Goals as goal

pub returns : goal.returns
returns c =
    let a = c.self.inside in
    c.len.ensures ∙ a.operations.ok.0 ∙ sym (length-zip tagged_pending a.tags.items a.operations.items c.self.invariant.0) ∙ ap length c.self.view_is
