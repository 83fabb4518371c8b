use Rattle.std.proofs.Common.{length, ap, sym, ◌∙◌}
use Rattle.pl_snap.proofs.RowLemmas.{length-rows}
use Rattle.pl_snap.proofs.rows.OldRows.len.Goals as goal

pub returns : goal.returns
returns c =
    let a = c.self.inside in
    c.len.ensures ∙ a.entries.ok.0 ∙ sym (length-rows a.set_at a.tags.items a.entries.items c.self.invariant.0) ∙ ap length c.self.view_is
