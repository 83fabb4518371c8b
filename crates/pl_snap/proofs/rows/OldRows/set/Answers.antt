use Rattle.std.proofs.Common.{map, ap, sym, ◌∙◌}
use Rattle.pl_snap.proofs.RowLemmas.{entries-rows}
use Rattle.pl_snap.proofs.rows.OldRows.set.Goals as goal

pub returns-clause-former : goal.returns-clause-former
returns-clause-former c =
    let a = c.self.inside in
    c.from_vec.ensures ∙ ap (λ v. v.items) c.replace-former.ensures.value ∙ sym (entries-rows a.set_at a.tags.items a.entries.items c.self.invariant.0) ∙ ap (map (λ row. row.entry)) c.self.view_is
