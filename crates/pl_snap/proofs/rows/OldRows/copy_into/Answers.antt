use Rattle.std.proofs.Common.{◌≡◌, ◌++◌, List, map, ap, sym, ◌∙◌}
use Rattle.std.proofs.lemmas.Result.{on_ok_weaker}
use Rattle.pl_state.specs.declared.entry.Entry.{Entry}
use Rattle.pl_snap.proofs.RowLemmas.{entries-rows}
use Rattle.pl_snap.proofs.rows.OldRows.copy_into.Goals as goal

pub returns : goal.returns
returns c =
    let a = c.self.inside in
    let entries : c.as_slice.result.now ≡ map (λ row. row.entry) c.args.self.now = c.as_slice.ensures.value ∙ sym (entries-rows a.set_at a.tags.items a.entries.items c.self.invariant.0) ∙ ap (map (λ row. row.entry)) c.self.view_is in
    on_ok_weaker c.copy_rows.result (λ h. h ∙ ap (λ (es : List Entry). c.args.into.now ++ es) entries) c.copy_rows.ensures
