use Rattle.std.proofs.Common.{◌≡◌, List, Some, None, option_map, find, position, slice_get, ap, sym, ◌∙◌}
use Rattle.pl_snap.specs.Model.{Row}
use Rattle.pl_snap.specs.Rows.{has_number, is_row}
use Rattle.pl_snap.proofs.RowLemmas.{found-row, missing-row}
use Rattle.pl_snap.proofs.rows.OldRows.entry_of.Goals as goal

pub returns-in_err-place : goal.returns-in_err-place
returns-in_err-place c =
    let a = c.self.inside in
    let number = c.args.number in
    let none : position (has_number number) a.tags.items ≡ None = ap (position (has_number number)) (sym c.as_slice.ensures.value) ∙ sym c.in_err-place.ensures in
    ap (option_map (λ entry. entry.now)) c.from_residual.ensures
    ∙ sym (ap (λ (rows : List Row). option_map (λ row. row.entry) (find (is_row number) rows)) (sym c.self.view_is)
    ∙ ap (option_map (λ row. row.entry)) (missing-row a.set_at a.tags.items a.entries.items number none))

pub returns : goal.returns
returns c =
    let a = c.self.inside in
    let number = c.args.number in
    let at : position (has_number number) a.tags.items ≡ Some c.in_ok-place.place = ap (position (has_number number)) (sym c.as_slice.ensures.value) ∙ sym c.in_ok-place.ensures in
    c.entry_in.ensures
    ∙ ap (λ es. slice_get es c.in_ok-place.place) c.as_slice-2.ensures.value
    ∙ sym (ap (λ (rows : List Row). option_map (λ row. row.entry) (find (is_row number) rows)) (sym c.self.view_is)
    ∙ found-row a.set_at a.tags.items a.entries.items number c.in_ok-place.place c.self.invariant.0 at)
