use Rattle.std.proofs.Common.{◌≡◌, Some, None, find, position, ap, sym, ◌∙◌}
use Rattle.pl_snap.specs.Lists.{without_first}
use Rattle.pl_snap.specs.Rows.{has_number, is_row, rows_in}
use Rattle.pl_snap.proofs.ListLemmas.{without-none}
use Rattle.pl_snap.proofs.Rising.{rise-removed}
use Rattle.pl_snap.proofs.RowLemmas.{missing-row, retired-rows}
use Rattle.pl_snap.proofs.rows.OldRows.retire.Goals as goal

pub invariant_of-self : goal.invariant_of-self
invariant_of-self c =
    let a = c.self.inside in
    let number = c.args.number in
    let at : position (has_number number) a.tags.items ≡ Some c.in-Some.place = ap (position (has_number number)) (sym c.as_slice.ensures.value) ∙ sym c.in-Some.ensures in
    let holds = retired-rows a.set_at a.tags.items a.entries.items number c.in-Some.place c.self.invariant.0 at in
    rw (c.remove.ensures.items, c.remove-in-Some.ensures.items) (holds.fit, holds.below, rise-removed 0 a.tags.items c.in-Some.place c.self.invariant.2)

pub returns-in-Some : goal.returns-in-Some
returns-in-Some c =
    let a = c.self.inside in
    let number = c.args.number in
    let at : position (has_number number) a.tags.items ≡ Some c.in-Some.place = ap (position (has_number number)) (sym c.as_slice.ensures.value) ∙ sym c.in-Some.ensures in
    let holds = retired-rows a.set_at a.tags.items a.entries.items number c.in-Some.place c.self.invariant.0 at in
    (λ i. rows_in a.set_at (c.remove.ensures.items i) (c.remove-in-Some.ensures.items i)) ∙ holds.are ∙ ap (without_first (is_row number)) c.self.view_is

pub returns-in_default : goal.returns-in_default
returns-in_default c =
    let a = c.self.inside in
    let number = c.args.number in
    let none : position (has_number number) a.tags.items ≡ None = ap (position (has_number number)) (sym c.as_slice.ensures.value) ∙ sym c.in_default.ensures in
    sym (without-none (is_row number) c.args.self.now (ap (find (is_row number)) (sym c.self.view_is) ∙ missing-row a.set_at a.tags.items a.entries.items number none))
