use Rattle.std.proofs.Common.{◌≡◌, ℕ, ◌≤◌, ◌^◌, Some, None, find, position, refl, ap, sym, subst, ◌∙◌}
use Rattle.pl_snap.specs.Lists.{changed_first}
use Rattle.pl_snap.specs.Rows.{doomed, doomed_row, has_number, is_row, rows_in, set_end}
use Rattle.pl_snap.proofs.ListLemmas.{changed-none, length-changed_at}
use Rattle.pl_snap.proofs.Rising.{rise-stamped}
use Rattle.pl_snap.proofs.RowLemmas.{changed-rows, missing-row}
use Rattle.pl_snap.proofs.rows.OldRows.mark_doomed.Goals as goal

pub invariant_of-self : goal.invariant_of-self
invariant_of-self c =
    let a = c.self.inside in
    let number = c.args.number in
    let at : position (has_number number) a.tags.items ≡ Some c.in-Some.place = ap (position (has_number number)) (sym c.as_slice.ensures.value) ∙ sym c.in-Some.ensures in
    let holds = changed-rows a.set_at a.tags.items a.entries.items number c.in-Some.place c.args.new_stamp doomed (doomed_row c.args.new_stamp) (λ tag entry. refl) c.self.invariant.0 at in
    let rise = rise-stamped 0 a.tags.items c.args.new_stamp c.in-Some.place ∙ c.self.invariant.2 in
    rw (c.restamp.ensures, c.doom.ensures) (holds.fit, subst (λ (n : ℕ). set_end a.set_at n ≤ 2 ^ 62) (sym (length-changed_at doomed c.in-Some.place a.entries.items)) c.self.invariant.1, rise)

pub returns-in-Some : goal.returns-in-Some
returns-in-Some c =
    let a = c.self.inside in
    let number = c.args.number in
    let at : position (has_number number) a.tags.items ≡ Some c.in-Some.place = ap (position (has_number number)) (sym c.as_slice.ensures.value) ∙ sym c.in-Some.ensures in
    let holds = changed-rows a.set_at a.tags.items a.entries.items number c.in-Some.place c.args.new_stamp doomed (doomed_row c.args.new_stamp) (λ tag entry. refl) c.self.invariant.0 at in
    (λ i. rows_in a.set_at (c.restamp.ensures i) (c.doom.ensures i)) ∙ holds.are ∙ ap (changed_first (is_row number) (doomed_row c.args.new_stamp)) c.self.view_is

pub returns-in_default : goal.returns-in_default
returns-in_default c =
    let a = c.self.inside in
    let number = c.args.number in
    let none : position (has_number number) a.tags.items ≡ None = ap (position (has_number number)) (sym c.as_slice.ensures.value) ∙ sym c.in_default.ensures in
    sym (changed-none (is_row number) (doomed_row c.args.new_stamp) c.args.self.now (ap (find (is_row number)) (sym c.self.view_is) ∙ missing-row a.set_at a.tags.items a.entries.items number none))
