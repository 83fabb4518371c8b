use Rattle.std.proofs.Common.{◌≡◌, ◌+◌, Some, None, length, find, position, count_by, arith, ap, sym, ◌∙◌}
use Rattle.pl_snap.specs.Lists.{without_first, zip_by}
use Rattle.pl_snap.specs.Rows.{has_number, is_counted, is_waiting, tagged_pending}
use Rattle.pl_snap.proofs.ListLemmas.{without-none}
use Rattle.pl_snap.proofs.RowLemmas.{missing-waiting, removed-waiting}
use Rattle.pl_snap.proofs.waiting.Waitings.remove.Goals as goal

pub overflow_sub-self : goal.overflow_sub-self
overflow_sub-self c =
    let a = c.self.inside in
    let fewer : count_by is_counted c.take_out.new.operations.items + c.take_out.result ≡ count_by is_counted a.operations.items = c.take_out.ensures.fewer in
    let counted : a.counted ≡ count_by is_counted a.operations.items = c.self.invariant.1 in
    omega arith

pub invariant_of-self : goal.invariant_of-self
invariant_of-self c =
    let a = c.self.inside in
    let number = c.args.number in
    let at : position (has_number number) a.tags.items ≡ Some c.in-Some.place = ap (position (has_number number)) (sym c.as_slice.ensures.value) ∙ sym c.in-Some.ensures in
    let lengths = (removed-waiting a.tags.items a.operations.items number c.in-Some.place c.self.invariant.0 at).0 in
    let fewer : count_by is_counted c.take_out.new.operations.items + c.take_out.result ≡ count_by is_counted a.operations.items = c.take_out.ensures.fewer in
    let counted : a.counted ≡ count_by is_counted a.operations.items = c.self.invariant.1 in
    (ap length c.remove.ensures.items ∙ lengths ∙ sym (ap length c.take_out.ensures.rest), omega arith)

pub returns-in-Some : goal.returns-in-Some
returns-in-Some c =
    let a = c.self.inside in
    let number = c.args.number in
    let at : position (has_number number) a.tags.items ≡ Some c.in-Some.place = ap (position (has_number number)) (sym c.as_slice.ensures.value) ∙ sym c.in-Some.ensures in
    (λ i. zip_by tagged_pending (c.remove.ensures.items i) (c.take_out.ensures.rest i))
    ∙ (removed-waiting a.tags.items a.operations.items number c.in-Some.place c.self.invariant.0 at).1
    ∙ ap (without_first (is_waiting number)) c.self.view_is

pub returns-in_default : goal.returns-in_default
returns-in_default c =
    let a = c.self.inside in
    let number = c.args.number in
    let none : position (has_number number) a.tags.items ≡ None = ap (position (has_number number)) (sym c.as_slice.ensures.value) ∙ sym c.in_default.ensures in
    sym (without-none (is_waiting number) c.args.self.now (ap (find (is_waiting number)) (sym c.self.view_is) ∙ missing-waiting a.tags.items a.operations.items number none))
