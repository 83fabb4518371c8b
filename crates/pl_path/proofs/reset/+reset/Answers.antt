use Rattle.std.proofs.Common.{◌≡◌, IfOk, List, ◌∷◌, ◌++◌, Option, Some, ℕ, slice_get, sym, ap, subst, ◌∙◌}
use Rattle.std.specs.Option.{option_copied}
use Rattle.pl_value.specs.Keys as keys
use Rattle.pl_value.specs.declared.value.Value.{Value}
use Rattle.pl_path.specs.declared.segment.Segment.{Segment}
use Rattle.pl_path.specs.declared.segment.Segment.TheVariants.{Key}
use Rattle.pl_path.specs.Found.{elements_in, fields_in, found_from}
use Rattle.pl_path.specs.Reset.{new_element, reset_elements, reset_fields, reset_in, reset_one}
use Rattle.pl_path.proofs.AtSegment.{at-List, at-Object, at-Secret, changed-Some, joined, stays-List, stays-Object, stays-plain}
use Rattle.pl_path.proofs.reset.+reset.Goals as goal

pub reset_at-returns-in_ok-new-in-Secret : goal.reset_at-returns-in_ok-new-in-Secret
reset_at-returns-in_ok-new-in-Secret t c =
    let segments : List Segment = c.args.segment.now ∷ c.args.rest.now in
    let old : Option Value = found_from segments (option_copied c.args.old) in
    let made : c.in_ok-new-in-Secret.field-0 ≡ reset_in segments old c.in-Secret.inner =
    c.in_ok-new-in-Secret.ensures ∙ c.in_ok-made-in-Secret.ensures ∙ ap (reset_in segments old) c.get.ensures in
    at-Secret c.args.segment.now c.args.rest.now old c.args.holder.now c.in-Secret.inner c.in_ok-new-in-Secret.field-0 c.in-Secret.is made

pub reset_at-returns-in_ok-made-in-Key : goal.reset_at-returns-in_ok-made-in-Key
reset_at-returns-in_ok-made-in-Key t c =
    let old : Option Value = option_copied c.args.old in
    let key : List ℕ = c.in-Key.key in
    let made : c.in_ok-made-in-Key.made ≡ reset_fields (Key key ∷ c.args.rest.now) (found_from c.args.rest.now (keys.value_at key (fields_in old))) c.in-Object.fields =
    c.in_ok-made-in-Key.ensures
    ∙ (λ i. reset_fields (Key (c.as_slice-key.ensures i) ∷ c.args.rest.now)
    (found_from c.args.rest.now (keys.value_at (c.as_slice-key.ensures i) (c.old_fields.ensures i))) (c.as_slice.ensures i)) in
    at-Object key c.args.segment.now c.args.rest.now old c.args.holder.now c.in-Object.fields c.in_ok-made-in-Key.made c.in-Key.is c.in-Object.is made

pub reset_at-returns-in-Index : goal.reset_at-returns-in-Index
reset_at-returns-in-Index t c =
    let stays : c.args.holder.now ≡ reset_in (c.args.segment.now ∷ c.args.rest.now) (found_from (c.args.segment.now ∷ c.args.rest.now) (option_copied c.args.old)) c.args.holder.now =
    stays-Object c.in-Index.field-0 c.args.segment.now c.args.rest.now (found_from (c.args.segment.now ∷ c.args.rest.now) (option_copied c.args.old)) c.args.holder.now c.in-Object.fields c.in-Index.is c.in-Object.is in
    subst (λ (one : Value). IfOk c.copy.result (λ made. made ≡ one)) stays c.copy.ensures

pub reset_at-returns-in-Key-segment : goal.reset_at-returns-in-Key-segment
reset_at-returns-in-Key-segment t c =
    let stays : c.args.holder.now ≡ reset_in (c.args.segment.now ∷ c.args.rest.now) (found_from (c.args.segment.now ∷ c.args.rest.now) (option_copied c.args.old)) c.args.holder.now =
    stays-List c.in-Key-segment.field-0 c.args.segment.now c.args.rest.now (found_from (c.args.segment.now ∷ c.args.rest.now) (option_copied c.args.old)) c.args.holder.now c.in-List.values c.in-Key-segment.is c.in-List.is in
    subst (λ (one : Value). IfOk c.copy-in-Key-segment.result (λ made. made ≡ one)) stays c.copy-in-Key-segment.ensures

pub reset_at-returns-in_ok-made-in-Index-segment : goal.reset_at-returns-in_ok-made-in-Index-segment
reset_at-returns-in_ok-made-in-Index-segment t c =
    let old : Option Value = option_copied c.args.old in
    let place : ℕ = c.in-Index-segment.place in
    let made : c.in_ok-made-in-Index-segment.made ≡ reset_elements place c.args.rest.now (found_from c.args.rest.now (slice_get (elements_in old) place)) c.in-List.values =
    c.in_ok-made-in-Index-segment.ensures
    ∙ (λ i. reset_elements place c.args.rest.now (found_from c.args.rest.now (slice_get (c.old_elements.ensures i) place)) (c.as_slice-in-Index-segment.ensures i)) in
    at-List place c.args.segment.now c.args.rest.now old c.args.holder.now c.in-List.values c.in_ok-made-in-Index-segment.made c.in-Index-segment.is c.in-List.is made

pub reset_at-returns-in-Null : goal.reset_at-returns-in-Null
reset_at-returns-in-Null t c =
    let stays : c.args.holder.now ≡ reset_in (c.args.segment.now ∷ c.args.rest.now) (found_from (c.args.segment.now ∷ c.args.rest.now) (option_copied c.args.old)) c.args.holder.now =
    stays-plain c.args.segment.now c.args.rest.now (found_from (c.args.segment.now ∷ c.args.rest.now) (option_copied c.args.old)) c.args.holder.now c.in-Null.is in
    subst (λ (one : Value). IfOk c.copy-in-Null.result (λ made. made ≡ one)) stays c.copy-in-Null.ensures

pub reset_elements-returns : goal.reset_elements-returns
reset_elements-returns t c =
    let place : ℕ = c.args.place in
    let values : List Value = c.args.values.now in
    let rest : List Segment = c.args.rest.now in
    let found : Option Value = found_from rest (slice_get c.args.old.now place) in
    let there : slice_get values place ≡ Some c.in-Some.element.now = sym c.in-Some.ensures.element in
    let put : c.in_ok-reset_element.field-0 ≡ reset_one rest found c.in-Some.element.now =
    c.in_ok-reset_element.ensures ∙ ap (λ old. reset_one rest (found_from rest old) c.in-Some.element.now) c.element_at.ensures in
    let whole = changed-Some (new_element (λ inner. reset_in rest found inner) rest found) place values c.in-Some.element.now there in
    let split : reset_elements place rest found values ≡ c.in-Some.before.now ++ reset_one rest found c.in-Some.element.now ∷ c.in-Some.after.now =
    whole ∙ (λ i. sym c.in-Some.ensures.before i ++ reset_one rest found c.in-Some.element.now ∷ sym c.in-Some.ensures.after i) in
    joined c.copy_values-3.new.made c.copy_values-2.new.made c.push.new.self (reset_elements place rest found values)
    c.in-Some.before.now c.in-Some.after.now c.in_ok-reset_element.field-0 (reset_one rest found c.in-Some.element.now)
    (c.in_ok-copy_values-2.ensures ∙ ap (λ made. made ++ c.in-Some.before.now) c.new-made.ensures) c.in_ok-push.ensures.ok c.in_ok-copy_values-3.ensures put split

pub reset_value-returns-in-Some : goal.reset_value-returns-in-Some
reset_value-returns-in-Some t c =
    subst (λ (path : List Segment). IfOk c.reset_at.result (λ made. made ≡ reset_in path (found_from path (option_copied c.args.old)) c.args.holder.now))
    (sym c.in-Some.ensures.cases.0) c.reset_at.ensures
