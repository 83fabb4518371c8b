use Rattle.std.proofs.Common.{◌≡◌, ℕ, ◌+◌, ◌-◌, ◌≤◌, ◌++◌, ◌∷◌, [], Bool, true, List, Result, Ok, Err, drop, rules, arith, sym, ap, subst, ◌∙◌}
use Rattle.pl_value.proofs.FieldParts.{Pairs, are_fields-parts}
use Rattle.pl_value.proofs.Levels.{is_value-List, is_value-Object, is_value-Secret}
use Rattle.pl_value.specs.IsValue.{is_value, are_fields, are_values, may_stand_under}
use Rattle.pl_value.specs.Keys.{are_all_below, keys_of}
use Rattle.pl_value.specs.declared.value.Value.{Value, the_lemmas}
use Rattle.pl_value.specs.declared.value.Value.TheVariants as value
use Rattle.pl_program_file.proofs.KeptValues.{next_above, next_unmarked}
use Rattle.pl_program_file.proofs.Levels.{filled-List, filled-Object, filled-Secret}
use Rattle.pl_program_file.proofs.OneByOne.{and_then, keys_next, members_next}
use Rattle.pl_program_file.specs.Filled.{filled, filled_members, filled_values, inside, made_of, under}
use Rattle.pl_program_file.specs.declared.filling.Place.{Place}
use Rattle.pl_program_file.specs.declared.known.Known.{Known}
use Rattle.pl_program_file.proofs.filling.+filling.Goals as goal

pub filled-filled_values-requires : goal.filled-filled_values-requires
filled-filled_values-requires t c =
    let sound : are_values c.as_slice.result.now ≡ true = cc (is_value-List c.in-List.values) in
    (search (rules, the_lemmas), (sound, c.requires.levels))

pub filled-filled_members-requires : goal.filled-filled_members-requires
filled-filled_members-requires t c =
    let sound : are_fields c.as_slice-in-Object.result.now ≡ true = cc (is_value-Object c.in-Object.fields) in
    (search (rules, the_lemmas), (sound, omega arith))

pub filled-filled-requires : goal.filled-filled-requires
filled-filled-requires t c =
    let sound : is_value c.get.result.now ≡ true = cc (is_value-Secret c.in-Secret.inner) in
    let left : c.inside.result.levels ≡ c.args.place.levels - 1 = ap (λ place. place.levels) c.inside.ensures in
    (search (rules, the_lemmas), (sound, omega arith))

pub filled-returns-in_err-values-in-List-clause-missing :
    goal.filled-returns-in_err-values-in-List-clause-missing
filled-returns-in_err-values-in-List-clause-missing t c =
    let is : filled c.args.known.now c.args.preview c.args.value.now c.args.place
    ≡ made_of value.List (filled_values c.args.known.now c.args.preview (inside c.args.place.levels) c.as_slice.result.now) =
    cc (filled-List c.args.known.now c.args.preview c.in-List.values c.args.place) in
    grind (arith, is)

pub filled-returns-in_err-fields-in-Object-clause-missing :
    goal.filled-returns-in_err-fields-in-Object-clause-missing
filled-returns-in_err-fields-in-Object-clause-missing t c =
    let is : filled c.args.known.now c.args.preview c.args.value.now c.args.place
    ≡ made_of value.Object (filled_members c.args.known.now c.args.preview c.saturating_sub-levels.result c.as_slice-in-Object.result.now) =
    cc (filled-Object c.args.known.now c.args.preview c.in-Object.fields c.args.place) in
    grind (arith, is)

pub filled-returns-in_ok-values-in-List-clause-filled :
    goal.filled-returns-in_ok-values-in-List-clause-filled
filled-returns-in_ok-values-in-List-clause-filled t c =
    ap (λ one. filled c.args.known.now c.args.preview one c.args.place) c.in-List.is
    ∙ filled-List c.args.known.now c.args.preview c.in-List.values c.args.place
    ∙ ap (λ values. made_of value.List (filled_values c.args.known.now c.args.preview (inside c.args.place.levels) values)) (sym c.as_slice.ensures)
    ∙ ap (made_of value.List) c.in_ok-values-in-List.ensures.filled
    ∙ ap Ok (sym c.from_values.ensures.list)

pub filled-returns-in_ok-fields-in-Object-clause-filled :
    goal.filled-returns-in_ok-fields-in-Object-clause-filled
filled-returns-in_ok-fields-in-Object-clause-filled t c =
    ap (λ one. filled c.args.known.now c.args.preview one c.args.place) c.in-Object.is
    ∙ filled-Object c.args.known.now c.args.preview c.in-Object.fields c.args.place
    ∙ ap (λ fields. made_of value.Object (filled_members c.args.known.now c.args.preview (c.args.place.levels - 1) fields)) (sym c.as_slice-in-Object.ensures)
    ∙ ap (λ levels. made_of value.Object (filled_members c.args.known.now c.args.preview levels c.as_slice-in-Object.result.now)) (sym c.saturating_sub-levels.ensures)
    ∙ ap (made_of value.Object) c.in_ok-fields-in-Object.ensures.filled
    ∙ ap Ok (sym c.from_fields.ensures.object)

-- what the next value is filled with, by its place in the list
next_filled : (known : List Known) (preview : Bool) (levels : ℕ) (fields : Pairs) (item field : List ℕ × Value) (key : List ℕ) (place : Place) (made : Value)
    → item ≡ field → key ≡ item.0 → place ≡ under key levels → filled known preview item.1 place ≡ Ok made
    → filled known preview field.1 (under field.0 levels) ≡ Ok made
next_filled known preview levels fields item field key place made is named at told =
    subst (λ (f : List ℕ × Value). filled known preview f.1 (under f.0 levels) ≡ Ok made) is
    (ap (filled known preview item.1) (sym (at ∙ ap (λ k. under k levels) named)) ∙ told)

pub filled_members-push-requires-clause-above : goal.filled_members-push-requires-clause-above
filled_members-push-requires-clause-above t c =
    let item = c.loop-key-item.result in
    ap (are_all_below c.loop-key.made) (c.in_ok-copy.ensures ∙ ap (λ (f : List ℕ × Value). f.0) c.loop-key-item.is)
    ∙ next_above c.loop-key.made c.args.fields.now c.loop-key.key-index item (are_fields-parts c.args.fields.now c.requires.sound).0 c.loop-key-test.true c.loop-key.invariant.0

pub filled_members-push-requires-clause-unmarked :
    goal.filled_members-push-requires-clause-unmarked
filled_members-push-requires-clause-unmarked t c =
    let item = c.loop-key-item.result in
    let told = next_filled c.args.known.now c.args.preview c.args.levels c.args.fields.now item _ _ _ c.in_ok-value.value
    c.loop-key-item.is c.as_str.ensures c.under.ensures c.in_ok-value.ensures.filled in
    ap (λ key. may_stand_under key c.in_ok-value.value) (c.in_ok-copy.ensures ∙ ap (λ (f : List ℕ × Value). f.0) c.loop-key-item.is)
    ∙ next_unmarked c.args.known.now c.args.preview c.args.levels c.args.fields.now c.loop-key.key-index item c.in_ok-value.value
    (are_fields-parts c.args.fields.now c.requires.sound).2 c.loop-key-test.true told

pub filled_members-loop-key-preserved : goal.filled_members-loop-key-preserved
filled_members-loop-key-preserved t c =
    let item = c.loop-key-item.result in
    let made = c.loop-key.made in
    let told = next_filled c.args.known.now c.args.preview c.args.levels c.args.fields.now item _ _ _ c.in_ok-value.value
    c.loop-key-item.is c.as_str.ensures c.under.ensures c.in_ok-value.ensures.filled in
    let pushed = c.in_ok-push.ensures.added
    ∙ ap (λ key. made ++ (key, c.in_ok-value.value) ∷ []) (c.in_ok-copy.ensures ∙ ap (λ (f : List ℕ × Value). f.0) c.loop-key-item.is) in (
      ap keys_of pushed ∙ keys_next made c.args.fields.now c.loop-key.key-index item c.in_ok-value.value c.loop-key-test.true c.loop-key.invariant.0,
      c.loop-key.invariant.1
          ∙ members_next c.args.known.now c.args.preview c.args.levels c.args.fields.now c.loop-key.key-index item made c.in_ok-value.value c.loop-key-test.true told
          ∙ ap (λ made. and_then made (filled_members c.args.known.now c.args.preview c.args.levels (drop (c.loop-key.key-index + 1) c.args.fields.now))) (sym pushed),
    )
