-- What is set back at a segment, variant by variant.
use Rattle.std.proofs.Common.{◌≡◌, ℕ, ◌+◌, List, [], ◌∷◌, ◌++◌, drop, take, Option, None, Some, slice_get, Bool, cond, ℤ, ◌⊎◌, inl, inr, refl, sym, ap, ◌∙◌}
use Rattle.std.proofs.lemmas.List.{append_assoc}
use Rattle.pl_value.specs.Keys as keys
use Rattle.pl_value.specs.declared.value.Value.{Value}
use Rattle.pl_value.specs.declared.value.Value.TheVariants as value
use Rattle.pl_path.specs.declared.segment.Segment.{Segment}
use Rattle.pl_path.specs.declared.segment.Segment.TheVariants.{Key, Index}
use Rattle.pl_path.specs.Found.{elements_in, fields_in, found_from}
use Rattle.pl_path.specs.Reset.{are_too_deep, reset_along, reset_elements, reset_fields, reset_in, unless_too_deep, with_changed_element}
use Rattle.pl_path.proofs.Levels.{reset_in-Flag, reset_in-List, reset_in-Null, reset_in-Object, reset_in-Secret, reset_in-Text, reset_in-Unknown, reset_in-Whole}

-- the old value at a key and what follows it is found from the old field on
found_key : (key : List ℕ) (path : List Segment) (old : Option Value)
    → found_from path (keys.value_at key (fields_in old)) ≡ found_from (Key key ∷ path) old
found_key key path None = refl
found_key key path (Some holder) = refl

found_place : (place : ℕ) (path : List Segment) (old : Option Value)
    → found_from path (slice_get (elements_in old) place) ≡ found_from (Index place ∷ path) old
found_place place path None = refl
found_place place path (Some holder) = refl

pub at-Secret : (segment : Segment) (path : List Segment) (old : Option Value) (holder inner made : Value)
    → holder ≡ value.Secret inner → made ≡ reset_in (segment ∷ path) old inner → value.Secret made ≡ reset_in (segment ∷ path) old holder
at-Secret segment path old holder inner made is same =
    ap value.Secret same ∙ sym (reset_in-Secret segment path old inner) ∙ ap (reset_in (segment ∷ path) old) (sym is)

pub at-Object : (key : List ℕ) (segment : Segment) (path : List Segment) (old : Option Value) (holder : Value) (fields made : List (List ℕ × Value))
    → segment ≡ Key key → holder ≡ value.Object fields
    → made ≡ reset_fields (Key key ∷ path) (found_from path (keys.value_at key (fields_in old))) fields
    → value.Object made ≡ reset_in (segment ∷ path) (found_from (segment ∷ path) old) holder
at-Object key segment path old holder fields made is_key is same =
    let whole : value.Object made ≡ reset_in (Key key ∷ path) (found_from (Key key ∷ path) old) holder =
    ap value.Object (same ∙ ap (λ put. reset_fields (Key key ∷ path) put fields) (found_key key path old))
    ∙ sym (reset_in-Object (Key key) path (found_from (Key key ∷ path) old) fields)
    ∙ ap (reset_in (Key key ∷ path) (found_from (Key key ∷ path) old)) (sym is) in
    whole ∙ ap (λ one. reset_in (one ∷ path) (found_from (one ∷ path) old) holder) (sym is_key)

pub at-List : (place : ℕ) (segment : Segment) (path : List Segment) (old : Option Value) (holder : Value) (values made : List Value)
    → segment ≡ Index place → holder ≡ value.List values
    → made ≡ reset_elements place path (found_from path (slice_get (elements_in old) place)) values
    → value.List made ≡ reset_in (segment ∷ path) (found_from (segment ∷ path) old) holder
at-List place segment path old holder values made is_place is same =
    let whole : value.List made ≡ reset_in (Index place ∷ path) (found_from (Index place ∷ path) old) holder =
    ap value.List (same ∙ ap (λ put. reset_elements place path put values) (found_place place path old))
    ∙ sym (reset_in-List (Index place) path (found_from (Index place ∷ path) old) values)
    ∙ ap (reset_in (Index place ∷ path) (found_from (Index place ∷ path) old)) (sym is) in
    whole ∙ ap (λ one. reset_in (one ∷ path) (found_from (one ∷ path) old) holder) (sym is_place)

pub stays-Object : (place : ℕ) (segment : Segment) (path : List Segment) (old : Option Value) (holder : Value) (fields : List (List ℕ × Value))
    → segment ≡ Index place → holder ≡ value.Object fields → holder ≡ reset_in (segment ∷ path) old holder
stays-Object place segment path old holder fields is_place is =
    is ∙ sym (reset_in-Object (Index place) path old fields)
    ∙ (λ i. reset_in (sym is_place i ∷ path) old (sym is i))

pub stays-List : (key : List ℕ) (segment : Segment) (path : List Segment) (old : Option Value) (holder : Value) (values : List Value)
    → segment ≡ Key key → holder ≡ value.List values → holder ≡ reset_in (segment ∷ path) old holder
stays-List key segment path old holder values is_key is =
    is ∙ sym (reset_in-List (Key key) path old values)
    ∙ (λ i. reset_in (sym is_key i ∷ path) old (sym is i))

pub changed-Some : (change : Value → Value) (place : ℕ) (values : List Value) (element : Value) → slice_get values place ≡ Some element
    → with_changed_element change place values ≡ take place values ++ change element ∷ drop (place + 1) values
changed-Some change place values element is =
    ap (λ (got : Option Value). elim got [ None ↦ values | Some one ↦ take place values ++ change one ∷ drop (place + 1) values ]) is

pub joined : (made first second whole before after : List Value) (element put : Value) → first ≡ [] ++ before → second ≡ first ++ element ∷ []
    → made ≡ second ++ after → element ≡ put → whole ≡ before ++ put ∷ after → made ≡ whole
joined made first second whole before after element put one two three same is =
    three ∙ (λ i. (two ∙ ap (λ xs. xs ++ element ∷ []) one) i ++ after) ∙ append_assoc before (element ∷ []) after
    ∙ ap (λ e. before ++ e ∷ after) same ∙ sym is

-- what holds nothing stays
pub stays-plain : (segment : Segment) (path : List Segment) (old : Option Value) (holder : Value)
    → (holder ≡ value.Null) ⊎ (((flag : Bool) × (holder ≡ value.Flag flag)) ⊎ (((number : ℤ) × (holder ≡ value.Whole number))
    ⊎ (((text : List ℕ) × (holder ≡ value.Text text)) ⊎ (holder ≡ value.Unknown))))
    → holder ≡ reset_in (segment ∷ path) old holder
stays-plain segment path old holder (inl is) = is ∙ sym (reset_in-Null segment path old) ∙ ap (reset_in (segment ∷ path) old) (sym is)
stays-plain segment path old holder (inr (inl (flag, is))) = is ∙ sym (reset_in-Flag segment path old flag) ∙ ap (reset_in (segment ∷ path) old) (sym is)
stays-plain segment path old holder (inr (inr (inl (number, is)))) = is ∙ sym (reset_in-Whole segment path old number) ∙ ap (reset_in (segment ∷ path) old) (sym is)
stays-plain segment path old holder (inr (inr (inr (inl (text, is))))) = is ∙ sym (reset_in-Text segment path old text) ∙ ap (reset_in (segment ∷ path) old) (sym is)
stays-plain segment path old holder (inr (inr (inr (inr is)))) = is ∙ sym (reset_in-Unknown segment path old) ∙ ap (reset_in (segment ∷ path) old) (sym is)

-- the fields that were made, or those before where they are too deep
pub along : (deep : Bool) (key : List ℕ) (rest path : List Segment) (fields made old : List (List ℕ × Value)) → path ≡ Key key ∷ rest
    → made ≡ reset_fields (Key key ∷ rest) (found_from rest (keys.value_at key old)) fields → are_too_deep made ≡ deep
    → cond deep fields made ≡ reset_along path fields old
along deep key rest path fields made old is same deep_is =
    ap (λ deep. cond deep fields made) (sym deep_is) ∙ ap (unless_too_deep fields) same ∙ ap (λ path. reset_along path fields old) (sym is)
