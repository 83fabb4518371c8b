-- Fields that are put over others, the least key first.
use Rattle.std.proofs.Common.{◌≡◌, ◌+◌, ◌<◌, ℕ, Bool, true, false, ◌&&◌, if◌then◌else◌, List, [], ◌∷◌, ◌++◌, length, drop, slice_get, Option, Some, None, bytes_eq, Ordering, Less, Equal, Greater, is_eq, refl, sym, ap, ◌∙◌, append_assoc, arith}
use Rattle.std.proofs.lemmas.Bool.{and_parts, and_from}
use Rattle.std.proofs.lemmas.List.{append-nil}
use Rattle.std.proofs.lemmas.Map.Text.{is_eq-slice_cmp}
use Rattle.std.proofs.lemmas.Slice.Eq.{bytes_eq-Decides}
use Rattle.std.specs.Cmp.Lexicographic.{slice_cmp}
use Rattle.std.specs.List.{list_all}
use Rattle.std.specs.Ordering.{nat_cmp}
use Rattle.pl_value.proofs.FieldParts.{Pairs, are_fields-from, are_fields-parts}
use Rattle.pl_value.proofs.Rising.{Key, below_all, below_trans, reversed}
use Rattle.pl_value.specs.Changed.{first_of}
use Rattle.pl_value.specs.IsValue.{are_fields, each_is_value, each_may_stand, is_value, may_stand_under}
use Rattle.pl_value.specs.Keys.{are_rising, is_below, is_less, keys_of}
use Rattle.pl_value.specs.declared.value.Value.{Value}
use Rattle.pl_refresh.specs.Planned.{planned_outputs, put_in}

-- ---- one field put in

-- what is put in, by how the keys stand
abbrev put_by : Bool → Bool → Key × Value → Pairs → Key × Value → Pairs
put_by below same first others pair =
    if below then first ∷ put_in others pair
    else (if same then pair ∷ others else pair ∷ first ∷ others)

put_above : (first : Key × Value) (others : Pairs) (pair : Key × Value) → is_below first.0 pair.0 ≡ true → put_in (first ∷ others) pair ≡ first ∷ put_in others pair
put_above first others pair below = ap (λ (b : Bool). put_by b (bytes_eq first.0 pair.0) first others pair) below

put_before : (first : Key × Value) (others : Pairs) (pair : Key × Value) → is_below first.0 pair.0 ≡ false → bytes_eq first.0 pair.0 ≡ false → put_in (first ∷ others) pair ≡ pair ∷ first ∷ others
put_before first others pair below same =
    ap (λ (b : Bool). put_by b (bytes_eq first.0 pair.0) first others pair) below
    ∙ ap (λ (b : Bool). put_by false b first others pair) same

put_same : (first : Key × Value) (others : Pairs) (pair : Key × Value) → is_below first.0 pair.0 ≡ false → bytes_eq first.0 pair.0 ≡ true → put_in (first ∷ others) pair ≡ pair ∷ others
put_same first others pair below same =
    ap (λ (b : Bool). put_by b (bytes_eq first.0 pair.0) first others pair) below
    ∙ ap (λ (b : Bool). put_by false b first others pair) same

-- ---- the field with the least key stays in front

planned-front : (first : Key × Value) (others new : Pairs) → list_all (is_below first.0) (keys_of new) ≡ true → planned_outputs (first ∷ others) new ≡ first ∷ planned_outputs others new
planned-front first others [] all = refl
planned-front first others (pair ∷ new) all =
    let parts = and_parts (is_below first.0 pair.0) (list_all (is_below first.0) (keys_of new)) all in
    ap (λ (fields : Pairs). planned_outputs fields new) (put_above first others pair parts.0)
    ∙ planned-front first (put_in others pair) new parts.1

-- rising fields that are put over none are themselves
pub planned-alone : (new : Pairs) → are_rising (keys_of new) ≡ true → planned_outputs [] new ≡ new
planned-alone [] rising = refl
planned-alone (pair ∷ new) rising =
    let parts = and_parts (list_all (is_below pair.0) (keys_of new)) (are_rising (keys_of new)) rising in
    planned-front pair [] new parts.0 ∙ ap (λ (fields : Pairs). pair ∷ fields) (planned-alone new parts.1)

-- ---- two lists that are gone through together

-- the fields so far are those of the whole, and what is left of the one list is still to be put over what is left of the
-- other
pub record Merging (old new before over made : Pairs) : Type 0 where
  pub rising : are_rising (keys_of over) ≡ true
  pub same : made ++ planned_outputs before over ≡ planned_outputs old new

pub begins : (old new : Pairs) → are_rising (keys_of new) ≡ true → Merging old new old new []
begins old new rising = record { rising = rising; same = refl }

pub ends : (old new before over made : Pairs) → length before ≡ 0 → length over ≡ 0 → Merging old new before over made → made ≡ planned_outputs old new
ends old new [] [] made none no_more m = sym (append-nil made) ∙ m.same
ends old new [] (pair ∷ over) made none no_more m = absurd (omega arith)
ends old new (first ∷ before) over made none no_more m = absurd (omega arith)

one_more : (old new before over later rest made : Pairs) (field : Key × Value) → Merging old new before over made → are_rising (keys_of rest) ≡ true → planned_outputs before over ≡ field ∷ planned_outputs later rest → Merging old new later rest (made ++ field ∷ [])
one_more old new before over later rest made field m rising is = record {
  rising = rising;
  same =
      append_assoc made (field ∷ []) (planned_outputs later rest)
      ∙ ap (λ (fields : Pairs). made ++ fields) (sym is)
      ∙ m.same;
}

below_each : (first : Key × Value) (over : Pairs) (others : Pairs) → first_of (first ∷ others) over ≡ Less → are_rising (keys_of over) ≡ true → list_all (is_below first.0) (keys_of over) ≡ true
below_each first [] others less rising = refl
below_each first (pair ∷ over) others less rising =
    let parts = and_parts (list_all (is_below pair.0) (keys_of over)) (are_rising (keys_of over)) rising in
    let below : is_below first.0 pair.0 ≡ true = ap is_less less in
    and_from _ _ below (below_all first.0 pair.0 (keys_of over) below parts.0)

-- the least key stands in the old fields alone
pub step_less : (old new before over made : Pairs) (field : Key × Value) → 0 < length before + length over → first_of before over ≡ Less → slice_get before 0 ≡ Some field → Merging old new before over made → Merging old new (drop 1 before) over (made ++ field ∷ [])
step_less old new [] over made field some less is m = cc
step_less old new (first ∷ before) over made field some less is m =
    let same : first ≡ field = cc in
    one_more old new (first ∷ before) over before over made field m m.rising
    (planned-front first before over (below_each first over before less m.rising) ∙ ap (λ (f : Key × Value). f ∷ planned_outputs before over) same)

-- the first of the new fields goes in front of what is left of the old ones
put_first : (before : Pairs) (pair : Key × Value) (over : Pairs) → first_of before (pair ∷ over) ≡ Greater → put_in before pair ≡ pair ∷ before
put_first [] pair over greater = refl
put_first (first ∷ before) pair over greater =
    put_before first before pair (ap is_less greater) (sym (is_eq-slice_cmp first.0 pair.0) ∙ ap is_eq greater)

pub step_greater : (old new before over made : Pairs) (field : Key × Value) → first_of before over ≡ Greater → slice_get over 0 ≡ Some field → Merging old new before over made → Merging old new before (drop 1 over) (made ++ field ∷ [])
step_greater old new before [] made field greater is m = cc
step_greater old new before (pair ∷ over) made field greater is m =
    let same : pair ≡ field = cc in
    let parts = and_parts (list_all (is_below pair.0) (keys_of over)) (are_rising (keys_of over)) m.rising in
    one_more old new before (pair ∷ over) before over made field m parts.1
    (ap (λ (fields : Pairs). planned_outputs fields over) (put_first before pair over greater)
    ∙ planned-front pair before over parts.0
    ∙ ap (λ (f : Key × Value). f ∷ planned_outputs before over) same)

-- the new field takes the place of the old one
pub step_equal : (old new before over made : Pairs) (field : Key × Value) → first_of before over ≡ Equal → slice_get over 0 ≡ Some field → Merging old new before over made → Merging old new (drop 1 before) (drop 1 over) (made ++ field ∷ [])
step_equal old new before [] made field equal is m = cc
step_equal old new [] (pair ∷ over) made field equal is m = cc
step_equal old new (first ∷ before) (pair ∷ over) made field equal is m =
    let same : pair ≡ field = cc in
    let parts = and_parts (list_all (is_below pair.0) (keys_of over)) (are_rising (keys_of over)) m.rising in
    one_more old new (first ∷ before) (pair ∷ over) before over made field m parts.1
    (ap (λ (fields : Pairs). planned_outputs fields over)
    (put_same first before pair (ap is_less equal) (sym (is_eq-slice_cmp first.0 pair.0) ∙ ap is_eq equal))
    ∙ planned-front pair before over parts.0
    ∙ ap (λ (f : Key × Value). f ∷ planned_outputs before over) same)

-- ---- what holds of the fields that are made

each_put : (test : Key × Value → Bool) (fields : Pairs) (pair : Key × Value) → list_all test fields ≡ true → test pair ≡ true → list_all test (put_in fields pair) ≡ true
each_put test [] pair all own = and_from _ _ own refl
each_put test (first ∷ others) pair all own = by (is_below first.0 pair.0) (bytes_eq first.0 pair.0) (each_put test others pair parts.1 own)
  where
    parts : (test first ≡ true) × (list_all test others ≡ true)
    parts = and_parts (test first) (list_all test others) all

    by : (below same : Bool) → list_all test (put_in others pair) ≡ true → list_all test (put_by below same first others pair) ≡ true
    by true same later = and_from _ _ parts.0 later
    by false true later = and_from _ _ own parts.1
    by false false later = and_from _ _ own all

each_planned : (test : Key × Value → Bool) (old new : Pairs) → list_all test old ≡ true → list_all test new ≡ true → list_all test (planned_outputs old new) ≡ true
each_planned test old [] all others = all
each_planned test old (pair ∷ new) all others =
    let parts = and_parts (test pair) (list_all test new) others in
    each_planned test (put_in old pair) new (each_put test old pair all parts.0) parts.1

above_put : (low : Key) (fields : Pairs) (pair : Key × Value) → list_all (is_below low) (keys_of fields) ≡ true → is_below low pair.0 ≡ true → list_all (is_below low) (keys_of (put_in fields pair)) ≡ true
above_put low [] pair all own = and_from _ _ own refl
above_put low (first ∷ others) pair all own = by (is_below first.0 pair.0) (bytes_eq first.0 pair.0) (above_put low others pair parts.1 own)
  where
    parts : (is_below low first.0 ≡ true) × (list_all (is_below low) (keys_of others) ≡ true)
    parts = and_parts (is_below low first.0) (list_all (is_below low) (keys_of others)) all

    by : (below same : Bool) → list_all (is_below low) (keys_of (put_in others pair)) ≡ true → list_all (is_below low) (keys_of (put_by below same first others pair)) ≡ true
    by true same later = and_from _ _ parts.0 later
    by false true later = and_from _ _ own parts.1
    by false false later = and_from _ _ own all

same_key : (a b : Key) → bytes_eq a b ≡ true → a ≡ b
same_key a b e = (bytes_eq-Decides a b).0 e

-- of two keys that differ the second is the lower one where the first is not
lower : (a b : Key) → is_below a b ≡ false → bytes_eq a b ≡ false → is_below b a ≡ true
lower a b below same = by (slice_cmp nat_cmp a b) refl
  where
    by : (o : Ordering) → slice_cmp nat_cmp a b ≡ o → is_below b a ≡ true
    by Less is = cc (sym below ∙ ap is_less is)
    by Equal is = cc (sym same ∙ sym (is_eq-slice_cmp a b) ∙ ap is_eq is)
    by Greater is = ap is_less (reversed a b Greater is)

rising_put : (fields : Pairs) (pair : Key × Value) → are_rising (keys_of fields) ≡ true → are_rising (keys_of (put_in fields pair)) ≡ true
rising_put [] pair rising = refl
rising_put (first ∷ others) pair rising = by (is_below first.0 pair.0) (bytes_eq first.0 pair.0) refl refl (rising_put others pair parts.1)
  where
    parts : (list_all (is_below first.0) (keys_of others) ≡ true) × (are_rising (keys_of others) ≡ true)
    parts = and_parts (list_all (is_below first.0) (keys_of others)) (are_rising (keys_of others)) rising

    by : (below same : Bool) → is_below first.0 pair.0 ≡ below → bytes_eq first.0 pair.0 ≡ same → are_rising (keys_of (put_in others pair)) ≡ true → are_rising (keys_of (put_by below same first others pair)) ≡ true
    by true same is equal later = and_from _ _ (above_put first.0 others pair parts.0 is) later
    by false true is equal later =
        and_from _ _ (ap (λ (key : Key). list_all (is_below key) (keys_of others)) (sym (same_key first.0 pair.0 equal)) ∙ parts.0) parts.1
    by false false is equal later =
        let below : is_below pair.0 first.0 ≡ true = lower first.0 pair.0 is equal in
        and_from _ _ (and_from _ _ below (below_all pair.0 first.0 (keys_of others) below parts.0)) rising

rising_planned : (old new : Pairs) → are_rising (keys_of old) ≡ true → are_rising (keys_of (planned_outputs old new)) ≡ true
rising_planned old [] rising = rising
rising_planned old (pair ∷ new) rising = rising_planned (put_in old pair) new (rising_put old pair rising)

-- fields that are put over others make fields
pub planned-fields : (old new : Pairs) → are_fields old ≡ true → are_fields new ≡ true → are_fields (planned_outputs old new) ≡ true
planned-fields old new one other =
    let first = are_fields-parts old one in
    let second = are_fields-parts new other in
    are_fields-from _ (rising_planned old new first.0)
    (each_planned (λ field. is_value field.1) old new first.1 second.1)
    (each_planned (λ field. may_stand_under field.0 field.1) old new first.2 second.2)
