-- How two rising lists of fields are gone through together, the least key first.
use Rattle.std.proofs.Common.{◌≡◌, ◌≢◌, ◌↔◌, ◌⊎◌, inl, inr, zero, suc, ◌+◌, ◌<◌, Bool, true, false, cond, List, [], ◌∷◌, ◌++◌, length, drop, get_or, Contains, Some, None, option_map, find, bytes_eq, Less, Equal, Greater, is_eq, refl, sym, ap, subst, ◌∙◌, arith}
use Rattle.std.proofs.lemmas.Bool.{and_parts, and_from}
use Rattle.std.proofs.lemmas.List.Elements.{Contains-append_left, Contains-append_right, Contains-append_cases}
use Rattle.std.proofs.lemmas.List.Folds.{list_all-append}
use Rattle.std.proofs.lemmas.Map.Text.{is_eq-slice_cmp}
use Rattle.std.proofs.lemmas.Slice.Eq.{bytes_eq-Decides}
use Rattle.std.specs.List.{list_all}
use Rattle.pl_value.specs.Changed.{IsChanged, first_of}
use Rattle.pl_value.specs.Keys.{are_rising, is_below, is_less, keys_of, value_at}
use Rattle.pl_value.specs.declared.value.Value.{Value}
use Rattle.pl_value.proofs.FieldParts.{Pairs}
use Rattle.pl_value.proofs.Rising.{Key, reversed, apart, below_all}

value_at-here : (key : Key) (field : Key × Value) (more : Pairs) → bytes_eq field.0 key ≡ true → value_at key (field ∷ more) ≡ Some field.1
value_at-here key field more same = ap (λ b. option_map (λ (pair : Key × Value). pair.1) (cond b (Some field) (find (λ pair. bytes_eq pair.0 key) more))) same

value_at-past : (key : Key) (field : Key × Value) (more : Pairs) → bytes_eq field.0 key ≡ false → value_at key (field ∷ more) ≡ value_at key more
value_at-past key field more other = ap (λ b. option_map (λ (pair : Key × Value). pair.1) (cond b (Some field) (find (λ pair. bytes_eq pair.0 key) more))) other

-- nothing stands under a key that is below each
value_at-below : (key : Key) (fields : Pairs) → list_all (is_below key) (keys_of fields) ≡ true → value_at key fields ≡ None
value_at-below key [] all = refl
value_at-below key (field ∷ more) all =
    let parts = and_parts (is_below key field.0) (list_all (is_below key) (keys_of more)) all in
    value_at-past key field more (apart key field.0 parts.0) ∙ value_at-below key more parts.1

are_rising-last : (keys : List Key) (key : Key) → are_rising keys ≡ true → list_all (λ one. is_below one key) keys ≡ true → are_rising (keys ++ key ∷ []) ≡ true
are_rising-last [] key rising below = refl
are_rising-last (one ∷ more) key rising below =
    let parts = and_parts (list_all (is_below one) more) (are_rising more) rising in
    let first = and_parts (is_below one key) (list_all (λ one. is_below one key) more) below in
    and_from _ _ (list_all-append (is_below one) more (key ∷ []) ∙ and_from _ _ parts.0 (and_from _ _ first.0 refl)) (are_rising-last more key parts.1 first.1)

-- each of the keys is below each key of the fields
abbrev pub are_below : List Key → Pairs → Bool
are_below keys fields = list_all (λ key. list_all (is_below key) (keys_of fields)) keys

below_head : (keys : List Key) (field : Key × Value) (more : Pairs) → are_below keys (field ∷ more) ≡ true → list_all (λ one. is_below one field.0) keys ≡ true
below_head [] field more all = refl
below_head (key ∷ keys) field more all =
    let parts = and_parts (list_all (is_below key) (keys_of (field ∷ more))) (are_below keys (field ∷ more)) all in
    and_from _ _ (and_parts (is_below key field.0) (list_all (is_below key) (keys_of more)) parts.0).0 (below_head keys field more parts.1)

below_tail : (keys : List Key) (field : Key × Value) (more : Pairs) → are_below keys (field ∷ more) ≡ true → are_below keys more ≡ true
below_tail [] field more all = refl
below_tail (key ∷ keys) field more all =
    let parts = and_parts (list_all (is_below key) (keys_of (field ∷ more))) (are_below keys (field ∷ more)) all in
    and_from _ _ (and_parts (is_below key field.0) (list_all (is_below key) (keys_of more)) parts.0).1 (below_tail keys field more parts.1)

below_last : (keys : List Key) (key : Key) (fields : Pairs) → are_below keys fields ≡ true → list_all (is_below key) (keys_of fields) ≡ true → are_below (keys ++ key ∷ []) fields ≡ true
below_last keys key fields all last =
    list_all-append (λ key. list_all (is_below key) (keys_of fields)) keys (key ∷ []) ∙ and_from _ _ all (and_from _ _ last refl)

-- what is known once some keys were found: those of `before` and `after` are still to be looked at
pub record Merging (old new before after : Pairs) (keys : List Key) : Type 0 where
  pub rising : are_rising keys ≡ true
  pub before_rising : are_rising (keys_of before) ≡ true
  pub after_rising : are_rising (keys_of after) ≡ true
  pub below_before : are_below keys before ≡ true
  pub below_after : are_below keys after ≡ true
  pub told : (key : Key) → Contains keys key ⊎ IsChanged before after key → IsChanged old new key
  pub tells : (key : Key) → IsChanged old new key → Contains keys key ⊎ IsChanged before after key

none_contained : (key : Key) → Contains [] key → ⊥
none_contained key h = omega (arith, h.1)

pub begins : (old new : Pairs) → are_rising (keys_of old) ≡ true → are_rising (keys_of new) ≡ true → Merging old new old new []
begins old new before after = record {
  rising = refl;
  before_rising = before;
  after_rising = after;
  below_before = refl;
  below_after = refl;
  told = λ key h. elim h [ inl c ↦ absurd (none_contained key c) | inr d ↦ d ];
  tells = λ key d. inr d;
}

pub ends : (old new : Pairs) (keys : List Key) → Merging old new [] [] keys → (key : Key) → Contains keys key ↔ IsChanged old new key
ends old new keys m key = (λ c. m.told key (inl c), λ d. elim (m.tells key d) [ inl c ↦ c | inr e ↦ absurd (e refl) ])

flipped : (old new before after : Pairs) (keys : List Key) → Merging old new before after keys → Merging new old after before keys
flipped old new before after keys m = record {
  rising = m.rising;
  before_rising = m.after_rising;
  after_rising = m.before_rising;
  below_before = m.below_after;
  below_after = m.below_before;
  told = λ key h e. m.told key (elim h [ inl c ↦ inl c | inr d ↦ inr (λ q. d (sym q)) ]) (sym e);
  tells = λ key d. elim (m.tells key (λ q. d (sym q))) [ inl c ↦ inl c | inr e ↦ inr (λ q. e (sym q)) ];
}

same_key : (a b : Key) → bytes_eq a b ≡ true → a ≡ b
same_key a b e = (bytes_eq-Decides a b).0 e

contains_last : (keys : List Key) (one key : Key) → one ≡ key → Contains (keys ++ one ∷ []) key
contains_last keys one key e = Contains-append_right keys (one ∷ []) key (0, omega arith, e)

only_one : (one key : Key) → Contains (one ∷ []) key → one ≡ key
only_one one key (zero, within, is) = is
only_one one key (suc k, within, is) = absurd (omega (arith, within))

last_contained : (keys : List Key) (one key : Key) → Contains (keys ++ one ∷ []) key → Contains keys key ⊎ (one ≡ key)
last_contained keys one key h = elim (Contains-append_cases keys (one ∷ []) key h) [ inl c ↦ inl c | inr d ↦ inr (only_one one key d) ]

-- what is known of the key that was found, and of the others, where one list goes on
module _ (b : Key × Value) (before after : Pairs) (below_before : list_all (is_below b.0) (keys_of before) ≡ true)
    (below_after : list_all (is_below b.0) (keys_of after) ≡ true) where
  found_changed : (key : Key) → b.0 ≡ key → IsChanged (b ∷ before) after key
  found_changed key e same =
      let here : value_at b.0 (b ∷ before) ≡ Some b.1 = value_at-here b.0 b before ((bytes_eq-Decides b.0 b.0).1 refl) in
      let none : value_at b.0 after ≡ None = value_at-below b.0 after below_after in
      let both : value_at b.0 (b ∷ before) ≡ value_at b.0 after = subst (λ (k : Key). value_at k (b ∷ before) ≡ value_at k after) (sym e) same in
      cc

  later_changed : (key : Key) → IsChanged before after key → IsChanged (b ∷ before) after key
  later_changed key d = by_case (bytes_eq b.0 key) refl
    where
      by_case : (t : Bool) → bytes_eq b.0 key ≡ t → IsChanged (b ∷ before) after key
      by_case true e = found_changed key (same_key b.0 key e)
      by_case false e = λ same. d (sym (value_at-past key b before e) ∙ same)

  changed_later : (keys : List Key) (key : Key) → IsChanged (b ∷ before) after key → Contains (keys ++ b.0 ∷ []) key ⊎ IsChanged before after key
  changed_later keys key d = by_case (bytes_eq b.0 key) refl
    where
      by_case : (t : Bool) → bytes_eq b.0 key ≡ t → Contains (keys ++ b.0 ∷ []) key ⊎ IsChanged before after key
      by_case true e = inl (contains_last keys b.0 key (same_key b.0 key e))
      by_case false e = inr (λ same. d (value_at-past key b before e ∙ same))

-- the least key stands in the old fields alone
step_before_at : (old new : Pairs) (b : Key × Value) (before after : Pairs) (keys : List Key) → list_all (is_below b.0) (keys_of after) ≡ true
    → Merging old new (b ∷ before) after keys → Merging old new before after (keys ++ b.0 ∷ [])
step_before_at old new b before after keys below m =
    let head = and_parts (list_all (is_below b.0) (keys_of before)) (are_rising (keys_of before)) m.before_rising in record {
      rising = are_rising-last keys b.0 m.rising (below_head keys b before m.below_before);
      before_rising = head.1;
      after_rising = m.after_rising;
      below_before = below_last keys b.0 before (below_tail keys b before m.below_before) head.0;
      below_after = below_last keys b.0 after m.below_after below;
      told = λ key h. m.told key (elim h [
        | inl c ↦ elim (last_contained keys b.0 key c) [ inl d ↦ inl d | inr e ↦ inr (found_changed b before after head.0 below key e) ]
        | inr d ↦ inr (later_changed b before after head.0 below key d)
      ]);
      tells = λ key d. elim (m.tells key d) [
        | inl c ↦ inl (Contains-append_left keys (b.0 ∷ []) key c)
        | inr e ↦ changed_later b before after head.0 below keys key e
      ];
    }

-- the least key of the old is below those of the new
below_new : (b : Key × Value) (before after : Pairs) → first_of (b ∷ before) after ≡ Less → are_rising (keys_of after) ≡ true → list_all (is_below b.0) (keys_of after) ≡ true
below_new b before [] first rising = refl
below_new b before (a ∷ after) first rising =
    let below : is_below b.0 a.0 ≡ true = ap is_less first in
    and_from _ _ below (below_all b.0 a.0 (keys_of after) below (and_parts (list_all (is_below a.0) (keys_of after)) (are_rising (keys_of after)) rising).0)

below_old : (a : Key × Value) (before after : Pairs) → first_of before (a ∷ after) ≡ Greater → are_rising (keys_of before) ≡ true → list_all (is_below a.0) (keys_of before) ≡ true
below_old a [] after first rising = refl
below_old a (b ∷ before) after first rising =
    let below : is_below a.0 b.0 ≡ true = ap is_less (reversed b.0 a.0 Greater first) in
    and_from _ _ below (below_all a.0 b.0 (keys_of before) below (and_parts (list_all (is_below b.0) (keys_of before)) (are_rising (keys_of before)) rising).0)

pub step_before : (old new before after : Pairs) (keys : List Key) (b : Key × Value) → 0 < length before + length after → first_of before after ≡ Less
    → Merging old new before after keys → Merging old new (drop 1 before) after (keys ++ (get_or before 0 b).0 ∷ [])
step_before old new [] [] keys b some first m = absurd (omega arith)
step_before old new [] (y ∷ after) keys b some first m = cc
step_before old new (x ∷ before) after keys b some first m = step_before_at old new x before after keys (below_new x before after first m.after_rising) m

pub step_after : (old new before after : Pairs) (keys : List Key) (a : Key × Value) → first_of before after ≡ Greater
    → Merging old new before after keys → Merging old new before (drop 1 after) (keys ++ (get_or after 0 a).0 ∷ [])
step_after old new [] [] keys a first m = cc
step_after old new (x ∷ before) [] keys a first m = cc
step_after old new before (y ∷ after) keys a first m =
    flipped new old after before (keys ++ y.0 ∷ []) (step_before_at new old y after before keys (below_old y before after first m.before_rising)
    (flipped old new before (y ∷ after) keys m))

-- the same where the least key stands in both
module _ (b a : Key × Value) (before after : Pairs) (one : b.0 ≡ a.0) (below_before : list_all (is_below b.0) (keys_of before) ≡ true)
    (below_after : list_all (is_below b.0) (keys_of after) ≡ true) where
  in_new : (key : Key) (t : Bool) → bytes_eq b.0 key ≡ t → bytes_eq a.0 key ≡ t
  in_new key t h = ap (λ (k : Key). bytes_eq k key) (sym one) ∙ h

  both_changed : b.1 ≢ a.1 → (key : Key) → b.0 ≡ key → IsChanged (b ∷ before) (a ∷ after) key
  both_changed differ key e same =
      let here : bytes_eq b.0 key ≡ true = (bytes_eq-Decides b.0 key).1 e in
      let values : Some b.1 ≡ Some a.1 = sym (value_at-here key b before here) ∙ same ∙ value_at-here key a after (in_new key true here) in
      let equal : b.1 ≡ a.1 = cc values in
      differ equal

  both_later : (key : Key) → IsChanged before after key → IsChanged (b ∷ before) (a ∷ after) key
  both_later key d = by_case (bytes_eq b.0 key) refl
    where
      by_case : (t : Bool) → bytes_eq b.0 key ≡ t → IsChanged (b ∷ before) (a ∷ after) key
      by_case true e =
          let is = same_key b.0 key e in
          let none_before = value_at-below key before (subst (λ (k : Key). list_all (is_below k) (keys_of before) ≡ true) is below_before) in
          let none_after = value_at-below key after (subst (λ (k : Key). list_all (is_below k) (keys_of after) ≡ true) is below_after) in
          absurd (d (none_before ∙ sym none_after))
      by_case false e = λ same. d (sym (value_at-past key b before e) ∙ same ∙ value_at-past key a after (in_new key false e))

  later_both : (key : Key) → IsChanged (b ∷ before) (a ∷ after) key → ((b.0 ≡ key) × (b.1 ≢ a.1)) ⊎ IsChanged before after key
  later_both key d = by_case (bytes_eq b.0 key) refl
    where
      by_case : (t : Bool) → bytes_eq b.0 key ≡ t → ((b.0 ≡ key) × (b.1 ≢ a.1)) ⊎ IsChanged before after key
      by_case true e = inl (same_key b.0 key e, λ equal. d (value_at-here key b before e ∙ ap Some equal ∙ sym (value_at-here key a after (in_new key true e))))
      by_case false e = inr (λ same. d (value_at-past key b before e ∙ same ∙ sym (value_at-past key a after (in_new key false e))))

equal_keys : (b a : Key × Value) (before after : Pairs) → first_of (b ∷ before) (a ∷ after) ≡ Equal → b.0 ≡ a.0
equal_keys b a before after first = same_key b.0 a.0 (sym (is_eq-slice_cmp b.0 a.0) ∙ ap is_eq first)

pub step_changed : (old new before after : Pairs) (keys : List Key) (b a c : Key × Value) → first_of before after ≡ Equal
    → (get_or before 0 b).1 ≢ (get_or after 0 a).1 → Merging old new before after keys
    → Merging old new (drop 1 before) (drop 1 after) (keys ++ (get_or before 0 c).0 ∷ [])
step_changed old new [] [] keys b a c first differ m = cc
step_changed old new [] (y ∷ after) keys b a c first differ m = cc
step_changed old new (x ∷ before) [] keys b a c first differ m = cc
step_changed old new (x ∷ before) (y ∷ after) keys b a c first differ m =
    let one = equal_keys x y before after first in
    let head = and_parts (list_all (is_below x.0) (keys_of before)) (are_rising (keys_of before)) m.before_rising in
    let head' = and_parts (list_all (is_below y.0) (keys_of after)) (are_rising (keys_of after)) m.after_rising in
    let below' : list_all (is_below x.0) (keys_of after) ≡ true = subst (λ (k : Key). list_all (is_below k) (keys_of after) ≡ true) (sym one) head'.0 in
    record {
      rising = are_rising-last keys x.0 m.rising (below_head keys x before m.below_before);
      before_rising = head.1;
      after_rising = head'.1;
      below_before = below_last keys x.0 before (below_tail keys x before m.below_before) head.0;
      below_after = below_last keys x.0 after (below_tail keys y after m.below_after) below';
      told = λ key h. m.told key (elim h [
        | inl c ↦ elim (last_contained keys x.0 key c) [ inl d ↦ inl d | inr e ↦ inr (both_changed x y before after one head.0 below' differ key e) ]
        | inr d ↦ inr (both_later x y before after one head.0 below' key d)
      ]);
      tells = λ key d. elim (m.tells key d) [
        | inl c ↦ inl (Contains-append_left keys (x.0 ∷ []) key c)
        | inr e ↦ elim (later_both x y before after one head.0 below' key e) [ inl f ↦ inl (contains_last keys x.0 key f.0) | inr g ↦ inr g ]
      ];
    }

pub step_same : (old new before after : Pairs) (keys : List Key) (b a : Key × Value) → first_of before after ≡ Equal
    → (get_or before 0 b).1 ≡ (get_or after 0 a).1 → Merging old new before after keys → Merging old new (drop 1 before) (drop 1 after) keys
step_same old new [] [] keys b a first same m = cc
step_same old new [] (y ∷ after) keys b a first same m = cc
step_same old new (x ∷ before) [] keys b a first same m = cc
step_same old new (x ∷ before) (y ∷ after) keys b a first same m =
    let one = equal_keys x y before after first in
    let head = and_parts (list_all (is_below x.0) (keys_of before)) (are_rising (keys_of before)) m.before_rising in
    let head' = and_parts (list_all (is_below y.0) (keys_of after)) (are_rising (keys_of after)) m.after_rising in
    let below' : list_all (is_below x.0) (keys_of after) ≡ true = subst (λ (k : Key). list_all (is_below k) (keys_of after) ≡ true) (sym one) head'.0 in
    record {
      rising = m.rising;
      before_rising = head.1;
      after_rising = head'.1;
      below_before = below_tail keys x before m.below_before;
      below_after = below_tail keys y after m.below_after;
      told = λ key h. m.told key (elim h [ inl c ↦ inl c | inr d ↦ inr (both_later x y before after one head.0 below' key d) ]);
      tells = λ key d. elim (m.tells key d) [
        | inl c ↦ inl c
        | inr e ↦ elim (later_both x y before after one head.0 below' key e) [ inl f ↦ absurd (f.1 same) | inr g ↦ inr g ]
      ];
    }
