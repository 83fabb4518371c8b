-- The test of values and of fields is true exactly for the same ones.
use Rattle.std.proofs.Common.{◌≡◌, ℕ, Bool, true, ◌&&◌, bytes_eq, List, [], ◌∷◌, map, refl, sym, ap, ap₂, subst, ◌∙◌}
use Rattle.std.proofs.lemmas.Bool.{and_parts, and_from}
use Rattle.std.proofs.lemmas.Bool.Decides.{Decides-int_eq}
use Rattle.std.proofs.lemmas.Slice.Eq.{bytes_eq-Decides}
use Rattle.std.specs.Cmp.{booleans_Decides}
use Rattle.std.specs.Bool.{Decides}
use Rattle.pl_value.specs.Same.{all_pass, field_test, same_level, value_same, fields_same}
use Rattle.pl_value.specs.declared.value.Value.{Value, roll-Value, out-Value, roll-out-Value, out-roll-Value}
use Rattle.pl_value.specs.declared.value.Value.TheOpen.{Value-F}
use Rattle.pl_value.specs.declared.value.Value.TheFolds.{ind-Value, map-Value, fold-roll-Value}
use Rattle.pl_value.proofs.Kept.{Having, opened, values_of, pairs_of}

-- ---- what is decided of a value: whether each other one is the same

abbrev Decided : Value → Type 0
Decided one = (other : Value) → Decides (value_same one other) (one ≡ other)

abbrev Kept : Type 0
Kept = Having Decided

abbrev tests_of : List Value → List (Value → Bool)
tests_of values = map value_same values

abbrev test_pairs : List (List ℕ × Value) → List (List ℕ × (Value → Bool))
test_pairs fields = map (λ field. (field.0, value_same field.1)) fields

-- ---- a test that passes tells

tell_values : (kept : List Kept) (others : List Value) → all_pass (tests_of (values_of kept)) others ≡ true → values_of kept ≡ others
tell_values [] [] pass = refl
tell_values [] (other ∷ others) pass = cc
tell_values (one ∷ more) [] pass = cc
tell_values (one ∷ more) (other ∷ others) pass =
    let p = and_parts (value_same one.0 other) (all_pass (tests_of (values_of more)) others) pass in
    ap₂ (λ v vs. v ∷ vs) ((one.1 other).0 p.0) (tell_values more others p.1)

tell_pairs : (kept : List (List ℕ × Kept)) (others : List (List ℕ × Value)) → all_pass (map field_test (test_pairs (pairs_of kept))) others ≡ true
    → pairs_of kept ≡ others
tell_pairs [] [] pass = refl
tell_pairs [] (other ∷ others) pass = cc
tell_pairs (one ∷ more) [] pass = cc
tell_pairs (one ∷ more) (other ∷ others) pass =
    let p = and_parts (bytes_eq one.0 other.0 && value_same one.1.0 other.1) (all_pass (map field_test (test_pairs (pairs_of more))) others) pass in
    let q = and_parts (bytes_eq one.0 other.0) (value_same one.1.0 other.1) p.0 in
    let field : (one.0, one.1.0) ≡ other = ap₂ (λ k v. (k, v)) ((bytes_eq-Decides one.0 other.0).0 q.0) ((one.1.1 other.1).0 q.1) in
    ap₂ (λ v vs. v ∷ vs) field (tell_pairs more others p.1)

abbrev tested : Value-F Value → Value-F (Value → Bool)
tested x = map-Value Value (Value → Bool) value_same x

tell_level : (x : Value-F Kept) (y : Value-F Value) → same_level (tested (opened x)) y ≡ true → opened x ≡ y
tell_level Value-F.Null Value-F.Null pass = refl
tell_level Value-F.Null y pass = cc
tell_level (Value-F.Flag a) (Value-F.Flag b) pass = ap Value-F.Flag ((booleans_Decides a b).0 pass)
tell_level (Value-F.Flag a) y pass = cc
tell_level (Value-F.Whole a) (Value-F.Whole b) pass = ap Value-F.Whole ((Decides-int_eq a b).0 pass)
tell_level (Value-F.Whole a) y pass = cc
tell_level (Value-F.Text a) (Value-F.Text b) pass = ap Value-F.Text ((bytes_eq-Decides a b).0 pass)
tell_level (Value-F.Text a) y pass = cc
tell_level (Value-F.List a) (Value-F.List b) pass = ap Value-F.List (tell_values a b pass)
tell_level (Value-F.List a) y pass = cc
tell_level (Value-F.Object a) (Value-F.Object b) pass = ap Value-F.Object (tell_pairs a b pass)
tell_level (Value-F.Object a) y pass = cc
tell_level (Value-F.Secret a) (Value-F.Secret b) pass = ap Value-F.Secret ((a.1 b).0 pass)
tell_level (Value-F.Secret a) y pass = cc
tell_level Value-F.Unknown Value-F.Unknown pass = refl
tell_level Value-F.Unknown y pass = cc

-- ---- a value passes its own test

pass_values : (kept : List Kept) → all_pass (tests_of (values_of kept)) (values_of kept) ≡ true
pass_values [] = refl
pass_values (one ∷ more) = and_from _ _ ((one.1 one.0).1 refl) (pass_values more)

pass_pairs : (kept : List (List ℕ × Kept)) → all_pass (map field_test (test_pairs (pairs_of kept))) (pairs_of kept) ≡ true
pass_pairs [] = refl
pass_pairs (one ∷ more) =
    and_from _ _ (and_from _ _ ((bytes_eq-Decides one.0 one.0).1 refl) ((one.1.1 one.1.0).1 refl)) (pass_pairs more)

pass_level : (x : Value-F Kept) → same_level (tested (opened x)) (opened x) ≡ true
pass_level Value-F.Null = refl
pass_level (Value-F.Flag a) = (booleans_Decides a a).1 refl
pass_level (Value-F.Whole a) = (Decides-int_eq a a).1 refl
pass_level (Value-F.Text a) = (bytes_eq-Decides a a).1 refl
pass_level (Value-F.List a) = pass_values a
pass_level (Value-F.Object a) = pass_pairs a
pass_level (Value-F.Secret a) = (a.1 a.0).1 refl
pass_level Value-F.Unknown = refl

-- ---- both together

opens : (x : Value-F Value) (other : Value) → value_same (roll-Value x) other ≡ same_level (tested x) (out-Value other)
opens x other = ap (λ (test : Value → Bool). test other) (fold-roll-Value (Value → Bool) (λ level one. same_level level (out-Value one)) x)

tell_one : (y : Value-F Kept) (other : Value) → value_same (roll-Value (opened y)) other ≡ true → roll-Value (opened y) ≡ other
tell_one y other pass =
    ap roll-Value (tell_level y (out-Value other) (sym (opens (opened y) other) ∙ pass)) ∙ roll-out-Value other

pass_one : (y : Value-F Kept) (other : Value) → roll-Value (opened y) ≡ other → value_same (roll-Value (opened y)) other ≡ true
pass_one y other same =
    opens (opened y) other
    ∙ ap (λ z. same_level (tested (opened y)) z) (sym (ap out-Value same) ∙ out-roll-Value (opened y)) ∙ pass_level y

decided_level : (y : Value-F Kept) → Decided (roll-Value (opened y))
decided_level y other = (tell_one y other, pass_one y other)

pub value_same-Decides : (one other : Value) → Decides (value_same one other) (one ≡ other)
value_same-Decides one =
    ind-Value Decided (λ x y is. subst (λ (z : Value-F Value). Decided (roll-Value z)) is (decided_level y)) one

-- ---- fields

tell_fields : (fields others : List (List ℕ × Value)) → fields_same fields others ≡ true → fields ≡ others
tell_fields [] [] pass = refl
tell_fields [] (other ∷ others) pass = cc
tell_fields (one ∷ more) [] pass = cc
tell_fields (one ∷ more) (other ∷ others) pass =
    let p = and_parts (bytes_eq one.0 other.0 && value_same one.1 other.1) (fields_same more others) pass in
    let q = and_parts (bytes_eq one.0 other.0) (value_same one.1 other.1) p.0 in
    let field : one ≡ other = ap₂ (λ k v. (k, v)) ((bytes_eq-Decides one.0 other.0).0 q.0) ((value_same-Decides one.1 other.1).0 q.1) in
    ap₂ (λ v vs. v ∷ vs) field (tell_fields more others p.1)

pass_fields : (fields : List (List ℕ × Value)) → fields_same fields fields ≡ true
pass_fields [] = refl
pass_fields (one ∷ more) =
    and_from _ _ (and_from _ _ ((bytes_eq-Decides one.0 one.0).1 refl) ((value_same-Decides one.1 one.1).1 refl)) (pass_fields more)

pub fields_same-Decides : (fields others : List (List ℕ × Value)) → Decides (fields_same fields others) (fields ≡ others)
fields_same-Decides fields others =
    (tell_fields fields others, λ same. subst (λ z. fields_same fields z ≡ true) same (pass_fields fields))
