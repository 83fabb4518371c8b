-- The spelling of a value tells the value.
use Rattle.std.proofs.Common.{◌≡◌, ℕ, ℤ, pos, negsuc, Bool, true, false, not, ◌&&◌, ◌||◌, bytes_eq, List, [], ◌∷◌, map, refl, sym, ap, ap₂, subst, ◌∙◌}
use Rattle.std.proofs.lemmas.Bool.{and_parts}
use Rattle.std.proofs.lemmas.List.Folds.{list_all-map}
use Rattle.std.proofs.lemmas.Slice.Eq.{bytes_eq-Decides}
use Rattle.std.specs.List.{list_all}
use Rattle.pl_value.specs.IsValue.{is_value, is_value_level, is_unmarked, may_stand_under}
use Rattle.pl_value.specs.Keys.{are_rising, keys_of}
use Rattle.pl_value.specs.Marks.{unknown_text, secret_key, secret_mark}
use Rattle.pl_value.specs.declared.value.Value.{Value, roll-Value, out-Value, roll-out-Value, out-roll-Value}
use Rattle.pl_value.specs.declared.value.Value.TheOpen.{Value-F}
use Rattle.pl_value.specs.declared.value.Value.TheVariants as value
use Rattle.pl_value.specs.declared.value.Value.TheFolds.{ind-Value, map-Value, fold-roll-Value, para-roll-Value}
use Rattle.pl_value.proofs.Levels.{is_value-Object}
use Rattle.serde_json.specs.Data.{Data, string}
use Rattle.serde_json.specs.Find.{of_integer}
use Rattle.serde_json.specs.Written.{compact_text}
use Rattle.pl_value.proofs.Kept.{Having, opened, values_of, pairs_of}
use Rattle.pl_json.specs.Fits.{wholes_fit, wholes_fit_level}
use Rattle.pl_json.specs.Laws.{SpellingTellsValue, TextTellsValue, TextTellsFields}
use Rattle.pl_json.specs.Spelled.{spelled, spelled_level, spelled_items, spelled_members, secret_data}
use Rattle.pl_json.proofs.Levels.{spelled-Text, spelled-Object, spelled-Unknown}
use Rattle.pl_json.proofs.TextTells.{text_tells_data}
use Rattle.pl_json.proofs.Wholes.{fitting, HasWholes-spelled}

-- ---- texts that are kept apart

text_apart : (a b : List ℕ) → not (bytes_eq a b) ≡ true → a ≡ b → ⊥
text_apart a b other same =
    let equal : bytes_eq a b ≡ true = (bytes_eq-Decides a b).1 same in
    let wrong : false ≡ true = ap not (sym equal) ∙ other in
    cc

string_text : (a b : List ℕ) → string a ≡ string b → a ≡ b
string_text a b same = cc

unknown_unmarked : unknown_text ≡ secret_mark → ⊥
unfolding unknown_text secret_mark
unknown_unmarked = text_apart _ _ refl

-- ---- what may stand under the secret's key is never spelled as the secret's mark

abbrev NoMark : Value → Type 0
NoMark one = is_unmarked one ≡ true → spelled one ≡ string secret_mark → ⊥

no_mark_level : (x : Value-F Value) → NoMark (roll-Value x)
no_mark_level Value-F.Null = subst NoMark (sym value.rolls-Null) (λ unmarked same. cc)
no_mark_level (Value-F.Flag flag) = subst NoMark (sym (value.rolls-Flag flag)) (λ unmarked same. cc)
no_mark_level (Value-F.Whole whole) = subst NoMark (sym (value.rolls-Whole whole)) (λ unmarked same. cc)
no_mark_level (Value-F.Text text) =
    subst NoMark (sym (value.rolls-Text text)) (λ unmarked same. text_apart text secret_mark unmarked (string_text _ _ (sym (spelled-Text text) ∙ same)))
no_mark_level (Value-F.List values) = subst NoMark (sym (value.rolls-List values)) (λ unmarked same. cc)
no_mark_level (Value-F.Object fields) = subst NoMark (sym (value.rolls-Object fields)) (λ unmarked same. cc)
no_mark_level (Value-F.Secret inner) = subst NoMark (sym (value.rolls-Secret inner)) (λ unmarked same. cc)
no_mark_level Value-F.Unknown =
    subst NoMark (sym value.rolls-Unknown) (λ unmarked same. unknown_unmarked (string_text _ _ (sym spelled-Unknown ∙ same)))

no_mark : (one : Value) → NoMark one
no_mark one = subst NoMark (roll-out-Value one) (no_mark_level (out-Value one))

-- ---- an object is not spelled as a secret

abbrev seen : Value → Value × Bool
seen one = (one, is_value one)

abbrev seen_pairs : List (List ℕ × Value) → List (List ℕ × (Value × Bool))
seen_pairs fields = map (λ field. (field.0, seen field.1)) fields

no_secret : (fields : List (List ℕ × Value)) (text : List ℕ) → list_all (λ field. may_stand_under field.0 field.1.0) (seen_pairs fields) ≡ true
    → spelled_level (Value-F.Object (map (λ field. (field.0, spelled field.1)) fields)) ≡ secret_data text → ⊥
no_secret [] text may same = cc
no_secret (field ∷ more) text may same =
    let key : field.0 ≡ secret_key = cc in
    let mark : spelled field.1 ≡ string secret_mark = cc in
    let here = (and_parts (may_stand_under field.0 field.1) (list_all (λ one. may_stand_under one.0 one.1.0) (seen_pairs more)) may).0 in
    let equal : bytes_eq field.0 secret_key ≡ true = (bytes_eq-Decides field.0 secret_key).1 key in
    no_mark field.1 (sym (ap (λ b. not b || is_unmarked field.1) equal) ∙ here) mark

-- ---- values, level by level

of_integer_tells : (a b : ℤ) → of_integer a ≡ of_integer b → a ≡ b
of_integer_tells (pos m) (pos n) same = cc
of_integer_tells (pos m) (negsuc n) same = cc
of_integer_tells (negsuc m) (pos n) same = cc
of_integer_tells (negsuc m) (negsuc n) same = cc

abbrev Tells : Value → Type 0
Tells one = (other : Value) → is_value one ≡ true → is_value other ≡ true → wholes_fit one ≡ true → wholes_fit other ≡ true → spelled one ≡ spelled other → one ≡ other

abbrev Kept : Type 0
Kept = Having Tells

abbrev all_seen : List Value → Bool
all_seen values = list_all (λ one. one.1) (map seen values)

abbrev all_fit : List Value → Bool
all_fit values = list_all (λ fit. fit) (map wholes_fit values)

same_values : (kept : List Kept) (others : List Value) → all_seen (values_of kept) ≡ true → all_seen others ≡ true → all_fit (values_of kept) ≡ true → all_fit others ≡ true
    → spelled_items (values_of kept) ≡ spelled_items others → values_of kept ≡ others
same_values [] [] a b c d same = refl
same_values [] (other ∷ others) a b c d same = cc
same_values (one ∷ more) [] a b c d same = cc
same_values (one ∷ more) (other ∷ others) a b c d same =
    let p = and_parts (is_value one.0) (all_seen (values_of more)) a in
    let q = and_parts (is_value other) (all_seen others) b in
    let r = and_parts (wholes_fit one.0) (all_fit (values_of more)) c in
    let s = and_parts (wholes_fit other) (all_fit others) d in
    ap₂ (λ v vs. v ∷ vs) (one.1 other p.0 q.0 r.0 s.0 cc) (same_values more others p.1 q.1 r.1 s.1 cc)

abbrev each_seen : List (List ℕ × Value) → Bool
each_seen fields = list_all (λ field. field.1.1) (seen_pairs fields)

abbrev each_fits : List (List ℕ × Value) → Bool
each_fits fields = list_all (λ field. field.1) (fitting fields)

same_fields : (kept : List (List ℕ × Kept)) (others : List (List ℕ × Value)) → each_seen (pairs_of kept) ≡ true → each_seen others ≡ true
    → each_fits (pairs_of kept) ≡ true → each_fits others ≡ true → spelled_members (pairs_of kept) ≡ spelled_members others → pairs_of kept ≡ others
same_fields [] [] a b c d same = refl
same_fields [] (other ∷ others) a b c d same = cc
same_fields (one ∷ more) [] a b c d same = cc
same_fields (one ∷ more) (other ∷ others) a b c d same =
    let p = and_parts (is_value one.1.0) (each_seen (pairs_of more)) a in
    let q = and_parts (is_value other.1) (each_seen others) b in
    let r = and_parts (wholes_fit one.1.0) (each_fits (pairs_of more)) c in
    let s = and_parts (wholes_fit other.1) (each_fits others) d in
    let key : one.0 ≡ other.0 = cc in
    let field : (one.0, one.1.0) ≡ other = ap₂ (λ k v. (k, v)) key (one.1.1 other.1 p.0 q.0 r.0 s.0 cc) in
    ap₂ (λ v vs. v ∷ vs) field (same_fields more others p.1 q.1 r.1 s.1 cc)

abbrev IsLevel : Value-F Value → Type 0
IsLevel x = (is_value_level (map-Value Value (Value × Bool) seen x) ≡ true) × (wholes_fit_level (map-Value Value Bool wholes_fit x) ≡ true)

abbrev spelled_of : Value-F Value → Data
spelled_of x = spelled_level (map-Value Value Data spelled x)

object_parts : (fields : List (List ℕ × Value)) → IsLevel (Value-F.Object fields)
    → (each_seen fields ≡ true) × (list_all (λ field. may_stand_under field.0 field.1.0) (seen_pairs fields) ≡ true)
object_parts fields is =
    let may = list_all (λ (field : List ℕ × (Value × Bool)). may_stand_under field.0 field.1.0) (seen_pairs fields) in
    let outer = and_parts (are_rising (keys_of (seen_pairs fields)) && each_seen fields) may is.0 in
    ((and_parts (are_rising (keys_of (seen_pairs fields))) (each_seen fields) outer.0).1, outer.1)

same_level : (x : Value-F Kept) (y : Value-F Value) → IsLevel (opened x) → IsLevel y → spelled_of (opened x) ≡ spelled_of y → opened x ≡ y
same_level Value-F.Null Value-F.Null h k same = refl
same_level Value-F.Null y h k same = cc
same_level (Value-F.Flag a) (Value-F.Flag b) h k same = cc
same_level (Value-F.Flag a) y h k same = cc
same_level (Value-F.Whole a) (Value-F.Whole b) h k same = ap Value-F.Whole (of_integer_tells a b cc)
same_level (Value-F.Whole a) y h k same = cc
same_level (Value-F.Text a) (Value-F.Text b) h k same = cc
same_level (Value-F.Text a) Value-F.Unknown h k same = absurd (text_apart a unknown_text h.0 cc)
same_level (Value-F.Text a) y h k same = cc
same_level (Value-F.List a) (Value-F.List b) h k same = ap Value-F.List (same_values a b h.0 k.0 h.1 k.1 cc)
same_level (Value-F.List a) y h k same = cc
same_level (Value-F.Object a) (Value-F.Object b) h k same =
    ap Value-F.Object (same_fields a b (object_parts (pairs_of a) h).0 (object_parts b k).0 h.1 k.1 cc)
same_level (Value-F.Object a) (Value-F.Secret b) h k same = absurd (no_secret (pairs_of a) _ (object_parts (pairs_of a) h).1 same)
same_level (Value-F.Object a) y h k same = cc
same_level (Value-F.Secret a) (Value-F.Secret b) h k same =
    let text : compact_text (spelled a.0) ≡ compact_text (spelled b) = cc in
    ap Value-F.Secret (a.1 b h.0 k.0 h.1 k.1 (text_tells_data _ _ (HasWholes-spelled a.0 h.1) (HasWholes-spelled b k.1) text))
same_level (Value-F.Secret a) (Value-F.Object b) h k same = absurd (no_secret b _ (object_parts b k).1 (sym same))
same_level (Value-F.Secret a) y h k same = cc
same_level Value-F.Unknown Value-F.Unknown h k same = refl
same_level Value-F.Unknown (Value-F.Text b) h k same = absurd (text_apart b unknown_text k.0 cc)
same_level Value-F.Unknown y h k same = cc

is_level : (x : Value-F Value) (one : Value) → roll-Value x ≡ one → is_value one ≡ true → wholes_fit one ≡ true → IsLevel x
is_level x one rolled is fit = (
  sym (para-roll-Value Bool is_value_level x) ∙ ap is_value rolled ∙ is,
  sym (fold-roll-Value Bool wholes_fit_level x) ∙ ap wholes_fit rolled ∙ fit,
)

tells_level : (y : Value-F Kept) → Tells (roll-Value (opened y))
tells_level y other a b c d same =
    let rolled = roll-out-Value other in
    let level : spelled_of (opened y) ≡ spelled_of (out-Value other) =
    sym (fold-roll-Value Data spelled_level (opened y)) ∙ same ∙ sym (ap spelled rolled) ∙ fold-roll-Value Data spelled_level (out-Value other) in
    ap roll-Value (same_level y (out-Value other) (is_level (opened y) _ refl a c) (is_level (out-Value other) other rolled b d) level) ∙ rolled

tells : (one : Value) → Tells one
tells = ind-Value Tells (λ x y is. subst (λ (z : Value-F Value). Tells (roll-Value z)) is (tells_level y))

pub spelling_tells_value : SpellingTellsValue
spelling_tells_value one other a b c d same = tells one other a b c d same

pub text_tells_value : TextTellsValue
text_tells_value one other a b c d same =
    tells one other a b c d (text_tells_data _ _ (HasWholes-spelled one c) (HasWholes-spelled other d) same)

-- ---- objects

pub object_fits : (fields : List (List ℕ × Value)) → list_all (λ field. wholes_fit field.1) fields ≡ true → wholes_fit (value.Object fields) ≡ true
object_fits fields fit =
    ap wholes_fit (sym (value.rolls-Object fields)) ∙ fold-roll-Value Bool wholes_fit_level (Value-F.Object fields)
    ∙ list_all-map (λ (field : List ℕ × Bool). field.1) (λ field. (field.0, wholes_fit field.1)) fields ∙ fit

object_tells : (fields others : List (List ℕ × Value)) → value.Object fields ≡ value.Object others → fields ≡ others
object_tells fields others same =
    let levels : Value-F.Object fields ≡ Value-F.Object others =
    sym (out-roll-Value (Value-F.Object fields)) ∙ ap out-Value (value.rolls-Object fields ∙ same ∙ sym (value.rolls-Object others))
    ∙ out-roll-Value (Value-F.Object others) in
    cc

pub text_tells_fields : TextTellsFields
text_tells_fields fields others a b c d same =
    object_tells fields others
    (text_tells_value (value.Object fields) (value.Object others) (is_value-Object fields ∙ a) (is_value-Object others ∙ b) (object_fits fields c) (object_fits others d)
    (ap compact_text (spelled-Object fields) ∙ same ∙ sym (ap compact_text (spelled-Object others))))
