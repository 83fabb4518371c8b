-- The keys of a map's members, which rise, beside those of the fields that are read of them.
use Rattle.std.proofs.Common.{◌≡◌, ℕ, Bool, true, false, not, ◌||◌, cond, bytes_eq, List, [], ◌∷◌, ◌++◌, map, Some, Result, Ok, Less, Equal, Greater, string_bytes, string_cmp, nat_cmp, refl, sym, ap, ◌∙◌}
use Rattle.std.proofs.lemmas.Bool.{and_from}
use Rattle.std.proofs.lemmas.Cmp.{nat_list_cmp_total, tied_itself}
use Rattle.std.proofs.lemmas.List.{map-append}
use Rattle.std.proofs.lemmas.List.Folds.{list_all-map}
use Rattle.std.proofs.lemmas.Slice.Eq.{bytes_eq-Decides}
use Rattle.std.specs.Cmp.Lexicographic.{slice_cmp}
use Rattle.std.specs.List.{AllByRecursion, list_all}
use Rattle.std.specs.List.Sorted.{IsStrictlySortedBy}
use Rattle.std.specs.Map as map_keys
use Rattle.std.specs.Ordering.{ordering_reverse}
use Rattle.pl_value.specs.IsValue.{is_unmarked, may_stand_under}
use Rattle.pl_value.specs.Keys.{are_all_below, is_below, is_less, keys_of}
use Rattle.pl_value.specs.Marks.{secret_key, secret_mark, unknown_text}
use Rattle.pl_value.specs.declared.value.Value.{Value}
use Rattle.pl_value.specs.declared.value.Value.TheVariants as value
use Rattle.pl_value.specs.declared.json.JsonFault.{JsonFault}
use Rattle.serde_json.proofs.Views.{Entry}
use Rattle.serde_json.specs.Data.{Data, null, boolean, number, string, array, object}
use Rattle.serde_json.specs.Find.{get_member}
use Rattle.serde_json.specs.View.{view, members_view}
use Rattle.pl_json.proofs.Readings.{read_in-string}
use Rattle.pl_json.specs.Read.{is_marked, marked_by, read_in, text_read}

-- the map's keys rise
abbrev pub Rise : List Entry → Type 0
Rise entries = IsStrictlySortedBy string_cmp (map_keys.keys_of entries)

below_middle : (first : Entry) (done : List Entry) (e : Entry) (left : List Entry)
    → AllByRecursion (λ y. string_cmp first.0 y ≡ Less) (map_keys.keys_of (done ++ e ∷ left)) → string_cmp first.0 e.0 ≡ Less
below_middle first [] e left below = below.0
below_middle first (x ∷ done) e left below = below_middle first done e left below.1

abbrev pub key_bytes : List Entry → List (List ℕ)
key_bytes entries = map (λ (e : Entry). string_bytes e.0) entries

keys_below : (done : List Entry) (e : Entry) (left : List Entry) → Rise (done ++ e ∷ left)
    → list_all (λ key. is_below key (string_bytes e.0)) (key_bytes done) ≡ true
unfolding IsStrictlySortedBy
keys_below [] e left rise = refl
keys_below (first ∷ done) e left rise = and_from _ _ (ap is_less (below_middle first done e left rise.0)) (keys_below done e left rise.1)

-- the next key is above those of the fields before
pub next_above : (done : List Entry) (e : Entry) (left : List Entry) (fields : List (List ℕ × Value)) → Rise (done ++ e ∷ left)
    → keys_of fields ≡ key_bytes done → are_all_below fields (string_bytes e.0) ≡ true
next_above done e left fields rise same =
    sym (list_all-map (λ key. is_below key (string_bytes e.0)) (λ (field : List ℕ × Value). field.0) fields)
    ∙ ap (list_all (λ key. is_below key (string_bytes e.0))) same ∙ keys_below done e left rise

-- and is added behind them
pub keys_next : (done : List Entry) (e : Entry) (fields : List (List ℕ × Value)) (v : Value) → keys_of fields ≡ key_bytes done
    → keys_of (fields ++ (string_bytes e.0, v) ∷ []) ≡ key_bytes (done ++ e ∷ [])
keys_next done e fields v same =
    map-append (λ (field : List ℕ × Value). field.0) fields ((string_bytes e.0, v) ∷ []) ∙ ap (λ keys. keys ++ string_bytes e.0 ∷ []) same
    ∙ sym (map-append (λ (one : Entry). string_bytes one.0) done (e ∷ []))

-- ---- the value under a key

pub same_text : (xs : List ℕ) → slice_cmp nat_cmp xs xs ≡ Equal
same_text xs = tied_itself nat_list_cmp_total xs

get_member-middle : (done : List Entry) (e : Entry) (left : List Entry) → Rise (done ++ e ∷ left)
    → get_member (string_bytes e.0) (members_view (done ++ e ∷ left)) ≡ Some (view e.1)
unfolding IsStrictlySortedBy
get_member-middle [] e left rise = rw (same_text (string_bytes e.0)) refl
get_member-middle (first ∷ done) e left rise =
    let above : slice_cmp nat_cmp (string_bytes e.0) (string_bytes first.0) ≡ Greater =
    nat_list_cmp_total.antisymm (string_bytes e.0) (string_bytes first.0) ∙ ap ordering_reverse (below_middle first done e left rise.0) in
    rw above (get_member-middle done e left rise.1)

ok_same : (a b : Value) → ◌≡◌ {A = Result Value JsonFault} (Ok a) (Ok b) → a ≡ b
ok_same a b same = cc

pub text_unmarked : (text : List ℕ) → bytes_eq text secret_mark ≡ false → is_unmarked (text_read text) ≡ true
text_unmarked text other = by_case (bytes_eq text unknown_text)
  where
    by_case : (t : Bool) → is_unmarked (cond t value.Unknown (value.Text text)) ≡ true
    by_case true = refl
    by_case false = ap not other

pub unmarked_by : (levels : ℕ) (d : Data) (v : Value) → marked_by (Some d) ≡ Ok false → read_in levels d ≡ Ok v → is_unmarked v ≡ true
unmarked_by levels null v plain read = cc
unmarked_by levels (boolean b) v plain read = cc
unmarked_by levels (number n) v plain read = cc
unmarked_by levels (string text) v plain read =
    let other : bytes_eq text secret_mark ≡ false = cc in
    sym (ap is_unmarked (ok_same (text_read text) v (sym (read_in-string levels text) ∙ read))) ∙ text_unmarked text other
unmarked_by levels (array ds) v plain read = cc
unmarked_by levels (object ms) v plain read = cc

-- in an object that is no secret, no value under the secret's key makes it one
pub next_unmarked : (levels : ℕ) (done : List Entry) (e : Entry) (left : List Entry) (v : Value) → Rise (done ++ e ∷ left)
    → is_marked (members_view (done ++ e ∷ left)) ≡ Ok false → read_in levels (view e.1) ≡ Ok v → may_stand_under (string_bytes e.0) v ≡ true
next_unmarked levels done e left v rise plain read = by_case (bytes_eq (string_bytes e.0) secret_key) refl
  where
    by_case : (t : Bool) → bytes_eq (string_bytes e.0) secret_key ≡ t → (not t || is_unmarked v) ≡ true
    by_case false other = refl
    by_case true is =
        let key : string_bytes e.0 ≡ secret_key = (bytes_eq-Decides (string_bytes e.0) secret_key).0 is in
        let found = get_member-middle done e left rise in
        unmarked_by levels (view e.1) v
        (sym (ap marked_by found) ∙ ap (λ k. marked_by (get_member k (members_view (done ++ e ∷ left)))) key ∙ plain) read
