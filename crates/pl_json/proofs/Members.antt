-- The members of an object that are put in one after another, with rising keys.
use Rattle.std.proofs.Common.{◌≡◌, ℕ, zero, suc, ◌+◌, ◌<◌, Bool, true, List, [], ◌∷◌, length, take, get_or, Less, Greater, refl, ap, ◌∙◌, arith}
use Rattle.std.proofs.lemmas.Bool.{and_parts}
use Rattle.std.specs.Cmp.Lexicographic.{slice_cmp}
use Rattle.std.specs.List.{list_all}
use Rattle.std.specs.Ordering.{nat_cmp}
use Rattle.pl_value.specs.Keys.{are_rising, is_below, keys_of}
use Rattle.pl_value.specs.declared.value.Value.{Value}
use Rattle.pl_value.specs.IsValue.{are_fields}
use Rattle.pl_value.proofs.FieldParts.{are_fields-parts}
use Rattle.pl_value.proofs.Rising.{reversed, less_from}
use Rattle.serde_json.specs.Data.{member, put}
use Rattle.pl_json.specs.Spelled.{spelled, spelled_members}

pub list_all-get_or : {X : Type 0} (p : X → Bool) (xs : List X) (place : ℕ) (d : X) → place < length xs → list_all p xs ≡ true → p (get_or xs place d) ≡ true
list_all-get_or p [] place d within all = absurd (omega arith)
list_all-get_or p (x ∷ xs) zero d within all = (and_parts (p x) (list_all p xs) all).0
list_all-get_or p (x ∷ xs) (suc place) d within all = list_all-get_or p xs place d (omega arith) (and_parts (p x) (list_all p xs) all).1

below_at : (low : List ℕ) (fields : List (List ℕ × Value)) (place : ℕ) (d : List ℕ × Value) → place < length fields
    → list_all (is_below low) (keys_of fields) ≡ true → is_below low (get_or fields place d).0 ≡ true
below_at low [] place d within all = absurd (omega arith)
below_at low (field ∷ more) zero d within all = (and_parts (is_below low field.0) (list_all (is_below low) (keys_of more)) all).0
below_at low (field ∷ more) (suc place) d within all =
    below_at low more place d (omega arith) (and_parts (is_below low field.0) (list_all (is_below low) (keys_of more)) all).1

above : (a b : List ℕ) → is_below a b ≡ true → slice_cmp nat_cmp b a ≡ Greater
above a b below = reversed a b Less (less_from _ below)

-- a key above those before it goes last
put_at_end : (fields : List (List ℕ × Value)) (place : ℕ) (d : List ℕ × Value) → place < length fields → are_rising (keys_of fields) ≡ true
    → put (get_or fields place d).0 (spelled (get_or fields place d).1) (spelled_members (take place fields)) ≡ spelled_members (take (suc place) fields)
put_at_end [] place d within rising = absurd (omega arith)
put_at_end (field ∷ more) zero d within rising = refl
put_at_end (field ∷ more) (suc place) d within rising =
    let parts = and_parts (list_all (is_below field.0) (keys_of more)) (are_rising (keys_of more)) rising in
    let greater : slice_cmp nat_cmp (get_or more place d).0 field.0 ≡ Greater = above field.0 _ (below_at field.0 more place d (omega arith) parts.0) in
    rw greater (ap (member field.0 (spelled field.1)) (put_at_end more place d (omega arith) parts.1))

-- the next member
pub spelled_members-next : (fields : List (List ℕ × Value)) (place : ℕ) (field : List ℕ × Value) → place < length fields → field ≡ get_or fields place field
    → are_fields fields ≡ true → put field.0 (spelled field.1) (spelled_members (take place fields)) ≡ spelled_members (take (place + 1) fields)
spelled_members-next fields place field within is sound =
    let one_more : suc place ≡ place + 1 = omega arith in
    ap (λ (one : List ℕ × Value). put one.0 (spelled one.1) (spelled_members (take place fields))) is
    ∙ put_at_end fields place field within (are_fields-parts fields sound).0
    ∙ ap (λ n. spelled_members (take n fields)) one_more
