-- Rising keys, told by each key and the next.
use Rattle.std.proofs.Common.{◌≡◌, ℕ, zero, suc, ◌+◌, ◌-◌, Some, ◌<◌, ◌≤◌, Bool, true, false, ◌&&◌, List, [], ◌∷◌, length, drop, get_or, bytes_eq, Ordering, Less, Equal, Greater, is_eq, refl, sym, ap, ◌∙◌, arith}
use Rattle.std.proofs.lemmas.Bool.{and_parts, and_from, and_right}
use Rattle.std.proofs.lemmas.Cmp.{nat_list_cmp_total}
use Rattle.std.proofs.lemmas.Map.Text.{is_eq-slice_cmp}
use Rattle.std.specs.Cmp.Lexicographic.{slice_cmp}
use Rattle.std.specs.List.{list_all, slice_get}
use Rattle.std.specs.Ordering.{nat_cmp, ordering_reverse}
use Rattle.pl_value.specs.Keys.{are_rising, is_below, is_less, keys_of, are_all_below}
use Rattle.pl_value.specs.declared.value.Value.{Value}
use Rattle.std.proofs.lemmas.List.Folds.{list_all-map}
use Rattle.std.proofs.Math.Bool.{and-true}
use Rattle.pl_value.proofs.FieldParts.{Pairs}
use Rattle.pl_value.proofs.Lists.{list_all-slice_get}

abbrev pub Key : Type 0
Key = List ℕ

pub less_from : (o : Ordering) → is_less o ≡ true → o ≡ Less
less_from Less h = refl
less_from Equal h = cc
less_from Greater h = cc

pub reversed : (a b : Key) (o : Ordering) → slice_cmp nat_cmp a b ≡ o → slice_cmp nat_cmp b a ≡ ordering_reverse o
reversed a b o e = nat_list_cmp_total.antisymm b a ∙ ap ordering_reverse e

-- a key above another is not the same
pub apart : (a b : Key) → is_below a b ≡ true → bytes_eq b a ≡ false
apart a b below = sym (is_eq-slice_cmp b a) ∙ ap is_eq (reversed a b Less (less_from _ below))

pub below_trans : (a b c : Key) → is_below a b ≡ true → is_below b c ≡ true → is_below a c ≡ true
below_trans a b c ab bc = ap is_less (nat_list_cmp_total.trans a b c (less_from _ ab) (less_from _ bc))

pub below_all : (a b : Key) (keys : List Key) → is_below a b ≡ true → list_all (is_below b) keys ≡ true → list_all (is_below a) keys ≡ true
below_all a b [] ab all = refl
below_all a b (key ∷ more) ab all =
    let parts = and_parts (is_below b key) (list_all (is_below b) more) all in
    and_from _ _ (below_trans a b key ab parts.0) (below_all a b more ab parts.1)

first_needless : (a b : Key) (more : List Key) (t : Bool) → list_all (is_below b) more ≡ t → is_below a b ≡ true
    → ((is_below a b && list_all (is_below a) more) && (t && are_rising more)) ≡ (t && are_rising more)
first_needless a b more true all below = ap (λ first. first && are_rising more) (and_from _ _ below (below_all a b more below all))
first_needless a b more false all below = and_right _ _ refl

pub rising_on : (left : Pairs) (d e : Key × Value) → 1 < length left → is_below (get_or left 0 d).0 (get_or left 1 e).0 ≡ true
    → are_rising (keys_of (drop 1 left)) ≡ are_rising (keys_of left)
rising_on [] d e two below = absurd (omega arith)
rising_on (x ∷ []) d e two below = absurd (omega arith)
rising_on (x ∷ (y ∷ more)) d e two below = by_case (list_all (is_below y.0) (keys_of more)) refl
  where
    by_case : (t : Bool) → list_all (is_below y.0) (keys_of more) ≡ t → are_rising (keys_of (y ∷ more)) ≡ are_rising (keys_of (x ∷ (y ∷ more)))
    by_case t all = rw all (sym (first_needless x.0 y.0 (keys_of more) t all below))

pub short_rising : (left : Pairs) → length left ≤ 1 → are_rising (keys_of left) ≡ true
short_rising [] short = refl
short_rising (x ∷ []) short = refl
short_rising (x ∷ (y ∷ more)) short = absurd (omega arith)

all_below_at : (fields : Pairs) (key : Key) (last : Key × Value) (n : ℕ) → n + 1 ≡ length fields → slice_get fields n ≡ Some last
    → are_rising (keys_of fields) ≡ true → are_all_below fields key ≡ is_below last.0 key
all_below_at [] key last n end at rising = cc
all_below_at (x ∷ []) key last zero end at rising = let same : x ≡ last = cc in and-true (is_below x.0 key) ∙ ap (λ (f : Key × Value). is_below f.0 key) same
all_below_at (x ∷ []) key last (suc n) end at rising = cc
all_below_at (x ∷ (y ∷ more)) key last zero end at rising = absurd (omega arith)
all_below_at (x ∷ (y ∷ more)) key last (suc n) end at rising =
    let parts = and_parts (list_all (is_below x.0) (keys_of (y ∷ more))) (are_rising (keys_of (y ∷ more))) rising in
    let low : is_below x.0 last.0 ≡ true =
    list_all-slice_get (λ (f : Key × Value). is_below x.0 f.0) (y ∷ more) n last
    (sym (list_all-map (is_below x.0) (λ (f : Key × Value). f.0) (y ∷ more)) ∙ parts.0) at in
    ap (λ rest. is_below x.0 key && rest) (all_below_at (y ∷ more) key last n (omega arith) at parts.1) ∙ first_too (is_below last.0 key) refl low
  where
    first_too : (t : Bool) → is_below last.0 key ≡ t → is_below x.0 last.0 ≡ true → (is_below x.0 key && t) ≡ t
    first_too true below low = and_from _ _ (below_trans x.0 last.0 key low below) refl
    first_too false below low = and_right _ _ refl

-- of rising keys the last decides
pub all_below-last : (fields : Pairs) (key : Key) (last : Key × Value) → slice_get fields (length fields - 1) ≡ Some last
    → are_rising (keys_of fields) ≡ true → are_all_below fields key ≡ is_below last.0 key
all_below-last [] key last at rising = cc
all_below-last (x ∷ more) key last at rising = all_below_at (x ∷ more) key last (length (x ∷ more) - 1) (omega arith) at rising
