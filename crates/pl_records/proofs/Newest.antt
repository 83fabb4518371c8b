-- Sets of numbers as lists that stand newest first.
use Rattle.std.proofs.Common.{◌≡◌, ℕ, ◌==◌, Bool, true, false, if◌then◌else◌, List, [], ◌∷◌, ◌++◌, reverse, Option, Some, None, is_some, Result, Ok, Err, refl, sym, ap, ◌∙◌}
use Rattle.std.proofs.lemmas.List.{reverse-append}
use Rattle.std.proofs.lemmas.List.Sorted.{IsPermutation-reverse}
use Rattle.std.proofs.lemmas.Map.Keys.{IsDistinct-IsPermutation}
use Rattle.std.specs.Bool.{nat_eq}
use Rattle.std.specs.List.{IsDistinct, list_any}
use Rattle.std.specs.Result.{IfOk, IsOk}
use Rattle.indexmap.specs.IndexSet.{insert_key}
use Rattle.pl_lemmas.specs.Words.{has_number}
use Rattle.pl_lemmas.proofs.Lists.{any_reversed, any_same}
use Rattle.pl_lemmas.proofs.Numbers.{turned_number}

-- what holds where a call succeeds
pub at_ok : {T E P : Type 0} (r : Result T E) → IsOk r → IfOk r (λ _. P) → P
at_ok (Ok x) is h = h
at_ok (Err y) is h = absurd cc

pub none_there : {X : Type 0} (o : Option X) → is_some o ≡ false → o ≡ None
none_there None is = refl
none_there (Some x) is = absurd (let e : true ≡ false = is in cc)

pub reverse-push : {X : Type 0} (xs : List X) (x : X) → reverse (xs ++ x ∷ []) ≡ x ∷ reverse xs
reverse-push xs x = reverse-append xs (x ∷ [])

-- a set has the numbers of its list
pub has_reversed : (keys : List ℕ) (n : ℕ) → list_any (nat_eq n) keys ≡ has_number (reverse keys) n
has_reversed keys n =
    any_same (nat_eq n) (λ other. other == n) (λ other. turned_number n other) keys
    ∙ sym (any_reversed (λ other. other == n) keys)

-- a number that is new comes first
pub added : (old new : List ℕ) (n : ℕ) → has_number (reverse old) n ≡ false → new ≡ insert_key nat_eq old n
    → reverse new ≡ n ∷ reverse old
added old new n absent insertion =
    ap reverse insertion
    ∙ ap (λ (b : Bool). reverse (if b then old else old ++ n ∷ [])) (has_reversed old n ∙ absent)
    ∙ reverse-push old n

pub distinct_reversed : (keys : List ℕ) → IsDistinct nat_eq keys → IsDistinct nat_eq (reverse keys)
distinct_reversed keys distinct =
    IsDistinct-IsPermutation nat_eq turned_number keys (reverse keys) (IsPermutation-reverse keys) distinct
