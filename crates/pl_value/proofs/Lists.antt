-- What holds of each element of a list, at one place of it.
use Rattle.std.proofs.Common.{◌≡◌, ℕ, zero, suc, Bool, true, List, [], ◌∷◌, Option, Some, None, Bor, IfSome, IsTrue, sym, ◌∙◌, ap}
use Rattle.std.proofs.lemmas.Bool.{and_parts}
use Rattle.std.specs.List.{slice_get, list_all}
use Rattle.std.specs.Option.{option_copied}

pub list_all-slice_get : {X : Type 0} (p : X → Bool) (xs : List X) (k : ℕ) (x : X) → list_all p xs ≡ true → slice_get xs k ≡ Some x → p x ≡ true
list_all-slice_get p [] k x all got = cc
list_all-slice_get p (y ∷ ys) zero x all got =
    let same : y ≡ x = cc in sym (ap p same) ∙ (and_parts (p y) (list_all p ys) all).0
list_all-slice_get p (y ∷ ys) (suc k) x all got = list_all-slice_get p ys k x (and_parts (p y) (list_all p ys) all).1 got

-- the same of what a `get` answered
pub IfSome-slice_get : {X : Type 0} (p : X → Bool) (xs : List X) (k : ℕ) (r : Option (Bor X)) → option_copied r ≡ slice_get xs k → list_all p xs ≡ true → IfSome r (λ x. IsTrue (p x.now))
IfSome-slice_get p xs k None got all = tt
IfSome-slice_get p xs k (Some x) got all = list_all-slice_get p xs k x.now all (sym got)
