-- Numbered elements that pass a test.
use Rattle.std.proofs.Common.{◌≡◌, ◌+◌, ℕ, Bool, ◌||◌, List, [], ◌∷◌, refl, ap, ◌∙◌}
use Rattle.std.specs.List.{enumerate_from, list_any}
use Rattle.pl_claims.proofs.Lists.{Once}

module _ {X : Type 0} (test : X → Bool) where
  any_numbered : (from : ℕ) (xs : List X) → list_any (λ one. test one.1) (enumerate_from from xs) ≡ list_any test xs
  any_numbered from [] = refl
  any_numbered from (x ∷ xs) = ap (λ (b : Bool). test x || b) (any_numbered (from + 1) xs)

  pub once_numbered : (from : ℕ) (xs : List X) → Once test xs → Once (λ one. test one.1) (enumerate_from from xs)
  once_numbered from [] once = tt
  once_numbered from (x ∷ xs) once = (λ is. any_numbered (from + 1) xs ∙ once.0 is, once_numbered (from + 1) xs once.1)
