-- How long a list is of which each number has a share.
use Rattle.std.proofs.Common.{◌≡◌, ◌≢◌, ℕ, zero, suc, ◌+◌, ◌*◌, ◌<◌, ◌≤◌, List, [], ◌∷◌, length, All, refl, ap, arith, eq-eqb, ne_eqb}
use mathlib.Core.Logic.{dite}
use native.Mathlib.Decide.{ℕ_discrete}
use Rattle.pl_desk.specs.Rule.{lines_of}

-- how many lines of the number n there are
abbrev share : ℕ → List ℕ → ℕ
share n xs = length (lines_of (λ l. l) n xs)

abbrev shares : ℕ → List ℕ → ℕ
shares zero xs = 0
shares (suc n) xs = shares n xs + share n xs

shares_none : (n : ℕ) → shares n [] ≡ 0
shares_none zero = refl
shares_none (suc n) = omega (arith, shares_none n)

shares_skip : (n x : ℕ) (xs : List ℕ) → n ≤ x → shares n (x ∷ xs) ≡ shares n xs
shares_skip zero x xs high = refl
shares_skip (suc n) x xs high = rw (ne_eqb x n (λ e. omega arith)) (ap (λ k. k + share n xs) (shares_skip n x xs (omega arith)))

shares_one : (n x : ℕ) (xs : List ℕ) → x < n → shares n (x ∷ xs) ≡ suc (shares n xs)
shares_one zero x xs low = absurd (omega arith)
shares_one (suc n) x xs low = dite (ℕ_discrete x n)
    (λ is. rw (eq-eqb x n is) (omega (arith, shares_skip n x xs (omega arith))))
    (λ (not : x ≢ n). rw (ne_eqb x n not) (omega (arith, shares_one n x xs (omega arith))))

all_shared : (n : ℕ) (xs : List ℕ) → All (λ l. l < n) xs → length xs ≡ shares n xs
all_shared n [] h = omega (arith, shares_none n)
all_shared n (x ∷ xs) h = omega (arith, shares_one n x xs (h 0 x (omega arith)), all_shared n xs (λ k d low. h (suc k) d (omega arith)))

shares_at_most : (n most : ℕ) (xs : List ℕ) → ((m : ℕ) → m < n → share m xs ≤ most) → shares n xs ≤ n * most
shares_at_most zero most xs h = omega arith
shares_at_most (suc n) most xs h = omega (arith, shares_at_most n most xs (λ m low. h m (omega arith)), h n (omega arith))

-- each number is below n, and none has more lines than most
pub length_of_shares : (n most : ℕ) (xs : List ℕ) → All (λ l. l < n) xs → ((m : ℕ) → m < n → share m xs ≤ most) → length xs ≤ n * most
length_of_shares n most xs low h = omega (arith, all_shared n xs low, shares_at_most n most xs h)
