-- Tests over a range of numbers.
use Rattle.std.specs.List.{list_any, range_with_len, list_all}
use Rattle.std.proofs.Common.{arith, Bool, zero, inr, refl, eq-or-lt_of_le, subst, suc, ℕ, inl, false, true, ◌≡◌, ◌+◌, ◌<◌, ◌≤◌, ◌||◌, ◌⊎◌}

-- no number of a range passes a test that none of them passes
pub none_in_range : (p : ℕ → Bool) (a n : ℕ) → ((k : ℕ) → a ≤ k → k < a + n → p k ≡ true → ⊥) → list_any p (range_with_len a n) ≡ false
none_in_range p a zero h = refl
none_in_range p a (suc n) h = by (p a) refl (none_in_range p (a + 1) n (λ k low high passes. h k (omega arith) (omega arith) passes))
  where
    by : (b : Bool) → p a ≡ b → list_any p (range_with_len (a + 1) n) ≡ false → (b || list_any p (range_with_len (a + 1) n)) ≡ false
    by true is rest = absurd (h a (omega arith) (omega arith) is)
    by false is rest = rest

pub all_in_range : (p : ℕ → Bool) (a n : ℕ) → ((k : ℕ) → a ≤ k → k < a + n → p k ≡ true) → list_all p (range_with_len a n) ≡ true
all_in_range p a zero h = refl
all_in_range p a (suc n) h = rw (h a (omega arith) (omega arith)) (all_in_range p (a + 1) n (λ k low high. h k (omega arith) (omega arith)))

-- a number of a range does not pass a test that none of them passes
pub range_lacks : (p : ℕ → Bool) (a n k : ℕ) → a ≤ k → k < a + n → list_any p (range_with_len a n) ≡ false → p k ≡ false
range_lacks p a zero k low high h = absurd (omega arith)
range_lacks p a (suc n) k low high h = by (p a) refl h (eq-or-lt_of_le low)
    (λ later none. range_lacks p (a + 1) n k (omega arith) (omega arith) none)
  where
    by : (b : Bool) → p a ≡ b → (b || list_any p (range_with_len (a + 1) n)) ≡ false → (a ≡ k) ⊎ (a < k)
        → (a < k → list_any p (range_with_len (a + 1) n) ≡ false → p k ≡ false) → p k ≡ false
    by true is none at rest = absurd (let e : true ≡ false = none in cc)
    by false is none (inl same) rest = subst (λ (j : ℕ). p j ≡ false) same is
    by false is none (inr later) rest = rest later none
