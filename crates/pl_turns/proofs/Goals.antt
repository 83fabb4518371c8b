-- Goals by their numbers, those before one of them, and the turn of the first that is not decided.
use Rattle.std.proofs.Common.{◌≡◌, ◌<◌, ◌≤◌, ℕ, suc, All, Bool, true, false, ◌==◌, nat_lt, if◌then◌else◌, List, [], ◌∷◌, length, Some, None, refl, sym, ap, subst, ◌∙◌, arith}
use Rattle.std.proofs.lemmas.Bool.Decides.{nat_tests}
use Rattle.std.proofs.lemmas.List.Elements.{All-head, All-tail}
use Rattle.std.proofs.lemmas.Option.{none-some, same_Some}
use Rattle.pl_lemmas.specs.Words.{numbered}
use Rattle.pl_lemmas.proofs.Numbers.{equal_numbers}
use Rattle.pl_state.specs.declared.goal.Goal.{Goal}
use Rattle.pl_model.specs.declared.decided.Decided.{Decided}
use Rattle.pl_model.specs.declared.errand.Closed.{Closed}
use Rattle.pl_model.specs.declared.fixed.Fixed.{Fixed}
use Rattle.pl_model.specs.Decisions.{turn_in, turn_of}
use Rattle.pl_turns.specs.Goals.{goals_before}

-- ---- numbers

pub numbered_within : {X : Type 0} (xs : List X) (n : ℕ) (x : X) → numbered xs n ≡ Some x → n < length xs
numbered_within [] n x h = absurd (none-some x h)
numbered_within {X = X} (newest ∷ earlier) n x h = by (length earlier == n) refl h (numbered_within earlier n x)
  where
    by : (b : Bool) → (length earlier == n) ≡ b → (if b then Some newest else numbered earlier n) ≡ Some x
        → (numbered earlier n ≡ Some x → n < length earlier) → n < suc (length earlier)
    by true is here rest = let same : length earlier ≡ n = equal_numbers (length earlier) n is in omega arith
    by false is later rest = let less : n < length earlier = rest later in omega arith

numbered_past : {X : Type 0} (xs : List X) (n : ℕ) → length xs ≤ n → numbered xs n ≡ None
numbered_past [] n most = refl
numbered_past {X = X} (newest ∷ earlier) n most = by (length earlier == n) refl (numbered_past earlier n)
  where
    by : (b : Bool) → (length earlier == n) ≡ b → (length earlier ≤ n → numbered earlier n ≡ None)
        → (if b then Some newest else numbered earlier n) ≡ None
    by true is rest = absurd (let same : length earlier ≡ n = equal_numbers (length earlier) n is in omega arith)
    by false is rest = rest (omega arith)

-- ---- the goals before one

pub before_length : (goals : List Goal) (number : ℕ) → number < length goals → length (goals_before goals number) ≡ number
before_length [] number within = absurd (omega arith)
before_length (goal ∷ earlier) number within = by (length earlier == number) refl (before_length earlier number)
  where
    by : (b : Bool) → (length earlier == number) ≡ b → (number < length earlier → length (goals_before earlier number) ≡ number)
        → length (if b then earlier else goals_before earlier number) ≡ number
    by true is rest = equal_numbers (length earlier) number is
    by false is rest = rest (let low : number < suc (length earlier) = within in grind (arith, nat_tests))

-- among the goals before that of a number each has its number, and there are no others
pub numbered_before : (goals : List Goal) (number k : ℕ) → number < length goals
    → numbered (goals_before goals number) k ≡ (if nat_lt k number then numbered goals k else None)
numbered_before [] number k within = absurd (omega arith)
numbered_before (goal ∷ earlier) number k within = by (length earlier == number) refl (numbered_before earlier number k)
  where
    -- below a number that is no greater than that of the newest goal
    below : (b : Bool) → nat_lt k number ≡ b → number ≤ length earlier
        → (if b then numbered earlier k else None) ≡ (if b then (if length earlier == k then Some goal else numbered earlier k) else None)
    below true less most =
        let other : (length earlier == k) ≡ false = grind (arith, nat_tests) in
        ap (λ (b : Bool). if b then Some goal else numbered earlier k) (sym other)
    below false more most = refl

    here : (b : Bool) → nat_lt k number ≡ b → length earlier ≡ number → numbered earlier k ≡ (if b then numbered earlier k else None)
    here true less same = refl
    here false more same = numbered_past earlier k (let low : number ≤ k = grind (arith, nat_tests) in omega arith)

    by : (b : Bool) → (length earlier == number) ≡ b
        → (number < length earlier → numbered (goals_before earlier number) k ≡ (if nat_lt k number then numbered earlier k else None))
        → numbered (if b then earlier else goals_before earlier number) k
        ≡ (if nat_lt k number then (if length earlier == k then Some goal else numbered earlier k) else None)
    by true is rest =
        let same : length earlier ≡ number = equal_numbers (length earlier) number is in
        here (nat_lt k number) refl same ∙ below (nat_lt k number) refl (omega arith)
    by false is rest =
        let low : number < suc (length earlier) = within in
        let less : number < length earlier = grind (arith, nat_tests) in
        rest less ∙ below (nat_lt k number) refl (omega arith)

-- what holds of each holds of the one of a number
pub numbered_all : {X : Type 0} (P : X → Type 0) (xs : List X) (n : ℕ) (x : X) → All P xs → numbered xs n ≡ Some x → P x
numbered_all P [] n x all found = absurd (none-some x found)
numbered_all {X = X} P (newest ∷ earlier) n x all found =
    by (length earlier == n) found (numbered_all P earlier n x (All-tail P newest earlier all))
  where
    by : (b : Bool) → (if b then Some newest else numbered earlier n) ≡ Some x → (numbered earlier n ≡ Some x → P x) → P x
    by true here rest = subst P (same_Some newest x here) (All-head P newest earlier all)
    by false later rest = rest later

-- ---- the turn of the first goal that is not decided

module _ (run : Fixed) (answers : List Closed) (decided : List Decided) where
  pub turn_found : (goals : List Goal) (goal : Goal) → numbered goals (length decided) ≡ Some goal
      → turn_in run answers goals decided ≡ Some (turn_of run answers (goals_before goals (length decided)) decided goal)
  turn_found [] goal found = absurd (none-some goal found)
  turn_found (newest ∷ earlier) goal found = by (length earlier == length decided) found (turn_found earlier goal)
    where
      by : (b : Bool) → (if b then Some newest else numbered earlier (length decided)) ≡ Some goal
          → (numbered earlier (length decided) ≡ Some goal
          → turn_in run answers earlier decided ≡ Some (turn_of run answers (goals_before earlier (length decided)) decided goal))
          → (if b then Some (turn_of run answers earlier decided newest) else turn_in run answers earlier decided)
          ≡ Some (turn_of run answers (if b then earlier else goals_before earlier (length decided)) decided goal)
      by true here rest = ap (λ (it : Goal). Some (turn_of run answers earlier decided it)) (same_Some newest goal here)
      by false later rest = rest later

  pub turn_none : (goals : List Goal) → numbered goals (length decided) ≡ None → turn_in run answers goals decided ≡ None
  turn_none [] none = refl
  turn_none (newest ∷ earlier) none = by (length earlier == length decided) none (turn_none earlier)
    where
      by : (b : Bool) → (if b then Some newest else numbered earlier (length decided)) ≡ None
          → (numbered earlier (length decided) ≡ None → turn_in run answers earlier decided ≡ None)
          → (if b then Some (turn_of run answers earlier decided newest) else turn_in run answers earlier decided) ≡ None
      by true here rest = absurd (none-some newest (sym here))
      by false later rest = rest later
