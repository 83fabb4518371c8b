-- The rows of a chain are rows of the state at the start.
use Rattle.std.proofs.Common.{◌≡◌, ◌<◌, ℕ, zero, suc, Bool, true, false, ◌==◌, ◌||◌, if◌then◌else◌, List, [], ◌∷◌, ◌++◌, length, Option, Some, None, refl, sym, ◌∙◌, arith}
use Rattle.std.proofs.lemmas.List.Folds.{list_any-append}
use Rattle.pl_lemmas.specs.Words.{has_number}
use Rattle.pl_lemmas.proofs.Numbers.{equal_numbers}
use Rattle.pl_state.specs.Chain.{chain_among, joins}
use Rattle.pl_state.specs.declared.entry.Entry.{Entry}
use Rattle.pl_decide.specs.Limited.{is_delete_first}
use Rattle.pl_model.specs.declared.decided.Decided.{Decided}
use Rattle.pl_model.specs.declared.fixed.Fixed.{Fixed}
use Rattle.pl_model.specs.Run.{rows_of}
use Rattle.pl_model.specs.Claims.{chain_of_claim, chain_of_goal}

among_within : (rows : List Entry) (at count row : ℕ) → has_number (chain_among rows at count) row ≡ true → row < count
among_within rows at zero row h = absurd (let e : false ≡ true = h in cc)
among_within rows at (suc count) row h =
    by (joins rows at (chain_among rows at count) count) h
    (λ there. let less : row < count = among_within rows at count row there in omega arith)
  where
    last : (b c : Bool) → (count == row) ≡ c → (b || (c || false)) ≡ true → (b ≡ true → row < suc count) → row < suc count
    last true c is joined earlier = earlier refl
    last false true is joined earlier = let same : count ≡ row = equal_numbers count row is in omega arith
    last false false is joined earlier = absurd (let e : false ≡ true = joined in cc)

    by : (b : Bool) → has_number (if b then chain_among rows at count ++ count ∷ [] else chain_among rows at count) row ≡ true
        → (has_number (chain_among rows at count) row ≡ true → row < suc count) → row < suc count
    by true joined earlier =
        last (has_number (chain_among rows at count) row) (count == row) refl
        (sym (list_any-append (λ (other : ℕ). other == row) (chain_among rows at count) (count ∷ [])) ∙ joined) earlier
    by false passed earlier = earlier passed

pub chain_within : (run : Fixed) (one : Decided) (row : ℕ) → has_number (chain_of_goal run one) row ≡ true → row < length (rows_of run)
chain_within run one row h = by (is_delete_first one.decision) h
  where
    of_claim : (claim : Option ℕ) → has_number (chain_of_claim run claim) row ≡ true → row < length (rows_of run)
    of_claim None h = absurd (let e : false ≡ true = h in cc)
    of_claim (Some claimed) h = among_within (rows_of run) claimed (length (rows_of run)) row h

    by : (b : Bool) → has_number (if b then chain_of_claim run one.claim else []) row ≡ true → row < length (rows_of run)
    by true h = of_claim one.claim h
    by false h = absurd (let e : false ≡ true = h in cc)
