-- The rows that refer to a row.
use Rattle.std.proofs.Common.{◌≡◌, ℕ, ◌+◌, ◌<◌, ◌≤◌, Bool, true, false, cond, ◌⊎◌, ◌↔◌, inl, inr, List, [], ◌∷◌, ◌++◌, length, get_or, refl, sym, ◌∙◌, ap, arith, add-one, if◌then◌else◌}
use Rattle.std.proofs.lemmas.Bool.{and_from, and_parts, cases_lt}
use Rattle.std.proofs.lemmas.List.{append-nil, get_or_default, get_or_past}
use Rattle.std.proofs.lemmas.List.Elements.{filter-append}
use Rattle.std.proofs.lemmas.List.Kept.{IsStrictlyIncreasing-filter}
use Rattle.std.specs.List.{Contains, filter, range_with_len}
use Rattle.std.specs.List.Sorted.{IsStrictlyIncreasing}
use Rattle.pl_lemmas.proofs.Numbers.{range_more}
use Rattle.pl_graph.specs.Edges.{dependents_of, refers}
use Rattle.pl_graph.proofs.Members.{contains_from_has, has, has-contained, has-filter, has-range, range-rises}

-- the numbers below one more that pass
pub filter-range_more : (test : ℕ → Bool) (n : ℕ)
    → filter test (range_with_len 0 (n + 1)) ≡ (if test n then filter test (range_with_len 0 n) ++ n ∷ [] else filter test (range_with_len 0 n))
filter-range_more test n =
    ap (λ (k : ℕ). filter test (range_with_len 0 k)) (add-one n)
    ∙ ap (filter test) (range_more 0 n ∙ ap (λ (k : ℕ). range_with_len 0 n ++ k ∷ []) (omega arith))
    ∙ filter-append test (range_with_len 0 n) (n ∷ [])
    ∙ by (test n)
  where
    by : (b : Bool) → filter test (range_with_len 0 n) ++ cond b (n ∷ []) []
        ≡ (if b then filter test (range_with_len 0 n) ++ n ∷ [] else filter test (range_with_len 0 n))
    by true = refl
    by false = append-nil (filter test (range_with_len 0 n))

-- a row that refers to another is one of the graph
pub refers_within : (graph : List (List ℕ)) (from to : ℕ) → refers graph from to ≡ true → from < length graph
refers_within graph from to h = by (cases_lt from (length graph))
  where
    by : (from < length graph) ⊎ (length graph ≤ from) → from < length graph
    by (inl low) = low
    by (inr past) = absurd (let e : false ≡ true = ap (λ (targets : List ℕ). has targets to) (sym (get_or_past graph from [] past)) ∙ h in cc)

pub dependents-rise : (graph : List (List ℕ)) (row : ℕ) → IsStrictlyIncreasing (dependents_of graph row)
dependents-rise graph row =
    IsStrictlyIncreasing-filter (λ other. refers graph other row) (range_with_len 0 (length graph)) (range-rises (length graph))

pub dependents-refer : (graph : List (List ℕ)) (row other : ℕ) → Contains (dependents_of graph row) other ↔ (refers graph other row ≡ true)
dependents-refer graph row other = (
  λ held. (and_parts (has every other) (test other) (sym (has-filter test every other) ∙ has-contained (dependents_of graph row) other held)).1,
  λ h. contains_from_has (dependents_of graph row) other
      (has-filter test every other
      ∙ and_from (has every other) (test other) (has-range (length graph) other (refers_within graph other row h)) h),
)
  where
    every : List ℕ
    every = range_with_len 0 (length graph)

    test : ℕ → Bool
    test from = refers graph from row

-- ---- a step of the way through the rows

-- a row is put behind those that were found just where it refers to the row
pub dependents_more : (graph : List (List ℕ)) (row place : ℕ) (targets found : List ℕ)
    → found ≡ filter (λ other. refers graph other row) (range_with_len 0 place)
    → place < length graph → targets ≡ get_or graph place targets → (b : Bool) → b ≡ has targets row
    → (if b then found ++ place ∷ [] else found) ≡ filter (λ other. refers graph other row) (range_with_len 0 (place + 1))
dependents_more graph row place targets found so_far low here b is =
    ap (λ (rows : List ℕ). if b then rows ++ place ∷ [] else rows) so_far
    ∙ ap (λ (joins : Bool). if joins then before ++ place ∷ [] else before)
    (is ∙ ap (λ (ts : List ℕ). has ts row) (here ∙ get_or_default graph place targets [] low))
    ∙ sym (filter-range_more (λ other. refers graph other row) place)
  where
    before : List ℕ
    before = filter (λ other. refers graph other row) (range_with_len 0 place)
