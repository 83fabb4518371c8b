-- The closure of a row: it rises, and it has just the rows that reach the row.
use Rattle.std.proofs.Common.{◌≡◌, ℕ, zero, suc, ◌+◌, ◌<◌, ◌≤◌, ◌==◌, Bool, true, false, ◌||◌, if◌then◌else◌, ◌⊎◌, ◌↔◌, inl, inr, List, [], ◌∷◌, ◌++◌, length, get_or, refl, sym, ◌∙◌, ap, subst, arith, eq-or-lt_of_le, add-one, length-append}
use Rattle.std.proofs.lemmas.Bool.{cases_order, or_cases, or_left, or_right}
use Rattle.std.proofs.lemmas.Bool.Decides.{Decides-eqb, Decides-like, same_from_decides}
use Rattle.std.proofs.lemmas.List.{get_or_append_left, get_or_default, get_or_past, get_or_push}
use Rattle.std.specs.List.{Contains, list_any}
use Rattle.std.specs.List.Sorted.{IsStrictlyIncreasing}
use Rattle.pl_graph.specs.Closure.{closure_among, closure_of, closure_with, IsWay, joins, Reaches}
use Rattle.pl_graph.specs.Edges.{IsInOrder, refers}
use Rattle.pl_graph.proofs.Dependents.{refers_within}
use Rattle.pl_graph.proofs.Members.{contains_from_has, has, has-before, has-contained, has-last, has-other, last_or_before, one_passes, rising-push, some_pass}

module _ (refers_to : ℕ → ℕ → Bool) (at : ℕ) where
  -- the closure among the first rows
  abbrev among : ℕ → List ℕ
  among count = closure_among refers_to at count

  -- with a row more a closure has what it had
  with_more : (closure : List ℕ) (place n : ℕ) → has closure n ≡ true → has (closure_with refers_to at closure place) n ≡ true
  with_more closure place n h = by (joins refers_to at closure place)
    where
      by : (b : Bool) → has (if b then closure ++ place ∷ [] else closure) n ≡ true
      by true = has-before closure place n h
      by false = h

  -- and the row, if that joins it
  with_joined : (closure : List ℕ) (place : ℕ) → joins refers_to at closure place ≡ true → has (closure_with refers_to at closure place) place ≡ true
  with_joined closure place h =
      ap (λ (b : Bool). has (if b then closure ++ place ∷ [] else closure) place) h ∙ has-last closure place

  -- and nothing else
  with_parts : (closure : List ℕ) (place n : ℕ) → has (closure_with refers_to at closure place) n ≡ true
      → ((place ≡ n) × (joins refers_to at closure place ≡ true)) ⊎ (has closure n ≡ true)
  with_parts closure place n h = by (joins refers_to at closure place) refl h
    where
      put : joins refers_to at closure place ≡ true → (place ≡ n) ⊎ (has closure n ≡ true)
          → ((place ≡ n) × (joins refers_to at closure place ≡ true)) ⊎ (has closure n ≡ true)
      put is (inl same) = inl (same, is)
      put is (inr before) = inr before

      by : (b : Bool) → joins refers_to at closure place ≡ b → has (if b then closure ++ place ∷ [] else closure) n ≡ true
          → ((place ≡ n) × (joins refers_to at closure place ≡ true)) ⊎ (has closure n ≡ true)
      by true is h = put is (last_or_before closure place n h)
      by false is h = inr h

  -- the rows of a closure stand among those that it was sought among
  pub among-below : (count n : ℕ) → has (among count) n ≡ true → n < count
  among-below zero n h = absurd (let e : false ≡ true = h in cc)
  among-below (suc count) n h = by (with_parts (among count) count n h) (among-below count n)
    where
      by : ((count ≡ n) × (joins refers_to at (among count) count ≡ true)) ⊎ (has (among count) n ≡ true)
          → (has (among count) n ≡ true → n < count) → n < suc count
      by (inl end) rest = let same : count ≡ n = end.0 in omega arith
      by (inr before) rest = let less : n < count = rest before in omega arith

  pub among-rises : (count : ℕ) → IsStrictlyIncreasing (among count)
  among-rises zero = λ k within. absurd (omega arith)
  among-rises (suc count) = by (joins refers_to at (among count) count) (among-rises count)
    where
      by : (b : Bool) → IsStrictlyIncreasing (among count) → IsStrictlyIncreasing (if b then among count ++ count ∷ [] else among count)
      by true rise = rising-push (among count) count rise (among-below count)
      by false rise = rise

  -- a place is that of the row, or is in a closure
  abbrev IsIn : List ℕ → ℕ → Type 0
  IsIn closure place = (place ≡ at) ⊎ (has closure place ≡ true)

  -- a row that refers to the row, or to one of its closure, is in the closure
  among_closed : ((later earlier : ℕ) → refers_to later earlier ≡ true → earlier < later)
      → (count later earlier : ℕ) → refers_to later earlier ≡ true → later < count
      → IsIn (among count) earlier → has (among count) later ≡ true
  among_closed back zero later earlier refers low h = absurd (omega arith)
  among_closed back (suc count) later earlier refers low h =
      let most : later ≤ count = omega arith in
      by (eq-or-lt_of_le most) (before h) (among_closed back count later earlier refers)
    where
      last : ((count ≡ earlier) × (joins refers_to at (among count) count ≡ true)) ⊎ (has (among count) earlier ≡ true)
          → has (among count) earlier ≡ true
      last (inl end) =
          let same : count ≡ earlier = end.0 in
          let less : earlier < later = back later earlier refers in
          absurd (omega arith)
      last (inr has) = has

      before : IsIn (closure_with refers_to at (among count) count) earlier → IsIn (among count) earlier
      before (inl same) = inl same
      before (inr h) = inr (last (with_parts (among count) count earlier h))

      joining : IsIn (among count) earlier → joins refers_to at (among count) later ≡ true
      joining (inl same) =
          or_left (refers_to later at) _ (subst (λ (n : ℕ). refers_to later n ≡ true) same refers)
      joining (inr h) =
          or_right (refers_to later at) _ (some_pass (refers_to later) (among count) earlier h refers)

      by : (later ≡ count) ⊎ (later < count) → IsIn (among count) earlier
          → (later < count → IsIn (among count) earlier → has (among count) later ≡ true)
          → has (closure_with refers_to at (among count) count) later ≡ true
      by (inl same) h rest =
          subst (λ (n : ℕ). has (closure_with refers_to at (among count) n) later ≡ true) same
          (with_joined (among count) later (joining h))
      by (inr less) h rest = with_more (among count) count later (rest less h)

-- ---- the rows of a closure are just those that reach the row

module _ (graph : List (List ℕ)) (at : ℕ) where
  -- a row that joins a closure reaches the row
  joined_reaches : (closure : List ℕ) (place : ℕ) → ((n : ℕ) → has closure n ≡ true → Reaches graph n at)
      → joins (refers graph) at closure place ≡ true → Reaches graph place at
  joined_reaches closure place each h = by (or_cases (refers graph place at) (list_any (refers graph place) closure) h)
    where
      by : (refers graph place at ≡ true) ⊎ (list_any (refers graph place) closure ≡ true) → Reaches graph place at
      by (inl direct) = ([], direct)
      by (inr some) =
          let next = one_passes (refers graph place) closure some in
          let way : Reaches graph next.0 at = each next.0 next.1 in
          (next.0 ∷ way.0, (next.2, way.1))

  among_reaches : (count n : ℕ) → has (closure_among (refers graph) at count) n ≡ true → Reaches graph n at
  among_reaches zero n h = absurd (let e : false ≡ true = h in cc)
  among_reaches (suc count) n h =
      by (with_parts (refers graph) at (closure_among (refers graph) at count) count n h) (among_reaches count)
    where
      by : ((count ≡ n) × (joins (refers graph) at (closure_among (refers graph) at count) count ≡ true))
          ⊎ (has (closure_among (refers graph) at count) n ≡ true)
          → ((k : ℕ) → has (closure_among (refers graph) at count) k ≡ true → Reaches graph k at) → Reaches graph n at
      by (inl end) each =
          subst (λ (k : ℕ). Reaches graph k at) end.0 (joined_reaches (closure_among (refers graph) at count) count each end.1)
      by (inr before) each = each n before

  module _ (order : IsInOrder graph) where
    -- the first row of a way to the row is in the closure
    way_begins : (between : List ℕ) (from : ℕ) → IsWay graph from between at → has (closure_of graph at) from ≡ true
    way_begins [] from way =
        among_closed (refers graph) at order (length graph) from at way (refers_within graph from at way) (inl refl)
    way_begins (next ∷ others) from way =
        among_closed (refers graph) at order (length graph) from next way.0 (refers_within graph from next way.0)
        (inr (way_begins others next way.1))

    -- a way goes back
    way_back : (between : List ℕ) (from : ℕ) → IsWay graph from between at → at < from
    way_back [] from way = order from at way
    way_back (next ∷ others) from way =
        let less : next < from = order from next way.0 in
        let more : at < next = way_back others next way.1 in
        omega arith

    pub closure-reaches : (other : ℕ) → Contains (closure_of graph at) other ↔ Reaches graph other at
    closure-reaches other = (
      λ held. among_reaches (length graph) other (has-contained (closure_of graph at) other held),
      λ way. contains_from_has (closure_of graph at) other (way_begins way.0 other way.1),
    )

    pub closure-apart : Contains (closure_of graph at) at → ⊥
    closure-apart held =
        let way : Reaches graph at at = among_reaches (length graph) at (has-contained (closure_of graph at) at held) in
        let less : at < at = way_back way.0 at way.1 in
        omega arith

pub closure-rises : (graph : List (List ℕ)) (at : ℕ) → IsStrictlyIncreasing (closure_of graph at)
closure-rises graph at = among-rises (refers graph) at (length graph)

-- ---- a step of the way through the rows

moved : (a b c d : Bool) → ((a || b) || (c || d)) ≡ ((a || c) || (b || d))
moved true b c d = refl
moved false true true d = refl
moved false true false d = refl
moved false false c d = refl

-- some pass one of two tests just where some pass the one or some the other
some-either : (one other : ℕ → Bool) (numbers : List ℕ)
    → list_any (λ n. one n || other n) numbers ≡ (list_any one numbers || list_any other numbers)
some-either one other [] = refl
some-either one other (n ∷ numbers) =
    ap (λ (b : Bool). (one n || other n) || b) (some-either one other numbers)
    ∙ moved (one n) (other n) (list_any one numbers) (list_any other numbers)

-- a target is the row or marked, for some target, just where the row that has them joins the closure
target-joins : (targets found : List ℕ) (row : ℕ) (marks : List Bool) → ((k : ℕ) → get_or marks k false ≡ has found k)
    → list_any (λ target. target == row || get_or marks target false) targets
    ≡ (has targets row || list_any (λ earlier. has targets earlier) found)
target-joins [] found row marks told = sym (none found)
  where
    none : (numbers : List ℕ) → list_any (λ (n : ℕ). false) numbers ≡ false
    none [] = refl
    none (n ∷ numbers) = none numbers
target-joins (target ∷ others) found row marks told =
    ap (λ (b : Bool). (target == row || get_or marks target false) || b) (target-joins others found row marks told)
    ∙ ap (λ (b : Bool). (target == row || b) || (has others row || list_any (λ earlier. has others earlier) found)) (told target ∙ turned found)
    ∙ moved (target == row) (list_any (λ earlier. target == earlier) found) (has others row) (list_any (λ earlier. has others earlier) found)
    ∙ ap (λ (b : Bool). (target == row || has others row) || b) (sym (some-either (λ earlier. target == earlier) (λ earlier. has others earlier) found))
  where
    turned_test : (n : ℕ) → (n == target) ≡ (target == n)
    turned_test n =
        same_from_decides {P = n ≡ target} (n == target) (target == n) (Decides-eqb n target)
        (Decides-like (target == n) sym sym (Decides-eqb target n))

    turned : (numbers : List ℕ) → has numbers target ≡ list_any (λ earlier. target == earlier) numbers
    turned [] = refl
    turned (n ∷ numbers) =
        ap (λ (b : Bool). b || has numbers target) (turned_test n) ∙ ap (λ (b : Bool). target == n || b) (turned numbers)

-- the rows that were found and marked before a row, and with it
module _ (graph : List (List ℕ)) (row place : ℕ) (found targets : List ℕ) (marks : List Bool) (b : Bool)
    (listed : found ≡ closure_among (refers graph) row place) (count : length marks ≡ place)
    (told : (k : ℕ) → get_or marks k false ≡ has found k)
    (low : place < length graph) (here : targets ≡ get_or graph place targets)
    (is : b ≡ list_any (λ target. target == row || get_or marks target false) targets) where
  joins_is : b ≡ joins (refers graph) row found place
  joins_is =
      is
      ∙ target-joins targets found row marks told
      ∙ ap (λ (ts : List ℕ). has ts row || list_any (λ earlier. has ts earlier) found) (here ∙ get_or_default graph place targets [] low)

  pub listed_more : (if b then found ++ place ∷ [] else found) ≡ closure_among (refers graph) row (place + 1)
  listed_more =
      ap (λ (joined : Bool). if joined then found ++ place ∷ [] else found) joins_is
      ∙ ap (λ (closure : List ℕ). closure_with (refers graph) row closure place) listed
      ∙ ap (λ (next : ℕ). closure_among (refers graph) row next) (sym (add-one place))

  pub told_more : (k : ℕ) → get_or (marks ++ b ∷ []) k false ≡ has (if b then found ++ place ∷ [] else found) k
  told_more k = by (cases_order k place)
    where
      unmarked : has found place ≡ false
      unmarked = sym (told place) ∙ get_or_past marks place false (omega (arith, count))

      last : (joined : Bool) → joined ≡ has (if joined then found ++ place ∷ [] else found) place
      last true = sym (has-last found place)
      last false = sym unmarked

      other : (joined : Bool) → (place ≡ k → ⊥) → has found k ≡ has (if joined then found ++ place ∷ [] else found) k
      other true apart = sym (has-other found place k apart)
      other false apart = refl

      by : (k ≡ place) ⊎ ((k < place) ⊎ (place < k)) → get_or (marks ++ b ∷ []) k false ≡ has (if b then found ++ place ∷ [] else found) k
      by (inl same) =
          ap (λ (n : ℕ). get_or (marks ++ b ∷ []) n false) same
          ∙ get_or_push marks b false place count
          ∙ last b
          ∙ ap (λ (n : ℕ). has (if b then found ++ place ∷ [] else found) n) (sym same)
      by (inr (inl less)) =
          get_or_append_left marks (b ∷ []) false k (omega (arith, count))
          ∙ told k
          ∙ other b (λ same. absurd (omega arith))
      by (inr (inr more)) =
          get_or_past (marks ++ b ∷ []) k false (omega (arith, count, length-append marks (b ∷ [])))
          ∙ sym (get_or_past marks k false (omega (arith, count)))
          ∙ told k
          ∙ other b (λ same. absurd (omega arith))

-- ---- relations that agree

list_any-agree : (one other : ℕ → Bool) → ((n : ℕ) → one n ≡ other n) → (numbers : List ℕ) → list_any one numbers ≡ list_any other numbers
list_any-agree one other agree [] = refl
list_any-agree one other agree (n ∷ numbers) =
    ap (λ (b : Bool). b || list_any one numbers) (agree n) ∙ ap (λ (b : Bool). other n || b) (list_any-agree one other agree numbers)

-- two relations that say the same of the first rows give the same closure among them
pub closure-agrees : (one other : ℕ → ℕ → Bool) (at count : ℕ)
    → ((later earlier : ℕ) → later < count → one later earlier ≡ other later earlier)
    → closure_among one at count ≡ closure_among other at count
closure-agrees one other at zero agree = refl
closure-agrees one other at (suc count) agree =
    ap (λ (closure : List ℕ). closure_with one at closure count)
    (closure-agrees one other at count (λ later earlier low. agree later earlier (more later low)))
    ∙ ap (λ (joined : Bool). if joined then before ++ count ∷ [] else before) same
  where
    before : List ℕ
    before = closure_among other at count

    more : (later : ℕ) → later < count → later < suc count
    more later low = omega arith

    last : count < suc count
    last = omega arith

    same : joins one at before count ≡ joins other at before count
    same =
        ap (λ (b : Bool). b || list_any (one count) before) (agree count at last)
        ∙ ap (λ (b : Bool). other count at || b)
        (list_any-agree (one count) (other count) (λ earlier. agree count earlier last) before)
