-- Where the parents of rows stand.
use Rattle.std.specs.Prelude.{◌≡◌, ℕ, Option, List, [], ◌∷◌, ◌++◌}
use Rattle.std.specs.Borrow.{Bor}
use Rattle.std.specs.BTreeMap.{BTreeMap, get_by}
use Rattle.std.specs.Cmp.Lexicographic.{slice_cmp}
use Rattle.std.specs.Ordering.{nat_cmp}
use Rattle.pl_state.specs.Chain.{last_of_urn, last_place}
use Rattle.pl_state.specs.References.{has_urn}
use Rattle.pl_state.specs.declared.entry.Entry.{Entry}

-- the place that is kept of a URN
abbrev pub place_in : BTreeMap (Bor (List ℕ)) ℕ → List ℕ → Option ℕ
place_in places urn = get_by (λ key. slice_cmp nat_cmp urn key.now) places

-- the places of the parents of rows that stand behind others: of each row the last one before it with the URN that it
-- names
abbrev pub parents_behind : List Entry → List Entry → List (Option ℕ)
parents_behind before [] = []
parents_behind before (row ∷ rows) = last_of_urn row.parent before ∷ parents_behind (before ++ row ∷ []) rows

-- what is kept of rows tells the last row of each URN, and the parent of each row
pub record Leads (places : BTreeMap (Bor (List ℕ)) ℕ) (parents : List (Option ℕ)) (rows : List Entry) : Type 0 where
  pub last : (urn : List ℕ) → place_in places urn ≡ last_place (has_urn urn) rows
  pub above : parents ≡ parents_behind [] rows
