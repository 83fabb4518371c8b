-- Where recorded entries stand by their goals.
use Rattle.std.specs.Prelude.{◌≡◌, ℕ, Option, List, position}
use Rattle.std.specs.BTreeMap.{BTreeMap, get}
use Rattle.std.specs.Ordering.{nat_cmp}
use Rattle.pl_snap.specs.Calls.{is_goal}
use Rattle.pl_snap.specs.declared.fresh.Fresh.{Fresh}

-- the place that is kept of a goal
abbrev pub place_in : BTreeMap ℕ ℕ → ℕ → Option ℕ
place_in places goal = get nat_cmp places goal

-- the place that is kept of each goal is that of the first entry that was recorded of it
abbrev pub LeadsToFirst : BTreeMap ℕ ℕ → List Fresh → Type 0
LeadsToFirst places fresh = (goal : ℕ) → place_in places goal ≡ position (is_goal goal) fresh
