-- How the problems are kept.
use Rattle.std.specs.Prelude.{◌≡◌, ℕ, List, find}
use Rattle.pl_decide.specs.declared.problem.Problem.{Problem}
use Rattle.pl_model.specs.History.{is_no_want}
use Rattle.pl_troubles.specs.First.{FirstTells, want_place}
use Rattle.pl_troubles.specs.Told.{told}
use Rattle.pl_troubles.specs.declared.marks.Marks.{Marks}
use Rattle.pl_troubles.specs.declared.troubles.Troubles.TheInside.{Inside}

abbrev pub listed_by : Inside → List (ℕ × Problem)
listed_by inside = told inside.list.value

-- what is in memory tells the first problems of the list
pub record AreMarked (marks : Marks) (problems : List (ℕ × Problem)) : Type 0 where
  pub first : FirstTells marks.first (find (λ placed. is_no_want placed.1) problems)
  pub wanted : marks.wanted ≡ want_place problems

abbrev pub IsKept : Inside → Type 0
IsKept inside = AreMarked inside.marks (listed_by inside)
