-- The first problems of a list.
use Rattle.std.specs.Prelude.{⊤, ◌≡◌, ◌⊎◌, ℕ, not, Option, Some, None, List, find, option_map}
use Rattle.std.specs.Option.{option_or}
use Rattle.pl_decide.specs.declared.problem.Problem.{Problem}
use Rattle.pl_decide.specs.declared.problem.Problem.TheVariants as problem
use Rattle.pl_events.specs.declared.event.HostEnd.{HostEnd}
use Rattle.pl_events.specs.declared.event.Stop.{Stop}
use Rattle.pl_events.specs.declared.reply.Loss.{Loss}
use Rattle.pl_model.specs.History.{is_no_want}
use Rattle.pl_model.specs.Problems.{problem_of_end, problem_of_loss, problem_of_stop}
use Rattle.pl_troubles.specs.declared.first.First.{First}
use Rattle.pl_troubles.specs.declared.first.First.TheVariants.{Made, OfEvent, OfRow}
use Rattle.pl_troubles.specs.declared.first.RowProblem.{RowProblem}
use Rattle.pl_troubles.specs.declared.first.RowProblem.TheVariants as row_problem

-- the position of its event
abbrev pub place_of : First → ℕ
place_of (Made at problem) = at
place_of (OfEvent at) = at
place_of (OfRow at what row) = at

-- a problem that an event is by itself: a loss, a host's end or a stop
abbrev pub IsOfEvent : Problem → Type 0
IsOfEvent problem =
    ((lane : ℕ) × (why : Loss) × (problem_of_loss lane why ≡ problem))
    ⊎ (((end : HostEnd) × (problem_of_end end ≡ Some problem)) ⊎ ((stop : Stop) × (problem_of_stop stop ≡ problem)))

-- the problem that a row with this URN is
abbrev pub problem_of_row : RowProblem → List ℕ → Problem
problem_of_row row_problem.Protected urn = problem.Protected urn
problem_of_row row_problem.MissingProvider urn = problem.MissingProvider urn
problem_of_row row_problem.NotPermitted urn = problem.NotPermitted urn

-- what is kept of a problem: itself with its position, the position alone where its event tells it, or the position
-- with what is wrong with some row
abbrev pub IsKeptOf : First → ℕ × Problem → Type 0
IsKeptOf (Made at problem) placed = placed ≡ (at, problem)
IsKeptOf (OfEvent at) placed = (placed.0 ≡ at) × IsOfEvent placed.1
IsKeptOf (OfRow at what row) placed = (placed.0 ≡ at) × (urn : List ℕ) × (problem_of_row what urn ≡ placed.1)

-- what is kept of the first problem, if there is one
abbrev pub FirstTells : Option First → Option (ℕ × Problem) → Type 0
FirstTells None None = ⊤
FirstTells None (Some placed) = ⊥
FirstTells (Some first) None = ⊥
FirstTells (Some first) (Some placed) = IsKeptOf first placed

-- the position of the first problem other than want of memory
abbrev pub first_place : List (ℕ × Problem) → Option ℕ
first_place problems = option_map (λ placed. placed.0) (find (λ placed. is_no_want placed.1) problems)

-- the position of the first want of memory
abbrev pub want_place : List (ℕ × Problem) → Option ℕ
want_place problems = option_map (λ placed. placed.0) (find (λ placed. not (is_no_want placed.1)) problems)

-- the position of the least problem: want of memory counts where no other stands
abbrev pub least_place : List (ℕ × Problem) → Option ℕ
least_place problems = option_or (first_place problems) (want_place problems)
