-- The outcome that the problems of a history give.
use Rattle.std.specs.Prelude.{ℕ, Option, None, Some, option_and_then}
use Rattle.pl_decide.specs.declared.outcome.Outcome.{Outcome}
use Rattle.pl_decide.specs.declared.outcome.Outcome.TheVariants as outcome
use Rattle.pl_decide.specs.declared.problem.Problem.{Problem}
use Rattle.pl_decide.specs.declared.problem.Problem.TheVariants as problem

-- the outcome that a problem at this position gives: its own where it has one, and else that the run failed
-- there; want of memory stands after every other
abbrev pub outcome_of_problem : ℕ → Problem → Option Outcome
outcome_of_problem at problem.StoreFault = Some outcome.StoreFault
outcome_of_problem at problem.StartFault = Some outcome.StartFault
outcome_of_problem at (problem.PipeFault child) = Some (outcome.PipeFault child)
outcome_of_problem at (problem.ChildEnded child) = Some (outcome.ChildEnded child)
outcome_of_problem at (problem.BadFrame child bytes) = Some (outcome.BadFrame child bytes)
outcome_of_problem at problem.TooManyResources = Some outcome.TooManyResources
outcome_of_problem at problem.NoMemory = None
outcome_of_problem at trouble = Some (outcome.Failed at trouble)

-- the outcome that a problem with its position gives
abbrev pub outcome_of_placed : Option (ℕ × Problem) → Option Outcome
outcome_of_placed placed = option_and_then (λ one. outcome_of_problem one.0 one.1) placed
