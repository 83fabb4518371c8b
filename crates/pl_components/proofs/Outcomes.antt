-- The outcome of a component run's problems.
use Rattle.std.proofs.Common.{◌≡◌, ℕ, Bool, true, false, List, [], ◌∷◌, length, find, Option, Some, None, refl, sym, ◌∙◌, ap}
use Rattle.std.specs.Option.{option_or}
use Rattle.std.proofs.lemmas.List.Folds.{find-append}
use Rattle.pl_decide.specs.declared.outcome.Outcome.{Outcome}
use Rattle.pl_decide.specs.declared.problem.Problem.{Problem}
use Rattle.pl_decide.specs.declared.problem.Problem.TheVariants as problem
use Rattle.pl_events.specs.declared.event.Event.{Event}
use Rattle.pl_model.specs.Known.{Known}
use Rattle.pl_model.specs.History.{is_no_want, problem_of}
use Rattle.pl_model.specs.Outcomes.{outcome_of_placed, outcome_of_problem}
use Rattle.pl_model.specs.Problems.{at_position}
use Rattle.pl_lemmas.specs.Words.{option_list}
use Rattle.pl_model.specs.Run.{Spelling}
use Rattle.pl_components.specs.Run.{Fixed}
use Rattle.pl_components.specs.Problems.{first_of, least_outcome, outcome_of_event, problem_of_event}
use Rattle.pl_components.specs.Whole.{IsComponentRun, whole}
use Rattle.pl_components.proofs.Knowing.{known_is, placed_of}

abbrev first_placed : List (ℕ × Problem) → Option (ℕ × Problem)
first_placed placed = find (λ (one : ℕ × Problem). is_no_want one.1) placed

outcome_one : (at : ℕ) (trouble : Problem) → outcome_of_problem at trouble ≡ outcome_of_placed (first_placed ((at, trouble) ∷ []))
outcome_one at problem.NoMemory = refl
outcome_one at problem.MessageTooLong = refl
outcome_one at problem.StoreFault = refl
outcome_one at (problem.PipeFault child) = refl
outcome_one at (problem.ChildEnded child) = refl
outcome_one at (problem.BadFrame child bytes) = refl
outcome_one at problem.TooManyResources = refl
outcome_one at problem.StartFault = refl
outcome_one at trouble = refl

outcome_event : (at : ℕ) (trouble : Option Problem) → outcome_of_event at trouble ≡ outcome_of_placed (first_placed (at_position at (option_list trouble)))
outcome_event at None = refl
outcome_event at (Some trouble) = outcome_one at trouble

-- what is no want of memory has an outcome
has_outcome : (at : ℕ) (trouble : Problem) → is_no_want trouble ≡ true → (outcome : Outcome) × (outcome_of_problem at trouble ≡ Some outcome)
has_outcome at problem.NoMemory h = absurd (let e : false ≡ true = h in cc)
has_outcome at problem.MessageTooLong h = (_, refl)
has_outcome at problem.StoreFault h = (_, refl)
has_outcome at (problem.PipeFault child) h = (_, refl)
has_outcome at (problem.ChildEnded child) h = (_, refl)
has_outcome at (problem.BadFrame child bytes) h = (_, refl)
has_outcome at problem.TooManyResources h = (_, refl)
has_outcome at problem.StartFault h = (_, refl)
has_outcome at trouble h = (_, refl)

first_kept : (placed : List (ℕ × Problem)) (later : Option (ℕ × Problem))
    → first_of (outcome_of_placed (first_placed placed)) (outcome_of_placed later) ≡ outcome_of_placed (option_or (first_placed placed) later)
first_kept [] later = refl
first_kept ((at, trouble) ∷ placed) later = by (is_no_want trouble) refl (first_kept placed later)
  where
    found : is_no_want trouble ≡ true → first_of (outcome_of_problem at trouble) (outcome_of_placed later) ≡ outcome_of_problem at trouble
    found is = let some : (outcome : Outcome) × (outcome_of_problem at trouble ≡ Some outcome) = has_outcome at trouble is in
        ap (λ (o : Option Outcome). first_of o (outcome_of_placed later)) some.1 ∙ sym some.1

    by : (b : Bool) → is_no_want trouble ≡ b
        → first_of (outcome_of_placed (first_placed placed)) (outcome_of_placed later) ≡ outcome_of_placed (option_or (first_placed placed) later)
        → first_of (outcome_of_placed (first_placed ((at, trouble) ∷ placed))) (outcome_of_placed later)
        ≡ outcome_of_placed (option_or (first_placed ((at, trouble) ∷ placed)) later)
    by true is rest = rw is (found is)
    by false is rest = rw is rest

least_placed : (past : List Event) → least_outcome past ≡ outcome_of_placed (first_placed (placed_of past))
least_placed [] = refl
least_placed (event ∷ past) =
    ap (λ (o : Option Outcome). first_of o (outcome_of_event (length past) (problem_of_event event.what))) (least_placed past)
    ∙ ap (λ (o : Option Outcome). first_of (outcome_of_placed (first_placed (placed_of past))) o) (outcome_event (length past) (problem_of_event event.what))
    ∙ first_kept (placed_of past) (first_placed (at_position (length past) (option_list (problem_of_event event.what))))
    ∙ ap (λ (o : Option (ℕ × Problem)). outcome_of_placed o) (sym (find-append (λ (one : ℕ × Problem). is_no_want one.1) (placed_of past) (at_position (length past) (option_list (problem_of_event event.what)))))

pub outcomes_agree : (run : Fixed) (parallel : ℕ) (spelling : Spelling) (history : List Event) → IsComponentRun run spelling history
    → least_outcome history ≡ outcome_of_placed (problem_of (whole run parallel) history)
outcomes_agree run parallel spelling history h =
    least_placed history ∙ ap (λ (known : Known). outcome_of_placed (first_placed known.problems)) (sym (known_is run parallel spelling history h))
