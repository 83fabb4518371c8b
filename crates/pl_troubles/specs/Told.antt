-- The story of problems as a list.
use Rattle.std.specs.Prelude.{ℕ, List, [], ◌∷◌, ◌++◌}
use Rattle.pl_decide.specs.declared.problem.Problem.{Problem}
use Rattle.pl_lemmas.specs.Words.{option_list}
use Rattle.pl_model.specs.Problems.{at_position, problem_of_end, problem_of_loss, problem_of_stop}
use Rattle.pl_troubles.specs.First.{problem_of_row}
use Rattle.pl_troubles.specs.declared.story.Story.{Story, fold-Story}
use Rattle.pl_troubles.specs.declared.story.Story.TheOpen.{Story-F}

abbrev pub told_step : Story-F (List (ℕ × Problem)) → List (ℕ × Problem)
told_step Story-F.Start = []
told_step (Story-F.Made at problem before) = before.value ++ (at, problem.value) ∷ []
told_step (Story-F.Lost at lane why before) = before.value ++ (at, problem_of_loss lane why.value) ∷ []
told_step (Story-F.Ended at end before) = before.value ++ at_position at (option_list (problem_of_end end.value))
told_step (Story-F.Stopped at stop before) = before.value ++ (at, problem_of_stop stop) ∷ []
told_step (Story-F.Left at what urn before) = before.value ++ (at, problem_of_row what urn.value) ∷ []

-- the problems in order, each with its position
abbrev pub told : Story → List (ℕ × Problem)
told = fold-Story (List (ℕ × Problem)) told_step
