-- The list that a story tells, with one addition more.
use Rattle.std.proofs.Common.{◌≡◌, ℕ, List, [], ◌∷◌, ◌++◌, sym, ap, ◌∙◌}
use Rattle.std.specs.declared.snapshot.Snapshot.{Snapshot}
use Rattle.pl_decide.specs.declared.problem.Problem.{Problem}
use Rattle.pl_events.specs.declared.event.HostEnd.{HostEnd}
use Rattle.pl_events.specs.declared.event.Stop.{Stop}
use Rattle.pl_events.specs.declared.reply.Loss.{Loss}
use Rattle.pl_lemmas.specs.Words.{option_list}
use Rattle.pl_model.specs.Problems.{at_position, problem_of_end, problem_of_loss, problem_of_stop}
use Rattle.pl_troubles.specs.First.{problem_of_row}
use Rattle.pl_troubles.specs.Told.{told, told_step}
use Rattle.pl_troubles.specs.declared.first.RowProblem.{RowProblem}
use Rattle.pl_troubles.specs.declared.story.Story.{Story}
use Rattle.pl_troubles.specs.declared.story.Story.TheFolds.{fold-roll-Story}
use Rattle.pl_troubles.specs.declared.story.Story.TheOpen.{Story-F}
use Rattle.pl_troubles.specs.declared.story.Story.TheVariants as story

pub told_made : (at : ℕ) (problem : Snapshot Problem) (before : Snapshot Story)
    → told (story.Made at problem before) ≡ told before.value ++ (at, problem.value) ∷ []
told_made at problem before =
    ap told (sym (story.rolls-Made at problem before)) ∙ fold-roll-Story (List (ℕ × Problem)) told_step (Story-F.Made at problem before)

pub told_lost : (at lane : ℕ) (why : Snapshot Loss) (before : Snapshot Story)
    → told (story.Lost at lane why before) ≡ told before.value ++ (at, problem_of_loss lane why.value) ∷ []
told_lost at lane why before =
    ap told (sym (story.rolls-Lost at lane why before)) ∙ fold-roll-Story (List (ℕ × Problem)) told_step (Story-F.Lost at lane why before)

pub told_ended : (at : ℕ) (end : Snapshot HostEnd) (before : Snapshot Story)
    → told (story.Ended at end before) ≡ told before.value ++ at_position at (option_list (problem_of_end end.value))
told_ended at end before =
    ap told (sym (story.rolls-Ended at end before)) ∙ fold-roll-Story (List (ℕ × Problem)) told_step (Story-F.Ended at end before)

pub told_stopped : (at : ℕ) (stop : Stop) (before : Snapshot Story)
    → told (story.Stopped at stop before) ≡ told before.value ++ (at, problem_of_stop stop) ∷ []
told_stopped at stop before =
    ap told (sym (story.rolls-Stopped at stop before)) ∙ fold-roll-Story (List (ℕ × Problem)) told_step (Story-F.Stopped at stop before)

pub told_left : (at : ℕ) (what : RowProblem) (urn : Snapshot (List ℕ)) (before : Snapshot Story)
    → told (story.Left at what urn before) ≡ told before.value ++ (at, problem_of_row what urn.value) ∷ []
told_left at what urn before =
    ap told (sym (story.rolls-Left at what urn before)) ∙ fold-roll-Story (List (ℕ × Problem)) told_step (Story-F.Left at what urn before)
