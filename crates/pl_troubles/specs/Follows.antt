-- The problems follow the summary of a history.
use Rattle.std.specs.Prelude.{◌≡◌, ℕ, Option, Some, None, if◌then◌else◌, List, [], ◌∷◌, ◌++◌}
use Rattle.pl_decide.specs.declared.problem.Problem.{Problem}
use Rattle.pl_events.specs.declared.event.HostEnd.{HostEnd}
use Rattle.pl_events.specs.declared.event.What.{What}
use Rattle.pl_events.specs.declared.event.What.TheVariants.{Told, HostGone, Answered, Lost, Kept, Stopped}
use Rattle.pl_events.specs.declared.reply.Loss.{Loss}
use Rattle.pl_lemmas.specs.Words.{option_list}
use Rattle.pl_model.specs.Problems.{at_position, end_problems, ends_well, made_problems, problem_of_end, problem_of_loss, problem_of_stop, start_problems}
use Rattle.pl_model.specs.Step.{Summary, changed, known_in, summary_of}
use Rattle.pl_model.specs.Tickets.{errand_at}
use Rattle.pl_model.specs.declared.errand.Errand.{Errand}
use Rattle.pl_model.specs.declared.fixed.Fixed.{Fixed}

-- ---- what a call adds

abbrev pub with_problem : ℕ → Problem → List (ℕ × Problem) → List (ℕ × Problem)
with_problem at problem problems = problems ++ (at, problem) ∷ []

abbrev pub with_all : ℕ → List Problem → List (ℕ × Problem) → List (ℕ × Problem)
with_all at more problems = problems ++ at_position at more

abbrev pub with_end : ℕ → HostEnd → List (ℕ × Problem) → List (ℕ × Problem)
with_end at end problems = with_all at (option_list (problem_of_end end)) problems

-- the loss of an operation, on its lane
abbrev pub with_loss : ℕ → Option Errand → Loss → List (ℕ × Problem) → List (ℕ × Problem)
with_loss at None why problems = problems
with_loss at (Some errand) why problems = with_problem at (problem_of_loss errand.lane why) problems

-- ---- what an event makes

-- a later summary with the problems of this one
abbrev pub but_problems : Summary → Summary → Summary
but_problems before later = record later { problems = before.problems }

-- the problems of what is left, where the run is over by the event
abbrev pub ending : Fixed → Summary → Summary → What → List Problem
ending run before later what =
    if ends_well (known_in run before) (known_in run later) what then end_problems (known_in run later) else []

-- the problems that an event makes of itself and by what it decides
abbrev pub making : Fixed → Summary → Summary → What → List Problem
making run before later what = made_problems (known_in run before) (known_in run later) what

-- the problems with one event more; `later` is the summary with that event, but for its problems
abbrev pub problems_after : Fixed → Summary → Summary → What → List (ℕ × Problem) → List (ℕ × Problem)
problems_after run before later (Told request) problems =
    with_all before.count (making run before later (Told request)) problems
problems_after run before later (HostGone end) problems =
    with_all before.count (ending run before later (HostGone end)) (with_end before.count end problems)
problems_after run before later (Answered ticket reply) problems =
    with_all before.count (ending run before later (Answered ticket reply))
    (with_all before.count (making run before later (Answered ticket reply)) problems)
problems_after run before later (Lost ticket why) problems =
    with_loss before.count (errand_at (known_in run before).history ticket) why problems
problems_after run before later (Kept goal fresh) problems =
    with_all before.count (ending run before later (Kept goal fresh)) problems
problems_after run before later (Stopped stop) problems = with_problem before.count (problem_of_stop stop) problems
problems_after run before later _ problems = problems

-- the problems follow the summary event by event, from those before any event
pub record TroublesFollow : Type 0 where
  pub none : (run : Fixed) → (summary_of run []).problems ≡ start_problems run
  pub changes : (run : Fixed) (before : Summary) (seat : ℕ) (what : What)
      → (changed run before seat what).problems ≡ problems_after run before (but_problems before (changed run before seat what)) what before.problems
