-- What is known before any event, and the problems that stand then.
use Rattle.std.proofs.Common.{◌≡◌, ◌∙◌, Bool, true, false, if◌then◌else◌, None, List, [], ap, sym}
use Rattle.pl_columns.specs.Read.{history_by, known_by}
use Rattle.pl_columns.specs.declared.columns.Columns.{Columns}
use Rattle.pl_decide.specs.declared.problem.Problem.{Problem}
use Rattle.pl_model.specs.Known as known
use Rattle.pl_model.specs.Known.{Known, is_over}
use Rattle.pl_model.specs.Problems.{at_position, end_problems, refresh_problems, start_problems}
use Rattle.pl_model.specs.Run.{is_refresh}
use Rattle.pl_model.specs.Step.{plain_history}
use Rattle.pl_model.specs.declared.fixed.Fixed.{Fixed}
use Rattle.pl_records.specs.Columns.{fresh_in}
use Rattle.pl_problems.specs.Fresh.{IsFresh}

pub fresh_known : (columns : Columns) → IsFresh columns → known_by columns ≡ known.known_by columns.claims.run [] [] [] []
unfolding history_by
fresh_known columns fresh = λ i. record {
  run = columns.claims.run;
  history = plain_history (record {
    count = 0;
    goals = fresh.goals i;
    decided = fresh.decided i;
    asked = fresh.asked i;
    problems = fresh.problems i;
    answers = (fresh.tickets i).answers;
    begun = (fresh.tickets i).begun;
    answered = (fresh.tickets i).answered;
    lost = (fresh.tickets i).lost;
    configured = (fresh.tickets i).configured;
    recorded = (fresh.records i).recorded;
    fresh = fresh_in (fresh.records i).kept;
    results = λ number goal one. None;
    removed = (fresh.records i).removed;
    cleared = (fresh.records i).cleared;
    posted = (fresh.records i).posted;
    host_gone = (fresh.records i).host_gone;
    stopped = (fresh.records i).stopped;
    opened = [];
  });
  answers = (fresh.tickets i).answers;
  goals = fresh.goals i;
  decided = fresh.decided i;
  asked = fresh.asked i;
  problems = fresh.problems i;
}

-- the problems of what is left, where the run is over
abbrev pub left_in : Known → List Problem
left_in what = if is_over what then end_problems what else []

pub starts_reading : (run : Fixed) (problems : List Problem) → is_refresh run.mode ≡ true → problems ≡ refresh_problems run
    → at_position 0 problems ≡ start_problems run
starts_reading run problems reads is =
    ap (at_position 0)
    (is
    ∙ ap (λ (b : Bool). if b then refresh_problems run else left_in (known.known_by run [] [] [] [])) (sym reads))

pub starts_else : (columns : Columns) (problems : List Problem) → IsFresh columns → is_refresh columns.claims.run.mode ≡ false
    → problems ≡ left_in (known_by columns) → at_position 0 problems ≡ start_problems columns.claims.run
starts_else columns problems fresh reads is =
    ap (at_position 0)
    (is
    ∙ ap left_in (fresh_known columns fresh)
    ∙ ap (λ (b : Bool). if b then refresh_problems columns.claims.run else left_in (known.known_by columns.claims.run [] [] [] [])) (sym reads))
