-- Columns and a history go together after a request is told, where they did before it.
use Rattle.std.proofs.Common.{◌≡◌, ℕ, ◌+◌, Bool, true, false, not, List, ◌∷◌, length, is_some, refl, sym, ◌∙◌, ap, arith}
use Rattle.pl_columns.specs.Read.{history_by, known_by, summary_by}
use Rattle.pl_columns.specs.declared.columns.Columns.{Columns}
use Rattle.pl_columns.proofs.Read.{recorded_read}
use Rattle.pl_decide.specs.declared.problem.Problem.{Problem}
use Rattle.pl_events.specs.Closing.{has_host_end}
use Rattle.pl_events.specs.Seen.{Seen}
use Rattle.pl_events.specs.declared.event.Event.{Event}
use Rattle.pl_events.specs.declared.event.Request.{Request}
use Rattle.pl_events.specs.declared.event.What.TheVariants.{Told}
use Rattle.pl_lemmas.specs.Words.{has_number, numbered}
use Rattle.pl_lemmas.proofs.Truth.{neither_left}
use Rattle.pl_model.specs.declared.fixed.Fixed.{Fixed}
use Rattle.pl_model.specs.History.{known_of}
use Rattle.pl_model.specs.Known.{Known, is_decided, is_recorded}
use Rattle.pl_model.specs.Legal.{MayHappen}
use Rattle.pl_model.specs.Problems.{made_problems}
use Rattle.pl_model.specs.Run.{has_host}
use Rattle.pl_model.specs.Step.{Summary, known_in, settle, settled, tell}
use Rattle.pl_model_stays.proofs.Goals.Recorded.{recorded-held}
use Rattle.pl_model_stays.proofs.Goals.Staying.{IsThere, recorded-as}
use Rattle.pl_model_stays.proofs.Lists.Growing.{run_of}
use Rattle.pl_requests.specs.Column.{IsTold}
use Rattle.pl_told.specs.Column.{Change}
use Rattle.pl_troubles.specs.Follows.{with_all}
use Rattle.pl_course.specs.Kept.{kept_after}
use Rattle.pl_course.specs.Laws.{Laws}
use Rattle.pl_course.specs.Telling.{IsToldAt, TellSame, told_columns, with_told}
use Rattle.pl_course.specs.Together.{GoTogether}
use Rattle.pl_course.proofs.Steps.{told_on}
use Rattle.pl_course.proofs.Together.{moved, used}

-- ---- what is known before

not_false : (b : Bool) → not b ≡ false → b ≡ true
not_false true h = refl
not_false false h = absurd (let e : true ≡ false = h in cc)

module _ (columns : Columns) (history : Seen) (both : GoTogether columns history) where
  abbrev run : Fixed
  run = columns.claims.run

  abbrev past : List Event
  past = history.events

  abbrev known : Known
  known = known_of run past

  -- a request is told in a run with a host
  pub hosted : (seat : ℕ) (request : Request) → MayHappen known seat (Told request) → has_host run.mode ≡ true
  hosted seat request may =
      ap (λ (fixed : Fixed). has_host fixed.mode) (sym (run_of run past))
      ∙ not_false (has_host known.run.mode) (neither_left (not (has_host known.run.mode)) (has_host_end known.history) may.host_open)

  -- something is decided of each goal that is recorded
  pub recorded_decided : (goal : ℕ) → is_recorded (known_by columns) goal ≡ true → is_decided (known_by columns) goal ≡ true
  recorded_decided goal recorded =
      let there : IsThere known goal =
      recorded-held run past goal both.orderly
      (recorded-as run past goal ∙ sym (ap (λ (kept : Summary). has_number kept.recorded goal) both.told)
      ∙ sym (recorded_read columns goal) ∙ recorded) in
      ap (λ (kept : Summary). is_some (numbered kept.decided goal)) both.told ∙ ap is_some there.2.decided

  -- columns that tell the same go together with the same history
  pub tell_same : (other : Columns) → TellSame columns other → GoTogether other history
  tell_same other same =
      moved
      (λ i. record {
        requests = record other.requests { goals = same.goals i; asked = same.asked i };
        errands = same.errands i;
        claims = record other.claims { run = same.run i; decided = same.decided i };
        records = same.records i;
        troubles = same.troubles i;
      })
      refl
      (record {
        orderly = both.orderly;
        told = both.told;
        names = both.names;
        removals = both.removals;
        clears = both.clears;
        room = both.room;
      })

-- ---- what is known after

module _ (laws : Laws) (columns : Columns) (history : Seen) (both : GoTogether columns history) where
  -- the summary of the columns, at the position of the next event
  abbrev counted : Summary
  counted = record (summary_by columns) { count = length history.events }

  -- the problems of the event are those that the step makes
  made_same : (request : Request) (change : Change) (ready : ℕ) → IsTold (known_by columns) request change
      → made_problems (known_by columns) (known_by (with_told change ready columns)) (Told request)
      ≡ made_problems (known_in columns.claims.run counted)
      (known_in columns.claims.run (settle columns.claims.run (tell columns.claims.run counted request))) (Told request)
  unfolding history_by
  made_same request change ready is = λ i.
      made_problems (known_by columns)
      (record (known_by columns) {
        goals = is.goals i;
        decided = settled columns.claims.run columns.errands.tickets.answers columns.claims.decided (is.goals i);
        asked = is.heard i ∷ columns.requests.asked;
      })
      (Told request)

  summary_told : (seat : ℕ) (request : Request) (change : Change) (ready : ℕ) (problems : List Problem)
      → IsTold (known_by columns) request change
      → problems ≡ made_problems (known_by columns) (known_by (with_told change ready columns)) (Told request)
      → summary_by (told_columns (length history.events) change ready problems columns)
      ≡ kept_after columns.claims.run (length history.events) seat (Told request) (summary_by columns)
  unfolding history_by
  summary_told seat request change ready problems is made = λ i. record (summary_by columns) {
    goals = is.goals i;
    decided = settled columns.claims.run columns.errands.tickets.answers columns.claims.decided (is.goals i);
    asked = is.heard i ∷ columns.requests.asked;
    problems = with_all (length history.events) ((made ∙ made_same request change ready is) i) columns.troubles;
  }

  told_on_top : (seat : ℕ) (request : Request) (change : Change) (ready : ℕ) (problems : List Problem)
      → MayHappen (known_of columns.claims.run history.events) seat (Told request) → IsTold (known_by columns) request change
      → problems ≡ made_problems (known_by columns) (known_by (with_told change ready columns)) (Told request)
      → GoTogether (told_columns (length history.events) change ready problems columns)
      (used seat (Told request) (record history { room = history.room + 1 }))
  told_on_top seat request change ready problems may is made =
      let room = both.room in
      record {
        orderly = (both.orderly, may);
        told =
            summary_told seat request change ready problems is made
            ∙ told_on laws.steps columns.claims.run history.events (summary_by columns) seat (Told request) both.told;
        names = both.names;
        removals = both.removals;
        clears = both.clears;
        room = omega arith;
      }

  pub told : (seat : ℕ) (request : Request) (after : Columns) → MayHappen (known_of columns.claims.run history.events) seat (Told request)
      → IsToldAt (length history.events) request columns after
      → GoTogether after (used seat (Told request) (record history { room = history.room + 1 }))
  told seat request after may is =
      moved is.columns refl (told_on_top seat request is.change is.ready is.problems may is.told is.made)
