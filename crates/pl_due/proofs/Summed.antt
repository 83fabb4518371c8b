-- Columns that are those of a history's summary tell the history.
use Rattle.std.proofs.Common.{◌≡◌, ◌∙◌, ℕ, ◌==◌, ◌&&◌, List, [], find, reverse, None, option_and_then, sym, ap, subst}
use Rattle.std.specs.List.{list_any}
use Rattle.pl_columns.specs.Read.{history_by, known_by}
use Rattle.pl_columns.specs.declared.columns.Columns.{Columns}
use Rattle.pl_events.specs.declared.event.Event.{Event}
use Rattle.pl_model.specs.Due.{count_of}
use Rattle.pl_model.specs.History.{known_of}
use Rattle.pl_model.specs.Known.{Known}
use Rattle.pl_model.specs.Step.{known_in as known_by_summary, plain_history, summary_of}
use Rattle.pl_model.specs.Tickets.{begun_of, is_lost, lane_source, loses, source_begun}
use Rattle.pl_model.specs.declared.errand.Errand.{Errand}
use Rattle.pl_model.specs.declared.fixed.Fixed.{Fixed}
use Rattle.pl_model_step.specs.Law.{SummaryTells}
use Rattle.pl_model_step.specs.Reads.{KnowsSame, PlainReadsSame, ReadsSame, SummaryKnowsSame}
use Rattle.pl_model_step.proofs.Plain.{plain_begun}
use Rattle.pl_model_step.proofs.PlainTickets.{plain_lost}
use Rattle.pl_model_stays.proofs.Lists.Growing.{run_of}
use Rattle.pl_model_stays.proofs.Operations.Once.{history_of}
use Rattle.pl_due.specs.Seen.{Tells, known_after}
use Rattle.pl_due.specs.Summed.{AreColumns, ColumnsKnow, ColumnsTell}
use Rattle.pl_due.specs.declared.seen.Seen.{Seen}

-- what is known after a history is over its run, and of it
place : (run : Fixed) (history : List Event) → known_of run history ≡ record (known_of run history) { run = run; history = history }
place run history = λ i. record (known_of run history) { run = run_of run history i; history = history_of run history i }

module _ (columns : Columns) (run : Fixed) (history : List Event) (are : AreColumns columns run history) where
  -- the plain events are those of the history's summary
  plain_is : plain_history (summary_of run history) ≡ history_by columns
  unfolding history_by
  plain_is = sym (λ i. plain_history (record {
    count = 0;
    goals = are.goals i;
    decided = are.decided i;
    asked = are.asked i;
    problems = are.problems i;
    answers = are.answers i;
    begun = are.begun i;
    answered = are.answered i;
    lost = are.lost i;
    configured = are.configured i;
    recorded = are.recorded i;
    fresh = λ goal. are.fresh goal i;
    results = λ number goal one. None;
    removed = are.removed i;
    cleared = are.cleared i;
    posted = are.posted i;
    host_gone = are.host_gone i;
    stopped = are.stopped i;
    opened = [];
  }))

  known_is : known_by_summary run (summary_of run history) ≡ known_by columns
  known_is = λ i. record {
    run = sym are.same_run i;
    history = plain_is i;
    answers = sym are.answers i;
    goals = sym are.goals i;
    decided = sym are.decided i;
    asked = sym are.asked i;
    problems = sym are.problems i;
  }

module _ (seen : Seen) (run : Fixed) (history : List Event) (are : AreColumns seen.columns.now run history) where
  after_is : known_after seen history ≡ known_of run history
  after_is =
      (λ i. record {
        run = are.same_run i;
        history = history;
        answers = are.answers i;
        goals = are.goals i;
        decided = are.decided i;
        asked = are.asked i;
        problems = are.problems i;
      })
      ∙ sym (place run history)

  module _ (plain_reads : PlainReadsSame) (summary_knows : SummaryKnowsSame) (summary_tells : SummaryTells) where
    abbrev plain : List Event
    plain = plain_history (summary_of run history)

    begun_is : begun_of history ≡ begun_of plain
    begun_is = sym (plain_begun (summary_of run history))

    lost_is : (ticket : ℕ) → list_any (λ event. loses ticket event.what) history ≡ list_any (λ event. loses ticket event.what) plain
    lost_is ticket = (summary_tells run history).lost ticket ∙ sym (plain_lost (summary_of run history) ticket)

    sources_same : lane_source history ≡ lane_source plain
    sources_same = λ i lane.
        option_and_then (λ (errand : Errand). source_begun errand.op) (find (λ errand. errand.lane == lane) (reverse (begun_is i)))

    losses_same : is_lost history ≡ is_lost plain
    losses_same = λ i lane. list_any (λ errand. errand.lane == lane && lost_is errand.ticket i) (begun_is i)

    tells : count_of (known_of run history) ≡ seen.count → Tells seen history
    tells count = record {
      reads = subst (λ (events : List Event). ReadsSame history events) (plain_is seen.columns.now run history are) (plain_reads run history);
      knows =
          subst (λ (known : Known). KnowsSame (known_after seen history) known) (known_is seen.columns.now run history are)
          (subst (λ (known : Known). KnowsSame known (known_by_summary run (summary_of run history))) (sym after_is) (summary_knows run history));
      sources = sources_same ∙ ap lane_source (plain_is seen.columns.now run history are);
      lost = losses_same ∙ ap is_lost (plain_is seen.columns.now run history are);
      count = ap count_of after_is ∙ count;
    }

pub columns_know : ColumnsKnow
columns_know = after_is

pub columns_tell : PlainReadsSame → SummaryKnowsSame → SummaryTells → ColumnsTell
columns_tell plain_reads summary_knows summary_tells seen run history are = tells seen run history are plain_reads summary_knows summary_tells
