-- What the journal keeps beside its history, and how a stop changes the history.
use Rattle.std.specs.Prelude.{◌≡◌, ℕ, Bool, true, ◌||◌, if◌then◌else◌, is_some, None, List, ◌∷◌, map}
use Rattle.pl_events.specs.Closing.{has_stop}
use Rattle.pl_events.specs.declared.event.Event.{Event}
use Rattle.pl_events.specs.declared.event.Stop.{Stop}
use Rattle.pl_events.specs.declared.event.Request.TheVariants.{Register}
use Rattle.pl_events.specs.declared.event.What.TheVariants.{Told, Kept, Posted}
use Rattle.pl_state.specs.declared.goal.Registration.{Registration}
use Rattle.pl_checkpoint_text.specs.Pieces.{entry_text}
use Rattle.pl_components.specs.Run.{Fixed, state_with}
use Rattle.pl_model.specs.Causes.{has_want}
use Rattle.pl_components.specs.Problems.{has_problem, least_outcome}
use Rattle.pl_components.specs.Requests.{last_number}
use Rattle.pl_components.specs.Entries.{new_entries}
use Rattle.pl_components.specs.Legal.{IsLegal}
pub use Rattle.pl_engine.specs.Closing.{end_event, stop_event}
use Rattle.pl_engine.specs.Spelled.{host_spelling}
use Rattle.pl_engine.specs.declared.journal.Journal.{Journal}

-- the run's fixed data, as the journal keeps them
abbrev pub run_of : Journal → Fixed
run_of journal = record {
  stack = journal.stack;
  project = journal.project;
  name = journal.state.stack;
  rest = journal.state.rest;
}

-- what the journal keeps is what its history says, and the history is legal
pub record Consistent (run : Fixed) (journal : Journal) : Type 0 where
  pub state : journal.state ≡ state_with run (new_entries run journal.history)
  pub stack : journal.stack ≡ run.stack
  pub project : journal.project ≡ run.project
  pub entries : journal.state.entries ≡ new_entries run journal.history
  pub texts : journal.texts ≡ map entry_text journal.state.entries
  pub last : journal.last ≡ last_number journal.history
  pub halted : journal.halted ≡ has_problem journal.history
  pub stopped : journal.stopped ≡ has_stop journal.history
  pub outcome : journal.outcome ≡ least_outcome journal.history
  pub known : journal.halted ≡ (is_some journal.outcome || journal.wanted)
  pub halting : journal.stopped ≡ true → journal.halted ≡ true
  pub wants : has_want journal.history ≡ true → journal.wanted ≡ true
  pub legal : IsLegal run host_spelling journal.history

-- the events that the journal appends
abbrev pub told_event : ℕ → Registration → Event
told_event n told = record { seat = 0; what = Told (Register n told) }

abbrev pub kept_event : ℕ → Event
kept_event goal = record { seat = 0; what = Kept goal None }

abbrev pub posted_event : ℕ → Event
posted_event n = record { seat = 0; what = Posted n }

-- the history after a stop: the first one stands alone
abbrev pub stopped_by : Stop → Bool → List Event → List Event
stopped_by stop stopped history =
    if stopped then history else stop_event stop ∷ history
