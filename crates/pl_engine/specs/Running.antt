-- How a run stands between two messages of the host, and when the host has ended.
use Rattle.std.specs.Prelude.{◌≡◌, ◌⊎◌, ℕ, Bool, true, false, map, reverse, IfSome, Option, Some, None, List, [], ◌∷◌}
use Rattle.pl_state.specs.declared.goal.Registration.{Registration}
use Rattle.pl_events.specs.Closing.{has_host_end}
use Rattle.pl_events.specs.declared.event.Event.{Event}
use Rattle.pl_events.specs.declared.event.What.{What}
use Rattle.pl_events.specs.declared.event.What.TheVariants.{Told, HostGone}
use Rattle.pl_components.specs.Run.{Fixed}
use Rattle.pl_components.specs.Problems.{has_problem}
use Rattle.pl_components.specs.Requests.{goals_of, may_be_next, waiting_of}
use Rattle.pl_components.specs.Entries.{entry_of, new_entries, unrecorded_of}
use Rattle.pl_engine.specs.Journal.{Consistent, told_event, stop_event, end_event}
use Rattle.pl_model.specs.Causes.{is_want_end}
use Rattle.pl_engine.specs.Kept.{KeptIn}
use Rattle.pl_events.specs.declared.event.Stop.{Stop}
use Rattle.pl_components.specs.HostLines.{HostTook}
use Rattle.pl_engine.specs.Spelled.{host_spelling}
use Rattle.pl_engine.specs.Answered.{Taken}
use Rattle.pl_engine.specs.Stored.{Adds}
use Rattle.pl_events.specs.declared.event.HostEnd.{HostEnd}
use Rattle.pl_events.specs.declared.event.HostEnd.TheVariants.{BadFrame, NoMemory}
use Rattle.pl_events.specs.declared.event.Request.{Request}
use Rattle.pl_engine.specs.declared.journal.Journal.{Journal}

-- without a problem every goal is recorded, in the order of the goals
pub record AllRecorded (run : Fixed) (history : List Event) : Type 0 where
  pub recorded : has_problem history ≡ false → unrecorded_of run history ≡ []
  pub in_order : has_problem history ≡ false → new_entries run history ≡ map entry_of (reverse (goals_of run history))

-- between two messages: every request is answered unless the writing half failed, and without a problem
-- every goal is recorded
pub record AtRest (run : Fixed) (journal : Journal) (failed : Bool) : Type 0 where
  pub consistent : Consistent run journal
  pub host_open : has_host_end journal.history ≡ false
  pub answered : failed ≡ false → waiting_of run journal.history ≡ []
  pub recorded : AllRecorded run journal.history
  pub failing : failed ≡ true → journal.stopped ≡ true

-- work that the engine did
abbrev pub is_work : What → Bool
is_work (Told _) = false
is_work (HostGone _) = false
is_work _ = true

-- the host has ended
pub record Over (run : Fixed) (journal : Journal) (failed : Bool) : Type 0 where
  pub consistent : Consistent run journal
  pub ended : has_host_end journal.history ≡ true
  pub answered : failed ≡ false → waiting_of run journal.history ≡ []
  pub recorded : AllRecorded run journal.history
  pub failing : failed ≡ true → journal.stopped ≡ true

-- a request was told and worked on; or no memory was found for it, and the host's messages end there
abbrev pub Goes : Bool → ℕ → Registration → Fixed → Journal → Journal → Bool → Type 0
Goes true n told run old new failed =
    AtRest run new failed × Adds is_work (told_event n told ∷ old.history) new.history
Goes false n told run old new failed =
    Over run new failed × (new.history ≡ end_event NoMemory ∷ old.history) × (new.wanted ≡ true)

-- the goal was recorded and its URN is the answer's; or a stop stands in place of its keep
abbrev pub RecordedAs : List ℕ → Option (List ℕ) → ℕ → List Event → List Event → Type 0
RecordedAs urn (Some answer) goal old new = (answer ≡ urn) × KeptIn goal old new
RecordedAs urn None goal old new = (stop : Stop) × (new ≡ stop_event stop ∷ old)

-- the host's messages ended so; or that could not be written down for want of memory, which is then the
-- end
abbrev pub EndedBy : HostEnd → List Event → List Event → Bool → Type 0
EndedBy end old new wanted =
    ((new ≡ end_event end ∷ old) × (is_want_end end ≡ true → wanted ≡ true))
    ⊎ ((new ≡ end_event NoMemory ∷ old) × (wanted ≡ true))

-- what became of a request that was heard: it was told and worked on; or it may not come next, and its
-- body is a bad frame; or no memory was found
abbrev pub Registered : Bool → Request → List ℕ → Fixed → Journal → Journal → Bool → Type 0
Registered true request body run old new failed =
    AtRest run new failed × Adds is_work (record { seat = 0; what = Told request } ∷ old.history) new.history
Registered false request body run old new failed =
    Over run new failed
    × (((new.history ≡ end_event (BadFrame body) ∷ old.history) × (may_be_next run old.history request ≡ false))
    ⊎ ((new.history ≡ end_event NoMemory ∷ old.history) × (new.wanted ≡ true)))

-- how a run stands after a message: at rest, or over where the host may not go on
abbrev pub Stands : Bool → Fixed → Journal → Bool → Type 0
Stands true run journal failed = AtRest run journal failed
Stands false run journal failed = Over run journal failed

-- how the reading half stands to the history: what was taken is what the history says; at the end with
-- the end's cause
abbrev pub TakenNow : Bool → Fixed → List Event → Bool → Option (List ℕ) → ℕ → ℕ → Type 0
TakenNow true run history wanted taken faults ends = Taken run history taken
TakenNow false run history wanted taken faults ends =
    IfSome taken (HostTook run host_spelling (record { faults = faults; ends = ends; wanted = wanted }) history)

-- where the reading half stood so to the history, it stands so again
abbrev pub KeepsTaken : Bool → Fixed → List Event → List Event → Bool → Option (List ℕ) → Option (List ℕ) → ℕ → ℕ → Type 0
KeepsTaken goes run old new wanted taken taken' faults ends =
    Taken run old taken → TakenNow goes run new wanted taken' faults ends
