-- What a call of the engine leaves, with what the outside told before it and after, and what is evident of that.
use Rattle.std.specs.Prelude.{◌≡◌, ℕ, Bool, List, [], ◌∷◌, ◌++◌, reverse, Option, IfSome, IsSomeAnd, MatchOption}
use Rattle.pl_cli.specs.Reading.{host_words}
use Rattle.pl_components.specs.HostLines.{HostLines}
use Rattle.pl_components.specs.Run.{Fixed}
use Rattle.pl_decide.specs.declared.outcome.Outcome.{Outcome}
use Rattle.pl_events.specs.declared.event.Event.{Event}
use Rattle.pl_model.specs.Causes.{HasCauses, HasStartCause, RunCounts}
use Rattle.pl_model.specs.Frames.{Causes}
use Rattle.pl_state.specs.declared.snapshot.Snapshot.{Snapshot}
use Rattle.pl_world.specs.Counts.{Rose}
use Rattle.pl_world.specs.Told.{Piece}
use Rattle.pl_engine.specs.Content.{IsBegun}
use Rattle.pl_engine.specs.Headline as worked
use Rattle.pl_engine.specs.Headline.{IsEarly, IsRefused, IsRunOf, IsUntouched, command_words, no_state, run_over}
use Rattle.pl_engine.specs.Promise as promise
use Rattle.pl_engine.specs.Spelled.{host_spelling}
use Rattle.pl_engine.specs.Stored.{IsKeptUp}

-- what the parts of a world tell at one moment
pub record Told : Type 0 where
  pub story : Option (List (List ℕ))
  pub store_faults : ℕ
  pub started : List (List (List ℕ))
  pub start_faults : ℕ
  pub sink_faults : ℕ

-- what one half of a host tells at the end
pub record Half : Type 0 where
  pub given : Option (List Piece)
  pub taken : Option (List ℕ)
  pub faults : ℕ
  pub ends : ℕ

pub record Halves : Type 0 where
  pub reading : Half
  pub writing : Half

-- what a call leaves: the record of the run, its events the oldest first, the halves where a host was started, and the
-- outcome, between what the world told before and after
pub record Evidence : Type 0 where
  pub before : Told
  pub now : Told
  pub base : Snapshot
  pub events : List Event
  pub marks : List ℕ
  pub wanted : Bool
  pub host : Option Halves
  pub outcome : Outcome

-- the store's count rose
abbrev pub StoreRose : Evidence → Type 0
StoreRose e = Rose e.before.store_faults e.now.store_faults

-- what the two halves tell of causes; the writing half has no end
abbrev pub reading_causes : Bool → Halves → Causes
reading_causes wanted used = record { faults = used.reading.faults; ends = used.reading.ends; wanted = wanted }

abbrev pub writing_causes : Bool → Halves → Causes
writing_causes wanted used = record { faults = used.writing.faults; ends = 0; wanted = wanted }

abbrev pub counts_of : Told → Told → Bool → Halves → RunCounts
counts_of before now wanted used = record {
  store_before = before.store_faults;
  store_now = now.store_faults;
  reading = used.reading.faults;
  ends = used.reading.ends;
  writing = used.writing.faults;
  wanted = wanted;
}

-- ---- by the definitions of components

-- what is evident of a host that was served
pub record IsServed (run : Fixed) (before now : Told) (history : List Event) (marks : List ℕ) (wanted : Bool)
    (outcome : Outcome) (used : Halves) : Type 0 where
  pub legal : worked.IsLegalRun run history used.writing.faults wanted
  pub saved : IsKeptUp run host_spelling (Rose before.store_faults now.store_faults) wanted history marks before.story now.story
  pub host_lines : HostLines run host_spelling (reading_causes wanted used) (writing_causes wanted used) history used.reading.taken used.writing.given
  pub causes : HasCauses (counts_of before now wanted used) history
  pub outcome_is : worked.IsOutcome run history marks wanted outcome before.story now.story
  pub one_way : worked.IsOneWay used.reading.given used.writing.taken

abbrev pub IsServedIn : Fixed → Evidence → Halves → Type 0
IsServedIn run e used = IsServed run e.before e.now (reverse e.events) e.marks e.wanted e.outcome used

-- a host was served, over this stack and this project
abbrev pub HasServed : List ℕ → List ℕ → Evidence → Type 0
HasServed stack project e = IsSomeAnd e.host (IsServedIn (run_over stack project e.base) e)

-- what is evident of accepted words where no host was started
pub record IsUnstarted (e : Evidence) : Type 0 where
  pub empty : e.events ≡ []
  pub untouched : IsUntouched e.marks e.before.story e.now.story
  pub same_starts : e.now.started ≡ e.before.started
  pub no_base : e.base ≡ no_state
  pub early : IsEarly e.before.story (StoreRose e) (Rose e.before.start_faults e.now.start_faults) e.outcome

-- what is evident where one was started by this command
pub record IsWorked (stack project : List ℕ) (command : List (List ℕ)) (e : Evidence) (used : Halves) : Type 0 where
  pub served : IsServedIn (run_over stack project e.base) e used
  pub started : e.now.started ≡ e.before.started ++ command ∷ []
  pub begun : IsBegun e.before.story stack e.base

-- a host was started by this command and served, or none was started
abbrev pub HasWorked : List ℕ → List ℕ → List (List ℕ) → Evidence → Type 0
HasWorked stack project command e = MatchOption e.host (IsUnstarted e) (IsWorked stack project command e)

-- ---- by the definitions of a history

-- what is said of the run of the words
abbrev pub OfRun : List (List ℕ) → Snapshot → (Fixed → Type 0) → Type 0
OfRun words base Says = (run : Fixed) × IsRunOf words base run × Says run

-- a history is legal; there is none where no host was started
abbrev pub IsLegal : List (List ℕ) → Evidence → Type 0
IsLegal words e = MatchOption e.host (e.events ≡ []) (λ used.
    OfRun words e.base (λ run. promise.IsHistory run (reverse e.events) used.writing.faults e.wanted))

-- marks and story are kept up; they are untouched where no host was started
abbrev pub IsSaved : List (List ℕ) → Evidence → Type 0
IsSaved words e = MatchOption e.host (IsUntouched e.marks e.before.story e.now.story) (λ _.
    OfRun words e.base (λ run. promise.IsKept run (StoreRose e) e.wanted (reverse e.events) e.marks e.before.story e.now.story))

-- the lines of a host
abbrev pub HasLines : List (List ℕ) → Evidence → Type 0
HasLines words e = IfSome e.host (λ used. OfRun words e.base (λ run.
    promise.HostLines run (reading_causes e.wanted used) (writing_causes e.wanted used) (reverse e.events) used.reading.taken used.writing.given))

-- what the history tells of faults, ends and want has its cause
abbrev pub IsCaused : Evidence → Type 0
IsCaused e = IfSome e.host (λ used. HasCauses (counts_of e.before e.now e.wanted used) (reverse e.events))

-- a start that failed has its cause
abbrev pub IsStartCaused : Evidence → Type 0
IsStartCaused e = IfSome e.host (λ _. HasStartCause e.before.start_faults e.now.start_faults (reverse e.events))

-- what the definitions of components say
abbrev pub IsOfComponents : List (List ℕ) → Evidence → Type 0
IsOfComponents words e = IfSome e.host (λ used. OfRun words e.base (λ run.
    promise.IsOfComponents run (reading_causes e.wanted used) (writing_causes e.wanted used) (StoreRose e) (reverse e.events) e.marks
    used.reading.taken used.writing.given e.outcome e.before.story e.now.story))

-- one child was started, by the words' command, or none
abbrev pub IsStarted : List (List ℕ) → Evidence → Type 0
IsStarted words e = MatchOption e.host (e.now.started ≡ e.before.started) (λ _.
    OfRun words e.base (λ run. e.now.started ≡ e.before.started ++ command_words (host_words words) run.stack run.project ∷ []))

-- the outcome is that of the run, or it has its cause where no host was started
abbrev pub IsOutcome : List (List ℕ) → Evidence → Type 0
IsOutcome words e = MatchOption e.host
    (IsRefused words e.before.story (StoreRose e) (Rose e.before.start_faults e.now.start_faults) (Rose e.before.sink_faults e.now.sink_faults) e.outcome)
    (λ _. OfRun words e.base (λ run. promise.IsOutcome run (reverse e.events) e.marks e.wanted e.outcome e.before.story e.now.story))

-- the state at the start is what a run of the words begins with, or nothing where no host was started
abbrev pub IsBase : List (List ℕ) → Evidence → Type 0
IsBase words e = MatchOption e.host (e.base ≡ no_state) (λ _. OfRun words e.base (λ run. IsBegun e.before.story run.stack e.base))

-- the host's halves go one way each
abbrev pub IsOneWay : Evidence → Type 0
IsOneWay e = IfSome e.host (λ used. worked.IsOneWay used.reading.given used.writing.taken)

-- all of it
pub record IsEvident (words : List (List ℕ)) (e : Evidence) : Type 0 where
  pub legal : IsLegal words e
  pub saved : IsSaved words e
  pub host_lines : HasLines words e
  pub causes : IsCaused e
  pub start_cause : IsStartCaused e
  pub components : IsOfComponents words e
  pub started : IsStarted words e
  pub outcome_is : IsOutcome words e
  pub base_is : IsBase words e
  pub one_way : IsOneWay e
