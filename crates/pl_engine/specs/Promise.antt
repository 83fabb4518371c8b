-- What the top call promises of a run, over the definitions of a history.
use Rattle.std.specs.Prelude.{◌≡◌, ◌⊎◌, ℕ, Bool, true, false, List, [], ◌∷◌, ◌++◌, Option}
use Rattle.pl_world.specs.Counts.{Rose}
use Rattle.pl_world.specs.Told.{Grew, Piece}
use Rattle.pl_decide.specs.declared.outcome.Outcome.{Outcome}
use Rattle.pl_decide.specs.declared.outcome.Outcome.TheVariants.{Done}
use Rattle.pl_events.specs.Closing.{has_host_end}
use Rattle.pl_events.specs.declared.event.Event.{Event}
use Rattle.pl_model.specs.declared.fixed.Fixed as model
use Rattle.pl_model.specs.Run.{HasNames}
use Rattle.pl_model.specs.Due.{IsQuiet, has_open}
use Rattle.pl_model.specs.Frames.{Causes}
use Rattle.pl_model.specs.Fulfilment.{Fulfils}
use Rattle.pl_model.specs.History.{known_of, problem_of}
use Rattle.pl_model.specs.HostLines as lines
use Rattle.pl_model.specs.Known.{Known}
use Rattle.pl_model.specs.Legal.{IsLegal}
use Rattle.pl_model.specs.Saves.{IsSaved, IsStory, saves_of}
use Rattle.pl_model.specs.State.{state_of}
use Rattle.pl_model.specs.Posts.{AllAnswered}
use Rattle.pl_model.specs.Outcomes.{outcome_of_placed}
use Rattle.pl_components.specs.Run.{Fixed}
use Rattle.pl_components.specs.Whole.{is_built, whole}
use Rattle.pl_components.specs.HostLines as parts
use Rattle.pl_engine.specs.Headline as worked
use Rattle.pl_engine.specs.Headline.{IsFinal}
use Rattle.pl_engine.specs.Stored as stored
use Rattle.pl_engine.specs.Spelled.{host_spelling}

-- the fixed data of a run of these names: it goes up from an empty state, without limits; no provider has a child yet,
-- so how many it may have makes no difference
abbrev pub run_as : Fixed → model.Fixed
run_as run = whole run 1

-- what the history of such a run tells
abbrev pub known_as : Fixed → List Event → Known
known_as run history = known_of (run_as run) history

-- the history of a run: it is legal, for a stack and a project whose names stand in URNs, the host has ended, no ticket
-- is open, and every request is answered unless the writing half's count rose or memory was wanted
pub record IsHistory (run : Fixed) (history : List Event) (faults : ℕ) (wanted : Bool) : Type 0 where
  pub legal : IsLegal (run_as run) host_spelling history
  pub names : HasNames (run_as run)
  pub ended : has_host_end history ≡ true
  pub closed : has_open (known_as run history) ≡ false
  pub answered : AllAnswered (known_as run history) ⊎ (Rose 0 faults ⊎ (wanted ≡ true))

-- the marks and the story as a run leaves them
pub record IsKept (run : Fixed) (rose : Type 0) (wanted : Bool) (history : List Event) (marks : List ℕ)
    (before now : Option (List (List ℕ))) : Type 0 where
  pub saved : IsSaved (run_as run) rose wanted history marks
  pub grown : (texts : List (List ℕ)) × Grew before now texts × IsStory (run_as run) host_spelling rose history marks texts

-- the lines of both halves of the host, where they are told; only what is built may stand
abbrev pub HostLines : Fixed → Causes → Causes → List Event → Option (List ℕ) → Option (List Piece) → Type 0
HostLines run reading writing history taken given =
    lines.HostLines (run_as run) host_spelling is_built reading writing history taken given

-- the last save is that of the present state; there is none only where the state has no entry
abbrev pub IsLast : Fixed → List Event → List ℕ → Type 0
IsLast run history marks =
    ((marks ≡ []) × ((state_of (run_as run) history).entries ≡ []))
    ⊎ ((earlier : List (List ℕ)) × (saves_of (run_as run) host_spelling history marks
    ≡ earlier ++ host_spelling.state_text (state_of (run_as run) history) ∷ []))

-- what `Done` means: nothing is due or over the limit, every event that must be saved has its mark, the story grew by
-- these texts alone and the last is of this state, which has the entry of each goal and no other
pub record IsDone (run : Fixed) (history : List Event) (marks : List ℕ) (before now : Option (List (List ℕ))) : Type 0 where
  pub quiet : IsQuiet (known_as run history)
  pub saved : IsSaved (run_as run) ⊥ false history marks
  pub grown : Grew before now (saves_of (run_as run) host_spelling history marks)
  pub present : IsLast run history marks
  pub fulfils : Fulfils (run_as run) (state_of (run_as run) history) history

-- the outcome of a run, and what success means
pub record IsOutcome (run : Fixed) (history : List Event) (marks : List ℕ) (wanted : Bool) (outcome : Outcome)
    (before now : Option (List (List ℕ))) : Type 0 where
  pub least : IsFinal (outcome_of_placed (problem_of (run_as run) history)) wanted outcome
  pub done : outcome ≡ Done → IsDone run history marks before now

-- what such a run does by the definitions of components, which let less stand while no operation is served: no start
-- fault, no told registration that may not stand, and one further text in the story at most
pub record IsOfComponents (run : Fixed) (reading writing : Causes) (rose : Type 0) (history : List Event) (marks : List ℕ)
    (taken : Option (List ℕ)) (given : Option (List Piece)) (outcome : Outcome) (before now : Option (List (List ℕ))) : Type 0 where
  pub legal : worked.IsLegalRun run history writing.faults writing.wanted
  pub saved : stored.IsKeptUp run host_spelling rose writing.wanted history marks before now
  pub host_lines : parts.HostLines run host_spelling reading writing history taken given
  pub outcome_is : worked.IsOutcome run history marks writing.wanted outcome before now
