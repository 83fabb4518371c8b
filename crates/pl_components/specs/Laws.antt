-- That the definitions of components come to the whole ones, for the histories of component runs.
use Rattle.std.specs.Prelude.{◌≡◌, ℕ, Bool, Option, None, List, []}
use Rattle.pl_world.specs.Counts.{Rose}
use Rattle.pl_world.specs.Told.{Piece}
use Rattle.pl_events.specs.declared.event.Event.{Event}
use Rattle.pl_model.specs.Run as model
use Rattle.pl_model.specs.Due as model_due
use Rattle.pl_model.specs.Fulfilment as model_fulfilment
use Rattle.pl_model.specs.Frames.{Causes}
use Rattle.pl_model.specs.HostLines as model_lines
use Rattle.pl_model.specs.History.{known_of, problem_of}
use Rattle.pl_model.specs.Legal as model_legal
use Rattle.pl_model.specs.Outcomes.{outcome_of_placed}
use Rattle.pl_model.specs.Posts.{AllAnswered}
use Rattle.pl_model.specs.Saves as model_saves
use Rattle.pl_model.specs.State as model_state
use Rattle.pl_components.specs.Run.{Fixed}
use Rattle.pl_components.specs.Problems.{least_outcome}
use Rattle.pl_components.specs.Requests.{waiting_of}
use Rattle.pl_components.specs.Entries.{state_of}
use Rattle.pl_components.specs.Due.{IsQuiet}
use Rattle.pl_components.specs.Fulfilment.{Fulfils}
use Rattle.pl_components.specs.HostLines.{HostLines}
use Rattle.pl_components.specs.Saves.{IsSaved, IsStory}
use Rattle.pl_components.specs.Whole.{IsComponentRun, is_built, whole}

-- the states are the same
abbrev pub StatesAgree : Type 0
StatesAgree = (run : Fixed) (parallel : ℕ) (spelling : model.Spelling) (history : List Event)
    → IsComponentRun run spelling history → model_state.state_of (whole run parallel) history ≡ state_of run history

-- the history is legal
abbrev pub LegalToo : Type 0
LegalToo = (run : Fixed) (parallel : ℕ) (spelling : model.Spelling) (history : List Event)
    → IsComponentRun run spelling history → model_legal.IsLegal (whole run parallel) spelling history

-- a quiet history is quiet
abbrev pub QuietToo : Type 0
QuietToo = (run : Fixed) (parallel : ℕ) (spelling : model.Spelling) (history : List Event)
    → IsComponentRun run spelling history → IsQuiet run history → model_due.IsQuiet (known_of (whole run parallel) history)

-- the least problem gives the least outcome
abbrev pub OutcomesAgree : Type 0
OutcomesAgree = (run : Fixed) (parallel : ℕ) (spelling : model.Spelling) (history : List Event)
    → IsComponentRun run spelling history
    → least_outcome history ≡ outcome_of_placed (problem_of (whole run parallel) history)

-- a state that fulfils the goals fulfils them
abbrev pub FulfilsToo : Type 0
FulfilsToo = (run : Fixed) (parallel : ℕ) (spelling : model.Spelling) (history : List Event)
    → IsComponentRun run spelling history → Fulfils run (state_of run history) history
    → model_fulfilment.Fulfils (whole run parallel) (state_of run history) history

-- where no message spells an error, the lines of the host are its lines
abbrev pub LinesToo : Type 0
LinesToo = (run : Fixed) (parallel : ℕ) (spelling : model.Spelling) (history : List Event)
    → IsComponentRun run spelling history → ((body : List ℕ) → spelling.error_in body ≡ None)
    → (reading writing : Causes) (taken : Option (List ℕ)) (given : Option (List Piece))
    → HostLines run spelling reading writing history taken given
    → model_lines.HostLines (whole run parallel) spelling is_built reading writing history taken given

-- the marks are its marks, whatever the store's count was before the run and is now
abbrev pub SavedToo : Type 0
SavedToo = (run : Fixed) (parallel : ℕ) (spelling : model.Spelling) (history : List Event)
    → IsComponentRun run spelling history → (before now : ℕ) (wanted : Bool) (marks : List ℕ)
    → IsSaved (Rose before now) wanted history marks → model_saves.IsSaved (whole run parallel) (Rose before now) wanted history marks

-- the texts by which the story grew are its texts
abbrev pub StoryToo : Type 0
StoryToo = (run : Fixed) (parallel : ℕ) (spelling : model.Spelling) (history : List Event)
    → IsComponentRun run spelling history → (before now : ℕ) (marks : List ℕ) (texts : List (List ℕ))
    → IsStory run spelling (Rose before now) history marks texts
    → model_saves.IsStory (whole run parallel) spelling (Rose before now) history marks texts

-- where no request waits, every told one was answered
abbrev pub AnsweredToo : Type 0
AnsweredToo = (run : Fixed) (parallel : ℕ) (spelling : model.Spelling) (history : List Event)
    → IsComponentRun run spelling history → waiting_of run history ≡ [] → AllAnswered (known_of (whole run parallel) history)
