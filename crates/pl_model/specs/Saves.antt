-- What must be saved, the saves, and the texts by which the store's story grows.
use Rattle.std.specs.Prelude.{⊤, ◌≡◌, ◌⊎◌, ℕ, ◌+◌, ◌-◌, ◌<◌, ◌≤◌, ◌==◌, Bool, true, false, ◌&&◌, ◌||◌, if◌then◌else◌, not, All, AllPairs, Contains, List, [], ◌∷◌, ◌++◌, drop, length, map, Option, Some, None}
use Rattle.pl_lemmas.specs.Words.{some_passes}
use Rattle.pl_events.specs.Closing.{has_stop}
use Rattle.pl_events.specs.declared.event.Event.{Event}
use Rattle.pl_events.specs.declared.event.What.{What}
use Rattle.pl_events.specs.declared.event.What.TheVariants.{Told, Begun, Answered, Kept, Dropped, Cleared, Stopped}
use Rattle.pl_events.specs.declared.event.Request.{Request}
use Rattle.pl_events.specs.declared.event.Request.TheVariants.{Outputs}
use Rattle.pl_events.specs.declared.event.Stop.TheVariants.{StoreFault, NoMemory}
use Rattle.pl_events.specs.declared.operation.Op.{Op}
use Rattle.pl_events.specs.declared.operation.Op.TheVariants as op
use Rattle.pl_model.specs.declared.errand.Closed.{Closed}
use Rattle.pl_model.specs.declared.fixed.Fixed.{Fixed}
use Rattle.pl_model.specs.declared.heard.Fate.{Fate}
use Rattle.pl_model.specs.declared.heard.Fate.TheVariants.{Accepted as accepted}
use Rattle.pl_model.specs.Run.{Spelling, is_preview}
use Rattle.pl_model.specs.Tickets.{closed_by}
use Rattle.pl_model.specs.Recording.{is_gone, is_thing}
use Rattle.pl_model.specs.Claims.{goal_number}
use Rattle.pl_model.specs.Due.{is_due_on, is_recorded_about}
use Rattle.pl_model.specs.History.{known_of}
use Rattle.pl_model.specs.Known.{Known}
use Rattle.pl_model.specs.Problems.{reads_row}
use Rattle.pl_model.specs.Requests.{fate_of}
use Rattle.pl_model.specs.State.{state_of}

-- whether an operation changes a thing, so that it stands in the checkpoint before it is sent
abbrev pub is_covered : Op → Bool
is_covered (op.Create about) = true
is_covered (op.Update about) = true
is_covered (op.Delete about) = true
is_covered _ = false

abbrev pub is_read : Op → Bool
is_read (op.Read about) = true
is_read _ = false

-- whether a reply changes the state: any to an operation that changes a thing, an error too; one to a reading that
-- says that a thing is there; one to the reading of a row that says that the thing is gone
abbrev pub closes_saved : Closed → Bool
closes_saved closed =
    is_covered closed.op || (is_read closed.op && (is_thing closed.reply || (reads_row closed.op && is_gone closed.reply)))

abbrev pub is_accepted : Fate → Bool
is_accepted accepted = true
is_accepted _ = false

-- whether a told request changes the state: accepted outputs of a component that is recorded
abbrev pub tells_saved : Known → Request → Bool
tells_saved before (Outputs n urn outputs) =
    is_accepted (fate_of before (Outputs n urn outputs)) && is_recorded_about before (goal_number before.goals urn)
tells_saved before _ = false

-- whether an event changes the state, or begins what changes a thing
abbrev pub changes_state : Known → What → Bool
changes_state before (Told request) = tells_saved before request
changes_state before (Begun ticket lane about) = is_covered about
changes_state before (Answered ticket reply) =
    some_passes closes_saved (closed_by before.history (Answered ticket reply))
changes_state before (Kept goal fresh) = true
changes_state before (Dropped row) = true
changes_state before (Cleared at) = true
changes_state before _ = false

-- whether the checkpoint is replaced with an event: where it changes the state; a preview saves nothing
abbrev pub must_save : Known → What → Bool
must_save before what = not (is_preview before.run.mode) && changes_state before what

-- whether the event is sent only once it is saved
abbrev pub is_begun : What → Bool
is_begun (Begun ticket lane about) = true
is_begun _ = false

-- the history's first `count` events
abbrev pub prefix_of : List Event → ℕ → List Event
prefix_of history count = drop (length history - count) history

-- whether `count` is the length just after an event that must be saved
abbrev pub is_after_save : Fixed → List Event → ℕ → Bool
is_after_save run [] count = false
is_after_save run (event ∷ past) count =
    if length past + 1 == count then must_save (known_of run past) event.what else is_after_save run past count

-- the texts of the states at the marks
abbrev pub saves_of : Fixed → Spelling → List Event → List ℕ → List (List ℕ)
saves_of run spelling history marks =
    map (λ mark. spelling.state_text (state_of run (prefix_of history mark))) marks

-- a store fault, or want of memory, lets an event go without its mark: the stop is the event just after it, or a
-- stop stands before it; after a store fault no later event has a mark
abbrev pub IsFaultNext : Option What → Type 0
IsFaultNext next = next ≡ Some (Stopped StoreFault)

abbrev pub IsWantNext : Option What → Type 0
IsWantNext next = next ≡ Some (Stopped NoMemory)

pub record LacksForFault (rose : Type 0) (next : Option What) (past : List Event) (marks : List ℕ) : Type 0 where
  pub cause : rose
  pub none_later : All (λ mark. mark < length past + 1) marks
  pub stopped : IsFaultNext next ⊎ (has_stop past ≡ true)

pub record LacksForMemory (wanted : Bool) (next : Option What) (past : List Event) : Type 0 where
  pub cause : wanted ≡ true
  pub stopped : IsWantNext next ⊎ (has_stop past ≡ true)

-- the event has its mark: the length just after it
abbrev pub IsMarked : List Event → List ℕ → Type 0
IsMarked past marks = Contains marks (length past + 1)

-- an operation that must be saved has its mark; another event that must be has it or lacks it for a cause; `next`
-- is the event after it, if there is one
abbrev pub HasMark : Type 0 → Bool → Option What → What → List Event → List ℕ → Type 0
HasMark rose wanted next (Begun ticket lane about) past marks = IsMarked past marks
HasMark rose wanted next what past marks =
    (IsMarked past marks ⊎ LacksForFault rose next past marks) ⊎ LacksForMemory wanted next past

-- every event of the history that must be saved has its mark or lacks it for a cause
abbrev pub AllMarked : Fixed → Type 0 → Bool → Option What → List Event → List ℕ → Type 0
AllMarked run rose wanted next [] marks = ⊤
AllMarked run rose wanted next (event ∷ past) marks =
    (must_save (known_of run past) event.what ≡ true → HasMark rose wanted next event.what past marks)
    × AllMarked run rose wanted (Some event.what) past marks

-- the marks of a run: `rose` says that the store's count of faults rose in it
pub record IsSaved (run : Fixed) (rose : Type 0) (wanted : Bool) (history : List Event) (marks : List ℕ) : Type 0 where
  pub rising : AllPairs (λ earlier later. earlier < later) marks
  pub after_saves : All (λ mark. is_after_save run history mark ≡ true) marks
  pub all_marked : AllMarked run rose wanted None history marks

-- an event that begins this operation
abbrev pub begins : ℕ → ℕ → ℕ → Op → Event
begins seat ticket lane about = record { seat = seat; what = Begun ticket lane about }

-- the text of the state at a prefix, or of the state there with an operation begun that was due and did not get to
-- be sent
abbrev pub IsTextAt : Fixed → Spelling → List Event → List ℕ → Type 0
IsTextAt run spelling past text =
    (text ≡ spelling.state_text (state_of run past))
    ⊎ ((seat ticket lane : ℕ) × (about : Op) × (is_covered about ≡ true) × (is_due_on (known_of run past) about lane ≡ true)
    × (text ≡ spelling.state_text (state_of run (begins seat ticket lane about ∷ past))))

-- a further text, behind the saves of the marks that are not above a prefix's length; a text at a mark's very place
-- stands before or behind that save
pub record IsFurther (run : Fixed) (spelling : Spelling) (history past : List Event) (text : List ℕ) : Type 0 where
  pub of_prefix : (later : List Event) × (history ≡ later ++ past)
  pub text_at : IsTextAt run spelling past text

-- the text for a store fault ends the story: no mark is above the prefix whose state it is
abbrev pub EndsStory : Fixed → Spelling → Type 0 → List Event → List ℕ → List (List ℕ) → List (List ℕ) → Type 0
EndsStory run spelling rose history marks before texts =
    (texts ≡ before)
    ⊎ (rose × ((text : List ℕ) × (past : List Event) × IsFurther run spelling history past text
    × All (λ mark. mark ≤ length past) marks × (texts ≡ before ++ text ∷ [])))

-- the event after a prefix is the stop for want of memory
abbrev pub IsWantAfter : List Event → List Event → Type 0
IsWantAfter history past =
    (later : List Event) × (seat : ℕ) × (history ≡ later ++ record { seat = seat; what = Stopped NoMemory } ∷ past)

-- the saves with the text for want of memory put in among them, at the place of its prefix
abbrev pub WithWanted : Fixed → Spelling → List Event → List ℕ → List (List ℕ) → Type 0
WithWanted run spelling history marks texts =
    (texts ≡ saves_of run spelling history marks)
    ⊎ ((earlier later : List ℕ) × (past : List Event) × (text : List ℕ)
    × (marks ≡ earlier ++ later) × All (λ mark. mark ≤ length past) earlier × All (λ mark. length past ≤ mark) later
    × IsWantAfter history past × IsFurther run spelling history past text
    × (texts ≡ saves_of run spelling history earlier ++ text ∷ saves_of run spelling history later))

-- the texts by which the store's story grew: the saves, and at most two further ones
abbrev pub IsStory : Fixed → Spelling → Type 0 → List Event → List ℕ → List (List ℕ) → Type 0
IsStory run spelling rose history marks texts =
    (before : List (List ℕ)) × WithWanted run spelling history marks before × EndsStory run spelling rose history marks before texts
