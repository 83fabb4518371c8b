-- What must be saved, the saves, and the texts by which the store's story grows.
use Rattle.std.specs.Prelude.{⊤, ◌≡◌, ◌⊎◌, ℕ, ◌+◌, ◌-◌, ◌<◌, ◌≤◌, ◌==◌, Bool, true, false, if◌then◌else◌, All, AllPairs, Contains, List, [], ◌∷◌, ◌++◌, drop, length, map, Option, Some, None}
use Rattle.pl_events.specs.Closing.{has_stop}
use Rattle.pl_events.specs.declared.event.Event.{Event}
use Rattle.pl_events.specs.declared.event.What.{What}
use Rattle.pl_events.specs.declared.event.What.TheVariants.{Kept, Stopped}
use Rattle.pl_events.specs.declared.event.Stop.TheVariants.{StoreFault, NoMemory}
use Rattle.pl_model.specs.Run.{Spelling}
use Rattle.pl_components.specs.Run.{Fixed}
use Rattle.pl_components.specs.Entries.{state_of}

-- whether the checkpoint is replaced after an event: it is where the event changes the state, and a keep alone
-- does yet
abbrev pub must_save : What → Bool
must_save (Kept _ _) = true
must_save _ = false

-- the history's first `count` events
abbrev pub prefix_of : List Event → ℕ → List Event
prefix_of history count = drop (length history - count) history

-- whether `count` is the length just after an event that must be saved
abbrev pub is_after_save : List Event → ℕ → Bool
is_after_save [] count = false
is_after_save (event ∷ past) count =
    if length past + 1 == count then must_save event.what else is_after_save past count

-- the texts of the states at the marks
abbrev pub saves_of : Fixed → Spelling → List Event → List ℕ → List (List ℕ)
saves_of run spelling history marks =
    map (λ mark. spelling.state_text (state_of run (prefix_of history mark))) marks

-- a store fault, or want of memory, lets an event go without its mark: the fault is the event just after
-- it, or a stop stands before it; after a store fault no later event has a mark
abbrev pub IsFaultNext : Option What → Type 0
IsFaultNext next = next ≡ Some (Stopped StoreFault)

abbrev pub IsWantNext : Option What → Type 0
IsWantNext next = next ≡ Some (Stopped NoMemory)

pub record LacksForFault (rose : Type 0) (next : Option What) (past : List Event) (marks : List ℕ) : Type 0 where
  pub cause : rose
  pub none_later : All (λ mark. mark < length past + 1) marks
  pub stopped : IsFaultNext next ⊎ (has_stop past ≡ true)

pub record LacksForMemory (wanted : Bool) (next : Option What) (past : List Event) : Type 0 where
  pub cause : wanted ≡ true
  pub stopped : IsWantNext next ⊎ (has_stop past ≡ true)

-- an event that must be saved has its mark, which is the length just after it, or lacks it for a cause;
-- `next` is the event after it, if there is one
abbrev pub HasMark : Type 0 → Bool → Option What → Event → List Event → List ℕ → Type 0
HasMark rose wanted next event past marks =
    must_save event.what ≡ true →
    (Contains marks (length past + 1) ⊎ LacksForFault rose next past marks) ⊎ LacksForMemory wanted next past

-- every event of the history that must be saved has its mark or lacks it for a cause
abbrev pub AllMarked : Type 0 → Bool → Option What → List Event → List ℕ → Type 0
AllMarked rose wanted next [] marks = ⊤
AllMarked rose wanted next (event ∷ past) marks =
    HasMark rose wanted next event past marks × AllMarked rose wanted (Some event.what) past marks

-- the marks of a run: `rose` says that the store's count of faults rose in it
pub record IsSaved (rose : Type 0) (wanted : Bool) (history : List Event) (marks : List ℕ) : Type 0 where
  pub rising : AllPairs (λ earlier later. earlier < later) marks
  pub after_saves : All (λ mark. is_after_save history mark ≡ true) marks
  pub all_marked : AllMarked rose wanted None history marks

-- a text more than the saves: that of the state whose replacement failed, which arrived all the same; no mark is above
-- its prefix
pub record IsFurther (run : Fixed) (spelling : Spelling) (rose : Type 0) (history : List Event) (marks text : List ℕ) : Type 0 where
  pub cause : rose
  pub of_prefix : (later past : List Event) × (history ≡ later ++ past)
      × (text ≡ spelling.state_text (state_of run past)) × All (λ mark. mark ≤ length past) marks

-- the texts by which the story grew: the saves, and at most one further text, the last
abbrev pub IsStory : Fixed → Spelling → Type 0 → List Event → List ℕ → List (List ℕ) → Type 0
IsStory run spelling rose history marks texts =
    (texts ≡ saves_of run spelling history marks)
    ⊎ ((text : List ℕ) × (texts ≡ saves_of run spelling history marks ++ text ∷ [])
    × IsFurther run spelling rose history marks text)
