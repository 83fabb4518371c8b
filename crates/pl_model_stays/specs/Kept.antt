-- Laws on what stays of a recorded goal, and on what is there of an operation that is due.
use Rattle.std.specs.Prelude.{◌≡◌, ℕ, true, is_some, List, ◌∷◌}
use Rattle.pl_events.specs.declared.event.Event.{Event}
use Rattle.pl_events.specs.declared.operation.Op.{Op}
use Rattle.pl_model.specs.declared.fixed.Fixed.{Fixed}
use Rattle.pl_model.specs.Asked.{ask_of}
use Rattle.pl_model.specs.Due.{is_due_on}
use Rattle.pl_model.specs.Entries.{entry_of, recorded_entry}
use Rattle.pl_model.specs.History.{known_of}
use Rattle.pl_model.specs.Known.{Known, checked_of, claim_of, is_recorded}
use Rattle.pl_model.specs.Legal.{IsOrderly}
use Rattle.pl_model.specs.Saves.{is_covered}
use Rattle.pl_model.specs.State.{pending_for}

-- a recorded goal has its entry
abbrev pub RecordedHasEntry : Type 0
RecordedHasEntry = (run : Fixed) (history : List Event) (number : ℕ) → IsOrderly run history
    → is_recorded (known_of run history) number ≡ true → is_some (recorded_entry (known_of run history) number) ≡ true

-- the claim of a goal, its checked inputs and its entry without told outputs are those that they were
pub record EntryStays (before after : Known) (number : ℕ) : Type 0 where
  pub claim : claim_of after number ≡ claim_of before number
  pub checked : checked_of after number ≡ checked_of before number
  pub entry : entry_of after number ≡ entry_of before number

-- so it is with each recorded goal when an orderly history grows
abbrev pub EntriesStay : Type 0
EntriesStay = (run : Fixed) (event : Event) (past : List Event) (number : ℕ)
    → IsOrderly run (event ∷ past) → is_recorded (known_of run past) number ≡ true
    → EntryStays (known_of run past) (known_of run (event ∷ past)) number

-- an operation that is due has what a provider is asked by it
abbrev pub DueAsked : Type 0
DueAsked = (run : Fixed) (history : List Event) (about : Op) (lane : ℕ) → IsOrderly run history
    → is_due_on (known_of run history) about lane ≡ true → is_some (ask_of (known_of run history) about) ≡ true

-- and what it opens as pending, where it changes a thing
abbrev pub DueOpens : Type 0
DueOpens = (run : Fixed) (history : List Event) (about : Op) (lane : ℕ) → IsOrderly run history
    → is_due_on (known_of run history) about lane ≡ true → is_covered about ≡ true
    → is_some (pending_for (known_of run history) about) ≡ true
