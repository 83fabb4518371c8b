-- Laws on the order in which rows go: dependents first.
use Rattle.std.specs.Prelude.{◌≡◌, ℕ, true, false, List}
use Rattle.pl_state.specs.Chain.{refers_to}
use Rattle.pl_events.specs.declared.event.Event.{Event}
use Rattle.pl_events.specs.declared.operation.Op.TheVariants as op
use Rattle.pl_events.specs.declared.operation.Subject.TheVariants as subject
use Rattle.pl_model.specs.declared.fixed.Fixed.{Fixed}
use Rattle.pl_model.specs.Run.{rows_of}
use Rattle.pl_model.specs.History.{known_of}
use Rattle.pl_model.specs.Legal.{IsOrderly}
use Rattle.pl_lemmas.specs.Words.{has_number}
use Rattle.pl_model.specs.Recording.{removed_of}
use Rattle.pl_model.specs.Rows.{is_left}
use Rattle.pl_model.specs.Tickets.{was_begun}

-- no deletion is begun while a later row that refers to the deleted one is left
abbrev pub DeletedAfterDependents : Type 0
DeletedAfterDependents = (run : Fixed) (history : List Event) (later earlier : ℕ)
    → IsOrderly run history → refers_to (rows_of run) later earlier ≡ true
    → is_left (known_of run history) later ≡ true → was_begun history (op.Delete (subject.Row earlier)) ≡ false

-- no row is deleted or dropped while a later row that refers to it is left
abbrev pub GoneAfterDependents : Type 0
GoneAfterDependents = (run : Fixed) (history : List Event) (later earlier : ℕ)
    → IsOrderly run history → refers_to (rows_of run) later earlier ≡ true
    → is_left (known_of run history) later ≡ true → has_number (removed_of history) earlier ≡ false
