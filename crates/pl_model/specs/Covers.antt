-- What stands in the checkpoint before an operation is sent.
use Rattle.std.specs.Prelude.{◌≡◌, ℕ, true, Contains, List, ◌∷◌, ◌++◌, Some}
use Rattle.pl_state.specs.References.{finds_references}
use Rattle.pl_sound.specs.Sound.{IsSound}
use Rattle.pl_state.specs.declared.entry.Entry.{Entry}
use Rattle.pl_state.specs.declared.pending.Pending.{Pending}
use Rattle.pl_state.specs.declared.pending.PendingKind.{PendingKind}
use Rattle.pl_state.specs.declared.pending.PendingKind.TheVariants.{Creating, Updating, Deleting, Reading, Importing}
use Rattle.pl_state.specs.declared.snapshot.Snapshot.{Snapshot}
use Rattle.pl_events.specs.declared.event.Event.{Event}
use Rattle.pl_events.specs.declared.operation.Op.{Op}
use Rattle.pl_model.specs.declared.fixed.Fixed.{Fixed}
use Rattle.pl_model.specs.Run.{Spelling}
use Rattle.pl_model.specs.History.{known_of}
use Rattle.pl_model.specs.State.{pending_for, state_of}

-- the text that covers an operation which is begun after this history: that of the state with the operation begun
abbrev pub cover_of : Fixed → Spelling → List Event → Event → List ℕ
cover_of run spelling past event = spelling.state_text (state_of run (event ∷ past))

-- the entries without one of them
pub record IsWithout (entries : List Entry) (row : Entry) (others : List Entry) : Type 0 where
  pub before : List Entry
  pub after : List Entry
  pub whole : entries ≡ before ++ row ∷ after
  pub rest : others ≡ before ++ after

-- what a state has of a pending operation's entry: for a creation or an update each of its references, for a
-- deletion the row itself, without which the others are sound
abbrev pub CoversKind : PendingKind → List Entry → Entry → Type 0
CoversKind Creating entries row = finds_references entries row ≡ true
CoversKind Updating entries row = finds_references entries row ≡ true
CoversKind Deleting entries row = (others : List Entry) × IsWithout entries row others × IsSound others
CoversKind Reading entries row = ⊥
CoversKind Importing entries row = ⊥

-- a state covers an operation: the operation is pending in it, and it has what that needs
pub record CoversPending (state : Snapshot) (pending : Pending) : Type 0 where
  pub stands : Contains state.pending pending
  pub kind : CoversKind pending.kind state.entries pending.entry

-- a state covers an operation that was begun after this history
abbrev pub Covers : Fixed → List Event → Op → Snapshot → Type 0
Covers run past about state =
    (pending : Pending) × (pending_for (known_of run past) about ≡ Some pending) × CoversPending state pending
