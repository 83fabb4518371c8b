-- What holds of the operations and keeps that are due.
use Rattle.std.specs.Prelude.{◌≡◌, ℕ, true, false}
use Rattle.pl_entries.specs.Recorded.{is_provider_decided}
use Rattle.pl_events.specs.declared.operation.Op.{Op}
use Rattle.pl_lemmas.specs.Words.{none_or}
use Rattle.pl_model.specs.Due.{is_keep_ready, is_ready_on}
use Rattle.pl_model.specs.Known.{Known, is_decided, is_recorded}
use Rattle.pl_model.specs.Recording.{goal_of_op}
use Rattle.pl_model.specs.Run.{is_refresh}
use Rattle.pl_snap.specs.Model.{Merged}
use Rattle.pl_turn_asks.specs.Kept.{KeepsDeleted, KeepsRows}

-- the row that an operation deletes which is due is kept, where a merged snapshot keeps the rows that are left; in a
-- refresh it need not, since nothing is deleted there
abbrev pub DeletesKept : Type 0
DeletesKept = (known : Known) (merged : Merged) (about : Op) (lane : ℕ)
    → (is_refresh known.run.mode ≡ false → KeepsRows known merged)
    → is_ready_on known about lane ≡ true → KeepsDeleted known merged about

-- each recorded goal is decided
abbrev pub RecordedAreDecided : Known → Type 0
RecordedAreDecided known = (goal : ℕ) → is_recorded known goal ≡ true → is_decided known goal ≡ true

-- where each recorded goal is decided, so is the provider of a goal that is made, changed or read by an operation which
-- is due
abbrev pub SendsDecided : Type 0
SendsDecided = (known : Known) (about : Op) (lane : ℕ) → RecordedAreDecided known
    → is_ready_on known about lane ≡ true → none_or (is_provider_decided known) (goal_of_op about) ≡ true

-- and the provider of a goal whose keep is due
abbrev pub KeepsDecided : Type 0
KeepsDecided = (known : Known) (number : ℕ) → RecordedAreDecided known
    → is_keep_ready known number ≡ true → is_provider_decided known number ≡ true
