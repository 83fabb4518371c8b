-- What the checkpoint's text tells.
use Rattle.std.specs.Prelude.{◌≡◌, All}
use Rattle.pl_json.specs.Fits.{FieldsFit}
use Rattle.pl_value.specs.IsValue.{AreFields}
use Rattle.pl_state.specs.declared.entry.Entry.{Entry}
use Rattle.pl_state.specs.declared.snapshot.Snapshot.{Snapshot}
use Rattle.pl_checkpoint_text.specs.Formed.{IsFormed}
use Rattle.pl_checkpoint_text.specs.Spelled.{checkpoint_text}

-- the inputs and outputs are values whose whole numbers have 64 bits, as those of an entry in memory always are
pub record HasValues (entry : Entry) : Type 0 where
  pub inputs : AreFields entry.inputs
  pub outputs : AreFields entry.outputs
  pub whole_inputs : FieldsFit entry.inputs
  pub whole_outputs : FieldsFit entry.outputs

-- the same of each entry, those of pending operations too
pub record AreValued (state : Snapshot) : Type 0 where
  pub entries : All HasValues state.entries
  pub pending : All (λ operation. HasValues operation.entry) state.pending

-- no two formed states have the same text
abbrev pub TextTellsState : Type 0
TextTellsState =
    (state other : Snapshot) → IsFormed state → IsFormed other → AreValued state → AreValued other
    → checkpoint_text state ≡ checkpoint_text other → state ≡ other
