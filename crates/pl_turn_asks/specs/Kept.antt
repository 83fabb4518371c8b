-- The rows that a merged snapshot keeps, and the row that an operation deletes.
use Rattle.std.specs.Prelude.{⊤, ◌≡◌, ℕ, true, Option, Some, [], filter_map, find, map, option_map}
use Rattle.pl_events.specs.declared.operation.Op.{Op}
use Rattle.pl_events.specs.declared.operation.Op.TheVariants as op
use Rattle.pl_events.specs.declared.operation.Subject.TheVariants as subject
use Rattle.pl_model.specs.Entries.{old_entries, old_row}
use Rattle.pl_model.specs.History.{known_of}
use Rattle.pl_model.specs.Known.{Known}
use Rattle.pl_model.specs.Rows.{is_left, left_rows}
use Rattle.pl_model.specs.declared.fixed.Fixed.{Fixed}
use Rattle.pl_model_step.specs.Reads.{KnowsSame}
use Rattle.pl_snap.specs.Calls.{merged_of}
use Rattle.pl_snap.specs.Model.{Merged, Row}
use Rattle.pl_snap.specs.Rows.{is_row}
use Rattle.pl_state.specs.declared.entry.Entry.{Entry}

-- the entry that a merged snapshot keeps of a row
abbrev pub kept_entry : Merged → ℕ → Option Entry
kept_entry merged row = option_map (λ one. one.entry) (find (is_row row) merged.rows)

-- a row with its number, whatever its stamp
abbrev pub numbered_entry : Row → Option ℕ × Entry
numbered_entry row = (row.number, row.entry)

-- a row of the state at the start with its number, as it stands now
abbrev pub numbered_row : Known → ℕ → Option (Option ℕ × Entry)
numbered_row known row = option_map (λ entry. (Some row, entry)) (old_row known row)

-- the rows of a merged snapshot are those that are left, each with its number and as it stands now
abbrev pub KeepsRows : Known → Merged → Type 0
KeepsRows known merged = map numbered_entry merged.rows ≡ filter_map (numbered_row known) (left_rows known)

-- of an operation that deletes a row: the row is left, and a merged snapshot keeps the rows that are
abbrev pub KeepsDeleted : Known → Merged → Op → Type 0
KeepsDeleted known merged (op.Delete (subject.Row row)) = KeepsRows known merged × (is_left known row ≡ true)
KeepsDeleted known merged _ = ⊤

-- the entries of the rows of such a merged snapshot are the old entries of the state
abbrev pub KeptAreOld : Type 0
KeptAreOld = (known : Known) (merged : Merged) → KeepsRows known merged → map (λ row. row.entry) merged.rows ≡ old_entries known

-- what keeps the rows by one knowledge of a run keeps them by another that knows the same
abbrev pub KeptAlike : Type 0
KeptAlike = (a b : Known) (merged : Merged) → a.run ≡ b.run → KnowsSame a b → KeepsRows a merged → KeepsRows b merged

-- at the start of a run the merged snapshot of its base keeps them
abbrev pub KeptAtStart : Type 0
KeptAtStart = (run : Fixed) → KeepsRows (known_of run []) (merged_of run.base)
