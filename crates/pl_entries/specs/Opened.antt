-- What is asked of the row that a pending deletion is made of.
use Rattle.std.specs.Prelude.{⊤, ◌≡◌, Option, option_and_then}
use Rattle.pl_events.specs.declared.operation.Op.{Op}
use Rattle.pl_events.specs.declared.operation.Op.TheVariants as op
use Rattle.pl_model.specs.Entries.{old_row}
use Rattle.pl_model.specs.Known.{Known}
use Rattle.pl_model.specs.Recording.{row_in}
use Rattle.pl_state.specs.declared.entry.Entry.{Entry}

-- of a deletion, the row is the one that is deleted, as it stands now
abbrev pub IsRowNow : Known → Op → Option Entry → Type 0
IsRowNow known (op.Delete about) row = row ≡ option_and_then (old_row known) (row_in about)
IsRowNow known _ row = ⊤
