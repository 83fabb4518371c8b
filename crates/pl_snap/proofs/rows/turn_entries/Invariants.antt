use Rattle.std.proofs.Common.{◌≡◌, map, take}
use Rattle.pl_turning.specs.Turning.{turned_entry}
use Rattle.pl_snap.proofs.rows.turn_entries.Given as goal

abbrev pub invariant-loop-entry : goal.invariant-loop-entry
invariant-loop-entry l = l.made.items ≡ map (λ entry. turned_entry entry (record { old = l.old; new = l.new })) (take l.entry-index l.entries)
