use Rattle.std.proofs.Common.{◌≡◌, take}
use Rattle.pl_snap.specs.Rows.{turned_tags}
use Rattle.pl_snap.proofs.rows.turn_tags.Given as goal

abbrev pub invariant-loop-place : goal.invariant-loop-place
invariant-loop-place l = l.made.items ≡ turned_tags l.old l.first (take l.place l.tags) (take l.place l.entries)
