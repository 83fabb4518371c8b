use Rattle.std.proofs.Common.{◌≡◌}
use Rattle.pl_snap.specs.Rows.{first_tags}
use Rattle.pl_snap.proofs.tag.new_tags.Given as goal

abbrev pub invariant-loop-number : goal.invariant-loop-number
invariant-loop-number l = l.tags.items ≡ first_tags l.first l.number
