use Rattle.std.proofs.Common.{◌≡◌, string_bytes, take}
use Rattle.pl_show.specs.Line.{resource_lines}
use Rattle.pl_show.proofs.state_lines.resource_lines.Given as goal

-- the lines of the first entries
abbrev pub invariant-loop-entry : goal.invariant-loop-entry
invariant-loop-entry l = string_bytes l.text ≡ resource_lines (take l.entry-index l.entries)
