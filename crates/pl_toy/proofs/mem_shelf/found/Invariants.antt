use Rattle.std.proofs.Common.{◌≡◌, drop}
use Rattle.pl_value.specs.Keys.{value_at}
use Rattle.pl_toy.proofs.mem_shelf.found.Given as goal

-- what is sought stands among the things that are left
abbrev pub invariant-loop-name : goal.invariant-loop-name
invariant-loop-name l = value_at l.id (drop l.name-index l.things) ≡ value_at l.id l.things
