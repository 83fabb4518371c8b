use Rattle.std.proofs.Common.{◌≡◌, drop}
use Rattle.pl_value.specs.Keys.{value_at}
use Rattle.pl_value.proofs.fields.value_under.Given as goal

-- what is sought stands among the pairs that are left
abbrev pub invariant-loop-name : goal.invariant-loop-name
invariant-loop-name l = value_at l.key (drop l.name-index l.fields) ≡ value_at l.key l.fields
