use Rattle.std.proofs.Common.{◌≡◌, map, take}
use Rattle.serde_json.specs.Data.{no_members}
use Rattle.serde_json.specs.View.{members_view}
use Rattle.pl_json.specs.Objects.{with_fields}
use Rattle.pl_members.specs.Spelled.{keyed_field}
use Rattle.pl_members.proofs.writing.spell_keyed.Given as goal

-- what was made has the first lists
abbrev pub invariant-loop-pair : goal.invariant-loop-pair
invariant-loop-pair l = members_view l.made.entries ≡ with_fields (map keyed_field (take l.pair-index l.pairs)) no_members
