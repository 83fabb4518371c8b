use Rattle.std.proofs.Common.{◌≡◌, map, take}
use Rattle.serde_json.specs.Data.{no_members}
use Rattle.serde_json.specs.View.{members_view}
use Rattle.pl_json.specs.Objects.{with_fields}
use Rattle.pl_checkpoint_text.specs.Spelled.{property_field}
use Rattle.pl_checkpoint_text.proofs.members.spell_properties.Given as goal

-- what was made has the first properties
abbrev pub invariant-loop-pair : goal.invariant-loop-pair
invariant-loop-pair l = members_view l.made.entries ≡ with_fields (map property_field (take l.pair-index l.pairs)) no_members
