use Rattle.std.proofs.Common.{◌≡◌, take, map}
use Rattle.serde_json.specs.View.{view, members_view}
use Rattle.pl_json.specs.Spelled.{spelled, spelled_members}
use Rattle.pl_json.proofs.spelling.+spell.Given as goal

-- what was made spells the first ones
abbrev pub invariant-spell_items-loop-value : goal.invariant-spell_items-loop-value
invariant-spell_items-loop-value l = map view l.made.items ≡ map spelled (take l.value-index l.values)

abbrev pub invariant-spell_members-loop-key : goal.invariant-spell_members-loop-key
invariant-spell_members-loop-key l = members_view l.made.entries ≡ spelled_members (take l.key-index l.fields)
