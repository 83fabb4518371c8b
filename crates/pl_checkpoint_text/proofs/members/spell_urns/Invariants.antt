use Rattle.std.proofs.Common.{◌≡◌, map, take}
use Rattle.serde_json.specs.Data.{string}
use Rattle.serde_json.specs.View.{view}
use Rattle.pl_checkpoint_text.proofs.members.spell_urns.Given as goal

-- what was made spells the first ones
abbrev pub invariant-loop-urn : goal.invariant-loop-urn
invariant-loop-urn l = map view l.made.items ≡ map string (take l.urn-index l.urns)
