use Rattle.std.proofs.Common.{◌≡◌, map, take}
use Rattle.serde_json.specs.View.{view}
use Rattle.pl_provider_msg.specs.Response.{reason_data}
use Rattle.pl_provider_msg.proofs.members.spell_reasons.Given as goal

-- what was made spells the first ones
abbrev pub invariant-loop-pair : goal.invariant-loop-pair
invariant-loop-pair l = map view l.made.items ≡ map reason_data (take l.pair-index l.reasons)
