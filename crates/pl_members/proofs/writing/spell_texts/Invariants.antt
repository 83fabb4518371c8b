use Rattle.std.proofs.Common.{◌≡◌, map, take}
use Rattle.serde_json.specs.Data.{string}
use Rattle.serde_json.specs.View.{view}
use Rattle.pl_members.proofs.writing.spell_texts.Given as goal

-- what was made spells the first ones
abbrev pub invariant-loop-text : goal.invariant-loop-text
invariant-loop-text l = map view l.made.items ≡ map string (take l.text-index l.texts)
