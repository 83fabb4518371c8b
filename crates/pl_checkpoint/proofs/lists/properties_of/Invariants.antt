use Rattle.std.proofs.Common.{◌≡◌}
use Rattle.serde_json.specs.View.{members_view}
use Rattle.pl_checkpoint.proofs.Told.{after}
use Rattle.pl_checkpoint_text.specs.ReadField.{properties_of}
use Rattle.pl_checkpoint.proofs.lists.properties_of.Given as goal

-- what is read of the whole is what was read of the first ones, and then the rest
abbrev pub invariant-loop-key : goal.invariant-loop-key
invariant-loop-key l =
    properties_of l.path (members_view l.members.entries) ≡ after l.pairs (properties_of l.path (members_view l.key-iterator))
