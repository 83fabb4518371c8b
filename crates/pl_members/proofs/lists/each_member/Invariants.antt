use Rattle.std.proofs.Common.{◌≡◌}
use Rattle.serde_json.specs.View.{members_view}
use Rattle.pl_members.specs.Field.{each_member, texts_of}
use Rattle.pl_members.proofs.Items.{after}
use Rattle.pl_members.proofs.lists.each_member.Given as goal

-- what is read of the whole is what was read of the first ones, and then the rest
abbrev pub invariant-loop-key : goal.invariant-loop-key
invariant-loop-key l =
    each_member texts_of (members_view l.members.entries) ≡ after l.pairs (each_member texts_of (members_view l.key-iterator))
