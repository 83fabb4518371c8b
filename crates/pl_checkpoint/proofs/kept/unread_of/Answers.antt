use Rattle.std.proofs.Common.{◌≡◌, None, Ok, sym, ap, ◌∙◌, rules}
use Rattle.pl_value.specs.Depth.{most_levels}
use Rattle.serde_json.specs.Data.{object}
use Rattle.serde_json.specs.View.{members_view}
use Rattle.serde_json.specs.Written.{compact_text}
use Rattle.pl_checkpoint.proofs.Others.{members-no_float}
use Rattle.pl_checkpoint_text.specs.ReadEntry.{members_fault, unread_by, unread_of}
use Rattle.pl_checkpoint.proofs.kept.unread_of.Goals as goal

pub returns : goal.returns
unfolding unread_of
returns c =
    let ms = members_view c.args.members.entries in
    let none : members_fault most_levels ms ≡ None = search rules in
    let text : c.in_ok-text_of.field-0 ≡ compact_text (object ms) = c.in_ok-text_of.ensures (members-no_float most_levels ms none) in
    ap (unread_by c.args.path.now ms) none ∙ ap Ok (sym text)
