use Rattle.std.proofs.Common.{◌≡◌, false, codes, IsUtf8, refl, sym, subst, ap, ◌∙◌}
use Rattle.json.proofs.Printed.Utf8.{IsUtf8-are_ascii}
use Rattle.serde_json.specs.Data.{Members}
use Rattle.serde_json.specs.View.{members_view}
use Rattle.serde_json.specs.Written.{members_have_float}
use Rattle.pl_checkpoint_text.specs.Pieces.{with_places}
use Rattle.pl_checkpoint_text.specs.Spelled.{unread_fields}
use Rattle.pl_checkpoint_text.proofs.Floats.{with_places-whole}
use Rattle.pl_checkpoint_text.proofs.Joined.{Rising, joined, rising_view}
use Rattle.pl_checkpoint_text.proofs.Utf8.{added_ascii}
use Rattle.pl_checkpoint_text.proofs.joining.join_text.Goals as goal

pub returns-clause-text : goal.returns-clause-text
returns-clause-text c = λ state are.
    let rest = c.args.rest.now in
    let is : members_view c.in_ok-members.members.entries ≡ with_places (unread_fields rest) = c.in_ok-members.ensures in
    let Rises : Members → Type 0 = λ ms. Rising ms in
    let rising = subst Rises is (rising_view c.in_ok-members.members.entries c.push_members.ensures.rising) in
    let whole : members_have_float (members_view c.in_ok-members.members.entries) ≡ false = ap members_have_float is ∙ with_places-whole rest in
    rw (c.in_ok-extend-2.ensures.added, c.in_ok-push_quoted.ensures.added, c.in_ok-extend.ensures.added, c.in_ok-push_members.ensures.added whole, c.in_ok-out.ensures, is, c.as_str.ensures)
    (joined state c.args.stack.now rest c.args.entries.now c.args.pendings.now are rising)

pub returns-clause-utf8 : goal.returns-clause-utf8
returns-clause-utf8 c =
    added_ascii c.push_quoted.new.out (codes "},\"version\":3}") c.extend-2.new.self c.in_ok-extend-2.ensures.added refl
    (c.in_ok-push_quoted.ensures.utf8
    (added_ascii c.push_members.new.out (codes "},\"stack\":") c.extend.new.self c.in_ok-extend.ensures.added refl
    (c.in_ok-push_members.ensures.utf8
    (subst IsUtf8 (sym c.in_ok-out.ensures) (IsUtf8-are_ascii (codes "{\"checkpoint\":{\"latest\":{") refl)))))
