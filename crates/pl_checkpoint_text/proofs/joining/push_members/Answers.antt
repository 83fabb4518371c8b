use Rattle.std.proofs.Common.{◌≡◌, ◌++◌, [], ◌∷◌, true, append_assoc, refl, sym, ap, ◌∙◌}
use Rattle.std.proofs.lemmas.Bool.{or_parts}
use Rattle.serde_json.proofs.Views.{Entry}
use Rattle.serde_json.specs.View.{view, members_view}
use Rattle.serde_json.specs.Written.{has_float, members_have_float}
use Rattle.pl_checkpoint_text.specs.Pieces.{fields_text}
use Rattle.pl_checkpoint_text.proofs.Utf8.{added_ascii}
use Rattle.pl_checkpoint_text.proofs.joining.push_members.Goals as goal

pub loop-key-preserved : goal.loop-key-preserved
loop-key-preserved c = (
  λ whole.
      let l = c.loop-key in
      let e : Entry = (c.in-Some.key.now, c.in-Some.value.now) in
      let left = c.next.new.self in
      let all : l.key-iterator ≡ e ∷ left = c.in-Some.ensures.steps in
      let held = l.invariant.0 whole in
      let parts = or_parts (has_float (view e.1)) (members_have_float (members_view left)) (ap (λ es. members_have_float (members_view es)) (sym all) ∙ held.1) in
      let entries = c.args.entries.now in
      let pendings = c.args.pendings.now in
      let added : c.push_field.new.out ++ fields_text entries pendings true (members_view left)
      ≡ l.out ++ fields_text entries pendings l.is_later (members_view (e ∷ left)) =
      rw (c.in_ok-push_field.ensures.added parts.0, c.in_ok-extend.ensures.added, c.in_ok-push_quoted.ensures.added, c.in_ok-push_comma_if.ensures.added, c.as_str.ensures.value, c.as_str-in-loop-key.ensures.value)
      (simp append_assoc) in
      (added ∙ ap (λ es. l.out ++ fields_text entries pendings l.is_later (members_view es)) (sym all) ∙ held.0, parts.1),
  λ utf8. c.in_ok-push_field.ensures.utf8
      (added_ascii c.push_quoted.new.out (58 ∷ []) c.extend.new.self c.in_ok-extend.ensures.added refl
      (c.in_ok-push_quoted.ensures.utf8 (c.in_ok-push_comma_if.ensures.utf8 (c.loop-key.invariant.1 utf8)))),
)
