use Rattle.std.proofs.Common.{◌≡◌, true, sym, ap, ◌∙◌, subst}
use Rattle.pl_value.specs.Keys.{are_all_below}
use Rattle.pl_value.specs.IsValue.{are_fields}
use Rattle.pl_value.proofs.FieldParts.{Pairs, are_fields-push}
use Rattle.pl_value.proofs.fields.Fields.push.Goals as goal

pub invariant_of-self-2 : goal.invariant_of-self-2
invariant_of-self-2 c =
    let kept = are_fields-push c.self.inside.fields c.args.key c.args.value c.self.invariant c.requires.sound (ap (λ (f : Pairs). are_all_below f c.args.key) c.self.view_is ∙ c.requires.above) c.requires.unmarked in
    subst (λ (f : Pairs). are_fields f ≡ true) (sym c.in_ok-push.ensures.ok) kept
