use Rattle.std.proofs.Common.{◌∙◌, ap}
use Rattle.pl_value.specs.Keys.{value_at}
use Rattle.pl_value.proofs.FieldParts.{Pairs, are_fields-parts, IfSome-value_at}
use Rattle.pl_value.proofs.fields.Fields.find.Goals as goal

pub returns-clause-sound : goal.returns-clause-sound
returns-clause-sound c =
    let fields = c.self.inside.fields in
    IfSome-value_at fields c.args.key.now c.value_under.result (are_fields-parts fields c.self.invariant).1
    (c.value_under.ensures ∙ ap (λ (f : Pairs). value_at c.args.key.now f) c.as_slice.ensures)
