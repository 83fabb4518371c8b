use Rattle.pl_value.specs.IsValue.{is_value}
use Rattle.pl_value.proofs.Lists.{IfSome-slice_get}
use Rattle.pl_value.proofs.FieldParts.{are_fields-parts}
use Rattle.pl_value.proofs.fields.Fields.get.Goals as goal

pub returns-clause-sound : goal.returns-clause-sound
returns-clause-sound c =
    let parts = are_fields-parts c.self.inside.fields c.self.invariant in
    IfSome-slice_get (λ field. is_value field.1) c.self.inside.fields c.args.place c.get.result c.get.ensures.value parts.1
