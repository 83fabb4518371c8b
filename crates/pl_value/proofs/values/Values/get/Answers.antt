use Rattle.pl_value.specs.IsValue.{is_value}
use Rattle.pl_value.proofs.Lists.{IfSome-slice_get}
use Rattle.pl_value.proofs.values.Values.get.Goals as goal

pub returns-clause-sound : goal.returns-clause-sound
returns-clause-sound c = IfSome-slice_get is_value c.self.inside.values c.args.place c.get.result c.get.ensures.value c.self.invariant
