use Rattle.pl_value.proofs.SameTells.{value_same-Decides, fields_same-Decides}
use Rattle.pl_value.proofs.laws.same_tells.Goals as goal

pub returns-clause-values : goal.returns-clause-values
returns-clause-values c = value_same-Decides

pub returns-clause-fields : goal.returns-clause-fields
returns-clause-fields c = fields_same-Decides
