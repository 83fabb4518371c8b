use Rattle.std.proofs.Common.{◌≤◌, arith}
use Rattle.pl_value.specs.Inside.{depth}
use Rattle.serde_json.specs.View.{view}
use Rattle.pl_json.proofs.Shallow.{shallow-read, deepest-is}
use Rattle.pl_json.proofs.reading.read_value.Goals as goal

pub returns-in-Ok-clause-shallow : goal.returns-in-Ok-clause-shallow
returns-in-Ok-clause-shallow c =
    let within : depth c.in-Ok.value ≤ c.deepest.result = shallow-read c.deepest.result (view c.args.json.now) c.in-Ok.value c.in-Ok.ensures.read in
    omega (arith, deepest-is)
