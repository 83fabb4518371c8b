use Rattle.std.proofs.Common.{◌≤◌, arith}
use Rattle.pl_value.specs.Inside.{greatest_field_depth}
use Rattle.serde_json.specs.View.{members_view}
use Rattle.pl_json.proofs.Shallow.{shallow-members, deepest-is}
use Rattle.pl_json.proofs.reading.fields_in.Goals as goal

pub returns-clause-shallow : goal.returns-clause-shallow
returns-clause-shallow c =
    let within : greatest_field_depth c.in_ok-read_members.field-0 ≤ c.deepest-2.result =
    shallow-members c.deepest-2.result (members_view c.args.members.now.entries) c.in_ok-read_members.field-0 c.in_ok-read_members.ensures.read in
    omega (arith, deepest-is)
