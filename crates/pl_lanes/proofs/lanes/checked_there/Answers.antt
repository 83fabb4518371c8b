use Rattle.std.proofs.Common.{◌∙◌, ap, sym}
use Rattle.pl_columns.specs.Read.{known_by}
use Rattle.pl_lanes.specs.Lanes.{checked_there}
use Rattle.pl_lanes.proofs.Checking.{row_unchecked}
use Rattle.pl_lanes.proofs.lanes.checked_there.Goals as goal

pub returns-in-Row : goal.returns-in-Row
returns-in-Row c =
    row_unchecked (known_by c.args.columns.now) c.in-Row.field-0
    ∙ ap (checked_there (known_by c.args.columns.now)) (sym c.in-Row.is)
