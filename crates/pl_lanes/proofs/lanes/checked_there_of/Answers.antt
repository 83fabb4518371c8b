use Rattle.std.proofs.Common.{◌∙◌, sym}
use Rattle.pl_columns.specs.Read.{known_by}
use Rattle.pl_lanes.proofs.Checking.{none_awaited}
use Rattle.pl_lanes.proofs.lanes.checked_there_of.Goals as goal

pub returns-else-awaits_lane : goal.returns-else-awaits_lane
returns-else-awaits_lane c =
    none_awaited (known_by c.args.columns.now) c.args.number (sym c.awaits_lane.ensures ∙ c.if-awaits_lane.false)
