use Rattle.std.proofs.Common.{◌-◌, ◌*◌}
use Rattle.pl_desk_speed.proofs.locked.+making.Given as goal

abbrev pub decreases-crew_from : goal.decreases-crew_from
decreases-crew_from g l = 2 * (l.size - l.next)

abbrev pub decreases-others : goal.decreases-others
decreases-others g l = 2 * (l.size - l.next) - 1
