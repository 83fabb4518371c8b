-- What is told to do, as the definitions choose it.
use Rattle.pl_events.specs.Lanes.{LanesTold}
use Rattle.pl_model.specs.Choice.{Choice, nothing, sent, taken, too_many}
use Rattle.pl_model.specs.declared.work.Work.{Work}
use Rattle.pl_model.specs.declared.work.Work.TheVariants as work
use Rattle.pl_due.specs.Now.{lane_now}
use Rattle.pl_due.specs.declared.due.Due.{Due}
use Rattle.pl_due.specs.declared.due.Due.TheVariants as due
use Rattle.pl_due.specs.declared.seen.Seen.{Seen}

-- the choice that is told
abbrev pub choice_told : Due → Choice
choice_told due.Nothing = nothing
choice_told due.TooMany = too_many
choice_told (due.Post n) = taken (work.Post n)
choice_told (due.Keep number) = taken (work.Keep number)
choice_told (due.Clear at) = taken (work.Clear at)
choice_told (due.Drop row) = taken (work.Drop row)
choice_told (due.Call op lane) = sent op lane

-- the choice of work that is taken up
abbrev pub choice_now : Seen → LanesTold → Work → Choice
choice_now seen table (work.Send op) = sent op (lane_now seen table op)
choice_now seen table other = taken other
