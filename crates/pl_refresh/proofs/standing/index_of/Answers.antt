use Rattle.pl_refresh.proofs.Covers.{covers_none}
use Rattle.pl_refresh.proofs.standing.index_of.Goals as goal

pub loop-row-init : goal.loop-row-init
loop-row-init c = covers_none c.new-seen.result c.new-seen.ensures
