use Rattle.pl_columns.proofs.Following.{follows}
use Rattle.pl_columns.proofs.laws.tickets_follow.Goals as goal

pub returns : goal.returns
returns c = follows
