use Rattle.std.proofs.Common.{sym}
use Rattle.pl_errands.proofs.Seen.{open_count_seen}
use Rattle.pl_errands.proofs.errands.Errands.open_count.Goals as goal

pub returns : goal.returns
returns c = sym (open_count_seen c.self.inside c.self.invariant c.args.self.now c.self.view_is)
