use Rattle.std.proofs.Common.{sym}
use Rattle.pl_errands.proofs.Seen.{has_open_seen}
use Rattle.pl_errands.proofs.errands.Errands.has_open.Goals as goal

pub returns : goal.returns
returns c = sym (has_open_seen c.self.inside c.self.invariant c.args.self.now c.self.view_is)
