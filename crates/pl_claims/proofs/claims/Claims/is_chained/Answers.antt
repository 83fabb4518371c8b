use Rattle.std.proofs.Common.{is_some, ◌∙◌, ap}
use Rattle.pl_claims.proofs.Seen.{chained_by_one}
use Rattle.pl_claims.proofs.claims.Claims.is_chained.Goals as goal

pub returns : goal.returns
returns c = c.is_some.ensures ∙ ap is_some c.chainer.ensures ∙ chained_by_one c.args.self.now.run c.args.self.now.decided c.args.row
