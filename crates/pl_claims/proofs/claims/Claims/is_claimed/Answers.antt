use Rattle.std.proofs.Common.{is_some, ◌∙◌, ap}
use Rattle.pl_claims.proofs.Seen.{claimed_by_one}
use Rattle.pl_claims.proofs.claims.Claims.is_claimed.Goals as goal

pub returns : goal.returns
returns c = c.is_some.ensures ∙ ap is_some c.claimer.ensures ∙ claimed_by_one c.args.self.now.decided c.args.row
