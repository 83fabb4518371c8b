use Rattle.std.proofs.Common.{◌<◌, length, sym, arith}
use Rattle.pl_model.specs.Claims.{claim_by}
use Rattle.pl_claims.proofs.Lists.{first_found, first_more}
use Rattle.pl_claims.proofs.claims.Claims.claim_by_any.Goals as goal

pub returns-in-Some : goal.returns-in-Some
returns-in-Some c =
    let inside : c.loop-urn.urn-index < length c.args.urns.now = omega arith in
    first_found (claim_by c.args.self.now.run c.args.self.now.decided c.args.goal.now) c.args.urns.now c.loop-urn.urn-index c.urn-item.result
    c.in-Some.row inside c.urn-item.is c.loop-urn.invariant (sym c.in-Some.ensures)

pub loop-urn-preserved : goal.loop-urn-preserved
loop-urn-preserved c =
    let inside : c.loop-urn.urn-index < length c.args.urns.now = omega arith in
    first_more (claim_by c.args.self.now.run c.args.self.now.decided c.args.goal.now) c.args.urns.now c.loop-urn.urn-index c.urn-item.result
    inside c.urn-item.is c.loop-urn.invariant (sym c.in_default.ensures)
