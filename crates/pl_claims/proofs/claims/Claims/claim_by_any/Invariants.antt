use Rattle.std.proofs.Common.{◌≡◌, None, take}
use Rattle.pl_lemmas.specs.Words.{first_some}
use Rattle.pl_model.specs.Claims.{claim_by}
use Rattle.pl_claims.proofs.claims.Claims.claim_by_any.Given as goal

abbrev pub invariant-loop-urn : goal.invariant-loop-urn
invariant-loop-urn l = first_some (claim_by l.self.run l.self.decided l.goal) (take l.urn-index l.urns) ≡ None
