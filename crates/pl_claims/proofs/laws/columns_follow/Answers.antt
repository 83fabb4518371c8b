use Rattle.std.proofs.Common.{refl}
use Rattle.pl_claims.proofs.Claiming.{claim_low, claim_free}
use Rattle.pl_claims.proofs.Settling.{one_decided, settled_over, settled_waits, stays}
use Rattle.pl_claims.proofs.laws.columns_follow.Goals as goal

pub returns : goal.returns
returns c = record {
  decided = one_decided;
  claim = claim_low;
  unclaimed = claim_free;
  waits = settled_waits;
  over = settled_over;
  told = λ run before seat request. refl;
  answered = λ run before seat ticket reply. refl;
  others = stays;
}
