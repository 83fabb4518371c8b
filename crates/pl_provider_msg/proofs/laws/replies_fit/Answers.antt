use Rattle.pl_provider_msg.proofs.Fitting.{replies_fit}
use Rattle.pl_provider_msg.proofs.laws.replies_fit.Goals as goal

pub returns : goal.returns
returns c = replies_fit
