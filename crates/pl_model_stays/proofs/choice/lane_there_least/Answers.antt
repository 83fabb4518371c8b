use Rattle.pl_model_stays.proofs.Work.Choosing as proof
use Rattle.pl_model_stays.proofs.choice.lane_there_least.Goals as goal

pub returns : goal.returns
returns c = proof.lane-there-least
