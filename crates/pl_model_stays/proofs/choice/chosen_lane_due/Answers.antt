use Rattle.pl_model_stays.proofs.Work.Choosing as proof
use Rattle.pl_model_stays.proofs.choice.chosen_lane_due.Goals as goal

pub returns : goal.returns
returns c = proof.chosen-lane-due
