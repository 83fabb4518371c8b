use Rattle.pl_model_stays.proofs.Work.Choosing as proof
use Rattle.pl_model_stays.proofs.choice.table_decides.Goals as goal

pub returns : goal.returns
returns c = λ known table about tells uses. proof.table-decides known about uses table tells
