use Rattle.pl_model_stays.proofs.Work.Choosing as proof
use Rattle.pl_model_stays.proofs.choice.table_tells.Goals as goal

pub returns : goal.returns
returns c = λ known table about wanted tells uses own. proof.table-tells known about wanted uses own table tells
