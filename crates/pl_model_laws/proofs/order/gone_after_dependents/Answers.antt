use Rattle.pl_model_laws.proofs.Rows.Dependents as proof
use Rattle.pl_model_laws.proofs.order.gone_after_dependents.Goals as goal

pub returns : goal.returns
returns c = λ run history later earlier orderly refers left. proof.gone_last run later earlier refers history orderly left
