use Rattle.pl_model_stays.proofs.Goals.Asking as proof
use Rattle.pl_model_stays.proofs.laws.requests_stay.Goals as goal

pub returns : goal.returns
returns c = λ run event past n asked orderly h. proof.requests-stay run event past n asked orderly h
