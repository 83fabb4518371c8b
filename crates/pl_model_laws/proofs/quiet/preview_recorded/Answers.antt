use Rattle.pl_model_laws.proofs.Endings.Foreseeing as proof
use Rattle.pl_model_laws.proofs.quiet.preview_recorded.Goals as goal

pub returns : goal.returns
returns c = λ run history is previews orderly calm quiet.
    proof.preview-recorded run history is.names previews is.some_children orderly calm quiet
