use Rattle.std.proofs.Common.{[], ◌∷◌, codes, Some, refl, ap}
use Rattle.pl_events.specs.declared.event.Answer.{Answer}
use Rattle.pl_model_rows.proofs.OnHistories.{on_histories}
use Rattle.pl_model_rows.specs.Pieces.{a_urn, provider_entry, stack_entry}
use Rattle.pl_model_rows.specs.SecretOutputs.{a_entry}
use Rattle.pl_model_rows.proofs.Values.{Pairs, k_marked}
use Rattle.pl_model_rows.proofs.additional_secret_outputs.secrets.Goals as goal

pub returns-clause-creating : goal.returns-clause-creating
unfolding on_histories
returns-clause-creating c = refl

pub returns-clause-created : goal.returns-clause-created
unfolding on_histories
returns-clause-created c =
    ap (λ (fields : Pairs). stack_entry ∷ provider_entry ∷ record a_entry { outputs = fields } ∷ []) k_marked

pub returns-clause-answer : goal.returns-clause-answer
unfolding on_histories
returns-clause-answer c = ap (λ (fields : Pairs). Answer.Registered a_urn (Some (codes "a-1")) fields) k_marked

pub returns-clause-create_asked : goal.returns-clause-create_asked
unfolding on_histories
returns-clause-create_asked c = refl
