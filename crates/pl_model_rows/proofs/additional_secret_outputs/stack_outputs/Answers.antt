use Rattle.std.proofs.Common.{[], ◌∷◌, codes, pos, refl, ap, ◌∙◌}
use Rattle.pl_value.specs.Marks.{shown_secret}
use Rattle.pl_value.specs.declared.value.Value.{Value}
use Rattle.pl_value.specs.declared.value.Value.TheVariants as value
use Rattle.pl_value.proofs.Levels.{masked-Object, masked-Secret}
use Rattle.pl_model_rows.proofs.OnHistories.{on_histories}
use Rattle.pl_model_rows.specs.Pieces.{one_field, provider_entry, stack_entry}
use Rattle.pl_model_rows.specs.SecretOutputs.{a_entry, k_secret}
use Rattle.pl_model_rows.proofs.Values.{Pairs, k_marked}
use Rattle.pl_model_rows.proofs.additional_secret_outputs.stack_outputs.Goals as goal

pub returns-clause-state : goal.returns-clause-state
unfolding on_histories
returns-clause-state c =
    ap (λ (fields : Pairs). record stack_entry { outputs = k_secret } ∷ provider_entry ∷ record a_entry { outputs = fields } ∷ []) k_marked

pub returns-clause-saved : goal.returns-clause-saved
unfolding on_histories
returns-clause-saved c = refl

pub returns-clause-shown : goal.returns-clause-shown
unfolding shown_secret
returns-clause-shown c =
    masked-Object k_secret ∙ ap (λ (held : Value). value.Object (one_field (codes "k") held)) (masked-Secret (value.Whole (pos 1)))

pub returns-clause-no_problem : goal.returns-clause-no_problem
unfolding on_histories
returns-clause-no_problem c = refl
