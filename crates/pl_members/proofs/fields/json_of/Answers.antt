use Rattle.std.proofs.Common.{◌∙◌, sym}
use Rattle.std.proofs.lemmas.Bool.{false≢true}
use Rattle.pl_json.proofs.JsonTexts.{json_of_text, json_of_no_text}
use Rattle.pl_members.proofs.fields.json_of.Goals as goal

pub returns-in-Ok-clause-value : goal.returns-in-Ok-clause-value
returns-in-Ok-clause-value c = json_of_text c.args.bytes.now _ c.in-Ok.ensures.ok.0 c.in-Ok.ensures.ok.1

pub returns-else-is_memory-clause-wrong_form : goal.returns-else-is_memory-clause-wrong_form
returns-else-is_memory-clause-wrong_form c = λ _. json_of_no_text c.args.bytes.now (c.in-Err.ensures.err (λ memory. false≢true (sym c.if-is_memory.false ∙ c.is_memory.ensures.1 memory)))
