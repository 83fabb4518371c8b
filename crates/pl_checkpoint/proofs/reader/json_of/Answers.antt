use Rattle.std.proofs.Common.{sym, ap, ◌∙◌}
use Rattle.std.proofs.lemmas.Bool.{false≢true}
use Rattle.serde_json.specs.Errors.{IsMemory}
use Rattle.pl_json.proofs.JsonTexts.{json_of_text, json_of_no_text}
use Rattle.pl_checkpoint_text.specs.Read.{data_reading}
use Rattle.pl_checkpoint.proofs.reader.json_of.Goals as goal

pub returns-in-Ok-clause-read : goal.returns-in-Ok-clause-read
returns-in-Ok-clause-read c = json_of_text c.args.bytes.now _ c.in-Ok.ensures.ok.0 c.in-Ok.ensures.ok.1

pub returns-in-Err-2-clause-refused : goal.returns-in-Err-2-clause-refused
returns-in-Err-2-clause-refused c =
    let no_want : IsMemory c.in-Err.error → ⊥ = λ is. false≢true (sym c.if-is_memory.false ∙ c.is_memory.ensures.1 is) in
    ap data_reading (json_of_no_text c.args.bytes.now (c.in-Err.ensures.err no_want))
