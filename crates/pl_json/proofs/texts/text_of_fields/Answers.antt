use Rattle.std.proofs.Common.{◌≡◌, false, ap, ◌∙◌}
use Rattle.serde_json.specs.View.{view}
use Rattle.serde_json.specs.Written.{has_float, compact_text}
use Rattle.pl_json.proofs.NoFloat.{has_float-spelled_members}
use Rattle.pl_json.proofs.texts.text_of_fields.Goals as goal

pub returns : goal.returns
returns c =
    let none : has_float (view c.in_ok-spell_fields.field-0) ≡ false =
    ap has_float c.in_ok-spell_fields.ensures ∙ has_float-spelled_members c.args.fields.now in
    c.from_string.ensures ∙ c.in_ok-text.ensures.text none ∙ ap compact_text c.in_ok-spell_fields.ensures
