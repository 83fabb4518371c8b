use Rattle.std.proofs.Common.{◌≡◌, false, ap, ◌∙◌}
use Rattle.serde_json.specs.View.{view}
use Rattle.serde_json.specs.Written.{compact_text, has_float}
use Rattle.pl_checkpoint_text.specs.Pieces.{pending_text}
use Rattle.pl_checkpoint_text.proofs.Floats.{pending_whole}
use Rattle.pl_checkpoint_text.proofs.spelling.spell_pending.Goals as goal

pub returns : goal.returns
unfolding pending_text
returns c =
    let none : has_float (view c.in_ok-value.value) ≡ false = ap has_float c.in_ok-value.ensures ∙ pending_whole c.args.operation.now in
    c.from_string.ensures ∙ c.in_ok-text.ensures.text none ∙ ap compact_text c.in_ok-value.ensures
