use Rattle.std.proofs.Common.{◌≡◌, true, string_bytes, rules}
use Rattle.serde_json.specs.View.{view}
use Rattle.serde_json.specs.Written.{compact_text}
use Rattle.pl_checkpoint_text.proofs.NoFloats.{wholes-no_float}
use Rattle.pl_checkpoint_text.specs.Formed.{has_wholes}
use Rattle.pl_checkpoint.proofs.version.version_text.Goals as goal

pub returns : goal.returns
returns c =
    let value = view c.args.value.now in
    let wholes : has_wholes value ≡ true = search rules in
    let text : string_bytes c.in_ok-text.text ≡ compact_text value = c.in_ok-text.ensures.text (wholes-no_float value wholes) in
    search rules
