use Rattle.std.proofs.Common.{◌∙◌, arith}
use Rattle.std.proofs.lemmas.Grind.{common_steps}
use Rattle.pl_options.proofs.Renamed.{renamed_text}
use Rattle.pl_options.proofs.names.versioned_name.Goals as goal

pub returns : goal.returns
returns c =
    let letters = c.in_ok-letters.ensures ∙ renamed_text _ c.utf8.version in
    grind (arith, common_steps, letters)
