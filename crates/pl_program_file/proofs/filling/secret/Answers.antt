use Rattle.std.proofs.Common.{ap, ◌∙◌}
use Rattle.pl_value.proofs.Levels.{is_value-Secret}
use Rattle.pl_value.specs.IsValue.{is_value}
use Rattle.pl_program_file.proofs.filling.secret.Goals as goal

pub returns-clause-sound : goal.returns-clause-sound
returns-clause-sound c = is_value-Secret c.in_ok-inner.inner ∙ ap is_value c.in_ok-inner.ensures ∙ c.requires
