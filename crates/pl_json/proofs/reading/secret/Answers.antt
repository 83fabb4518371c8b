use Rattle.std.proofs.Common.{ap, ◌∙◌}
use Rattle.pl_value.proofs.Levels.{is_value-Secret}
use Rattle.pl_value.specs.IsValue.{is_value}
use Rattle.pl_json.proofs.reading.secret.Goals as goal

pub returns-in-Ok-clause-sound : goal.returns-in-Ok-clause-sound
returns-in-Ok-clause-sound c = is_value-Secret c.in-Ok.inner ∙ ap is_value c.in-Ok.ensures ∙ c.requires
