use Rattle.std.proofs.Common.{◌∙◌}
use Rattle.pl_value.proofs.Levels.{is_value-List}
use Rattle.pl_value.proofs.value.Value.from_values.Goals as goal

pub returns-clause-sound : goal.returns-clause-sound
returns-clause-sound c = is_value-List c.into_items.result ∙ c.into_items.ensures.sound
