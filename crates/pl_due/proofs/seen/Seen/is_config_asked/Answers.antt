use Rattle.std.proofs.Common.{◌∙◌}
use Rattle.pl_model.specs.Due.{asks_config}
use Rattle.pl_due.proofs.seen.Seen.is_config_asked.Goals as goal

pub returns-in-None : goal.returns-in-None
returns-in-None c = c.in-None.ensures asks_config

pub returns-in-Some : goal.returns-in-Some
returns-in-Some c = c.is_of_provider.ensures ∙ c.in-Some.ensures asks_config
