use Rattle.std.proofs.Common.{◌∙◌, ap}
use Rattle.pl_urn.specs.Grammar.{is_provider_type}
use Rattle.pl_decide.proofs.kinds.is_of_provider.Goals as goal

pub returns : goal.returns
returns c = c.is_provider_type.ensures ∙ ap is_provider_type c.own_type.ensures
