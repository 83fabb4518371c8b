use Rattle.std.proofs.lemmas.Str.Pattern.{starts_text}
use Rattle.pl_urn.specs.Grammar.{provider_prefix}
use Rattle.pl_urn.proofs.grammar.is_provider_type.Goals as goal

pub returns : goal.returns
returns c = starts_text _ provider_prefix _ c.starts_with.ensures.cases
