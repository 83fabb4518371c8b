use Rattle.std.proofs.Common.{◌∙◌, ap, is_some}
use Rattle.pl_reference.proofs.Packages.{words_found}
use Rattle.pl_reference.proofs.words.has_words.Goals as goal

pub returns : goal.returns
returns c = c.contains_key.ensures ∙ ap is_some (words_found c.args.words.now c.args.provided.now)
