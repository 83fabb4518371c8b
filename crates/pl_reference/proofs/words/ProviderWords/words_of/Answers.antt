use Rattle.std.proofs.Common.{◌∙◌, ap, List, ℕ}
use Rattle.pl_reference.specs.Packages.{words_of}
use Rattle.pl_reference.proofs.Packages.{words_found}
use Rattle.pl_reference.proofs.words.ProviderWords.words_of.Goals as goal

pub returns : goal.returns
returns c =
    c.get.ensures.value ∙ words_found c.self.inside.words c.args.provided.now
    ∙ ap (λ (pairs : List (List ℕ × List (List ℕ))). words_of pairs c.args.provided.now) c.self.view_is
