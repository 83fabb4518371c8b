use Rattle.pl_host_word.proofs.WordsGood.{words_fit}
use Rattle.pl_host_word.proofs.laws.words_fit.Goals as goal

pub returns : goal.returns
returns c = words_fit
