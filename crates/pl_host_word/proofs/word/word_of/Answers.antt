use Rattle.pl_host_word.proofs.WordsGood.{words_fit}
use Rattle.pl_host_word.proofs.word.word_of.Goals as goal

pub returns-in-Ok-clause-formed : goal.returns-in-Ok-clause-formed
returns-in-Ok-clause-formed c = words_fit c.args.bytes.now _ c.in-Ok.ensures.word
