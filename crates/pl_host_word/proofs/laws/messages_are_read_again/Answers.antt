use Rattle.pl_host_word.proofs.AgainRead.{answers_are_read_again}
use Rattle.pl_host_word.proofs.WordsGood.{words_are_read_again}
use Rattle.pl_host_word.proofs.laws.messages_are_read_again.Goals as goal

pub returns-clause-words : goal.returns-clause-words
returns-clause-words c = words_are_read_again

pub returns-clause-answers : goal.returns-clause-answers
returns-clause-answers c = answers_are_read_again
