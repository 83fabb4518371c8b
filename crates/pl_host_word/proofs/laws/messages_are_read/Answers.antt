use Rattle.pl_host_word.proofs.AnswersBack.{answers_are_read}
use Rattle.pl_host_word.proofs.WordsBack.{words_are_read}
use Rattle.pl_host_word.proofs.laws.messages_are_read.Goals as goal

pub returns-clause-words : goal.returns-clause-words
returns-clause-words c = words_are_read

pub returns-clause-answers : goal.returns-clause-answers
returns-clause-answers c = answers_are_read
