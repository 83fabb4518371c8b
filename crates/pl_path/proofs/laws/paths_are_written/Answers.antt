use Rattle.pl_path.specs.Grammar.{is_path}
use Rattle.pl_path.proofs.Refused.{path_is_read, place_is_refused, read_is_path, read_is_written, refused_is_place, written_is_read}
use Rattle.pl_path.proofs.StepByStep.{is_read, is_refused, read_back, refused_back}
use Rattle.pl_path.proofs.laws.paths_are_written.Goals as goal

pub returns-clause-read_is_written : goal.returns-clause-read_is_written
returns-clause-read_is_written c = λ text segments read. read_is_written text segments (read_back text segments read)

pub returns-clause-written_is_read : goal.returns-clause-written_is_read
returns-clause-written_is_read c = λ text segments written. is_read text segments (written_is_read text segments written)

pub returns-clause-told : goal.returns-clause-told
unfolding is_path
returns-clause-told c = λ text. (read_is_path text, path_is_read text)

pub returns-clause-refused_place : goal.returns-clause-refused_place
returns-clause-refused_place c =
    λ text place. (λ refused. refused_is_place text place (refused_back text place refused), λ is. is_refused text place (place_is_refused text place is))
