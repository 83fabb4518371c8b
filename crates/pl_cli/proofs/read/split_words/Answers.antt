use Rattle.std.proofs.Common.{string_bytes}
use Rattle.pl_cli.specs.Word.{is_separator}
use Rattle.pl_cli.proofs.Lists.{all-before_first, drop-after_first, none-after_first, take-before_first}
use Rattle.pl_cli.proofs.read.split_words.Goals as goal

pub returns-in-Some-clause-engine : goal.returns-in-Some-clause-engine
returns-in-Some-clause-engine c = take-before_first is_separator string_bytes _ _ c.in-Some.ensures.place

pub returns-in-Some-clause-host : goal.returns-in-Some-clause-host
returns-in-Some-clause-host c = drop-after_first is_separator string_bytes _ _ c.in-Some.ensures.place

pub returns-in-None-clause-engine : goal.returns-in-None-clause-engine
returns-in-None-clause-engine c = all-before_first is_separator string_bytes _ c.in-None.ensures.place

pub returns-in-None-clause-host : goal.returns-in-None-clause-host
returns-in-None-clause-host c = none-after_first is_separator string_bytes c.args.words.now c.in-None.ensures.place
