use Rattle.pl_urn.proofs.Calls.{split_found}
use Rattle.pl_urn.proofs.Cuts.{cut_missing}
use Rattle.std.proofs.Common.{sym}
use Rattle.pl_urn.proofs.grammar.cut.Goals as goal

pub returns-in-Some-clause-before : goal.returns-in-Some-clause-before
returns-in-Some-clause-before c = sym (split_found _ _ _ c.in-Some.ensures.cases).before

pub returns-in-Some-clause-after : goal.returns-in-Some-clause-after
returns-in-Some-clause-after c = sym (split_found _ _ _ c.in-Some.ensures.cases).after

pub returns-in-None-clause-before : goal.returns-in-None-clause-before
returns-in-None-clause-before c = sym (cut_missing _ c.in-None.ensures.cases).1

pub returns-in-None-clause-after : goal.returns-in-None-clause-after
returns-in-None-clause-after c = sym (cut_missing _ c.in-None.ensures.cases).2
