use Rattle.pl_urn.proofs.Parts.{urn_fault-no_prefix, urn_fault-too_few, urn_fault-parts}
use Rattle.pl_urn.proofs.grammar.check_grammar.Goals as goal

pub returns-in_default-clause-refused : goal.returns-in_default-clause-refused
returns-in_default-clause-refused c = urn_fault-no_prefix _ c.in_default.ensures.cases

pub returns-in_default-split_once-clause-refused : goal.returns-in_default-split_once-clause-refused
returns-in_default-split_once-clause-refused c =
    urn_fault-too_few _ _ _ _ c.in-Some.ensures.cases c.cut.ensures.after c.cut-2.ensures.after c.in_default-split_once.ensures.cases

pub returns-clause-grammar : goal.returns-clause-grammar
returns-clause-grammar c =
    rw (urn_fault-parts _ _ _ _ _ _ _ _ c.in-Some.ensures.cases c.cut.ensures.before c.cut.ensures.after c.cut-2.ensures.before c.cut-2.ensures.after c.in-Some-split_once.ensures.cases)
    c.check_parts.ensures.full

pub returns-clause-refused : goal.returns-clause-refused
returns-clause-refused c =
    rw (urn_fault-parts _ _ _ _ _ _ _ _ c.in-Some.ensures.cases c.cut.ensures.before c.cut.ensures.after c.cut-2.ensures.before c.cut-2.ensures.after c.in-Some-split_once.ensures.cases)
    c.check_parts.ensures.refused
