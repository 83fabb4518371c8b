use Rattle.std.proofs.Common.{sym, ◌∙◌, lit<}
use Rattle.std.proofs.lemmas.Bool.{cond-false}
use Rattle.pl_urn.specs.Grammar.{provider_prefix}
use Rattle.pl_urn.proofs.Calls.{strip_missing}
use Rattle.pl_urn.proofs.grammar.package_of_type.Goals as goal

pub returns-in-Some-split_once : goal.returns-in-Some-split_once
returns-in-Some-split_once c =
    (c.in-Some-split_once.ensures.byte (lit< tt) (λ w o h. h)).0
    ∙ sym (cond-false _ _ _ (strip_missing provider_prefix _ c.in_default.ensures.cases))
