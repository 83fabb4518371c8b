use Rattle.std.proofs.Common.{◌∙◌, ap}
use Rattle.pl_urn.specs.Grammar.{own_type_of}
use Rattle.pl_reference.proofs.References.{provider_fault, provider_no, provider_yes}
use Rattle.pl_reference.proofs.reference.provider_urn.Goals as goal

pub returns-then-is_provider_type-clause-provider : goal.returns-then-is_provider_type-clause-provider
returns-then-is_provider_type-clause-provider c =
    provider_yes _ _ _ (c.own_type.ensures ∙ ap own_type_of c.in-Ok.ensures.parsed) c.in-Ok.ensures.grammar c.if-is_provider_type.true c.is_provider_type.ensures

pub returns-else-is_provider_type-clause-refused : goal.returns-else-is_provider_type-clause-refused
returns-else-is_provider_type-clause-refused c =
    λ _. provider_no _ _ _ (c.own_type.ensures ∙ ap own_type_of c.in-Ok.ensures.parsed) c.if-is_provider_type.false c.is_provider_type.ensures

pub returns-in-Err-clause-refused : goal.returns-in-Err-clause-refused
returns-in-Err-clause-refused c =
    λ told. provider_fault _ _ c.in-Err.ensures.refused (c.ref_fault.ensures cc)
