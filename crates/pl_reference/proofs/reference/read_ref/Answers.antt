use Rattle.std.proofs.Common.{◌∙◌, sym, rules}
use Rattle.pl_reference.proofs.References.{last_cut_found, last_cut_missing, reference_read, reference_without_cut, reference_without_id, reference_without_provider}
use Rattle.pl_reference.proofs.reference.read_ref.Goals as goal

pub returns-in_default-clause-refused : goal.returns-in_default-clause-refused
returns-in_default-clause-refused c = λ _. reference_without_cut _ (last_cut_missing _ c.in_default.ensures.cases)

pub returns-then-is_empty-clause-refused : goal.returns-then-is_empty-clause-refused
returns-then-is_empty-clause-refused c =
    λ _. reference_without_id _ _ _ (last_cut_found _ _ _ c.in-Some.ensures.cases) (sym c.is_empty.ensures ∙ c.if-is_empty.true)

pub returns-in_err-urn-clause-refused : goal.returns-in_err-urn-clause-refused
returns-in_err-urn-clause-refused c =
    λ told. reference_without_provider _ _ _ (last_cut_found _ _ _ c.in-Some.ensures.cases) (c.in_err-urn.ensures.refused (search rules))

pub returns-clause-read : goal.returns-clause-read
returns-clause-read c =
    let read = reference_read _ _ _ (last_cut_found _ _ _ c.in-Some.ensures.cases) (sym c.is_empty.ensures ∙ c.if-is_empty.false) c.in_ok-urn.ensures.provider in
    cc (read, c.in_ok-urn.ensures.read, c.in_ok-id.ensures)
