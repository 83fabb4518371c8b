use Rattle.std.proofs.Common.{◌∙◌, sym}
use Rattle.pl_urn.proofs.Calls.{IsScope-contains}
use Rattle.pl_urn.proofs.urn.is_scope.Goals as goal

pub returns-then-not-is_empty : goal.returns-then-not-is_empty
returns-then-not-is_empty c =
    IsScope-contains _ _ (sym c.is_empty.ensures ∙ c.if-not-is_empty.true) c.contains.ensures.cases
