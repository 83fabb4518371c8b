use Rattle.std.proofs.Common.{rules}
use Rattle.pl_urn.proofs.Parts.{IsUrn-from_IsMadeOf}
use Rattle.pl_urn.proofs.Children.{IsQualified-parent, IsMadeOf-below}
use Rattle.pl_urn.proofs.urn.child.Goals as goal

pub invariant_of-result : goal.invariant_of-result
invariant_of-result c =
    rw c.in_ok-text.ensures
    (IsUrn-from_IsMadeOf _ _ _ _ _
    (IsMadeOf-below _ _ _ _ _ (IsQualified-parent c.args.parent c.and_then-above.result (search rules)) c.requires.stack c.requires.project
    c.in_ok-check_child.ensures.allowed))

pub returns-clause-grammar : goal.returns-clause-grammar
returns-clause-grammar c =
    rw c.in_ok-text.ensures
    (IsUrn-from_IsMadeOf _ _ _ _ _
    (IsMadeOf-below _ _ _ _ _ (IsQualified-parent c.args.parent c.and_then-above.result (search rules)) c.requires.stack c.requires.project
    c.in_ok-check_child.ensures.allowed))
