use Rattle.std.proofs.Common.{◌≡◌, false, None, Some, sym, ◌∙◌}
use Rattle.pl_columns.specs.Read.{known_by}
use Rattle.pl_decide.specs.Limited.{is_delete_first}
use Rattle.pl_problems.proofs.NoProvider.{first_missing, none_missing}
use Rattle.pl_problems.proofs.lacking.missing_provider.Goals as goal

pub returns-then-not-is_delete_first : goal.returns-then-not-is_delete_first
returns-then-not-is_delete_first c =
    let none : is_delete_first c.args.one.now.decision ≡ false = sym c.is_delete_first.ensures ∙ c.if-not-is_delete_first.true in
    none_missing (known_by c.args.columns.now) c.args.one.now none

pub returns-in-None : goal.returns-in-None
returns-in-None c =
    first_missing (known_by c.args.columns.now) c.args.one.now c.first_lacking-lacking.result None c.first_lacking-lacking.ensures
    (sym c.in-None.is ∙ c.in_ok-urn_of_row.ensures)

pub returns-in-Some : goal.returns-in-Some
returns-in-Some c =
    first_missing (known_by c.args.columns.now) c.args.one.now c.first_lacking-lacking.result (Some c.in-Some.urn) c.first_lacking-lacking.ensures
    (sym c.in-Some.is ∙ c.in_ok-urn_of_row.ensures)
