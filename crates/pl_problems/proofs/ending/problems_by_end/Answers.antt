use Rattle.std.proofs.Common.{◌∙◌, sym}
use Rattle.pl_columns.specs.Read.{known_by}
use Rattle.pl_problems.proofs.Leaving.{left_at_end, none_at_end}
use Rattle.pl_problems.proofs.ending.problems_by_end.Goals as goal

pub returns-in_ok-problems : goal.returns-in_ok-problems
returns-in_ok-problems c = λ earlier what over stands made.
    left_at_end earlier (known_by c.args.columns.now) what c.args.was_over c.args.makes over stands made c.in_ok-problems.problems.items
    (sym c.may_end.ensures ∙ c.if-may_end.true) c.in_ok-problems.ensures

pub returns-else-may_end : goal.returns-else-may_end
returns-else-may_end c = λ earlier what over stands made.
    c.new.ensures.items
    ∙ none_at_end earlier (known_by c.args.columns.now) what c.args.was_over c.args.makes over stands made
    (sym c.may_end.ensures ∙ c.if-may_end.false)
