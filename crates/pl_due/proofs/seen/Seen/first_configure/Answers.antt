use Rattle.std.proofs.Common.{◌≡◌, ◌∙◌, find, Option, Some, None, ap, sym}
use Rattle.pl_events.specs.declared.operation.Op.{Op}
use Rattle.pl_events.specs.declared.operation.Source.{Source}
use Rattle.pl_model.specs.Due.{goal_numbers, operations_of}
use Rattle.pl_due.specs.Now.{configures_now, first_wanting, row_config}
use Rattle.pl_due.specs.Seen.{known_in}
use Rattle.pl_due.proofs.Configuring.{config_found, config_none}
use Rattle.pl_due.proofs.seen.Seen.first_configure.Goals as goal

pub returns-in-Some : goal.returns-in-Some
returns-in-Some c = λ table.
    let found : find (configures_now c.args.self.now (first_wanting c.args.self.now (operations_of (known_in c.args.self.now)))) (goal_numbers (known_in c.args.self.now))
    ≡ Some c.in-Some.number =
    ap (λ (wanting : Option Source). find (configures_now c.args.self.now wanting) (goal_numbers (known_in c.args.self.now))) (sym c.wanting-wanting.ensures)
    ∙ sym c.in-Some.ensures in
    ap (λ (about : Op). Some about) c.config_op.ensures ∙ config_found c.args.self.now table c.in-Some.number found

pub returns-in-None : goal.returns-in-None
returns-in-None c = λ table.
    let none : find (configures_now c.args.self.now (first_wanting c.args.self.now (operations_of (known_in c.args.self.now)))) (goal_numbers (known_in c.args.self.now))
    ≡ None =
    ap (λ (wanting : Option Source). find (configures_now c.args.self.now wanting) (goal_numbers (known_in c.args.self.now))) (sym c.wanting-wanting.ensures)
    ∙ sym c.in-None.ensures in
    c.row_config.ensures ∙ ap row_config c.wanting-wanting.ensures ∙ config_none c.args.self.now table none
