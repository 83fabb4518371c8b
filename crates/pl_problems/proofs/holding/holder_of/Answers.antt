use Rattle.std.proofs.Common.{◌≡◌, ◌∙◌, ◌&&◌, ℕ, true, false, List, find, ap, sym}
use Rattle.pl_base.specs.Dependents.{dependents_of}
use Rattle.pl_columns.specs.Read.{known_by}
use Rattle.pl_model.specs.Rows.{is_doomed, row_numbers}
use Rattle.pl_model.specs.Run.{rows_of}
use Rattle.pl_model.specs.declared.fixed.Fixed.{Fixed}
use Rattle.pl_state.specs.Chain.{refers_to}
use Rattle.pl_problems.specs.Holding.{holds, is_unwanted}
use Rattle.pl_problems.proofs.Ranges.{and_never, and_turned, find_filtered, find_none, find_same}
use Rattle.pl_problems.proofs.holding.holder_of.Goals as goal

pub returns-then-is_doomed : goal.returns-then-is_doomed
returns-then-is_doomed c =
    let doomed : is_doomed (known_by c.args.columns.now) c.args.row ≡ true = sym c.is_doomed.ensures ∙ c.if-is_doomed.true in
    c.first_unwanted.ensures
    ∙ ap (λ (rows : List ℕ). find (is_unwanted (known_by c.args.columns.now)) rows)
    (c.dependents.ensures ∙ ap (λ (run : Fixed). dependents_of (rows_of run) c.args.row) c.base.ensures)
    ∙ find_filtered (λ later. refers_to (rows_of c.args.columns.now.claims.run) later c.args.row) (is_unwanted (known_by c.args.columns.now))
    (row_numbers (known_by c.args.columns.now))
    ∙ find_same (λ later. refers_to (rows_of c.args.columns.now.claims.run) later c.args.row && is_unwanted (known_by c.args.columns.now) later)
    (holds (known_by c.args.columns.now) c.args.row)
    (λ later. and_turned (refers_to (rows_of c.args.columns.now.claims.run) later c.args.row) (is_unwanted (known_by c.args.columns.now) later)
    (is_doomed (known_by c.args.columns.now) c.args.row) doomed)
    (row_numbers (known_by c.args.columns.now))

pub returns-else-is_doomed : goal.returns-else-is_doomed
returns-else-is_doomed c =
    let stays : is_doomed (known_by c.args.columns.now) c.args.row ≡ false = sym c.is_doomed.ensures ∙ c.if-is_doomed.false in
    sym (find_none (holds (known_by c.args.columns.now) c.args.row)
    (λ later. and_never (refers_to (rows_of c.args.columns.now.claims.run) later c.args.row) (is_unwanted (known_by c.args.columns.now) later)
    (is_doomed (known_by c.args.columns.now) c.args.row) stays)
    (row_numbers (known_by c.args.columns.now)))
