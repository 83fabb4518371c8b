use Rattle.std.proofs.Common.{◌∙◌, List, length, ℕ, ap}
use Rattle.std.specs.List.{list_any, range_with_len}
use Rattle.pl_base.specs.Dependents.{dependents_of}
use Rattle.pl_columns.specs.Read.{known_by}
use Rattle.pl_model.specs.Rows.{is_left}
use Rattle.pl_model.specs.Run.{rows_of}
use Rattle.pl_model.specs.declared.fixed.Fixed.{Fixed}
use Rattle.pl_state.specs.Chain.{refers_to}
use Rattle.pl_old.proofs.Filtered.{any_filtered}
use Rattle.pl_old.proofs.left.has_dependents.Goals as goal

pub returns : goal.returns
returns c =
    c.any_left.ensures
    ∙ ap (λ (rows : List ℕ). list_any (is_left (known_by c.args.columns.now)) rows)
    (c.dependents.ensures ∙ ap (λ (run : Fixed). dependents_of (rows_of run) c.args.row) c.base.ensures)
    ∙ any_filtered (λ later. refers_to (rows_of c.args.columns.now.claims.run) later c.args.row) (is_left (known_by c.args.columns.now))
    (range_with_len 0 (length (rows_of c.args.columns.now.claims.run)))
