use Rattle.std.proofs.Common.{◌≡◌, ◌∙◌, ◌+◌, ◌&&◌, ℕ, not, find, length, ap, arith}
use Rattle.std.specs.List.{list_any, range_with_len}
use Rattle.pl_columns.specs.Read.{known_by}
use Rattle.pl_decide.specs.Permits.{is_wanted}
use Rattle.pl_lemmas.specs.Words.{some_passes}
use Rattle.pl_model.specs.Known.{Known}
use Rattle.pl_model.specs.Problems.{holds_doomed}
use Rattle.pl_model.specs.Rows.{is_doomed, row_at, row_numbers}
use Rattle.pl_model.specs.Run.{rows_of}
use Rattle.pl_state.specs.Chain.{refers_to}
use Rattle.pl_problems.specs.Holding.{holds}
use Rattle.pl_problems.specs.Least.{least}
use Rattle.pl_problems.proofs.Ranges.{any_of_some, find_same, least_more, least_none}
use Rattle.pl_problems.proofs.holding.first_holding.Goals as goal

pub loop-row-init : goal.loop-row-init
loop-row-init c = least_none (length (rows_of c.args.columns.now.claims.run))

pub loop-row-preserved : goal.loop-row-preserved
loop-row-preserved c =
    c.least-first.ensures
    ∙ (λ i. least (c.loop-row.invariant i) (c.holder_of.ensures i))
    ∙ least_more (holds (known_by c.args.columns.now)) c.loop-row.row (c.loop-row.row + 1) (length (rows_of c.args.columns.now.claims.run)) (omega arith)

all_holding : (known : Known) (row : ℕ) → list_any (λ earlier. holds known earlier row) (row_numbers known) ≡ some_passes (holds_doomed known row) (row_at known row)
all_holding known row =
    any_of_some (λ entry. not (is_wanted known.run.limits entry.urn)) (row_at known row)
    (λ earlier. refers_to (rows_of known.run) row earlier && is_doomed known earlier) (row_numbers known)

pub returns : goal.returns
returns c =
    let end : c.loop-row.row ≡ length (rows_of c.args.columns.now.claims.run) = omega arith in
    c.loop-row.invariant
    ∙ ap (λ (n : ℕ). find (λ later. list_any (λ earlier. holds (known_by c.args.columns.now) earlier later) (range_with_len 0 n)) (row_numbers (known_by c.args.columns.now)))
    end
    ∙ find_same (λ row. list_any (λ earlier. holds (known_by c.args.columns.now) earlier row) (row_numbers (known_by c.args.columns.now)))
    (λ row. some_passes (holds_doomed (known_by c.args.columns.now) row) (row_at (known_by c.args.columns.now) row))
    (all_holding (known_by c.args.columns.now)) (row_numbers (known_by c.args.columns.now))
