-- The operations kind by kind are those that are sent to a lane which is there.
use Rattle.std.proofs.Common.{◌≡◌, ℕ, Bool, List, map, length, refl, ap}
use Rattle.std.specs.List.{list_any}
use Rattle.pl_events.specs.declared.operation.Op.{Op}
use Rattle.pl_events.specs.declared.operation.Op.TheVariants as op
use Rattle.pl_model.specs.Due.{checks_of, deletes_of, goal_numbers, imports_read, invokes_of, operations_of, reads_of, sends_of}
use Rattle.pl_model.specs.Known.{Known}
use Rattle.pl_model.specs.Rows.{row_numbers}
use Rattle.pl_model.specs.Run.{rows_of}
use Rattle.pl_due.specs.Now.{all_works, check_works, op_at, send_works, works_at}
use Rattle.pl_due.specs.Seen.{known_in}
use Rattle.pl_due.specs.declared.kind.Kind.TheVariants as kind
use Rattle.pl_due.specs.declared.seen.Seen.{Seen}
use Rattle.pl_due.proofs.Folding.{any_falling, any_pair, any_three, any_two}

module _ (seen : Seen) (p : Op → Bool) where
  abbrev known : Known
  known = known_in seen

  invokes : list_any p (map op.Invoke seen.requests.now) ≡ list_any p (invokes_of known)
  invokes = ap (λ (numbers : List ℕ). list_any p (map op.Invoke numbers)) seen.are_requests

  imports : list_any p (works_at kind.Import (length known.run.base.pending)) ≡ list_any p (imports_read known)
  imports = refl

  reads : list_any p (works_at kind.ReadRow (length (rows_of known.run))) ≡ list_any p (reads_of known)
  reads = any_falling p (op_at kind.ReadRow) (row_numbers known)

  deletes : list_any p (works_at kind.Delete (length (rows_of known.run))) ≡ list_any p (deletes_of known)
  deletes = any_falling p (op_at kind.Delete) (row_numbers known)

  checks : list_any p (check_works known) ≡ list_any p (checks_of known)
  checks = any_two p (op_at kind.Check) (op_at kind.Diff) (goal_numbers known)

  sends : list_any p (send_works known) ≡ list_any p (sends_of known)
  sends = any_three p (op_at kind.Create) (op_at kind.Update) (op_at kind.ReadGoal) (goal_numbers known)

  pub all_same : list_any p (all_works seen) ≡ list_any p (operations_of known)
  all_same =
      any_pair p _ (deletes_of known) _ _ deletes
      (any_pair p _ (checks_of known) _ _ checks
      (any_pair p _ (sends_of known) _ _ sends
      (any_pair p _ (reads_of known) _ _ reads
      (any_pair p _ (imports_read known) _ (invokes_of known) imports invokes))))
