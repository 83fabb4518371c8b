-- The first operation that is to be sent, kind by kind.
use Rattle.std.proofs.Common.{◌≡◌, ◌∙◌, ℕ, List, find, map, option_map, reverse, sym, ap}
use Rattle.pl_events.specs.Lanes.{LanesTold}
use Rattle.pl_events.specs.declared.operation.Op.TheVariants as op
use Rattle.pl_events.specs.declared.operation.Subject.TheVariants as subject
use Rattle.pl_model.specs.Due.{checks_of, deletes_of, goal_numbers, imports_read, invokes_of, pending_numbers, reads_of, sends_of}
use Rattle.pl_model.specs.Known.{Known}
use Rattle.pl_model.specs.Rows.{row_numbers}
use Rattle.pl_due.specs.Now.{check_op, checks_now, make_op, makes_now, op_at, sends_now, uses_now}
use Rattle.pl_due.specs.Seen.{known_in}
use Rattle.pl_due.specs.declared.kind.Kind.TheVariants as kind
use Rattle.pl_due.specs.declared.seen.Seen.{Seen}
use Rattle.pl_due.proofs.Finding.{find_mapped, find_three, find_two}

module _ (seen : Seen) (table : LanesTold) where
  abbrev known : Known
  known = known_in seen

  pub checks_found : option_map (check_op seen table) (find (checks_now seen table) (goal_numbers known)) ≡ find (sends_now seen table) (checks_of known)
  checks_found =
      sym (find_two (sends_now seen table) (λ number. op.Check (subject.Goal number)) (λ number. op.Diff (subject.Goal number)) (goal_numbers known))

  pub makes_found : option_map (make_op seen table) (find (makes_now seen table) (goal_numbers known)) ≡ find (sends_now seen table) (sends_of known)
  makes_found =
      sym (find_three (sends_now seen table) (λ number. op.Create (subject.Goal number)) (λ number. op.Update (subject.Goal number))
      (λ number. op.Read (subject.Goal number)) (goal_numbers known))

  pub invokes_found : option_map op.Invoke (find (λ n. uses_now seen table (op.Invoke n)) seen.requests.now) ≡ find (sends_now seen table) (invokes_of known)
  invokes_found =
      sym (find_mapped (sends_now seen table) op.Invoke seen.requests.now)
      ∙ ap (λ (numbers : List ℕ). find (sends_now seen table) (map op.Invoke numbers)) seen.are_requests

  pub deletes_found : option_map (op_at kind.Delete) (find (λ number. uses_now seen table (op_at kind.Delete number)) (reverse (row_numbers known)))
      ≡ find (sends_now seen table) (deletes_of known)
  deletes_found = sym (find_mapped (sends_now seen table) (op_at kind.Delete) (reverse (row_numbers known)))

  pub reads_found : option_map (op_at kind.ReadRow) (find (λ number. uses_now seen table (op_at kind.ReadRow number)) (reverse (row_numbers known)))
      ≡ find (sends_now seen table) (reads_of known)
  reads_found = sym (find_mapped (sends_now seen table) (op_at kind.ReadRow) (reverse (row_numbers known)))

  pub imports_found : option_map (op_at kind.Import) (find (λ number. uses_now seen table (op_at kind.Import number)) (pending_numbers known))
      ≡ find (sends_now seen table) (imports_read known)
  imports_found = sym (find_mapped (sends_now seen table) (op_at kind.Import) (pending_numbers known))
