-- What is asked, kept, posted or provided for is one of those that are listed.
use Rattle.std.proofs.Common.{◌≡◌, ℕ, ◌+◌, ◌==◌, ◌<◌, Bool, true, false, ◌&&◌, nat_lt, List, find, length, map, reverse, option_map, Option, Some, None, refl, sym, ◌∙◌, subst, inl, inr, ◌⊎◌, arith, not}
use Rattle.std.proofs.lemmas.Bool.Decides.{nat_tests}
use Rattle.std.proofs.lemmas.Option.{slice_get_within}
use Rattle.std.specs.List.{enumerate_from, list_any}
use Rattle.pl_lemmas.proofs.Truth.{and_left, and_right}
use Rattle.pl_lemmas.proofs.Numbers.{same_number, equal_numbers, range_has}
use Rattle.pl_lemmas.proofs.Lists.{any_mapped, any_front, any_back}
use Rattle.pl_lemmas.specs.Words.{is_row, numbered, some_passes}
use Rattle.pl_lemmas.proofs.Options.{passing}
use Rattle.pl_state.specs.declared.goal.Goal.{Goal}
use Rattle.pl_state.specs.declared.pending.Pending.{Pending}
use Rattle.pl_events.specs.declared.event.Event.{Event}
use Rattle.pl_events.specs.declared.operation.Op.{Op}
use Rattle.pl_events.specs.declared.operation.Op.TheVariants as op
use Rattle.pl_events.specs.declared.operation.Source.{Source}
use Rattle.pl_events.specs.declared.operation.Source.TheVariants as source
use Rattle.pl_events.specs.declared.operation.Subject.TheVariants as subject
use Rattle.pl_model.specs.declared.decided.Decided.{Decided}
use Rattle.pl_model.specs.declared.fixed.Fixed.{Fixed}
use Rattle.pl_model.specs.declared.heard.Heard.{Heard}
use Rattle.pl_model.specs.Run.{imports_of, is_refresh, rows_of, is_preview}
use Rattle.pl_model.specs.Decisions.{Turn, number_at}
use Rattle.pl_model.specs.Due.{asks_check, asks_config, asks_diff, at_turn, checks_of, deletes_of, for_decided, goal_numbers, imports_read, is_asked, is_checked_lane, is_imported, is_invoke, is_ready_on, is_removable, operations_of, pending_numbers, reads_of, request_numbers, sends_goal, sends_of, wants_lane, is_due, is_ready, is_drop_ready, passes_limit}
use Rattle.pl_model.specs.History.{known_of}
use Rattle.pl_model.specs.Known.{Known, asked_at, next_turn, number_of, has_problem}
use Rattle.pl_model.specs.Left.{all_operations, sources_of}
use Rattle.pl_model.specs.Legal.{IsOrderly}
use Rattle.pl_model.specs.Problems.{creates_urn, is_to_read, pending_create}
use Rattle.pl_model.specs.Rows.{is_sent, row_at, row_numbers, is_doomed, has_dependents, was_removed}
use Rattle.pl_model.specs.Tickets.{lane_count, same_op, same_source}
use Rattle.pl_model.specs.declared.work.Work.TheVariants.{Drop as to_drop}
use Rattle.pl_model_stays.proofs.Lists.Among.{any_among, any_found, find_among}
use Rattle.pl_model_stays.proofs.Goals.Claiming.{found_at}
use Rattle.pl_model_stays.proofs.Operations.Configuring.{checked_lane_begun}
use Rattle.pl_model_stays.proofs.Lists.Growing.{numbered_below}
use Rattle.pl_model_stays.proofs.Operations.LaneCounts.{configure_cases}
use Rattle.pl_model_stays.proofs.Operations.Once.{left_parts, not_true}
use Rattle.pl_model_stays.proofs.Goals.Recorded.{found, recorded-held}
use Rattle.pl_model_stays.proofs.Operations.Sourcing.{IsSourceThere, wants-there}
use Rattle.pl_model_stays.proofs.Goals.Subjects.{turn_goal}
use Rattle.pl_model_stays.proofs.Work.Unknowns.{check-provider}
use Rattle.pl_model_stays.proofs.Work.Waiting.{any_reversed, check_listed, delete_listed, diff_listed, doomed_left, sends_listed}

-- ---- rows

-- what can be deleted or dropped is to go, was not deleted or dropped before, and no later row that refers to it is left
pub record IsRemovable (known : Known) (row : ℕ) : Type 0 where
  pub doomed : is_doomed known row ≡ true
  pub unremoved : was_removed known row ≡ false
  pub free : has_dependents known row ≡ false

pub removable-parts : (known : Known) (row : ℕ) → is_removable known row ≡ true → IsRemovable known row
removable-parts known row h =
    let three = and_left (is_doomed known row && not (was_removed known row) && not (has_dependents known row)) (not (is_preview known.run.mode)) h in
    let two = and_left (is_doomed known row && not (was_removed known row)) (not (has_dependents known row)) three in
    record {
      doomed = and_left (is_doomed known row) (not (was_removed known row)) two;
      unremoved = not_true (was_removed known row) (and_right (is_doomed known row) (not (was_removed known row)) two);
      free = not_true (has_dependents known row) (and_right (is_doomed known row && not (was_removed known row)) (not (has_dependents known row)) three);
    }

-- a drop that is due is one of a row that can go
pub dropped-removable : (known : Known) (row : ℕ) → is_due known (to_drop row) ≡ true → is_removable known row ≡ true
dropped-removable known row h =
    and_left (is_removable known row) (not (is_sent known row))
    (and_right (not (has_problem known)) (is_drop_ready known row)
    (and_left (is_ready known (to_drop row)) (not (passes_limit known (to_drop row))) h))

pub read_listed : (known : Known) (row : ℕ) → row < length (rows_of known.run) → list_any (same_op (op.Read (subject.Row row))) (operations_of known) ≡ true
read_listed known row low =
    any_back (same_op (op.Read (subject.Row row))) (deletes_of known) _ (any_back (same_op (op.Read (subject.Row row))) (checks_of known) _
    (any_back (same_op (op.Read (subject.Row row))) (sends_of known) _ (any_front (same_op (op.Read (subject.Row row))) (reads_of known) _
    (any_mapped (same_op (op.Read (subject.Row row))) (λ place. op.Read (subject.Row place)) (reverse (row_numbers known))
    ∙ any_reversed (λ place. same_op (op.Read (subject.Row row)) (op.Read (subject.Row place))) (row_numbers known)
    (range_has (λ place. same_op (op.Read (subject.Row row)) (op.Read (subject.Row place))) 0 (length (rows_of known.run)) row
    (omega arith) (omega arith) (same_number row))))))

module _ (known : Known) where
  -- ---- numbers

  turn_low : (n : ℕ) (test : Turn → Bool) → at_turn known (subject.Goal n) test ≡ true → n < length known.goals
  turn_low n test h =
      let turn = passing (λ turn. number_at turn == n && test turn) (next_turn known) h in
      numbered_below known.goals n turn.0.goal
      (subst (λ (k : ℕ). numbered known.goals k ≡ Some turn.0.goal) (equal_numbers (number_at turn.0) n (and_left _ (test turn.0) turn.2))
      (turn_goal known.run known.answers known.goals known.decided turn.0 turn.1))

  pub decided_low : (n : ℕ) (test : Goal → Decided → Bool) → for_decided known n test ≡ true → n < length known.goals
  decided_low n test h = let it = found known n test h in numbered_below known.goals n it.0 it.2

  -- a row that may be deleted or dropped is one of the rows
  pub removable_low : (row : ℕ) → is_removable known row ≡ true → row < length (rows_of known.run)
  removable_low row h =
      below row (length (rows_of known.run))
      (left_parts (nat_lt row (length (rows_of known.run))) _ _ (doomed_left known row (removable-parts known row h).doomed)).0
    where
      below : (a b : ℕ) → nat_lt a b ≡ true → a < b
      below a b h = grind (arith, nat_tests)

  -- a pending operation that an import closes is one of those at the start
  imported_low : (at : ℕ) → is_imported known at ≡ true → at < length known.run.base.pending
  imported_low at h =
      let pair = any_found (λ (pair : List ℕ × List ℕ). is_row (pending_create known.run pair.1) at) (imports_of known.run.mode) h in
      by pair.0.1 (find (λ one. creates_urn pair.0.1 one.1) (enumerate_from 0 known.run.base.pending)) refl pair.2
    where
      by : (urn : List ℕ) (o : Option (ℕ × Pending)) → find (λ one. creates_urn urn one.1) (enumerate_from 0 known.run.base.pending) ≡ o
          → is_row (option_map (λ one. one.0) o) at ≡ true → at < length known.run.base.pending
      by urn None is h = absurd (let e : false ≡ true = h in cc)
      by urn (Some one) is h =
          let there = found_at (λ (one : ℕ × Pending). creates_urn urn one.1) 0 known.run.base.pending one is in
          let low : there.0 < length known.run.base.pending = slice_get_within known.run.base.pending there.0 one.1 there.3 in
          let same : one.0 ≡ at = equal_numbers one.0 at h in
          let place : one.0 ≡ 0 + there.0 = there.2 in
          omega arith

  -- a told request is one of those in order
  pub request_listed : (p : ℕ → Bool) (n : ℕ) (asked : Heard) → asked_at known n ≡ Some asked → p n ≡ true
      → list_any p (request_numbers known) ≡ true
  request_listed p n asked h passes =
      let there = find_among (λ asked. number_of asked.request == n) known.asked asked h in
      any_mapped p (λ asked. number_of asked.request) (reverse known.asked)
      ∙ any_reversed (λ asked. p (number_of asked.request)) known.asked
      (any_among (λ asked. p (number_of asked.request)) known.asked asked there.0
      (subst (λ (k : ℕ). p k ≡ true) (sym (equal_numbers (number_of asked.request) n there.1)) passes))

  -- ---- operations

  import_listed : (at : ℕ) → at < length known.run.base.pending
      → list_any (same_op (op.Read (subject.Pending at))) (operations_of known) ≡ true
  import_listed at low =
      any_back (same_op about) (deletes_of known) _ (any_back (same_op about) (checks_of known) _
      (any_back (same_op about) (sends_of known) _ (any_back (same_op about) (reads_of known) _
      (any_front (same_op about) (imports_read known) _
      (any_mapped (same_op about) (λ place. op.Read (subject.Pending place)) (pending_numbers known)
      ∙ range_has (λ place. same_op about (op.Read (subject.Pending place))) 0 (length known.run.base.pending) at
      (omega arith) (omega arith) (same_number at))))))
    where
      about : Op
      about = op.Read (subject.Pending at)

  invoke_listed : (n : ℕ) (asked : Heard) → asked_at known n ≡ Some asked
      → list_any (same_op (op.Invoke n)) (operations_of known) ≡ true
  invoke_listed n asked h =
      any_back (same_op (op.Invoke n)) (deletes_of known) _ (any_back (same_op (op.Invoke n)) (checks_of known) _
      (any_back (same_op (op.Invoke n)) (sends_of known) _ (any_back (same_op (op.Invoke n)) (reads_of known) _
      (any_back (same_op (op.Invoke n)) (imports_read known) _
      (any_mapped (same_op (op.Invoke n)) op.Invoke (request_numbers known)
      ∙ request_listed (λ k. same_op (op.Invoke n) (op.Invoke k)) n asked h (same_number n))))))

  -- one that is sent to a lane that is there is one of all
  sent_listed : (about : Op) → list_any (same_op about) (operations_of known) ≡ true → list_any (same_op about) (all_operations known) ≡ true
  sent_listed about h = any_back (same_op about) (map (λ number. op.CheckConfig (subject.Goal number)) (goal_numbers known)) _ h

  config_listed : (n : ℕ) → n < length known.goals → list_any (same_op (op.CheckConfig (subject.Goal n))) (all_operations known) ≡ true
  config_listed n low =
      any_front (same_op (op.CheckConfig (subject.Goal n))) (map (λ number. op.CheckConfig (subject.Goal number)) (goal_numbers known)) _
      (any_mapped (same_op (op.CheckConfig (subject.Goal n))) (λ number. op.CheckConfig (subject.Goal number)) (goal_numbers known)
      ∙ range_has (λ number. same_op (op.CheckConfig (subject.Goal n)) (op.CheckConfig (subject.Goal number))) 0 (length known.goals) n
      (omega arith) (omega arith) (same_number n))

  -- an operation that is asked is one of all
  pub asked-listed : (about : Op) → is_asked known about ≡ true → list_any (same_op about) (all_operations known) ≡ true
  asked-listed (op.CheckConfig (subject.Goal n)) h = config_listed n (turn_low n asks_config h)
  asked-listed (op.CheckConfig _) h = absurd (let e : false ≡ true = h in cc)
  asked-listed (op.Configure provider) h = absurd (let e : false ≡ true = h in cc)
  asked-listed (op.Check (subject.Goal n)) h =
      sent_listed (op.Check (subject.Goal n)) (check_listed known n (turn_low n (asks_check known) h))
  asked-listed (op.Check _) h = absurd (let e : false ≡ true = h in cc)
  asked-listed (op.Diff (subject.Goal n)) h =
      sent_listed (op.Diff (subject.Goal n)) (diff_listed known n (turn_low n (asks_diff known) h))
  asked-listed (op.Diff _) h = absurd (let e : false ≡ true = h in cc)
  asked-listed (op.Create (subject.Goal n)) h =
      sent_listed (op.Create (subject.Goal n))
      (sends_listed known (op.Create (subject.Goal n)) n (decided_low n (sends_goal known n (op.Create (subject.Goal n))) h) (rw (same_number n) refl))
  asked-listed (op.Create _) h = absurd (let e : false ≡ true = h in cc)
  asked-listed (op.Update (subject.Goal n)) h =
      sent_listed (op.Update (subject.Goal n))
      (sends_listed known (op.Update (subject.Goal n)) n (decided_low n (sends_goal known n (op.Update (subject.Goal n))) h) (rw (same_number n) refl))
  asked-listed (op.Update _) h = absurd (let e : false ≡ true = h in cc)
  asked-listed (op.Delete (subject.Row row)) h =
      sent_listed (op.Delete (subject.Row row)) (delete_listed known row (removable_low row (and_left (is_removable known row) (is_sent known row) h)))
  asked-listed (op.Delete _) h = absurd (let e : false ≡ true = h in cc)
  asked-listed (op.Read (subject.Goal n)) h =
      sent_listed (op.Read (subject.Goal n))
      (sends_listed known (op.Read (subject.Goal n)) n (decided_low n (sends_goal known n (op.Read (subject.Goal n))) h) (rw (same_number n) refl))
  asked-listed (op.Read (subject.Row row)) h =
      let entry = passing is_to_read (row_at known row) (and_right (is_refresh known.run.mode) (some_passes is_to_read (row_at known row)) h) in
      sent_listed (op.Read (subject.Row row)) (read_listed known row (slice_get_within (rows_of known.run) row entry.0 entry.1))
  asked-listed (op.Read (subject.Pending at)) h =
      sent_listed (op.Read (subject.Pending at))
      (import_listed at (imported_low at (and_right (is_refresh known.run.mode) (is_imported known at) h)))
  asked-listed (op.Invoke n) h =
      let asked = passing (λ asked. is_invoke known asked.request asked.about) (asked_at known n) h in
      sent_listed (op.Invoke n) (invoke_listed n asked.0 asked.1)

  -- ---- providers

  goal_listed : (number : ℕ) → number < length known.goals → list_any (same_source (source.Goal number)) (sources_of known) ≡ true
  goal_listed number low =
      any_front (same_source (source.Goal number)) (map source.Goal (goal_numbers known)) _
      (any_mapped (same_source (source.Goal number)) source.Goal (goal_numbers known)
      ∙ range_has (λ n. same_source (source.Goal number) (source.Goal n)) 0 (length known.goals) number
      (omega arith) (omega arith) (same_number number))

  row_listed : (row : ℕ) → row < length (rows_of known.run) → list_any (same_source (source.Row row)) (sources_of known) ≡ true
  row_listed row low =
      any_back (same_source (source.Row row)) (map source.Goal (goal_numbers known)) _
      (any_mapped (same_source (source.Row row)) source.Row (row_numbers known)
      ∙ range_has (λ n. same_source (source.Row row) (source.Row n)) 0 (length (rows_of known.run)) row
      (omega arith) (omega arith) (same_number row))

-- a provider of which a lane is to be configured is one of all
pub provider-listed : (run : Fixed) (past : List Event) (provider : Source) (lane : ℕ) → IsOrderly run past
    → is_ready_on (known_of run past) (op.Configure provider) lane ≡ true
    → list_any (same_source provider) (sources_of (known_of run past)) ≡ true
provider-listed run past provider lane orderly ready = by provider (configure_cases (known_of run past) provider lane ready)
  where
    there : (own : Source) → IsSourceThere (known_of run past) own → list_any (same_source own) (sources_of (known_of run past)) ≡ true
    there (source.Goal number) recorded =
        let held = recorded-held run past number orderly recorded in
        goal_listed (known_of run past) number (numbered_below (known_of run past).goals number held.0 held.2.stands)
    there (source.Row row) low = row_listed (known_of run past) row low

    by : (own : Source)
        → (is_checked_lane (known_of run past) own lane ≡ true)
        ⊎ ((wants_lane (known_of run past) own ≡ true) × (lane ≡ lane_count (known_of run past).history))
        → list_any (same_source own) (sources_of (known_of run past)) ≡ true
    by own (inr wants) = there own (wants-there (known_of run past) own wants.0)
    by (source.Goal number) (inl checked) =
        let own = check-provider run number past orderly (checked_lane_begun run past number lane checked) in
        goal_listed (known_of run past) number (numbered_below (known_of run past).goals number own.0 own.1)
    by (source.Row row) (inl checked) = absurd (let e : false ≡ true = checked in cc)
