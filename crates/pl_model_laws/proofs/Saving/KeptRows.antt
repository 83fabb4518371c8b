-- The entries stay with an event that need not be saved: those of recorded goals, and the rows that are left.
use Rattle.std.proofs.Common.{◌≡◌, ℕ, ◌==◌, Bool, true, false, not, ◌&&◌, ◌||◌, if◌then◌else◌, nat_lt, List, [], ◌∷◌, ◌++◌, filter, filter_map, length, map, reverse, Option, Some, None, refl, sym, ◌∙◌, ap, subst, option_map, option_and_then, bytes_eq}
use Rattle.std.proofs.Math.Path.{fun_ext}
use Rattle.std.specs.List.{enumerate_from, fold, range_with_len}
use Rattle.std.proofs.Math.Bool.{or-true}
use Rattle.std.proofs.lemmas.Option.{same_Some}
use Rattle.pl_lemmas.proofs.Numbers.{same_number}
use Rattle.pl_lemmas.proofs.Each.{Each, each_reverse, found_same}
use Rattle.pl_refresh.specs.Refreshed.{pruned}
use Rattle.pl_refresh.specs.declared.row_now.RowNow.{RowNow}
use Rattle.pl_lemmas.specs.Words.{has_number, is_row, some_passes}
use Rattle.pl_lemmas.proofs.Lists.{numbered_passes}
use Rattle.pl_state.specs.declared.entry.Entry.{Entry}
use Rattle.pl_state.specs.declared.goal.Goal.{Goal}
use Rattle.pl_events.specs.declared.event.Event.{Event}
use Rattle.pl_events.specs.declared.operation.Op.TheVariants as op
use Rattle.pl_events.specs.declared.operation.Subject.TheVariants as subject
use Rattle.pl_decide.specs.Limited.{is_create_first, is_delete_first}
use Rattle.pl_model.specs.declared.decided.Decided.{Decided}
use Rattle.pl_model.specs.declared.fixed.Fixed.{Fixed}
use Rattle.pl_model.specs.Run.{Pairs, is_refresh, rows_of}
use Rattle.pl_model.specs.Tickets.{reply_to}
use Rattle.pl_model.specs.Recording.{recorded_of}
use Rattle.pl_model.specs.Claims.{claimer_of}
use Rattle.pl_model.specs.Entries.{Turning, entry_of, new_entries, old_entries, old_row, recorded_entry, told_outputs, turned_entry, turning_of, turnings, with_outputs}
use Rattle.pl_model.specs.History.{known_of}
use Rattle.pl_model.specs.Known.{Known, claim_row, decided_goal, goal_at, is_recorded}
use Rattle.pl_model.specs.Legal.{IsOrderly}
use Rattle.pl_model.specs.Rows.{is_deleted_first, is_held, is_left, is_marked, is_replaced, is_taken_out, is_taken_over, is_to_be_made, left_rows, recorded_claimer, row_at, row_numbers, stands_beside, was_removed}
use Rattle.pl_model.specs.Saves.{changes_state}
use Rattle.pl_model.specs.State.{entries_now, imported_entries, refreshed_entries, row_read, rows_read}
use Rattle.pl_model_stays.proofs.Goals.Claiming.{passing_number}
use Rattle.pl_model_stays.proofs.Lists.Growing.{decisions-stay, goals-stay, run_of}
use Rattle.pl_model_stays.proofs.Goals.KeptEntries.{claim-row-stays, entries-stay}
use Rattle.pl_model_stays.proofs.Operations.Once.{history_of}
use Rattle.pl_model_stays.proofs.Goals.Recorded.{recorded-held}
use Rattle.pl_model_stays.proofs.Goals.Staying.{recorded-as}
use Rattle.pl_model_laws.proofs.Saving.KeptAnswers.{imported-same, recorded-same, removed-same, row-read-same, told-same}
use Rattle.pl_model_laws.proofs.Rows.Leaving.{claimer_found, claimer_is, claimer_parts, claimer_passes, claimer_stays, known-apart}
use Rattle.pl_model_laws.proofs.Rows.TakenOut.{first-before}

-- ---- lists and tests

-- what each of the numbers has, where each one that is among them has it
each_listed : (P : ℕ → Type 0) (numbers : List ℕ) → ((n : ℕ) → has_number numbers n ≡ true → P n) → Each P numbers
each_listed P [] h = tt
each_listed P (first ∷ others) h = (
  h first (ap (λ (b : Bool). b || has_number others first) (same_number first)),
  each_listed P others (λ n among. h n (ap (λ (b : Bool). (first == n) || b) among ∙ or-true (first == n))),
)

-- two tests that pass together are the same
same_test : (a b : Bool) → (a ≡ true → b ≡ true) → (b ≡ true → a ≡ true) → a ≡ b
same_test true b there back = sym (there refl)
same_test false true there back = back refl
same_test false false there back = refl

module _ (run : Fixed) (event : Event) (past : List Event) (orderly : IsOrderly run (event ∷ past))
    (unsaved : changes_state (known_of run past) event.what ≡ false) where
  abbrev before : Known
  before = known_of run past

  abbrev after : Known
  after = known_of run (event ∷ past)

  runs_same : after.run ≡ before.run
  runs_same = run_of run (event ∷ past) ∙ sym (run_of run past)

  -- ---- recorded goals

  -- what each recorded goal has as it was, all recorded goals have
  each_recorded : {Y : Type 0} (found : Known → ℕ → Option Y)
      → ((number : ℕ) → is_recorded before number ≡ true → found after number ≡ found before number)
      → filter_map (found after) (reverse (recorded_of after.history)) ≡ filter_map (found before) (reverse (recorded_of before.history))
  each_recorded found same =
      ap (λ (numbers : List ℕ). filter_map (found after) (reverse numbers)) (recorded-same run event past unsaved)
      ∙ found_same (found after) (found before) (reverse (recorded_of past))
      (each_reverse (λ number. found after number ≡ found before number) (recorded_of past)
      (each_listed (λ number. found after number ≡ found before number) (recorded_of past)
      (λ number among. same number (recorded-as run past number ∙ among))))
      ∙ ap (λ (events : List Event). filter_map (found before) (reverse (recorded_of events))) (sym (history_of run past))

  new_same : new_entries after ≡ new_entries before
  new_same =
      each_recorded recorded_entry
      (λ number recorded.
      ap (λ (told : Option Pairs). option_map (with_outputs told) (entry_of after number)) (told-same run event past unsaved number recorded)
      ∙ ap (λ (o : Option Entry). option_map (with_outputs (told_outputs before number)) o)
      (entries-stay run event past number orderly recorded).entry)

  turns_same : turnings after ≡ turnings before
  turns_same =
      each_recorded turning_of
      (λ number recorded.
      let there = recorded-held run past number orderly.0 recorded in
      ap (λ (o : Option Goal). option_and_then (λ (goal : Goal). turning_by goal (claim_row after number)) o)
      (goals-stay run event past number there.0 there.2.stands ∙ sym there.2.stands)
      ∙ ap (λ (o : Option Entry). option_and_then (λ (goal : Goal). turning_by goal o) (goal_at before number))
      (claim-row-stays run event past orderly number recorded))
    where
      turning_by : Goal → Option Entry → Option Turning
      turning_by goal claim =
          option_and_then (λ row. if bytes_eq row.urn goal.urn then None else Some (record { old = row.urn; new = goal.urn })) claim

  -- ---- rows

  removed_same : (row : ℕ) → was_removed after row ≡ was_removed before row
  removed_same row = ap (λ (rows : List ℕ). has_number rows row) (removed-same run event past unsaved)

  -- a goal that is deleted first is so ever after
  first_after : (row : ℕ) → is_deleted_first before row ≡ true → is_deleted_first after row ≡ true
  first_after row h =
      let found = passing_number (λ one. is_delete_first one.decision && is_row one.claim row) before.decided h in
      numbered_passes (λ one. is_delete_first one.decision && is_row one.claim row) after.decided found.0 found.1
      (decisions-stay run event past found.0 found.1 found.2) found.3

  first_same : (row : ℕ) → was_removed before row ≡ true → is_deleted_first after row ≡ is_deleted_first before row
  first_same row removed =
      same_test (is_deleted_first after row) (is_deleted_first before row) (first-before run event past orderly row removed)
      (first_after row)

  -- so a row is taken out, or held, as it was
  removed_so : (both : Bool → Bool) (row : ℕ)
      → (was_removed after row && both (is_deleted_first after row)) ≡ (was_removed before row && both (is_deleted_first before row))
  removed_so both row =
      ap (λ (b : Bool). b && both (is_deleted_first after row)) (removed_same row) ∙ by (was_removed before row) refl
    where
      by : (b : Bool) → was_removed before row ≡ b → (b && both (is_deleted_first after row)) ≡ (b && both (is_deleted_first before row))
      by true is = ap (λ (first : Bool). both first) (first_same row is)
      by false is = refl

  -- the recorded goal that claims a row did so before
  claimer_before : (row : ℕ) (test : Bool → Bool)
      → some_passes (λ (goal : ℕ). test (stands_beside after goal)) (recorded_claimer after row) ≡ true
      → some_passes (λ (goal : ℕ). test (stands_beside before goal)) (recorded_claimer before row) ≡ true
  claimer_before row test h =
      let parts = claimer_parts after row (λ (goal : ℕ). test (stands_beside after goal)) h in
      let number : ℕ = parts.0 in
      let recorded : is_recorded before number ≡ true =
      ap (λ (events : List Event). has_number (recorded_of events) number) (history_of run past)
      ∙ ap (λ (numbers : List ℕ). has_number numbers number) (sym (recorded-same run event past unsaved)) ∙ parts.2 in
      let found = claimer_found after.decided row number parts.1 in
      let there = recorded-held run past number orderly.0 recorded in
      let stays : decided_goal after number ≡ Some there.1 = decisions-stay run event past number there.1 there.2.decided in
      let same : found.0 ≡ there.1 = same_Some found.0 there.1 (sym found.1 ∙ stays) in
      let claims : is_row there.1.claim row ≡ true = subst (λ (one : Decided). is_row one.claim row ≡ true) same found.2 in
      let claimer : claimer_of before.decided row ≡ Some number =
      claimer_is run before.decided number row there.1 (known-apart run past) there.2.decided claims in
      let beside : stands_beside before number ≡ stands_beside after number =
      ap (λ (o : Option Decided). some_passes (λ (one : Decided). is_create_first one.decision) o) (there.2.decided ∙ sym stays) in
      claimer_passes before row number (λ (goal : ℕ). test (stands_beside before goal)) claimer recorded
      ∙ ap (λ (b : Bool). test b) beside ∙ parts.3

  claimer_same : (row : ℕ) (test : Bool → Bool)
      → some_passes (λ (goal : ℕ). test (stands_beside after goal)) (recorded_claimer after row)
      ≡ some_passes (λ (goal : ℕ). test (stands_beside before goal)) (recorded_claimer before row)
  claimer_same row test =
      same_test (some_passes (λ (goal : ℕ). test (stands_beside after goal)) (recorded_claimer after row))
      (some_passes (λ (goal : ℕ). test (stands_beside before goal)) (recorded_claimer before row))
      (claimer_before row test) (claimer_stays run event past row test)

  left_same : (row : ℕ) → is_left after row ≡ is_left before row
  left_same row =
      ap (λ (fixed : Fixed). nat_lt row (length (rows_of fixed)) && not (is_taken_out after row) && not (is_taken_over after row)) runs_same
      ∙ ap (λ (b : Bool). nat_lt row (length (rows_of before.run)) && not b && not (is_taken_over after row)) (removed_so not row)
      ∙ ap (λ (b : Bool). nat_lt row (length (rows_of before.run)) && not (is_taken_out before row) && not b) (claimer_same row not)

  row_same : (row : ℕ) → row_at after row ≡ row_at before row
  row_same row = ap (λ (fixed : Fixed). row_at (record before { run = fixed }) row) runs_same

  marked_same : (row : ℕ) → is_marked after row ≡ is_marked before row
  marked_same row =
      ap (λ (o : Option Entry). some_passes (λ entry. entry.doomed) o || is_replaced after row) (row_same row)
      ∙ ap (λ (b : Bool). some_passes (λ entry. entry.doomed) (row_at before row) || b) (claimer_same row (λ b. b))

  made_same : (row : ℕ) → is_to_be_made after row ≡ is_to_be_made before row
  made_same row =
      ap (λ (o : Option Entry). some_passes (λ entry. entry.pending_replacement) o || is_held after row) (row_same row)
      ∙ ap (λ (b : Bool). some_passes (λ entry. entry.pending_replacement) (row_at before row) || b) (removed_so (λ b. b) row)

  old_row_same : (row : ℕ) → old_row after row ≡ old_row before row
  old_row_same row =
      ap (λ (turns : List Turning). option_map (row_by turns (is_marked after row) (is_to_be_made after row)) (row_at after row)) turns_same
      ∙ ap (λ (b : Bool). option_map (row_by (turnings before) b (is_to_be_made after row)) (row_at after row)) (marked_same row)
      ∙ ap (λ (b : Bool). option_map (row_by (turnings before) (is_marked before row) b) (row_at after row)) (made_same row)
      ∙ ap (λ (o : Option Entry). option_map (row_by (turnings before) (is_marked before row) (is_to_be_made before row)) o) (row_same row)
    where
      row_by : List Turning → Bool → Bool → Entry → Entry
      row_by turns marked made entry = record (fold turned_entry entry turns) { doomed = marked; pending_replacement = made }

  old_same : old_entries after ≡ old_entries before
  old_same =
      ap (λ (found : ℕ → Option Entry). filter_map found (left_rows after)) (fun_ext old_row_same)
      ∙ ap (λ (test : ℕ → Bool). filter_map (old_row before) (filter test (row_numbers after))) (fun_ext left_same)
      ∙ ap (λ (fixed : Fixed). filter_map (old_row before) (filter (is_left before) (range_with_len 0 (length (rows_of fixed))))) runs_same

  -- ---- rows that are read anew

  read_same : rows_read after ≡ rows_read before
  read_same =
      ap (λ (fixed : Fixed). map (λ row. row_read row.1 (reply_to after.answers (op.Read (subject.Row row.0)))) (enumerate_from 0 (rows_of fixed)))
      runs_same
      ∙ ap (λ (read : ℕ × Entry → RowNow). map read (enumerate_from 0 (rows_of before.run)))
      (fun_ext (λ row. row-read-same run event past unsaved row.1 row.0))

  anew_same : refreshed_entries after ≡ refreshed_entries before
  anew_same =
      ap (λ (fixed : Fixed). pruned (rows_of fixed) (rows_read after) (imported_entries after)) runs_same
      ∙ ap (λ (now : List RowNow). pruned (rows_of before.run) now (imported_entries after)) read_same
      ∙ ap (λ (imported : List Entry). pruned (rows_of before.run) (rows_read before) imported) (imported-same run event past unsaved)

  -- the entries are as they were
  pub entries-same : entries_now after ≡ entries_now before
  entries-same =
      ap (λ (fixed : Fixed). if is_refresh fixed.mode then refreshed_entries after else new_entries after ++ old_entries after) runs_same
      ∙ ap (λ (rows : List Entry). if is_refresh before.run.mode then rows else new_entries after ++ old_entries after) anew_same
      ∙ ap (λ (rows : List Entry). if is_refresh before.run.mode then refreshed_entries before else rows ++ old_entries after) new_same
      ∙ ap (λ (rows : List Entry). if is_refresh before.run.mode then refreshed_entries before else new_entries before ++ rows) old_same
