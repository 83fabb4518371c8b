-- The count that is limited stays within the limit.
use Rattle.std.proofs.Common.{◌≡◌, ℕ, ◌+◌, ◌≤◌, ◌==◌, Bool, true, false, not, ◌&&◌, ◌||◌, if◌then◌else◌, List, [], ◌∷◌, ◌++◌, filter, length, reverse, Option, Some, None, is_some, refl, sym, ◌∙◌, ap, subst, arith, option_map, option_and_then}
use Rattle.std.proofs.lemmas.List.{length-append, length-reverse}
use Rattle.std.proofs.lemmas.List.FromFn.{length-range_with_len}
use Rattle.std.specs.List.{cons_option, range_with_len}
use Rattle.pl_lemmas.proofs.Truth.{and_left, and_right}
use Rattle.pl_lemmas.proofs.Numbers.{same_number, equal_numbers}
use Rattle.pl_lemmas.proofs.Each.{IsAmong, each_weaker, each_reverse, all_found}
use Rattle.pl_lemmas.specs.Words.{has_number, is_row, only_if, some_passes}
use Rattle.pl_lemmas.proofs.Options.{passing}
use Rattle.pl_state.specs.Kinds.{kin_of}
use Rattle.pl_state.specs.declared.entry.Entry.{Entry}
use Rattle.pl_events.specs.declared.event.Event.{Event}
use Rattle.pl_events.specs.declared.event.What.{What}
use Rattle.pl_events.specs.declared.event.What.TheVariants.{Answered, Kept}
use Rattle.pl_events.specs.declared.operation.Op.{Op}
use Rattle.pl_events.specs.declared.operation.Op.TheVariants as op
use Rattle.pl_events.specs.declared.operation.Subject.{Subject}
use Rattle.pl_events.specs.declared.operation.Subject.TheVariants as subject
use Rattle.pl_events.specs.declared.reply.Reply.{Reply}
use Rattle.pl_decide.specs.Limited.{is_create_first}
use Rattle.pl_decide.specs.declared.decision.Decision.{Decision}
use Rattle.pl_decide.specs.declared.decision.Decision.TheVariants as decision
use Rattle.pl_model.specs.declared.decided.Decided.{Decided}
use Rattle.pl_model.specs.declared.errand.Errand.{Errand}
use Rattle.pl_model.specs.declared.fixed.Fixed.{Fixed}
use Rattle.pl_model.specs.Run.{is_refresh, rows_of}
use Rattle.pl_model.specs.Claims.{claimed_row}
use Rattle.pl_model.specs.Due.{claim_leaves, is_carried_out, op_of_decision, reads_goal}
use Rattle.pl_model.specs.Entries.{is_update, new_entries, old_entries, old_row, recorded_entry, row_now}
use Rattle.pl_model.specs.History.{known_of}
use Rattle.pl_model.specs.Known.{Known, decided_goal, is_recorded}
use Rattle.pl_model.specs.Legal.{IsOrderly}
use Rattle.pl_model.specs.Recording.{goal_of_op, is_thing, recorded_by, recorded_by_reply, recorded_of}
use Rattle.pl_model.specs.Rows.{is_left, left_rows, row_numbers}
use Rattle.pl_model.specs.State.{refreshed_entries, was_answered}
use Rattle.pl_model.specs.Tickets.{begun_of, errand_at, is_closed, is_open, was_begun}
use Rattle.pl_model_stays.proofs.Lists.Among.{find_among}
use Rattle.pl_model_stays.proofs.Lists.Growing.{decisions-stay, run_of}
use Rattle.pl_model_stays.proofs.Work.KeptDue.{update_kin}
use Rattle.pl_model_stays.proofs.Goals.KeptEntries.{recorded-has-entry}
use Rattle.pl_model_stays.proofs.Operations.Once.{history_of, not_true, unclosed}
use Rattle.pl_model_stays.proofs.Lists.Pairs.{each-passes}
use Rattle.pl_model_stays.proofs.Goals.Recorded.{begun-held, recording-new}
use Rattle.pl_model_stays.proofs.Goals.Standing.{closed_with}
use Rattle.pl_model_stays.proofs.Goals.Staying.{errand_sent, recorded-as, sent_begun}
use Rattle.pl_model_stays.proofs.Work.Waiting.{false_or}
use Rattle.pl_model_laws.proofs.Rows.Along.{left-row}
use Rattle.pl_model_laws.proofs.Rows.Removing.{later-now, recorded-gone, unrecorded-left}
use Rattle.pl_model_ends.proofs.Fulfilling.{event_of}
use Rattle.pl_model_ends.proofs.Numbers.{each_number}
use Rattle.pl_model_ends.proofs.Tally.{kept_low, one_added}
use Rattle.pl_model_ends.proofs.Moving.{Moves, entries_many, parts_of}
use Rattle.pl_model_ends.proofs.Weighing.{answered_closed, base_else, creation-opened, left_else, left_gone, left_many, open_closed, open_else, open_many, own_closed, own_else, own_many}

-- ---- entries

unfoldable pub goals_many : List Event → ℕ
goals_many history = length (recorded_of history)

module _ (run : Fixed) (history : List Event) (orderly : IsOrderly run history) where
  abbrev known : Known
  known = known_of run history

  entry_there : (k : ℕ) → has_number (recorded_of known.history) k ≡ true → is_some (recorded_entry known k) ≡ true
  entry_there k h = recorded-has-entry run history k orderly h

  new_many : length (new_entries known) ≡ length (recorded_of history)
  new_many =
      all_found (recorded_entry known) (reverse (recorded_of known.history))
      (each_reverse (λ k. is_some (recorded_entry known k) ≡ true) (recorded_of known.history)
      (each_weaker (λ k. has_number (recorded_of known.history) k ≡ true) (λ k. is_some (recorded_entry known k) ≡ true) entry_there
      (recorded_of known.history) (each_number (recorded_of known.history))))
      ∙ length-reverse (recorded_of known.history)
      ∙ ap (λ (events : List Event). length (recorded_of events)) (history_of run history)

  row_there : (row : ℕ) → is_left known row ≡ true → is_some (old_row known row) ≡ true
  row_there row left =
      let at = left-row known row left in
      ap (λ (o : Option Entry). is_some (option_map (row_now known row) o)) at.1

  old_many : length (old_entries known) ≡ left_many run history
  unfolding left_many
  old_many =
      all_found (old_row known) (left_rows known)
      (each_weaker (λ row. is_left known row ≡ true) (λ row. is_some (old_row known row) ≡ true) row_there
      (left_rows known) (each-passes (is_left known) (row_numbers known)))
      ∙ ap (λ (fixed : Fixed). length (filter (is_left known) (range_with_len 0 (length (rows_of fixed))))) (run_of run history)

  -- the entries of a run that records goals or deletes rows: one for each recorded goal and for each row that is left
  pub entries-as : is_refresh run.mode ≡ false → entries_many run history ≡ goals_many history + left_many run history
  unfolding entries_many goals_many
  entries-as other =
      ap (λ (b : Bool). length (if b then refreshed_entries known else new_entries known ++ old_entries known))
      (ap (λ (fixed : Fixed). is_refresh fixed.mode) (run_of run history) ∙ other)
      ∙ length-append (new_entries known) (old_entries known)
      ∙ ap (λ (n : ℕ). n + length (old_entries known)) new_many
      ∙ ap (λ (n : ℕ). length (recorded_of history) + n) old_many

-- ---- a recorded claim leaves

module _ (run : Fixed) (event : Event) (past : List Event) (orderly : IsOrderly run (event ∷ past)) (number row : ℕ) (one : Decided)
    (decided : decided_goal (known_of run past) number ≡ Some one) (claims : is_row one.claim row ≡ true)
    (creates_none : is_create_first one.decision ≡ false) (left : is_left (known_of run past) row ≡ true)
    (records : has_number (recorded_of (event ∷ past)) number ≡ true) where
  pub claim-leaves : left_many run (event ∷ past) + 1 ≤ left_many run past
  claim-leaves =
      left_gone run event past row orderly left
      (false_or (is_left (known_of run (event ∷ past)) row)
      (λ stays. recorded-gone run (event ∷ past) number row one (decisions-stay run event past number one decided) claims creates_none
      (event ∷ past) (later-now run (event ∷ past)) orderly (recorded-as run (event ∷ past) number ∙ records) stays))

-- ---- changes

-- what an update is decided by
update_decides : (number : ℕ) (b : Bool) (choice : Decision)
    → (if b then op_of_decision number choice else None) ≡ Some (op.Update (subject.Goal number)) → is_update choice ≡ true
update_decides number false choice h = absurd (let e : None ≡ Some (op.Update (subject.Goal number)) = h in cc)
update_decides number true decision.Update h = refl
update_decides number true decision.Keep h = absurd (let e : None ≡ Some (op.Update (subject.Goal number)) = h in cc)
update_decides number true decision.Create h =
    absurd (let e : Some (op.Create (subject.Goal number)) ≡ Some (op.Update (subject.Goal number)) = h in cc)
update_decides number true (decision.Replace first) h =
    absurd (let e : Some (op.Create (subject.Goal number)) ≡ Some (op.Update (subject.Goal number)) = h in cc)
update_decides number true decision.Import h =
    absurd (let e : Some (op.Read (subject.Goal number)) ≡ Some (op.Update (subject.Goal number)) = h in cc)
update_decides number true decision.ReadOnly h =
    absurd (let e : Some (op.Read (subject.Goal number)) ≡ Some (op.Update (subject.Goal number)) = h in cc)
update_decides number true (decision.Refused problem) h = absurd (let e : None ≡ Some (op.Update (subject.Goal number)) = h in cc)

updates_beside : (choice : Decision) → is_update choice ≡ true → is_create_first choice ≡ false
updates_beside decision.Update h = refl
updates_beside _ h = absurd (let e : false ≡ true = h in cc)

-- a claim that has its kin is there
claim_there : (run : Fixed) (claim : Option ℕ) → is_some (kin_of (claimed_row run claim)) ≡ true → (row : ℕ) × (is_row claim row ≡ true)
claim_there run None h = absurd (let e : false ≡ true = h in cc)
claim_there run (Some row) h = (row, same_number row)

-- ---- an answer

-- the errand that is answered
module _ (run : Fixed) (seat : ℕ) (past : List Event) (ticket : ℕ) (said : Reply)
    (orderly : IsOrderly run (event_of seat (Answered ticket said) ∷ past)) where
  pub errand : (errand : Errand) × (errand_at past ticket ≡ Some errand)
  errand =
      let it = passing (λ errand. errand.seat == seat) (errand_at (known_of run past).history ticket)
      (and_right (is_open (known_of run past).history ticket) _ orderly.1.closes) in
      (it.0, subst (λ (events : List Event). errand_at events ticket ≡ Some it.0) (history_of run past) it.1)

  pub begun : IsAmong errand.0 (begun_of past)
  begun = (find_among (λ (one : Errand). one.ticket == ticket) (begun_of past) errand.0 errand.1).0

  ticket_is : errand.0.ticket ≡ ticket
  ticket_is = equal_numbers errand.0.ticket ticket (find_among (λ (one : Errand). one.ticket == ticket) (begun_of past) errand.0 errand.1).1

  open_still : is_closed past errand.0.ticket ≡ false
  open_still = subst (λ (n : ℕ). is_closed past n ≡ false) (sym ticket_is) (unclosed run seat ticket past orderly.1.closes)

  shut : (ticket == errand.0.ticket) ≡ true
  shut = subst (λ (n : ℕ). (ticket == n) ≡ true) (sym ticket_is) (same_number ticket)

  -- what it records is a goal of the operation, where the reply tells of a thing
  records : recorded_by past (Answered ticket said) ≡ only_if (is_thing said) (goal_of_op errand.0.op)
  records = ap (λ (o : Option Errand). option_and_then recorded_by_reply (option_map (closed_with said) (option_map (λ (one : Errand). one.op) o))) errand.1

  goals_low : goals_many (event_of seat (Answered ticket said) ∷ past) ≤ goals_many past + 1
  unfolding goals_many
  goals_low = one_added (recorded_by past (Answered ticket said)) (recorded_of past)

  goals_same : goal_of_op errand.0.op ≡ None → goals_many (event_of seat (Answered ticket said) ∷ past) ≤ goals_many past
  unfolding goals_many
  goals_same none =
      subst (λ (o : Option ℕ). length (cons_option o (recorded_of past)) ≤ length (recorded_of past))
      (sym (records ∙ ap (λ (o : Option ℕ). only_if (is_thing said) o) none)) (by (is_thing said))
    where
      by : (b : Bool) → length (cons_option (only_if b None) (recorded_of past)) ≤ length (recorded_of past)
      by true = omega arith
      by false = omega arith

  -- an answered creation is pending no longer
  creation_ends : (on : Subject) → errand.0.op ≡ op.Create on → own_many run (event_of seat (Answered ticket said) ∷ past) + 1 ≤ own_many run past
  creation_ends on does =
      let opened = creation-opened run past errand.0 on orderly.0 does begun in
      own_closed run seat past (Answered ticket said) opened.0 refl opened.1
      (false_or (was_answered past opened.0.ticket)
      (λ was. let closed : is_closed past opened.0.ticket ≡ true = answered_closed past opened.0.ticket was in
      let still : is_closed past opened.0.ticket ≡ false = subst (λ (n : ℕ). is_closed past n ≡ false) (sym opened.2) open_still in
      let e : true ≡ false = sym closed ∙ still in cc))
      (subst (λ (n : ℕ). (ticket == n) ≡ true) (sym opened.2) shut) opened.3

  -- an answered read of a goal's thing is open no longer
  read_ends : reads_goal errand.0.op ≡ true → open_many (event_of seat (Answered ticket said) ∷ past) + 1 ≤ open_many past
  read_ends reads = open_closed seat past (Answered ticket said) errand.0 refl begun open_still shut reads

  -- the claim of a goal whose change is recorded leaves
  change_leaves : (number : ℕ) → errand.0.op ≡ op.Update (subject.Goal number) → is_thing said ≡ true
      → left_many run (event_of seat (Answered ticket said) ∷ past) + 1 ≤ left_many run past
  change_leaves number does thing =
      let recorded : recorded_by past (Answered ticket said) ≡ Some number =
      records ∙ ap (λ (b : Bool). only_if b (goal_of_op errand.0.op)) thing ∙ ap goal_of_op does in
      let sent = begun-held run past (op.Update (subject.Goal number)) number orderly.0
      (subst (λ (about : Op). was_begun past about ≡ true) does
      (sent_begun past ticket errand.0.op (errand_sent past ticket errand.0 errand.1))) refl in
      let one : Decided = sent.1 in
      let updates : is_update one.decision ≡ true =
      update_decides number (is_carried_out (known_of run past) sent.0 one.decision) one.decision sent.3 in
      let claim = claim_there (known_of run past).run one.claim (update_kin run past number one sent.2.decided updates) in
      let missing : is_recorded (known_of run past) number ≡ false =
      recorded-as run past number ∙ recording-new run seat past (Answered ticket said) number orderly.0 orderly.1 recorded in
      claim-leaves run (event_of seat (Answered ticket said)) past orderly number claim.0 one sent.2.decided claim.1 (updates_beside one.decision updates)
      (unrecorded-left run past number claim.0 one sent.2.decided claim.1 orderly.0 missing)
      (ap (λ (o : Option ℕ). has_number (cons_option o (recorded_of past)) number) recorded
      ∙ ap (λ (b : Bool). b || has_number (recorded_of past) number) (same_number number))

  goals_none : is_thing said ≡ false → goals_many (event_of seat (Answered ticket said) ∷ past) ≡ goals_many past
  unfolding goals_many
  goals_none thing =
      ap (λ (o : Option ℕ). length (cons_option o (recorded_of past)))
      (records ∙ ap (λ (b : Bool). only_if b (goal_of_op errand.0.op)) thing)

-- ---- how the entries move in a run that records goals or deletes rows

module _ (run : Fixed) (other : is_refresh run.mode ≡ false) where
  goals_idle : (seat : ℕ) (past : List Event) (what : What) → recorded_of (event_of seat what ∷ past) ≡ recorded_of past
      → goals_many (event_of seat what ∷ past) ≡ goals_many past
  unfolding goals_many
  goals_idle seat past what recorded = ap (λ (numbers : List ℕ). length numbers) recorded

  goals_kept : (seat : ℕ) (past : List Event) (number : ℕ) (fresh : Option ℕ)
      → goals_many (event_of seat (Kept number fresh) ∷ past) ≡ goals_many past + 1
  unfolding goals_many
  goals_kept seat past number fresh = omega arith

  idle_moves : (seat : ℕ) (past : List Event) (what : What) → IsOrderly run (event_of seat what ∷ past)
      → recorded_of (event_of seat what ∷ past) ≡ recorded_of past → entries_many run (event_of seat what ∷ past) ≤ entries_many run past
  idle_moves seat past what orderly recorded =
      let now = entries-as run (event_of seat what ∷ past) orderly other in
      let was = entries-as run past orderly.0 other in
      let rows = left_else run (event_of seat what) past orderly in
      let goals = goals_idle seat past what recorded in
      omega arith

  keep_moves : (seat : ℕ) (past : List Event) (number : ℕ) (fresh : Option ℕ) → IsOrderly run (event_of seat (Kept number fresh) ∷ past)
      → entries_many run (event_of seat (Kept number fresh) ∷ past) ≤ entries_many run past + 1
  keep_moves seat past number fresh orderly =
      let now = entries-as run (event_of seat (Kept number fresh) ∷ past) orderly other in
      let was = entries-as run past orderly.0 other in
      let rows = left_else run (event_of seat (Kept number fresh)) past orderly in
      let goals = goals_kept seat past number fresh in
      omega arith

  leave_moves : (seat : ℕ) (past : List Event) (number : ℕ) (fresh : Option ℕ) → IsOrderly run (event_of seat (Kept number fresh) ∷ past)
      → claim_leaves (known_of run past) number ≡ true
      → entries_many run (event_of seat (Kept number fresh) ∷ past) ≤ entries_many run past
  leave_moves seat past number fresh orderly h =
      let now = entries-as run (event_of seat (Kept number fresh) ∷ past) orderly other in
      let was = entries-as run past orderly.0 other in
      let goals = goals_kept seat past number fresh in
      let rows = gone in
      omega arith
    where
      gone : left_many run (event_of seat (Kept number fresh) ∷ past) + 1 ≤ left_many run past
      gone =
          let one = passing (λ (one : Decided). some_passes (is_left (known_of run past)) one.claim && not (is_create_first one.decision))
          (decided_goal (known_of run past) number) h in
          let row = passing (is_left (known_of run past)) one.0.claim (and_left _ (not (is_create_first one.0.decision)) one.2) in
          claim-leaves run (event_of seat (Kept number fresh)) past orderly number row.0 one.0 one.1
          (ap (λ (claim : Option ℕ). is_row claim row.0) row.1 ∙ same_number row.0)
          (not_true (is_create_first one.0.decision) (and_right (some_passes (is_left (known_of run past)) one.0.claim) _ one.2))
          row.2 (ap (λ (b : Bool). b || has_number (recorded_of past) number) (same_number number))

  module _ (seat : ℕ) (past : List Event) (ticket : ℕ) (said : Reply) (orderly : IsOrderly run (event_of seat (Answered ticket said) ∷ past)) where
    abbrev now : List Event
    now = event_of seat (Answered ticket said) ∷ past

    own_low : own_many run now ≤ own_many run past
    own_low = own_else run seat past (Answered ticket said) refl

    open_low : open_many now ≤ open_many past
    open_low = open_else seat past (Answered ticket said) refl

    rows_low : left_many run now ≤ left_many run past
    rows_low = left_else run (event_of seat (Answered ticket said)) past orderly

    -- where what is recorded is made up for
    made_up : goals_many now + left_many run now + own_many run now + open_many now
        ≤ goals_many past + left_many run past + own_many run past + open_many past → parts_of run now ≤ parts_of run past
    made_up less =
        let last = entries-as run now orderly other in
        let first = entries-as run past orderly.0 other in
        let base = base_else run (event_of seat (Answered ticket said)) past in
        omega arith

    answer_moves : (about : Op) → (errand run seat past ticket said orderly).0.op ≡ about → parts_of run now ≤ parts_of run past
    answer_moves (op.Create on) is =
        made_up (
        let goals = goals_low run seat past ticket said orderly in
        let rows = rows_low in
        let own = creation_ends run seat past ticket said orderly on is in
        let open_ones = open_low in
        omega arith)
    answer_moves (op.Read (subject.Goal number)) is =
        made_up (
        let goals = goals_low run seat past ticket said orderly in
        let rows = rows_low in
        let own = own_low in
        let open_ones = read_ends run seat past ticket said orderly (ap reads_goal is) in
        omega arith)
    answer_moves (op.Update (subject.Goal number)) is = by (is_thing said) refl
      where
        by : (b : Bool) → is_thing said ≡ b → parts_of run now ≤ parts_of run past
        by true thing =
            made_up (
            let goals = goals_low run seat past ticket said orderly in
            let rows = change_leaves run seat past ticket said orderly number is thing in
            let own = own_low in
            let open_ones = open_low in
            omega arith)
        by false thing =
            made_up (
            let goals = goals_none run seat past ticket said orderly thing in
            let rows = rows_low in
            let own = own_low in
            let open_ones = open_low in
            omega arith)
    answer_moves _ is =
        made_up (
        let goals = goals_same run seat past ticket said orderly (ap goal_of_op is) in
        let rows = rows_low in
        let own = own_low in
        let open_ones = open_low in
        omega arith)

  pub goals-move : Moves run
  goals-move = record {
    idle = λ seat past what orderly recorded answered. idle_moves seat past what orderly recorded;
    keep = keep_moves;
    leave = leave_moves;
    answer = λ seat past ticket said orderly. answer_moves seat past ticket said orderly (errand run seat past ticket said orderly).0.op refl;
  }

  start_rows : left_many run [] ≤ length (rows_of run)
  unfolding left_many
  start_rows = low_range (kept_low (is_left (known_of run [])) (range_with_len 0 (length (rows_of run)))) (length-range_with_len 0 (length (rows_of run)))
    where
      low_range : {a b c : ℕ} → a ≤ b → b ≡ c → a ≤ c
      low_range low whole = omega arith

  goals_start : goals_many [] ≡ 0
  unfolding goals_many
  goals_start = refl

  pub goals-start : entries_many run [] ≤ length (rows_of run)
  goals-start =
      let whole = entries-as run [] tt other in
      let rows = start_rows in
      let goals = goals_start in
      omega arith
