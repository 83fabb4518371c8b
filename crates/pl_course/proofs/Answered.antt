-- Columns and a history go together after an answer, where they did before it.
use Rattle.std.proofs.Common.{◌≡◌, ℕ, ◌+◌, ◌-◌, ◌==◌, ◌<◌, ◌≤◌, Bool, true, false, not, ◌&&◌, ◌||◌, List, ◌∷◌, ◌++◌, filter, length, Option, None, Some, option_and_then, option_map, refl, sym, ◌∙◌, ap, subst, arith}
use Rattle.std.proofs.lemmas.Bool.{not-true}
use Rattle.std.specs.List.{cons_option}
use Rattle.std.specs.Option.{IfSome}
use Rattle.pl_lemmas.specs.Words.{has_number}
use Rattle.pl_lemmas.proofs.Numbers.{equal_numbers, same_number}
use Rattle.pl_lemmas.proofs.Truth.{neither_left, neither_right}
use Rattle.pl_columns.specs.Read.{history_by, known_by, summary_by}
use Rattle.pl_columns.specs.declared.columns.Columns.{Columns}
use Rattle.pl_columns.proofs.Told.{errand_told}
use Rattle.pl_decide.specs.declared.problem.Problem.{Problem}
use Rattle.pl_errands.specs.Tickets.{with_answer}
use Rattle.pl_events.specs.Seen.{Seen}
use Rattle.pl_events.specs.declared.event.Event.{Event}
use Rattle.pl_events.specs.declared.event.What.{What}
use Rattle.pl_events.specs.declared.event.What.TheVariants.{Answered}
use Rattle.pl_events.specs.declared.reply.Loss.TheVariants.{Ended}
use Rattle.pl_events.specs.declared.reply.Reply.{Reply}
use Rattle.pl_model.specs.declared.errand.Errand.{Errand}
use Rattle.pl_model.specs.declared.fixed.Fixed.{Fixed}
use Rattle.pl_model.specs.History.{known_of}
use Rattle.pl_model.specs.Known.{Known}
use Rattle.pl_model.specs.Legal.{MayHappen}
use Rattle.pl_model.specs.Problems.{at_position, problems_at}
use Rattle.pl_model.specs.Recording.{recorded_by_reply, removed_by_reply}
use Rattle.pl_model.specs.Run.{rows_of}
use Rattle.pl_model.specs.Step.{Summary, answer, known_in, plain_history, settle, settled, summary_of}
use Rattle.pl_model.specs.Tickets.{closed_by, errand_at, is_closed, is_open}
use Rattle.pl_model_stays.proofs.Goals.Recorded.{recording-new}
use Rattle.pl_model_step.specs.Law.{SummaryTells}
use Rattle.pl_records.specs.Columns.{Kept as KeptRecords}
use Rattle.pl_course.specs.Answered.{answered_columns, goal_by, less_by, records_with, records_without, row_by, settled_columns}
use Rattle.pl_course.specs.Kept.{kept_after, kept_of}
use Rattle.pl_course.specs.Laws.{Laws}
use Rattle.pl_course.specs.Room.{count_left, count_out, is_out}
use Rattle.pl_course.specs.Together.{GoTogether}
use Rattle.pl_course.proofs.Deleted.{removed_within}
use Rattle.pl_course.proofs.Fewer.{any_kept, fewer, fewer_left}
use Rattle.pl_course.proofs.Happens.{seat_open}
use Rattle.pl_course.proofs.Steps.{told_on}
use Rattle.pl_course.proofs.Together.{kept_open, loss_room, used}

-- ---- operations that are out

out_weaker : (same answered lost : Bool) → (not (same || answered) && not lost) ≡ true → (not answered && not lost) ≡ true
out_weaker true answered lost h = absurd (let e : false ≡ true = h in cc)
out_weaker false answered lost h = h

module _ (tells : SummaryTells) (run : Fixed) (past : List Event) (ticket : ℕ) where
  abbrev earlier : Summary
  earlier = summary_of run past

  -- an operation that was not closed is out, and is no more once its ticket is answered
  out_no_more : (errand : Errand) → not (is_closed past errand.ticket) ≡ true → (errand.ticket == ticket) ≡ true
      → (is_out earlier.answered earlier.lost errand && not (is_out (ticket ∷ earlier.answered) earlier.lost errand)) ≡ true
  out_no_more errand unclosed is =
      let neither : (has_number earlier.answered errand.ticket || has_number earlier.lost errand.ticket) ≡ false =
      sym ((tells run past).closed errand.ticket) ∙ not-true (is_closed past errand.ticket) unclosed in
      let unanswered : has_number earlier.answered errand.ticket ≡ false = neither_left _ (has_number earlier.lost errand.ticket) neither in
      let unlost : has_number earlier.lost errand.ticket ≡ false = neither_right (has_number earlier.answered errand.ticket) _ neither in
      let same : (ticket == errand.ticket) ≡ true =
      ap (λ (n : ℕ). n == errand.ticket) (sym (equal_numbers errand.ticket ticket is)) ∙ same_number errand.ticket in
      λ i. (not (unanswered i) && not (unlost i)) && not (not (same i || unanswered i) && not (unlost i))

  -- one operation fewer is out, where an open one is answered
  fewer_out : is_open past ticket ≡ true
      → length (filter (is_out (ticket ∷ earlier.answered) earlier.lost) earlier.begun) + 1 ≤ count_out earlier
  fewer_out opened =
      fewer (is_out earlier.answered earlier.lost) (is_out (ticket ∷ earlier.answered) earlier.lost)
      (λ errand. out_weaker (ticket == errand.ticket) (has_number earlier.answered errand.ticket) (has_number earlier.lost errand.ticket))
      earlier.begun
      (any_kept (λ errand. not (is_closed past errand.ticket)) (λ errand. errand.ticket == ticket)
      (λ errand. is_out earlier.answered earlier.lost errand && not (is_out (ticket ∷ earlier.answered) earlier.lost errand))
      out_no_more earlier.begun opened)

-- ---- rows that are removed

-- a row that is removed now was not removed before, and is one of so many
abbrev pub MayGo : Option ℕ → List ℕ → ℕ → Type 0
MayGo row gone count = (number : ℕ) → row ≡ Some number → (has_number gone number ≡ false) × (number < count)

-- memory for removals is left where it was, less what a row took
less_left : (row : Option ℕ) (gone : List ℕ) (count removals : ℕ) → MayGo row gone count → count_left gone count ≤ removals
    → count_left (cons_option row gone) count ≤ less_by row removals
less_left None gone count removals may most = most
less_left (Some row) gone count removals may most =
    let this = may row refl in
    let less : count_left (row ∷ gone) count + 1 ≤ count_left gone count = fewer_left gone row count this.0 this.1 in
    omega arith

-- no more rows are left than before
no_more_left : (row : Option ℕ) (gone : List ℕ) (count : ℕ) → MayGo row gone count → count_left (cons_option row gone) count ≤ count_left gone count
no_more_left None gone count may = omega arith
no_more_left (Some row) gone count may =
    let this = may row refl in
    let less : count_left (row ∷ gone) count + 1 ≤ count_left gone count = fewer_left gone row count this.0 this.1 in
    omega arith

-- ---- memory that is taken

-- what is taken back of the records is what was added
pub records_back : (goal row : Option ℕ) (ready : Bool) (kept : KeptRecords) → IfSome row (λ number. 0 < kept.removals)
    → records_without goal row (records_with goal row ready kept) ≡ record kept { ready = ready }
records_back None None ready kept room = refl
records_back (Some goal) None ready kept room = refl
records_back None (Some row) ready kept room =
    let back : kept.removals - 1 + 1 ≡ kept.removals = omega arith in
    λ i. record kept { ready = ready; removals = back i }
records_back (Some goal) (Some row) ready kept room =
    let back : kept.removals - 1 + 1 ≡ kept.removals = omega arith in
    λ i. record kept { ready = ready; removals = back i }

-- ---- the columns after the answer

module _ (columns : Columns) (at seat ticket : ℕ) (reply : Reply) (ready : Bool) (left : ℕ) where
  abbrev run : Fixed
  run = columns.claims.run

  abbrev what : What
  what = Answered ticket reply

  abbrev before : Summary
  before = record (summary_by columns) { count = at }

  -- the summary with the answer, but for its problems
  abbrev later : Summary
  later = settle run (answer run before ticket reply)

  abbrev after : Columns
  after = settled_columns ticket reply ready left columns

  answers_told : (with_answer ticket reply columns.errands.tickets).answers ≡ later.answers
  unfolding history_by
  answers_told = λ i.
      cons_option (option_map (λ about. record { op = about; reply = reply }) (option_map (λ errand. errand.op) (errand_told columns i ticket)))
      columns.errands.tickets.answers

  settled_told : summary_by after ≡ kept_of later
  unfolding history_by
  settled_told = λ i. record (kept_of later) {
    decided = settled run (answers_told i) columns.claims.decided columns.requests.goals;
    answers = answers_told i;
  }

  -- what is known of both is the same
  pub known_told : known_by after ≡ known_in run later
  unfolding history_by
  known_told = ap (λ (kept : Summary). known_in run kept) settled_told

  answered_told : (problems : List Problem) → problems ≡ problems_at (known_by columns) (known_by after) what
      → summary_by (answered_columns at ticket reply ready left problems columns) ≡ kept_after run at seat what (summary_by columns)
  unfolding history_by
  answered_told problems makes = λ i. record (settled_told i) {
    problems =
        columns.troubles
        ++ at_position at ((makes ∙ ap (λ (known : Known). problems_at (known_by columns) known what) known_told) i);
  }

module _ (laws : Laws) (columns : Columns) (history : Seen) (both : GoTogether columns history) (seat ticket : ℕ) (reply : Reply)
    (may : MayHappen (known_of columns.claims.run history.events) seat (Answered ticket reply)) where
  abbrev past : List Event
  past = history.events

  -- the ticket is open
  pub answer_open : is_open (history_by columns) ticket ≡ true
  answer_open = kept_open laws columns history both seat ticket Ended may.closes

  -- the room that was made for its loss is there
  pub answer_room : 0 < history.room
  answer_room = loss_room laws columns history both seat ticket Ended may.closes

  errands_read : errand_at (history_by columns) ≡ errand_at past
  unfolding history_by
  errands_read =
      ap (λ (kept : Summary). errand_at (plain_history kept)) both.told ∙ sym (laws.reads columns.claims.run past).errands

  closed_read : closed_by (history_by columns) (Answered ticket reply) ≡ closed_by past (Answered ticket reply)
  closed_read = λ i. option_map (λ about. record { op = about; reply = reply }) (option_map (λ errand. errand.op) (errands_read i ticket))

  -- a goal that the reply records was not recorded
  pub unrecorded : (goal : ℕ) → goal_by columns ticket reply ≡ Some goal → has_number columns.records.records.recorded goal ≡ false
  unrecorded goal is =
      ap (λ (kept : Summary). has_number kept.recorded goal) both.told
      ∙ recording-new columns.claims.run seat past (Answered ticket reply) goal both.orderly may
      (ap (option_and_then recorded_by_reply) (sym closed_read) ∙ is)

  -- a row that it removes is one of the state at the start
  row_within : (row : ℕ) → row_by columns ticket reply ≡ Some row → row < length (rows_of columns.claims.run)
  row_within row is =
      removed_within columns.claims.run past ticket reply row both.orderly
      (ap (option_and_then removed_by_reply) (sym closed_read) ∙ is)

  module _ (unremoved : (row : ℕ) → row_by columns ticket reply ≡ Some row → has_number columns.records.records.removed row ≡ false) where
    may_go : MayGo (row_by columns ticket reply) columns.records.records.removed (length (rows_of columns.claims.run))
    may_go row is = (unremoved row is, row_within row is)

    -- there is memory for its removal
    pub removal_left : (row : ℕ) → row_by columns ticket reply ≡ Some row → 0 < columns.records.removals
    removal_left row is =
        let this = may_go row is in
        let less : count_left (row ∷ columns.records.records.removed) (length (rows_of columns.claims.run)) + 1
        ≤ count_left columns.records.records.removed (length (rows_of columns.claims.run)) =
        fewer_left columns.records.records.removed row (length (rows_of columns.claims.run)) this.0 this.1 in
        let removals = both.removals in
        omega arith

    pub answered : (ready : Bool) (left : ℕ) (problems : List Problem)
        → problems ≡ problems_at (known_by columns) (known_by (settled_columns ticket reply ready left columns)) (Answered ticket reply)
        → GoTogether (answered_columns (length past) ticket reply ready left problems columns) (used seat (Answered ticket reply) history)
    answered ready left problems makes =
        let less : length (filter (is_out (ticket ∷ columns.errands.tickets.answered) columns.errands.tickets.lost) columns.errands.tickets.begun) + 1
        ≤ count_out (summary_by columns) =
        subst (λ (kept : Summary). length (filter (is_out (ticket ∷ kept.answered) kept.lost) kept.begun) + 1 ≤ count_out kept)
        (sym both.told) (fewer_out laws.tells columns.claims.run past ticket (seat_open columns.claims.run past seat ticket may.closes)) in
        let rows : count_left (cons_option (row_by columns ticket reply) columns.records.records.removed) (length (rows_of columns.claims.run))
        ≤ count_left columns.records.records.removed (length (rows_of columns.claims.run)) =
        no_more_left (row_by columns ticket reply) columns.records.records.removed (length (rows_of columns.claims.run)) may_go in
        let room = both.room in
        record {
          orderly = (both.orderly, may);
          told =
              answered_told columns (length past) seat ticket reply ready left problems makes
              ∙ told_on laws.steps columns.claims.run past (summary_by columns) seat (Answered ticket reply) both.told;
          names = both.names;
          removals =
              less_left (row_by columns ticket reply) columns.records.records.removed (length (rows_of columns.claims.run))
              columns.records.removals may_go both.removals;
          clears = both.clears;
          room = omega arith;
        }
