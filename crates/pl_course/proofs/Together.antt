-- Columns and a history go together after each event, where they did before it.
use Rattle.std.proofs.Common.{◌≡◌, ℕ, ◌+◌, ◌-◌, ◌==◌, ◌<◌, ◌≤◌, Bool, true, false, not, ◌&&◌, ◌||◌, List, [], ◌∷◌, ◌++◌, filter, length, Option, None, Some, option_map, refl, sym, ◌∙◌, ap, subst, arith}
use Rattle.std.proofs.lemmas.Bool.{not-true}
use Rattle.std.proofs.lemmas.List.{append-nil}
use Rattle.pl_lemmas.specs.Words.{has_number, option_list}
use Rattle.pl_lemmas.proofs.Numbers.{equal_numbers, same_number}
use Rattle.pl_lemmas.proofs.Truth.{neither_left, neither_right}
use Rattle.pl_columns.specs.Read.{history_by, summary_by}
use Rattle.pl_columns.specs.declared.columns.Columns.{Columns}
use Rattle.pl_decide.specs.declared.problem.Problem.{Problem}
use Rattle.pl_errands.specs.Tickets.{with_loss as with_lost}
use Rattle.pl_events.specs.Seen.{Seen}
use Rattle.pl_events.specs.declared.event.Event.{Event}
use Rattle.pl_events.specs.declared.event.Stop.{Stop}
use Rattle.pl_events.specs.declared.event.What.{What}
use Rattle.pl_events.specs.declared.event.What.TheVariants.{Cleared, Dropped, Lost, Posted, Stopped}
use Rattle.pl_events.specs.declared.reply.Loss.{Loss}
use Rattle.pl_model.specs.declared.errand.Errand.{Errand}
use Rattle.pl_model.specs.declared.fixed.Fixed.{Fixed}
use Rattle.pl_model.specs.History.{known_of}
use Rattle.pl_model.specs.Known.{Known}
use Rattle.pl_model.specs.Legal.{MayHappen}
use Rattle.pl_model.specs.Problems.{at_position, problem_of_loss, problem_of_stop}
use Rattle.pl_model.specs.Run.{rows_of}
use Rattle.pl_model.specs.Step.{Summary, plain_history, summary_of}
use Rattle.pl_model.specs.Tickets.{errand_at, is_closed, is_open}
use Rattle.pl_model_step.specs.Law.{SummaryTells}
use Rattle.pl_records.specs.Columns.{with_cleared, with_posted, with_removed, with_stop}
use Rattle.pl_troubles.specs.Follows.{with_loss}
use Rattle.pl_course.specs.Together.{GoTogether}
use Rattle.pl_course.specs.Course.{Course, known_now, with_event}
use Rattle.pl_course.specs.Kept.{kept_after}
use Rattle.pl_course.specs.Laws.{Laws}
use Rattle.pl_course.specs.Room.{count_left, count_once, count_out, is_out}
use Rattle.pl_course.proofs.Fewer.{any_kept, fewer, fewer_left}
use Rattle.pl_course.proofs.Happens.{clear_new, clear_within, drop_new, drop_within, post_new, seat_open, stop_new}
use Rattle.pl_course.proofs.Steps.{told_on}

-- ---- losses

out_weaker : (answered same lost : Bool) → (not answered && not (same || lost)) ≡ true → (not answered && not lost) ≡ true
out_weaker true same lost h = h
out_weaker false true lost h = absurd (let e : false ≡ true = h in cc)
out_weaker false false lost h = h

module _ (tells : SummaryTells) (run : Fixed) (past : List Event) (ticket : ℕ) where
  abbrev before : Summary
  before = summary_of run past

  -- an operation that was not closed is out, and is no more once its ticket is lost
  out_no_more : (errand : Errand) → not (is_closed past errand.ticket) ≡ true → (errand.ticket == ticket) ≡ true
      → (is_out before.answered before.lost errand && not (is_out before.answered (ticket ∷ before.lost) errand)) ≡ true
  out_no_more errand unclosed is =
      let neither : (has_number before.answered errand.ticket || has_number before.lost errand.ticket) ≡ false =
      sym ((tells run past).closed errand.ticket) ∙ not-true (is_closed past errand.ticket) unclosed in
      let unanswered : has_number before.answered errand.ticket ≡ false = neither_left _ (has_number before.lost errand.ticket) neither in
      let unlost : has_number before.lost errand.ticket ≡ false = neither_right (has_number before.answered errand.ticket) _ neither in
      let same : (ticket == errand.ticket) ≡ true =
      ap (λ (n : ℕ). n == errand.ticket) (sym (equal_numbers errand.ticket ticket is)) ∙ same_number errand.ticket in
      λ i. (not (unanswered i) && not (unlost i)) && not (not (unanswered i) && not (same i || unlost i))

  -- one operation fewer is out, where an open one is lost
  fewer_out : is_open past ticket ≡ true
      → length (filter (is_out before.answered (ticket ∷ before.lost)) before.begun) + 1 ≤ count_out before
  fewer_out opened =
      fewer (is_out before.answered before.lost) (is_out before.answered (ticket ∷ before.lost))
      (λ errand. out_weaker (has_number before.answered errand.ticket) (ticket == errand.ticket) (has_number before.lost errand.ticket))
      before.begun
      (any_kept (λ errand. not (is_closed past errand.ticket)) (λ errand. errand.ticket == ticket)
      (λ errand. is_out before.answered before.lost errand && not (is_out before.answered (ticket ∷ before.lost) errand))
      out_no_more before.begun opened)

-- the problems with a loss
loss_listed : (at : ℕ) (lost : Option Errand) (why : Loss) (problems : List (ℕ × Problem))
    → with_loss at lost why problems
    ≡ problems ++ at_position at (option_list (option_map (λ errand. problem_of_loss errand.lane why) lost))
loss_listed at None why problems = sym (append-nil problems)
loss_listed at (Some errand) why problems = refl

-- ---- what is kept anew

-- what is the same goes together
pub moved : {columns other : Columns} {history later : Seen} → other ≡ columns → later ≡ history → GoTogether columns history → GoTogether other later
moved same after both =
    subst (λ (one : Columns × Seen). GoTogether one.0 one.1) (λ i. (sym same i, sym after i)) both

-- the course with one event more
pub course_on : (columns other : Columns) (history later : Seen) (course : Course) (seat : ℕ) (what : What)
    → record { run = columns.claims.run; history = history.events } ≡ course
    → other.claims.run ≡ columns.claims.run → later.events ≡ record { seat = seat; what = what } ∷ history.events
    → record { run = other.claims.run; history = later.events } ≡ with_event seat what course
course_on columns other history later course seat what is runs events =
    (λ i. record { run = runs i; history = events i }) ∙ ap (with_event seat what) is

-- what may happen after a course may happen after the history that is kept of it
pub may_now : (columns : Columns) (history : Seen) (course : Course) (seat : ℕ) (what : What)
    → record { run = columns.claims.run; history = history.events } ≡ course → MayHappen (known_now course) seat what
    → MayHappen (known_of columns.claims.run history.events) seat what
may_now columns history course seat what is may =
    subst (λ (one : Course). MayHappen (known_now one) seat what) (sym is) may

-- ---- events

-- a history with one event more that its room was made for
abbrev pub used : ℕ → What → Seen → Seen
used seat what history = record { events = record { seat = seat; what = what } ∷ history.events; room = history.room - 1 }

abbrev pub lost_columns : ℕ → ℕ → Loss → Columns → Columns
lost_columns at ticket why columns = record columns {
  errands = record columns.errands { tickets = with_lost ticket columns.errands.tickets };
  troubles = with_loss at (errand_at (history_by columns) ticket) why columns.troubles;
}

abbrev pub dropped_columns : ℕ → Columns → Columns
dropped_columns row columns = record columns {
  records = record columns.records { records = with_removed row columns.records.records; removals = columns.records.removals - 1 };
}

abbrev pub cleared_columns : ℕ → Columns → Columns
cleared_columns at columns = record columns {
  records = record columns.records { records = with_cleared at columns.records.records; clears = columns.records.clears - 1 };
}

abbrev pub stopped_columns : ℕ → Stop → Columns → Columns
stopped_columns at stop columns = record columns {
  records = record columns.records { records = with_stop columns.records.records };
  troubles = columns.troubles ++ (at, problem_of_stop stop) ∷ [];
}

abbrev pub posted_columns : ℕ → Columns → Columns
posted_columns n columns = record columns {
  records = record columns.records { records = with_posted n columns.records.records; ready = false };
}

module _ (laws : Laws) (columns : Columns) (history : Seen) (both : GoTogether columns history) where
  abbrev run : Fixed
  run = columns.claims.run

  abbrev past : List Event
  past = history.events

  abbrev known : Known
  known = known_of run past

  abbrev summary : Summary
  summary = summary_of run past

  -- ---- losses

  pub kept_open : (seat ticket : ℕ) (why : Loss) → MayHappen known seat (Lost ticket why) → is_open (history_by columns) ticket ≡ true
  unfolding history_by
  kept_open seat ticket why may =
      ap (λ (kept : Summary). is_open (plain_history kept) ticket) both.told
      ∙ sym (λ i. (laws.reads run past).tickets i ticket)
      ∙ seat_open run past seat ticket may

  less_out : (seat ticket : ℕ) (why : Loss) → MayHappen known seat (Lost ticket why)
      → count_out (summary_by (lost_columns (length past) ticket why columns)) + 1 ≤ count_out (summary_by columns)
  less_out seat ticket why may =
      subst (λ (kept : Summary). length (filter (is_out kept.answered (ticket ∷ kept.lost)) kept.begun) + 1 ≤ count_out kept)
      (sym both.told) (fewer_out laws.tells run past ticket (seat_open run past seat ticket may))

  pub loss_room : (seat ticket : ℕ) (why : Loss) → MayHappen known seat (Lost ticket why) → 0 < history.room
  loss_room seat ticket why may =
      let less : count_out (summary_by (lost_columns (length past) ticket why columns)) + 1 ≤ count_out (summary_by columns) =
      less_out seat ticket why may in
      let room = both.room in
      omega arith

  lost_told : (seat ticket : ℕ) (why : Loss)
      → summary_by (lost_columns (length past) ticket why columns)
      ≡ kept_after run (length past) seat (Lost ticket why) (summary_by columns)
  unfolding history_by
  lost_told seat ticket why = λ i. record (summary_by columns) {
    lost = ticket ∷ columns.errands.tickets.lost;
    problems = loss_listed (length past) (errand_at (history_by columns) ticket) why columns.troubles i;
  }

  pub lost : (seat ticket : ℕ) (why : Loss) → MayHappen known seat (Lost ticket why)
      → GoTogether (lost_columns (length past) ticket why columns) (used seat (Lost ticket why) history)
  lost seat ticket why may =
      let less : count_out (summary_by (lost_columns (length past) ticket why columns)) + 1 ≤ count_out (summary_by columns) =
      less_out seat ticket why may in
      let room = both.room in
      record {
        orderly = (both.orderly, may);
        told = lost_told seat ticket why ∙ told_on laws.steps run past (summary_by columns) seat (Lost ticket why) both.told;
        names = both.names;
        removals = both.removals;
        clears = both.clears;
        room = omega arith;
      }

  -- ---- drops

  pub unremoved : (seat row : ℕ) → MayHappen known seat (Dropped row) → has_number columns.records.records.removed row ≡ false
  unremoved seat row may = ap (λ (kept : Summary). has_number kept.removed row) both.told ∙ drop_new run past row may

  less_rows : (seat row : ℕ) → MayHappen known seat (Dropped row)
      → count_left (row ∷ columns.records.records.removed) (length (rows_of run)) + 1
      ≤ count_left columns.records.records.removed (length (rows_of run))
  less_rows seat row may =
      fewer_left columns.records.records.removed row (length (rows_of run)) (unremoved seat row may) (drop_within run past row may)

  pub drop_room : (seat row : ℕ) → MayHappen known seat (Dropped row) → 0 < history.room
  drop_room seat row may =
      let less : count_left (row ∷ columns.records.records.removed) (length (rows_of run)) + 1
      ≤ count_left columns.records.records.removed (length (rows_of run)) =
      less_rows seat row may in
      let room = both.room in
      omega arith

  pub removals_left : (seat row : ℕ) → MayHappen known seat (Dropped row) → 0 < columns.records.removals
  removals_left seat row may =
      let less : count_left (row ∷ columns.records.records.removed) (length (rows_of run)) + 1
      ≤ count_left columns.records.records.removed (length (rows_of run)) =
      less_rows seat row may in
      let removals = both.removals in
      omega arith

  pub dropped : (seat row : ℕ) → MayHappen known seat (Dropped row)
      → GoTogether (dropped_columns row columns) (used seat (Dropped row) history)
  dropped seat row may =
      let less : count_left (row ∷ columns.records.records.removed) (length (rows_of run)) + 1
      ≤ count_left columns.records.records.removed (length (rows_of run)) =
      less_rows seat row may in
      let room = both.room in
      let removals = both.removals in
      record {
        orderly = (both.orderly, may);
        told = told_on laws.steps run past (summary_by columns) seat (Dropped row) both.told;
        names = both.names;
        removals = omega arith;
        clears = both.clears;
        room = omega arith;
      }

  -- ---- clears

  pub uncleared : (seat at : ℕ) → MayHappen known seat (Cleared at) → has_number columns.records.records.cleared at ≡ false
  uncleared seat at may = ap (λ (kept : Summary). has_number kept.cleared at) both.told ∙ clear_new run past at may

  less_pending : (seat at : ℕ) → MayHappen known seat (Cleared at)
      → count_left (at ∷ columns.records.records.cleared) (length run.base.pending) + 1
      ≤ count_left columns.records.records.cleared (length run.base.pending)
  less_pending seat at may =
      fewer_left columns.records.records.cleared at (length run.base.pending) (uncleared seat at may) (clear_within run past at may)

  pub clear_room : (seat at : ℕ) → MayHappen known seat (Cleared at) → 0 < history.room
  clear_room seat at may =
      let less : count_left (at ∷ columns.records.records.cleared) (length run.base.pending) + 1
      ≤ count_left columns.records.records.cleared (length run.base.pending) =
      less_pending seat at may in
      let room = both.room in
      omega arith

  pub clears_left : (seat at : ℕ) → MayHappen known seat (Cleared at) → 0 < columns.records.clears
  clears_left seat at may =
      let less : count_left (at ∷ columns.records.records.cleared) (length run.base.pending) + 1
      ≤ count_left columns.records.records.cleared (length run.base.pending) =
      less_pending seat at may in
      let clears = both.clears in
      omega arith

  pub cleared : (seat at : ℕ) → MayHappen known seat (Cleared at)
      → GoTogether (cleared_columns at columns) (used seat (Cleared at) history)
  cleared seat at may =
      let less : count_left (at ∷ columns.records.records.cleared) (length run.base.pending) + 1
      ≤ count_left columns.records.records.cleared (length run.base.pending) =
      less_pending seat at may in
      let room = both.room in
      let clears = both.clears in
      record {
        orderly = (both.orderly, may);
        told = told_on laws.steps run past (summary_by columns) seat (Cleared at) both.told;
        names = both.names;
        removals = both.removals;
        clears = omega arith;
        room = omega arith;
      }

  -- ---- stops

  unstopped : (seat : ℕ) (stop : Stop) → MayHappen known seat (Stopped stop) → columns.records.records.stopped ≡ false
  unstopped seat stop may = ap (λ (kept : Summary). kept.stopped) both.told ∙ stop_new run past stop may

  pub stop_room : (seat : ℕ) (stop : Stop) → MayHappen known seat (Stopped stop) → 0 < history.room
  stop_room seat stop may =
      let one : count_once columns.records.records.stopped ≡ 1 = ap count_once (unstopped seat stop may) in
      let room = both.room in
      omega arith

  pub stopped : (seat : ℕ) (stop : Stop) → MayHappen known seat (Stopped stop)
      → GoTogether (stopped_columns (length past) stop columns) (used seat (Stopped stop) history)
  stopped seat stop may =
      let one : count_once columns.records.records.stopped ≡ 1 = ap count_once (unstopped seat stop may) in
      let room = both.room in
      record {
        orderly = (both.orderly, may);
        told = told_on laws.steps run past (summary_by columns) seat (Stopped stop) both.told;
        names = both.names;
        removals = both.removals;
        clears = both.clears;
        room = omega arith;
      }

  -- ---- posts

  pub unposted : (seat n : ℕ) → MayHappen known seat (Posted n) → has_number columns.records.records.posted n ≡ false
  unposted seat n may = ap (λ (kept : Summary). has_number kept.posted n) both.told ∙ post_new run past n may

  pub posted : (seat n : ℕ) → MayHappen known seat (Posted n)
      → GoTogether (posted_columns n columns) (used seat (Posted n) (record history { room = history.room + 1 }))
  posted seat n may =
      let room = both.room in
      record {
        orderly = (both.orderly, may);
        told = told_on laws.steps run past (summary_by columns) seat (Posted n) both.told;
        names = both.names;
        removals = both.removals;
        clears = both.clears;
        room = omega arith;
      }
