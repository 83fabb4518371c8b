-- Columns and a history go together after an operation is begun, where they did before it.
use Rattle.std.proofs.Common.{◌≡◌, ℕ, ◌+◌, ◌≤◌, Bool, true, false, not, cond, List, ◌∷◌, filter, length, map, sym, ◌∙◌, ap, subst, arith}
use Rattle.pl_lemmas.proofs.Truth.{and_left}
use Rattle.pl_columns.specs.Read.{history_by, summary_by}
use Rattle.pl_columns.specs.declared.columns.Columns.{Columns}
use Rattle.pl_columns.proofs.Told.{count_told, next_told}
use Rattle.pl_errands.specs.Tickets.{Kept, events_of, with_begun}
use Rattle.pl_events.specs.Seen.{Seen}
use Rattle.pl_events.specs.declared.event.Event.{Event}
use Rattle.pl_events.specs.declared.event.What.TheVariants.{Begun}
use Rattle.pl_events.specs.declared.operation.Op.{Op}
use Rattle.pl_model.specs.declared.errand.Errand.{Errand}
use Rattle.pl_model.specs.declared.fixed.Fixed.{Fixed}
use Rattle.pl_model.specs.declared.work.Work.TheVariants.{Send as to_send}
use Rattle.pl_model.specs.Due.{is_due_on, is_ready_on, passes_limit}
use Rattle.pl_model.specs.History.{known_of}
use Rattle.pl_model.specs.Known.{Known}
use Rattle.pl_model.specs.Legal.{MayHappen}
use Rattle.pl_model.specs.Step.{Summary}
use Rattle.pl_model.specs.Tickets.{begun_of, lane_count, next_ticket}
use Rattle.pl_value.specs.Inside.{greatest}
use Rattle.pl_model_stays.proofs.Operations.Once.{history_of}
use Rattle.pl_model_step.proofs.Plain.{plain_begun}
use Rattle.pl_course.specs.Together.{GoTogether}
use Rattle.pl_course.specs.Laws.{Laws}
use Rattle.pl_course.specs.Room.{count_out, is_out}
use Rattle.pl_course.proofs.Lanes.{due_low}
use Rattle.pl_course.proofs.Steps.{told_on}
use Rattle.pl_course.proofs.Together.{used}

one_more : {X : Type 0} (test : X → Bool) (x : X) (xs : List X) → length (filter test (x ∷ xs)) ≤ length (filter test xs) + 1
one_more {X = X} test x xs = by (test x)
  where
    by : (b : Bool) → length (cond b (x ∷ filter test xs) (filter test xs)) ≤ length (filter test xs) + 1
    by true = omega arith
    by false = omega arith

abbrev pub begun_errands : ℕ → ℕ → ℕ → Op → Kept → Kept
begun_errands seat ticket lane about errands = record { tickets = with_begun seat ticket lane about errands.tickets; ready = false }

abbrev pub begun_columns : ℕ → ℕ → ℕ → Op → Columns → Columns
begun_columns seat ticket lane about columns =
    record columns { errands = begun_errands seat ticket lane about columns.errands }

module _ (columns : Columns) (history : Seen) (both : GoTogether columns history) where
  abbrev run : Fixed
  run = columns.claims.run

  abbrev past : List Event
  past = history.events

  abbrev known : Known
  known = known_of run past

  begun_kept : begun_of (history_by columns) ≡ begun_of past
  unfolding history_by
  begun_kept = plain_begun (summary_by columns) ∙ ap (λ (kept : Summary). kept.begun) both.told

  pub kept_next : next_ticket (history_by columns) ≡ next_ticket past
  kept_next = ap length begun_kept

  kept_count : lane_count (history_by columns) ≡ lane_count past
  kept_count = ap (λ (errands : List Errand). greatest (map (λ errand. errand.lane + 1) errands)) begun_kept

  pub next_kept : next_ticket (events_of columns.errands.tickets) ≡ next_ticket past
  next_kept = next_told columns ∙ kept_next

  pub lane_kept : (about : Op) (lane : ℕ) → is_due_on known about lane ≡ true → lane ≤ lane_count (events_of columns.errands.tickets)
  lane_kept about lane due =
      subst (λ (n : ℕ). lane ≤ n) (ap lane_count (history_of run past) ∙ sym kept_count ∙ sym (count_told columns))
      (due_low known about lane (and_left (is_ready_on known about lane) (not (passes_limit known (to_send about))) due))

  -- the ticket that is given may be begun
  pub may_begin : (seat ticket : ℕ) (about : Op) (lane : ℕ) → ticket ≡ next_ticket past → is_due_on known about lane ≡ true
      → MayHappen known seat (Begun ticket lane about)
  may_begin seat ticket about lane next due = record { next = next ∙ sym (ap next_ticket (history_of run past)); due = due }

module _ (laws : Laws) (columns : Columns) (history : Seen) (both : GoTogether columns history) where
  pub begun : (seat ticket : ℕ) (about : Op) (lane : ℕ) → MayHappen (known_of columns.claims.run history.events) seat (Begun ticket lane about)
      → GoTogether (begun_columns seat ticket lane about columns)
      (used seat (Begun ticket lane about) (record history { room = history.room + 2 }))
  begun seat ticket about lane may =
      let more : count_out (summary_by (begun_columns seat ticket lane about columns)) ≤ count_out (summary_by columns) + 1 =
      one_more (is_out columns.errands.tickets.answered columns.errands.tickets.lost)
      (record { ticket = ticket; seat = seat; lane = lane; op = about }) columns.errands.tickets.begun in
      let room = both.room in
      record {
        orderly = (both.orderly, may);
        told = told_on laws.steps columns.claims.run history.events (summary_by columns) seat (Begun ticket lane about) both.told;
        names = both.names;
        removals = both.removals;
        clears = both.clears;
        room = omega arith;
      }
