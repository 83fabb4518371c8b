-- What is read of a history for entries, pending operations and the state.
use Rattle.std.proofs.Common.{◌≡◌, ℕ, not, ◌||◌, if◌then◌else◌, List, ◌++◌, filter, map, reverse, option_and_then, option_map, refl}
use Rattle.std.specs.List.{enumerate_from, filter_map}
use Rattle.pl_state.specs.declared.goal.Goal.{Goal}
use Rattle.pl_events.specs.declared.event.Event.{Event}
use Rattle.pl_events.specs.declared.operation.Op.TheVariants as op
use Rattle.pl_events.specs.declared.operation.Subject.TheVariants as subject
use Rattle.pl_model.specs.declared.fixed.Fixed.{Fixed}
use Rattle.pl_model.specs.Run.{is_refresh}
use Rattle.pl_model.specs.Tickets.{reply_to}
use Rattle.pl_lemmas.specs.Words.{has_number}
use Rattle.pl_model.specs.Recording.{cleared_of, posted_of}
use Rattle.pl_model.specs.declared.decided.Decided.{Decided}
use Rattle.pl_model.specs.Entries.{entry_of, new_entries, old_entries, result_from, told_outputs, with_outputs}
use Rattle.pl_model.specs.Known.{Known, decided_goal, goal_at}
use Rattle.pl_model.specs.Rows.{row_numbers}
use Rattle.pl_model.specs.State.{entries_now, is_cleared, is_found, opened_of, own_pending, pending_of, refreshed_entries, state_now, was_answered}
use Rattle.pl_model_step.proofs.Alike.{Alike, entries, left, old, over}
use Rattle.pl_model_step.proofs.Lanes.{SameTickets}

-- two histories that tell the same of all but what entries are made of and what is pending
pub record AlikeMost (a b : List Event) : Type 0 where
  pub core : Alike a b
  pub tickets : SameTickets a b
  pub cleared : cleared_of a ≡ cleared_of b
  pub posted : posted_of a ≡ posted_of b

-- two histories that tell the same of all that is read
pub record AlikeWhole (run : Fixed) (a b : List Event) : Type 0 where
  pub most : AlikeMost a b
  pub answered : (ticket : ℕ) → was_answered a ticket ≡ was_answered b ticket
  pub results : (known : Known) → known.run ≡ run → (number : ℕ) (goal : Goal) (one : Decided)
      → result_from known number goal one a ≡ result_from known number goal one b
  pub opened : opened_of run a ≡ opened_of run b

-- whether a pending operation of the start is no longer pending
pub cleared_alike : (known : Known) (history : List Event) → AlikeMost known.history history → is_cleared known ≡ is_cleared (over known history)
cleared_alike known history alike = λ i at.
    has_number (alike.cleared i) at || is_found (reply_to known.answers (op.Read (subject.Pending at)))

module _ (known : Known) (history : List Event) (alike : AlikeWhole known.run known.history history) where
  abbrev core : Alike known.history history
  core = alike.most.core

  pub entry_alike : entry_of known ≡ entry_of (over known history)
  entry_alike = λ i number.
      option_and_then (λ goal. option_and_then (λ one.
      option_map (entries known history core i goal one) (alike.results known refl number goal one i))
      (decided_goal known number)) (goal_at known number)

  news : new_entries known ≡ new_entries (over known history)
  news = λ i.
      filter_map (λ number. option_map (with_outputs (told_outputs known number)) (entry_alike i number)) (reverse (core.recorded i))

  olds : old_entries known ≡ old_entries (over known history)
  olds = λ i. filter_map (old known history core i) (filter (left known history core i) (row_numbers known))

  own_alike : own_pending known.run known.history ≡ own_pending known.run history
  own_alike = λ i.
      map (λ opened. opened.pending) (filter (λ opened. not (alike.answered opened.ticket i)) (reverse (alike.opened i)))

  pub pending_alike : pending_of known ≡ pending_of (over known history)
  pending_alike = λ i.
      map (λ one. one.1) (filter (λ one. not (cleared_alike known history alike.most i one.0)) (enumerate_from 0 known.run.base.pending)) ++ own_alike i

  pub entries_alike : entries_now known ≡ entries_now (over known history)
  entries_alike = λ i. if is_refresh known.run.mode then refreshed_entries known else news i ++ olds i

  pub state_alike : state_now known ≡ state_now (over known history)
  state_alike = λ i. record {
    stack = known.run.base.stack;
    entries = entries_alike i;
    pending = pending_alike i;
    rest = known.run.base.rest;
  }
