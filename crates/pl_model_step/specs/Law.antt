-- The law of the step, and what is read of a summary.
use Rattle.std.specs.Prelude.{◌≡◌, ℕ, ◌||◌, List, ◌∷◌}
use Rattle.std.specs.List.{list_any}
use Rattle.pl_state.specs.declared.goal.Goal.{Goal}
use Rattle.pl_events.specs.declared.event.Event.{Event}
use Rattle.pl_model.specs.declared.fixed.Fixed.{Fixed}
use Rattle.pl_model.specs.declared.errand.Errand.{Errand}
use Rattle.pl_model.specs.Tickets.{has_configured, is_closed, loses}
use Rattle.pl_lemmas.specs.Words.{has_number}
use Rattle.pl_model.specs.declared.decided.Decided.{Decided}
use Rattle.pl_model.specs.Entries.{recording_of}
use Rattle.pl_model.specs.History.{known_of}
use Rattle.pl_model.specs.State.{was_answered}
use Rattle.pl_model.specs.Step.{after, summary_of}

-- the summary of a history with one event more is the one before it, changed by the event
abbrev pub SummarySteps : Type 0
SummarySteps = (run : Fixed) (event : Event) (past : List Event)
    → summary_of run (event ∷ past) ≡ after run (summary_of run past) event

-- what a history tells of its tickets and of what was recorded, as its summary has it
pub record Tells (run : Fixed) (history : List Event) : Type 0 where
  pub closed : (ticket : ℕ) → is_closed history ticket
      ≡ (has_number (summary_of run history).answered ticket || has_number (summary_of run history).lost ticket)
  pub lost : (ticket : ℕ) → list_any (λ event. loses ticket event.what) history ≡ has_number (summary_of run history).lost ticket
  pub answered : (ticket : ℕ) → was_answered history ticket ≡ has_number (summary_of run history).answered ticket
  pub configured : (errand : Errand) → has_configured history errand ≡ has_number (summary_of run history).configured errand.ticket
  pub results : (number : ℕ) (goal : Goal) (one : Decided)
      → recording_of (known_of run history) number goal one ≡ (summary_of run history).results number goal one

abbrev pub SummaryTells : Type 0
SummaryTells = (run : Fixed) (history : List Event) → Tells run history
