-- What is read of a summary in place of its history.
use Rattle.std.proofs.Common.{◌≡◌, ℕ, ◌==◌, Bool, true, false, ◌||◌, if◌then◌else◌, List, [], ◌∷◌, Some, None, refl, sym, ◌∙◌, ap}
use Rattle.std.specs.List.{list_any, cons_option}
use Rattle.std.specs.Option.{option_or, option_and_then}
use Rattle.pl_state.specs.declared.goal.Goal.{Goal}
use Rattle.pl_events.specs.declared.event.Event.{Event}
use Rattle.pl_events.specs.declared.event.What.{What}
use Rattle.pl_events.specs.declared.event.What.TheVariants.{Answered, Lost, Kept}
use Rattle.pl_events.specs.declared.reply.Reply.{Reply}
use Rattle.pl_events.specs.declared.reply.Reply.TheVariants.{Configured}
use Rattle.pl_model.specs.declared.fixed.Fixed.{Fixed}
use Rattle.pl_model.specs.declared.errand.Errand.{Errand}
use Rattle.pl_model.specs.Tickets.{has_configured, is_closed, is_configured_reply, loses, says_configured, closes, closed_by}
use Rattle.pl_lemmas.specs.Words.{has_number, only_if}
use Rattle.pl_model.specs.declared.decided.Decided.{Decided}
use Rattle.pl_model.specs.Claims.{claimed_row}
use Rattle.pl_model.specs.Entries.{recording_of, result_answered, result_by, result_from, result_of_keep}
use Rattle.pl_model.specs.History.{known_of}
use Rattle.pl_model.specs.Known.{Known}
use Rattle.pl_model.specs.State.{is_answered, was_answered}
use Rattle.pl_model.specs.Step.{answered_in, configured_by, configured_in, lost_in, summary_of, tickets_by}
use Rattle.pl_model_step.specs.Law.{SummaryTells}
use Rattle.pl_model_step.proofs.Steps.{history_of, run_of}

-- one more of either
either_first : (b x y z : Bool) → x ≡ (y || z) → (b || x) ≡ ((b || y) || z)
either_first true x y z h = refl
either_first false x y z h = h

either_second : (b x y z : Bool) → x ≡ (y || z) → (b || x) ≡ (y || (b || z))
either_second true x true z h = refl
either_second true x false z h = refl
either_second false x y z h = h

pub tells_lost : (history : List Event) (ticket : ℕ)
    → list_any (λ event. loses ticket event.what) history ≡ has_number (tickets_by lost_in history) ticket
tells_lost [] ticket = refl
tells_lost (event ∷ past) ticket = by event.what (tells_lost past ticket)
  where
    by : (what : What) → list_any (λ event. loses ticket event.what) past ≡ has_number (tickets_by lost_in past) ticket
        → (loses ticket what || list_any (λ event. loses ticket event.what) past)
        ≡ has_number (cons_option (lost_in what) (tickets_by lost_in past)) ticket
    by (Lost lost why) h = ap (λ (b : Bool). (lost == ticket) || b) h
    by _ h = h

pub tells_answered : (history : List Event) (ticket : ℕ) → was_answered history ticket ≡ has_number (tickets_by answered_in history) ticket
tells_answered [] ticket = refl
tells_answered (event ∷ past) ticket = by event.what (tells_answered past ticket)
  where
    by : (what : What) → was_answered past ticket ≡ has_number (tickets_by answered_in past) ticket
        → (is_answered ticket what || was_answered past ticket)
        ≡ has_number (cons_option (answered_in what) (tickets_by answered_in past)) ticket
    by (Answered closed reply) h = ap (λ (b : Bool). (closed == ticket) || b) h
    by _ h = h

pub tells_closed : (history : List Event) (ticket : ℕ)
    → is_closed history ticket ≡ (has_number (tickets_by answered_in history) ticket || has_number (tickets_by lost_in history) ticket)
tells_closed [] ticket = refl
tells_closed (event ∷ past) ticket = by event.what (tells_closed past ticket)
  where
    by : (what : What)
        → is_closed past ticket ≡ (has_number (tickets_by answered_in past) ticket || has_number (tickets_by lost_in past) ticket)
        → (closes ticket what || is_closed past ticket)
        ≡ (has_number (cons_option (answered_in what) (tickets_by answered_in past)) ticket
        || has_number (cons_option (lost_in what) (tickets_by lost_in past)) ticket)
    by (Answered closed reply) h = either_first (closed == ticket) _ _ _ h
    by (Lost lost why) h = either_second (lost == ticket) _ _ _ h
    by _ h = h

-- a reply to a ticket says that its lane is configured
says : (b : Bool) (ticket : ℕ) (tickets : List ℕ) (reply : Reply) (closed : ℕ) → (closed == ticket) ≡ b
    → (is_configured_reply (if b then Some reply else None) || has_number tickets ticket)
    ≡ has_number (cons_option (configured_by closed reply) tickets) ticket
says true ticket tickets Configured closed is = ap (λ (b : Bool). b || has_number tickets ticket) (sym is)
says false ticket tickets Configured closed is = ap (λ (b : Bool). b || has_number tickets ticket) (sym is)
says true ticket tickets _ closed is = refl
says false ticket tickets _ closed is = refl

pub tells_configured : (history : List Event) (errand : Errand)
    → has_configured history errand ≡ has_number (tickets_by configured_in history) errand.ticket
tells_configured [] errand = refl
tells_configured (event ∷ past) errand = by event.what (tells_configured past errand)
  where
    by : (what : What) → has_configured past errand ≡ has_number (tickets_by configured_in past) errand.ticket
        → (says_configured errand.ticket what || has_configured past errand)
        ≡ has_number (cons_option (configured_in what) (tickets_by configured_in past)) errand.ticket
    by (Answered closed reply) h =
        ap (λ (b : Bool). says_configured errand.ticket (Answered closed reply) || b) h
        ∙ says (closed == errand.ticket) errand.ticket (tickets_by configured_in past) reply closed refl
    by _ h = h

-- what recorded a goal gave is the same in each run's knowledge
same_given : (a b : Known) → a.run ≡ b.run → (number : ℕ) (goal : Goal) (one : Decided) (past : List Event) (what : What)
    → result_by a number goal one past what ≡ result_by b number goal one past what
same_given a b same number goal one past (Kept kept fresh) =
    λ i. option_or (only_if (kept == number) (Some (result_of_keep goal (claimed_row (same i) one.claim) one fresh))) None
same_given a b same number goal one past (Answered ticket reply) =
    λ i. option_and_then (result_answered (record a { run = same i }) number one) (closed_by past (Answered ticket reply))
same_given a b same number goal one past _ = refl

pub same_results : (a b : Known) → a.run ≡ b.run → (number : ℕ) (goal : Goal) (one : Decided) (history : List Event)
    → result_from a number goal one history ≡ result_from b number goal one history
same_results a b same number goal one [] = refl
same_results a b same number goal one (event ∷ past) =
    λ i. option_or (same_results a b same number goal one past i) (same_given a b same number goal one past event.what i)

tells_results : (run : Fixed) (history : List Event) (number : ℕ) (goal : Goal) (one : Decided)
    → recording_of (known_of run history) number goal one ≡ (summary_of run history).results number goal one
tells_results run history number goal one =
    ap (λ (events : List Event). result_from (known_of run history) number goal one events) (history_of run history)
    ∙ same_results (known_of run history) (known_of run []) (run_of run history ∙ sym (run_of run [])) number goal one history

pub summary-tells : SummaryTells
summary-tells run history = record {
  closed = tells_closed history;
  lost = tells_lost history;
  answered = tells_answered history;
  configured = tells_configured history;
  results = tells_results run history;
}
