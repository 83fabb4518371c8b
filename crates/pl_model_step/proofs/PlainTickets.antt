-- What plain events tell of a summary's tickets and fresh numbers.
use Rattle.std.proofs.Common.{◌≡◌, ℕ, ◌==◌, Bool, true, false, ◌||◌, if◌then◌else◌, List, [], ◌∷◌, ◌++◌, map, Option, Some, None, refl, sym, ◌∙◌, ap, arith}
use Rattle.std.proofs.lemmas.Bool.Decides.{nat_tests}
use Rattle.std.specs.List.{cons_option, list_any}
use Rattle.std.specs.Option.{option_or}
use Rattle.std.proofs.Math.Bool.{or-false}
use Rattle.pl_lemmas.proofs.Truth.{neither_right}
use Rattle.pl_lemmas.proofs.Options.{or_none}
use Rattle.pl_events.specs.declared.event.Event.{Event}
use Rattle.pl_events.specs.declared.event.What.{What}
use Rattle.pl_events.specs.declared.event.What.TheVariants.{Kept}
use Rattle.pl_model.specs.declared.fixed.Fixed.{Fixed}
use Rattle.pl_model.specs.declared.errand.Errand.{Errand}
use Rattle.pl_model.specs.Tickets.{has_configured, is_closed, loses}
use Rattle.pl_lemmas.specs.Words.{has_number, only_if}
use Rattle.pl_model.specs.Recording.{fresh_by, fresh_of, recorded_by, recorded_of}
use Rattle.pl_model.specs.State.{was_answered}
use Rattle.pl_model.specs.Step.{Summary, plain_history, plain_keep, plain_loss, plain_reply, plain_word, summary_of}
use Rattle.pl_model_step.proofs.Plain.{any_listed, drops, keeps, over_begins, over_clears, over_drops, over_end, over_keeps, over_losses, over_posts, over_replies, over_stop, over_words, replies, says_none, says_word, words}

-- readings by ticket
abbrev loses_in : ℕ → List Event → Bool
loses_in ticket history = list_any (λ event. loses ticket event.what) history

abbrev answers_in : ℕ → List Event → Bool
answers_in ticket history = was_answered history ticket

abbrev closes_in : ℕ → List Event → Bool
closes_in ticket history = is_closed history ticket

abbrev configures_in : Errand → List Event → Bool
configures_in errand history = has_configured history errand

module _ (summary : Summary) where
  -- whether a ticket is lost, answered, closed, and answered by the word that its lane is configured

  abbrev is_among : ℕ → ℕ → Bool
  is_among ticket other = other == ticket

  pub plain_lost : (ticket : ℕ)
      → list_any (λ event. loses ticket event.what) (plain_history summary) ≡ has_number summary.lost ticket
  plain_lost ticket =
      over_end summary (loses_in ticket) (λ past. refl)
      ∙ over_stop summary (loses_in ticket) (λ past. refl)
      ∙ over_posts summary (loses_in ticket) (λ x past. refl)
      ∙ over_clears summary (loses_in ticket) (λ x past. refl)
      ∙ any_listed (loses_in ticket) plain_loss (is_among ticket) (λ x past. refl) summary.lost (words summary)
      ∙ ap (λ (b : Bool). has_number summary.lost ticket || b) none
      ∙ or-false (has_number summary.lost ticket)
    where
      none : (loses_in ticket) (words summary) ≡ false
      none =
          over_words summary (loses_in ticket) (λ x past. refl)
          ∙ over_replies summary (loses_in ticket) (λ x past. refl)
          ∙ over_keeps summary (loses_in ticket) (λ x past. refl)
          ∙ over_drops summary (loses_in ticket) (λ x past. refl)
          ∙ over_begins summary (loses_in ticket) (λ x past. refl)

  no_answer : (ticket : ℕ) → was_answered (keeps summary) ticket ≡ false
  no_answer ticket =
      over_keeps summary (answers_in ticket) (λ x past. refl)
      ∙ over_drops summary (answers_in ticket) (λ x past. refl)
      ∙ over_begins summary (answers_in ticket) (λ x past. refl)

  pub plain_answered : (ticket : ℕ) → was_answered (plain_history summary) ticket
      ≡ (has_number summary.configured ticket || has_number summary.answered ticket)
  plain_answered ticket =
      over_end summary (answers_in ticket) (λ past. refl)
      ∙ over_stop summary (answers_in ticket) (λ past. refl)
      ∙ over_posts summary (answers_in ticket) (λ x past. refl)
      ∙ over_clears summary (answers_in ticket) (λ x past. refl)
      ∙ over_losses summary (answers_in ticket) (λ x past. refl)
      ∙ any_listed (answers_in ticket) plain_word (is_among ticket) (λ x past. refl) summary.configured (replies summary)
      ∙ ap (λ (b : Bool). has_number summary.configured ticket || b)
      (any_listed (answers_in ticket) plain_reply (is_among ticket) (λ x past. refl) summary.answered (keeps summary)
      ∙ ap (λ (b : Bool). has_number summary.answered ticket || b) (no_answer ticket)
      ∙ or-false (has_number summary.answered ticket))

  no_close : (ticket : ℕ) → is_closed (keeps summary) ticket ≡ false
  no_close ticket =
      over_keeps summary (closes_in ticket) (λ x past. refl)
      ∙ over_drops summary (closes_in ticket) (λ x past. refl)
      ∙ over_begins summary (closes_in ticket) (λ x past. refl)

  pub plain_closed : (ticket : ℕ) → is_closed (plain_history summary) ticket
      ≡ (has_number summary.lost ticket || (has_number summary.configured ticket || has_number summary.answered ticket))
  plain_closed ticket =
      over_end summary (closes_in ticket) (λ past. refl)
      ∙ over_stop summary (closes_in ticket) (λ past. refl)
      ∙ over_posts summary (closes_in ticket) (λ x past. refl)
      ∙ over_clears summary (closes_in ticket) (λ x past. refl)
      ∙ any_listed (closes_in ticket) plain_loss (is_among ticket) (λ x past. refl) summary.lost (words summary)
      ∙ ap (λ (b : Bool). has_number summary.lost ticket || b)
      (any_listed (closes_in ticket) plain_word (is_among ticket) (λ x past. refl) summary.configured (replies summary)
      ∙ ap (λ (b : Bool). has_number summary.configured ticket || b)
      (any_listed (closes_in ticket) plain_reply (is_among ticket) (λ x past. refl) summary.answered (keeps summary)
      ∙ ap (λ (b : Bool). has_number summary.answered ticket || b) (no_close ticket)
      ∙ or-false (has_number summary.answered ticket)))

  pub plain_configured : (errand : Errand)
      → has_configured (plain_history summary) errand ≡ has_number summary.configured errand.ticket
  plain_configured errand =
      over_end summary (configures_in errand) (λ past. refl)
      ∙ over_stop summary (configures_in errand) (λ past. refl)
      ∙ over_posts summary (configures_in errand) (λ x past. refl)
      ∙ over_clears summary (configures_in errand) (λ x past. refl)
      ∙ over_losses summary (configures_in errand) (λ x past. refl)
      ∙ any_listed (configures_in errand) plain_word (is_among errand.ticket)
      (λ ticket past. ap (λ (b : Bool). b || configures_in errand past) (says_word (ticket == errand.ticket))) summary.configured (replies summary)
      ∙ ap (λ (b : Bool). has_number summary.configured errand.ticket || b) none
      ∙ or-false (has_number summary.configured errand.ticket)
    where
      none : (configures_in errand) (replies summary) ≡ false
      none =
          over_replies summary (configures_in errand) (λ ticket past. ap (λ (b : Bool). b || configures_in errand past) (says_none (ticket == errand.ticket)))
          ∙ over_keeps summary (configures_in errand) (λ x past. refl)
          ∙ over_drops summary (configures_in errand) (λ x past. refl)
          ∙ over_begins summary (configures_in errand) (λ x past. refl)

  -- ---- fresh numbers

  no_fresh : (goal : ℕ) → fresh_of (drops summary) goal ≡ None
  no_fresh goal =
      over_drops summary (λ history. fresh_of history goal) (λ x past. or_none (fresh_of past goal))
      ∙ over_begins summary (λ history. fresh_of history goal) (λ x past. or_none (fresh_of past goal))

  -- what keeps tell is what the summary has of one of the goals
  fresh_kept : (goal : ℕ) (goals : List ℕ)
      → fresh_of (map (plain_keep summary) goals ++ (drops summary)) goal ≡ (if has_number goals goal then summary.fresh goal else None)
  fresh_kept goal [] = no_fresh goal
  fresh_kept goal (kept ∷ goals) =
      ap (λ (o : Option ℕ). option_or o (only_if (kept == goal) (summary.fresh kept))) (fresh_kept goal goals)
      ∙ by (kept == goal) refl (has_number goals goal) (summary.fresh goal) refl
    where
      by : (same : Bool) → (kept == goal) ≡ same → (there : Bool) (o : Option ℕ) → summary.fresh goal ≡ o
          → option_or (if there then o else None) (only_if same (summary.fresh kept)) ≡ (if same || there then o else None)
      by false is there o e = or_none (if there then o else None)
      by true is true (Some n) e = refl
      by true is true None e =
          let same : kept ≡ goal = grind (arith, nat_tests) in ap (λ (n : ℕ). summary.fresh n) same ∙ e
      by true is false o e =
          let same : kept ≡ goal = grind (arith, nat_tests) in ap (λ (n : ℕ). summary.fresh n) same ∙ e

  pub plain_fresh : (goal : ℕ)
      → fresh_of (plain_history summary) goal ≡ (if has_number summary.recorded goal then summary.fresh goal else None)
  plain_fresh goal =
      over_end summary (λ history. fresh_of history goal) (λ past. or_none (fresh_of past goal))
      ∙ over_stop summary (λ history. fresh_of history goal) (λ past. or_none (fresh_of past goal))
      ∙ over_posts summary (λ history. fresh_of history goal) (λ x past. or_none (fresh_of past goal))
      ∙ over_clears summary (λ history. fresh_of history goal) (λ x past. or_none (fresh_of past goal))
      ∙ over_losses summary (λ history. fresh_of history goal) (λ x past. or_none (fresh_of past goal))
      ∙ over_words summary (λ history. fresh_of history goal) (λ x past. or_none (fresh_of past goal))
      ∙ over_replies summary (λ history. fresh_of history goal) (λ x past. or_none (fresh_of past goal))
      ∙ fresh_kept goal summary.recorded

-- ---- the summary of a history

-- a goal that is not recorded has no fresh number
more_recorded : (past : List Event) (goal : ℕ) (o : Option ℕ) → has_number (cons_option o (recorded_of past)) goal ≡ false
    → has_number (recorded_of past) goal ≡ false
more_recorded past goal None h = h
more_recorded past goal (Some number) h = neither_right (number == goal) (has_number (recorded_of past) goal) h

not_kept : (past : List Event) (goal number : ℕ) (fresh : Option ℕ) (b : Bool) → (number == goal) ≡ b
    → (b || has_number (recorded_of past) goal) ≡ false → fresh_of past goal ≡ None
    → option_or (fresh_of past goal) (only_if b fresh) ≡ None
not_kept past goal number fresh true is h none = absurd (let e : true ≡ false = h in cc)
not_kept past goal number fresh false is h none = or_none (fresh_of past goal) ∙ none

not_fresh : (past : List Event) (goal : ℕ) (what : What) → fresh_of past goal ≡ None
    → has_number (cons_option (recorded_by past what) (recorded_of past)) goal ≡ false
    → option_or (fresh_of past goal) (fresh_by goal what) ≡ None
not_fresh past goal (Kept number fresh) none h = not_kept past goal number fresh (number == goal) refl h none
not_fresh past goal _ none h = or_none (fresh_of past goal) ∙ none

unrecorded_fresh : (history : List Event) (goal : ℕ) → has_number (recorded_of history) goal ≡ false → fresh_of history goal ≡ None
unrecorded_fresh [] goal h = refl
unrecorded_fresh (event ∷ past) goal h =
    not_fresh past goal event.what
    (unrecorded_fresh past goal (more_recorded past goal (recorded_by past event.what) h)) h

pub same_fresh : (run : Fixed) (history : List Event) (goal : ℕ)
    → fresh_of (plain_history (summary_of run history)) goal ≡ fresh_of history goal
same_fresh run history goal = plain_fresh (summary_of run history) goal ∙ by (has_number (recorded_of history) goal) refl
  where
    by : (b : Bool) → has_number (recorded_of history) goal ≡ b → (if b then fresh_of history goal else None) ≡ fresh_of history goal
    by true is = refl
    by false is = sym (unrecorded_fresh history goal is)
