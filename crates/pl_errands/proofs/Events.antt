-- What the plain events of tickets tell.
use Rattle.std.proofs.Common.{◌≡◌, ℕ, ◌==◌, Bool, true, false, ◌||◌, if◌then◌else◌, List, [], ◌∷◌, ◌++◌, map, Some, None, refl, ◌∙◌, ap}
use Rattle.std.specs.List.{list_any}
use Rattle.std.proofs.Math.Bool.{or-false}
use Rattle.pl_lemmas.proofs.Truth.{or_either}
use Rattle.pl_events.specs.declared.event.Event.{Event}
use Rattle.pl_events.specs.declared.reply.Reply.TheVariants.{Configured, Error}
use Rattle.pl_model.specs.declared.errand.Errand.{Errand}
use Rattle.pl_model.specs.Tickets.{begun_of, has_configured, is_closed, is_configured_reply, loses}
use Rattle.pl_lemmas.specs.Words.{has_number}
use Rattle.pl_model.specs.Step.{plain_begin, plain_loss, plain_reply, plain_word}
use Rattle.pl_errands.specs.Tickets.{Tickets, events_of}

-- ---- events of one kind

passed_over : {X Y : Type 0} (reads : List Event → Y) (event : X → Event)
    → ((x : X) (past : List Event) → reads (event x ∷ past) ≡ reads past)
    → (xs : List X) (past : List Event) → reads (map event xs ++ past) ≡ reads past
passed_over reads event unseen [] past = refl
passed_over reads event unseen (x ∷ xs) past =
    unseen x (map event xs ++ past) ∙ passed_over reads event unseen xs past

any_listed : {X : Type 0} (reads : List Event → Bool) (event : X → Event) (test : X → Bool)
    → ((x : X) (past : List Event) → reads (event x ∷ past) ≡ (test x || reads past))
    → (xs : List X) (past : List Event) → reads (map event xs ++ past) ≡ (list_any test xs || reads past)
any_listed reads event test sees [] past = refl
any_listed reads event test sees (x ∷ xs) past =
    sees x (map event xs ++ past) ∙ ap (λ (b : Bool). test x || b) (any_listed reads event test sees xs past)
    ∙ or_either (test x) (list_any test xs) (reads past)

none_begun : {Y : Type 0} (reads : List Event → Y) (none : Y) → reads [] ≡ none
    → ((errand : Errand) (past : List Event) → reads (plain_begin errand ∷ past) ≡ reads past)
    → (errands : List Errand) → reads (map plain_begin errands) ≡ none
none_begun reads none empty unseen [] = empty
none_begun reads none empty unseen (errand ∷ errands) =
    unseen errand (map plain_begin errands) ∙ none_begun reads none empty unseen errands

begun_again : (errands : List Errand) → begun_of (map plain_begin errands) ≡ errands
begun_again [] = refl
begun_again (errand ∷ errands) = ap (λ (more : List Errand). errand ∷ more) (begun_again errands)

-- ---- the events of tickets

abbrev words : Tickets → List Event
words tickets = map plain_word tickets.configured ++ (map plain_reply tickets.answered ++ map plain_begin tickets.begun)

abbrev replies : Tickets → List Event
replies tickets = map plain_reply tickets.answered ++ map plain_begin tickets.begun

pub begun_read : (tickets : Tickets) → begun_of (events_of tickets) ≡ tickets.begun
begun_read tickets =
    passed_over begun_of plain_loss (λ x past. refl) tickets.lost (words tickets)
    ∙ passed_over begun_of plain_word (λ x past. refl) tickets.configured (replies tickets)
    ∙ passed_over begun_of plain_reply (λ x past. refl) tickets.answered (map plain_begin tickets.begun)
    ∙ begun_again tickets.begun

abbrev loses_in : ℕ → List Event → Bool
loses_in ticket history = list_any (λ event. loses ticket event.what) history

pub lost_read : (tickets : Tickets) (ticket : ℕ) → list_any (λ event. loses ticket event.what) (events_of tickets) ≡ has_number tickets.lost ticket
lost_read tickets ticket =
    any_listed (loses_in ticket) plain_loss (λ other. other == ticket) (λ x past. refl) tickets.lost (words tickets)
    ∙ ap (λ (b : Bool). has_number tickets.lost ticket || b)
    (passed_over (loses_in ticket) plain_word (λ x past. refl) tickets.configured (replies tickets)
    ∙ passed_over (loses_in ticket) plain_reply (λ x past. refl) tickets.answered (map plain_begin tickets.begun)
    ∙ none_begun (loses_in ticket) false refl (λ x past. refl) tickets.begun)
    ∙ or-false (has_number tickets.lost ticket)

-- whether a ticket is closed: it was lost, or answered by that word or another
abbrev pub is_closed_in : Tickets → ℕ → Bool
is_closed_in tickets ticket =
    has_number tickets.lost ticket || (has_number tickets.configured ticket || has_number tickets.answered ticket)

abbrev closes_in : ℕ → List Event → Bool
closes_in ticket history = is_closed history ticket

pub closed_read : (tickets : Tickets) (ticket : ℕ) → is_closed (events_of tickets) ticket ≡ is_closed_in tickets ticket
closed_read tickets ticket =
    any_listed (closes_in ticket) plain_loss (λ other. other == ticket) (λ x past. refl) tickets.lost (words tickets)
    ∙ ap (λ (b : Bool). has_number tickets.lost ticket || b)
    (any_listed (closes_in ticket) plain_word (λ other. other == ticket) (λ x past. refl) tickets.configured (replies tickets)
    ∙ ap (λ (b : Bool). has_number tickets.configured ticket || b)
    (any_listed (closes_in ticket) plain_reply (λ other. other == ticket) (λ x past. refl) tickets.answered (map plain_begin tickets.begun)
    ∙ ap (λ (b : Bool). has_number tickets.answered ticket || b) (none_begun (closes_in ticket) false refl (λ x past. refl) tickets.begun)
    ∙ or-false (has_number tickets.answered ticket)))

says_word : (b : Bool) → is_configured_reply (if b then Some Configured else None) ≡ b
says_word true = refl
says_word false = refl

says_none : (b : Bool) → is_configured_reply (if b then Some (Error []) else None) ≡ false
says_none true = refl
says_none false = refl

abbrev configures_in : Errand → List Event → Bool
configures_in errand history = has_configured history errand

pub configured_read : (tickets : Tickets) (errand : Errand) → has_configured (events_of tickets) errand ≡ has_number tickets.configured errand.ticket
configured_read tickets errand =
    passed_over (configures_in errand) plain_loss (λ x past. refl) tickets.lost (words tickets)
    ∙ any_listed (configures_in errand) plain_word (λ other. other == errand.ticket)
    (λ ticket past. ap (λ (b : Bool). b || configures_in errand past) (says_word (ticket == errand.ticket))) tickets.configured (replies tickets)
    ∙ ap (λ (b : Bool). has_number tickets.configured errand.ticket || b)
    (passed_over (configures_in errand) plain_reply
    (λ ticket past. ap (λ (b : Bool). b || configures_in errand past) (says_none (ticket == errand.ticket))) tickets.answered (map plain_begin tickets.begun)
    ∙ none_begun (configures_in errand) false refl (λ x past. refl) tickets.begun)
    ∙ or-false (has_number tickets.configured errand.ticket)
