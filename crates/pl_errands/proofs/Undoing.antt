-- An answer that is taken back leaves the tickets as they were.
use Rattle.std.proofs.Common.{◌≡◌, ℕ, ◌==◌, Bool, true, false, not, ◌&&◌, ◌||◌, cond, if◌then◌else◌, List, [], ◌∷◌, drop, Option, Some, option_map, refl, sym, ap, ◌∙◌}
use Rattle.std.specs.List.{cons_option, find, list_any}
use Rattle.std.proofs.Math.Bool.{and-false}
use Rattle.pl_lemmas.specs.Words.{first_in}
use Rattle.pl_events.specs.declared.event.What.TheVariants.{Answered}
use Rattle.pl_events.specs.declared.reply.Reply.{Reply}
use Rattle.pl_events.specs.declared.reply.Reply.TheVariants as reply
use Rattle.pl_model.specs.declared.errand.Closed.{Closed}
use Rattle.pl_model.specs.declared.errand.Errand.{Errand}
use Rattle.pl_model.specs.Step.{configured_by}
use Rattle.pl_model.specs.Tickets.{begun_of, closed_by, is_closed, is_configured_reply, is_open}
use Rattle.pl_errands.specs.Tickets.{Tickets, events_of}
use Rattle.pl_errands.specs.Undone.{IsUndone}
use Rattle.pl_errands.proofs.Lists.{any-filter}

-- what passes two tests passes one of them
found_among : {X : Type 0} (p q : X → Bool) (xs : List X) → list_any (λ x. q x && p x) xs ≡ true → (x : X) × (find p xs ≡ Some x)
found_among p q [] holds = absurd (let e : false ≡ true = holds in cc)
found_among {X = X} p q (x ∷ xs) holds = by (p x) (q x) holds (found_among p q xs)
  where
    by : (b c : Bool) → ((c && b) || list_any (λ y. q y && p y) xs) ≡ true
        → (list_any (λ y. q y && p y) xs ≡ true → (y : X) × (find p xs ≡ Some y))
        → (y : X) × (cond b (Some x) (find p xs) ≡ Some y)
    by true c h rest = (x, refl)
    by false c h rest = rest (sym (ap (λ (b : Bool). b || list_any (λ y. q y && p y) xs) (and-false c)) ∙ h)

pub word_dropped : (ticket : ℕ) (told : Reply) (numbers : List ℕ)
    → (if is_configured_reply (Some told) then drop 1 (cons_option (configured_by ticket told) numbers) else cons_option (configured_by ticket told) numbers)
    ≡ numbers
word_dropped ticket reply.Configured numbers = refl
word_dropped ticket _ numbers = refl

pub undone : (ticket : ℕ) (told : Reply) (tickets : Tickets) → is_open (events_of tickets) ticket ≡ true → IsUndone ticket told tickets
undone ticket told tickets open_is =
    let begun = found_among (λ errand. errand.ticket == ticket) (λ errand. not (is_closed (events_of tickets) errand.ticket))
    (begun_of (events_of tickets))
    (sym (any-filter (λ errand. errand.ticket == ticket) (λ errand. not (is_closed (events_of tickets) errand.ticket)) (begun_of (events_of tickets)))
    ∙ open_is) in
    let closed : closed_by (events_of tickets) (Answered ticket told) ≡ Some (record { op = begun.0.op; reply = told }) =
    ap (λ (o : Option Errand). option_map (λ op. record { op = op; reply = told }) (option_map (λ errand. errand.op) o)) begun.1 in
    let word : (if is_configured_reply (option_map (λ one. one.reply) (first_in (cons_option (closed_by (events_of tickets) (Answered ticket told)) tickets.answers)))
    then drop 1 (cons_option (configured_by ticket told) tickets.configured) else cons_option (configured_by ticket told) tickets.configured)
    ≡ tickets.configured =
    ap (λ (o : Option Closed). if is_configured_reply (option_map (λ one. one.reply) (first_in (cons_option o tickets.answers)))
    then drop 1 (cons_option (configured_by ticket told) tickets.configured) else cons_option (configured_by ticket told) tickets.configured) closed
    ∙ word_dropped ticket told tickets.configured in
    let answers : drop 1 (cons_option (closed_by (events_of tickets) (Answered ticket told)) tickets.answers) ≡ tickets.answers =
    ap (λ (o : Option Closed). drop 1 (cons_option o tickets.answers)) closed in
    record {
      newest = ap (λ (o : Option Closed). option_map (λ one. one.reply) (first_in (cons_option o tickets.answers))) closed;
      undone = λ i. record {
        begun = tickets.begun;
        answered = tickets.answered;
        lost = tickets.lost;
        configured = word i;
        answers = answers i;
      };
    }
