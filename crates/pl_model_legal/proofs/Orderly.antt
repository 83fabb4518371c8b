-- That the events of a history may happen, by one test that computes and by the form of what they tell.
use Rattle.std.proofs.Common.{◌≡◌, ℕ, ◌==◌, Bool, true, false, not, ◌&&◌, Option, None, Some, is_some, List, [], ◌∷◌, refl, subst}
use Rattle.std.proofs.lemmas.Bool.{and_from, and_parts, eqb-true, not-true}
use mathlib.Core.List.{reverse_aux}
use Rattle.pl_lemmas.specs.Words.{some_passes}
use Rattle.pl_events.specs.Replies.{is_formed_reply, is_reply_to_call, reply_fits}
use Rattle.pl_events.specs.Requests.{is_formed_request}
use Rattle.pl_events.specs.declared.event.Event.{Event}
use Rattle.pl_events.specs.declared.event.What.{What}
use Rattle.pl_events.specs.declared.event.What.TheVariants.{Told, HostGone, Begun, Answered, Lost, Kept, Dropped, Cleared, Posted, Stopped}
use Rattle.pl_events.specs.declared.reply.Reply.{Reply}
use Rattle.pl_model.specs.declared.errand.Errand.{Errand}
use Rattle.pl_model.specs.declared.fixed.Fixed.{Fixed}
use Rattle.pl_model.specs.declared.work.Work.TheVariants.{Clear as to_clear, Drop as to_drop, Keep as to_keep}
use Rattle.pl_model.specs.Asked.{call_of}
use Rattle.pl_model.specs.Due.{is_due, is_due_on, is_post_due}
use Rattle.pl_model.specs.History.{known_after, known_of}
use Rattle.pl_model.specs.Known.{Known, host_ended}
use Rattle.pl_model.specs.Legal.{IsOrderly, MayHappen, is_seats, may_be_next, needs_fresh}
use Rattle.pl_model.specs.Tickets.{errand_at, next_ticket}

abbrev same_test : Bool → Bool → Bool
same_test true b = b
same_test false b = not b

same_tests : (a b : Bool) → same_test a b ≡ true → a ≡ b
same_tests true true h = refl
same_tests true false h = absurd (let e : false ≡ true = h in cc)
same_tests false true h = absurd (let e : false ≡ true = h in cc)
same_tests false false h = refl

-- whether a reply is one to a call, its form aside
abbrev replies_to : Reply → Errand → Bool
replies_to reply errand = is_reply_to_call (call_of errand.op) reply

-- whether an event may happen, the form of what it tells aside; a stop is not looked at
abbrev may_happen : Known → ℕ → What → Bool
may_happen known seat (Told request) = (seat == 0) && (not (host_ended known) && may_be_next known request)
may_happen known seat (HostGone end) = (seat == 0) && not (host_ended known)
may_happen known seat (Begun ticket lane about) = (ticket == next_ticket known.history) && is_due_on known about lane
may_happen known seat (Answered ticket reply) =
    is_seats known seat ticket && some_passes (replies_to reply) (errand_at known.history ticket)
may_happen known seat (Lost ticket why) = is_seats known seat ticket
may_happen known seat (Kept number fresh) = is_due known (to_keep number) && same_test (is_some fresh) (needs_fresh known number)
may_happen known seat (Dropped row) = is_due known (to_drop row)
may_happen known seat (Cleared at) = is_due known (to_clear at)
may_happen known seat (Posted n) = is_post_due known n
may_happen known seat (Stopped stop) = false

-- whether what an event tells has its form
abbrev is_formed : What → Bool
is_formed (Told request) = is_formed_request request
is_formed (Answered ticket reply) = is_formed_reply reply
is_formed _ = true

fits : (reply : Reply) (found : Option Errand) → some_passes (replies_to reply) found ≡ true → is_formed_reply reply ≡ true
    → some_passes (λ errand. reply_fits (call_of errand.op) reply) found ≡ true
fits reply None h formed = h
fits reply (Some errand) h formed = and_from (is_reply_to_call (call_of errand.op) reply) (is_formed_reply reply) h formed

may_be : (known : Known) (seat : ℕ) (what : What) → may_happen known seat what ≡ true → is_formed what ≡ true → MayHappen known seat what
may_be known seat (Told request) may formed =
    let parts = and_parts (seat == 0) (not (host_ended known) && may_be_next known request) may in
    let next = and_parts (not (host_ended known)) (may_be_next known request) parts.1 in
    record { registrar = eqb-true seat 0 parts.0; host_open = not-true (host_ended known) next.0; formed = formed; next = next.1 }
may_be known seat (HostGone end) may formed =
    let parts = and_parts (seat == 0) (not (host_ended known)) may in
    record { registrar = eqb-true seat 0 parts.0; host_open = not-true (host_ended known) parts.1 }
may_be known seat (Begun ticket lane about) may formed =
    let parts = and_parts (ticket == next_ticket known.history) (is_due_on known about lane) may in
    record { next = eqb-true ticket (next_ticket known.history) parts.0; due = parts.1 }
may_be known seat (Answered ticket reply) may formed =
    let parts = and_parts (is_seats known seat ticket) (some_passes (replies_to reply) (errand_at known.history ticket)) may in
    record { closes = parts.0; fits = fits reply (errand_at known.history ticket) parts.1 formed }
may_be known seat (Lost ticket why) may formed = may
may_be known seat (Kept number fresh) may formed =
    let parts = and_parts (is_due known (to_keep number)) (same_test (is_some fresh) (needs_fresh known number)) may in
    record { due = parts.0; number_there = same_tests (is_some fresh) (needs_fresh known number) parts.1 }
may_be known seat (Dropped row) may formed = may
may_be known seat (Cleared at) may formed = may
may_be known seat (Posted n) may formed = may
may_be known seat (Stopped stop) may formed = absurd (let e : false ≡ true = may in cc)

-- whether every event may happen
abbrev pub are_orderly : Fixed → List Event → Bool
are_orderly run [] = true
are_orderly run (event ∷ past) = are_orderly run past && may_happen (known_of run past) event.seat event.what

-- whether what each event tells has its form
abbrev pub are_formed : List Event → Bool
are_formed [] = true
are_formed (event ∷ past) = are_formed past && is_formed event.what

pub orderly : (run : Fixed) (history : List Event) → are_orderly run history ≡ true → are_formed history ≡ true → IsOrderly run history
orderly run [] may formed = tt
orderly run (event ∷ past) may formed =
    let parts = and_parts (are_orderly run past) (may_happen (known_of run past) event.seat event.what) may in
    let forms = and_parts (are_formed past) (is_formed event.what) formed in
    (orderly run past parts.0 forms.0, may_be (known_of run past) event.seat event.what parts.1 forms.1)

-- ---- the same, in the order in which it happened

-- whether every later event may happen, over what the events before tell; what an event adds is told just once
abbrev pub go_on : Known → List Event → Bool
go_on known [] = true
go_on known (event ∷ later) = may_happen known event.seat event.what && go_on (known_after event known) later

pub goes_on : (run : Fixed) (past later whole : List Event) → are_orderly run past ≡ true → go_on (known_of run past) later ≡ true
    → reverse_aux later past ≡ whole → are_orderly run whole ≡ true
unfolding known_of
goes_on run past [] whole held may same = subst (λ (history : List Event). are_orderly run history ≡ true) same held
goes_on run past (event ∷ later) whole held may same =
    let now : Bool = may_happen (known_of run past) event.seat event.what in
    let parts = and_parts now (go_on (known_of run (event ∷ past)) later) may in
    goes_on run (event ∷ past) later whole (and_from (are_orderly run past) now held parts.0) parts.1 same
