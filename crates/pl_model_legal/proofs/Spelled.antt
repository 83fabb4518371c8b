-- The small spelling: what it reads has its form, and it spells what its history tells.
use Rattle.std.proofs.Common.{◌≡◌, ℕ, ◌==◌, ◌≤◌, Bool, true, false, Option, None, Some, option_map, List, [], ◌∷◌, map, refl, sym, ◌∙◌, ap, subst, arith}
use Rattle.std.proofs.lemmas.Bool.{eq-eqb}
use Rattle.pl_world.specs.Frames.{IsBody}
use Rattle.pl_world.specs.declared.frames.TheConstants.{MAX_BODY}
use Rattle.pl_lemmas.specs.Words.{only_if, some_passes}
use Rattle.pl_events.specs.Replies.{reply_fits}
use Rattle.pl_events.specs.Requests.{is_formed_request}
use Rattle.pl_events.specs.declared.event.Event.{Event}
use Rattle.pl_events.specs.declared.event.HostEnd.{HostEnd}
use Rattle.pl_events.specs.declared.event.HostEnd.TheVariants.{Success}
use Rattle.pl_events.specs.declared.event.Request.{Request}
use Rattle.pl_events.specs.declared.event.What.{What}
use Rattle.pl_events.specs.declared.event.What.TheVariants.{Told, HostGone, Begun, Answered, Lost, Kept, Dropped, Cleared, Posted, Stopped}
use Rattle.pl_events.specs.declared.operation.Call.{Call}
use Rattle.pl_events.specs.declared.reply.Reply.{Reply}
use Rattle.pl_model.specs.declared.errand.Errand.{Errand}
use Rattle.pl_model.specs.declared.fixed.Fixed.{Fixed}
use Rattle.pl_model.specs.Asked.{call_of}
use Rattle.pl_model.specs.History.{known_of}
use Rattle.pl_model.specs.Known.{Known, number_of}
use Rattle.pl_model.specs.Legal.{AreSpelled, HasForm, IsOrderly, IsReplyTo, IsSpelled, MayHappen}
use Rattle.pl_model.specs.RunData.{IsSpelling}
use Rattle.pl_model.specs.Tickets.{errand_at}
use Rattle.pl_model_legal.specs.Small.{passing, reply_body, reply_in, reply_told, request_body, request_in, request_told, spelling_of}

-- ---- what is read has its form

if_some : {X : Type 0} (test : X → Bool) (b : Bool) (x y : X) → test x ≡ b → only_if b (Some x) ≡ Some y → test y ≡ true
if_some test true x y is h = let same : x ≡ y = cc in subst (λ z. test z ≡ true) same is
if_some test false x y is h = absurd (let e : None ≡ Some y = h in cc)

passed : {X : Type 0} (test : X → Bool) (found : Option X) (y : X) → passing test found ≡ Some y → test y ≡ true
passed test None y h = absurd (let e : None ≡ Some y = h in cc)
passed test (Some x) y h = if_some test (test x) x y refl h

request_formed : (history : List Event) (body : List ℕ) (request : Request) → request_in history body ≡ Some request
    → is_formed_request request ≡ true
request_formed history [] request h = absurd (let e : None ≡ Some request = h in cc)
request_formed history (n ∷ []) request h = passed is_formed_request (request_told history n) request h
request_formed history (n ∷ m ∷ more) request h = absurd (let e : None ≡ Some request = h in cc)

if_same : (b : Bool) (found : Option Reply) (reply : Reply) → only_if b found ≡ Some reply → found ≡ Some reply
if_same true found reply h = h
if_same false found reply h = absurd (let e : None ≡ Some reply = h in cc)

reply_formed : (history : List Event) (ticket : ℕ) (asked : Call) (body : List ℕ) (reply : Reply)
    → reply_in history ticket asked body ≡ Some reply → reply_fits asked reply ≡ true
reply_formed history ticket asked [] reply h = absurd (let e : None ≡ Some reply = h in cc)
reply_formed history ticket asked (n ∷ []) reply h =
    passed (reply_fits asked) (reply_told history ticket) reply
    (if_same (n == ticket) (passing (reply_fits asked) (reply_told history ticket)) reply h)
reply_formed history ticket asked (n ∷ m ∷ more) reply h = absurd (let e : None ≡ Some reply = h in cc)

pub is_spelling : (history : List Event) → IsSpelling (spelling_of history)
is_spelling history = record { requests = request_formed history; replies = reply_formed history }

-- ---- what is told is read again

-- a body of one number
pub one_number : (n : ℕ) → IsBody (n ∷ [])
one_number n = (omega arith, omega arith)

-- what an event tells, looked up again; a failure is not spelled here
abbrev pub told_again : List Event → What → Option What
told_again history (Told request) = option_map Told (request_told history (number_of request))
told_again history (HostGone Success) = Some (HostGone Success)
told_again history (HostGone _) = None
told_again history (Answered ticket reply) = option_map (Answered ticket) (reply_told history ticket)
told_again history (Lost ticket why) = None
told_again history (Stopped stop) = None
told_again history what = Some what

-- each event of a part of the history is told again as it stands
abbrev pub AreToldAgain : List Event → List Event → Type 0
AreToldAgain history past = map (λ event. told_again history event.what) past ≡ map (λ event. Some event.what) past

pub told_first : (history : List Event) (event : Event) (past : List Event) → AreToldAgain history (event ∷ past)
    → told_again history event.what ≡ Some event.what
told_first history event past h = cc

pub told_rest : (history : List Event) (event : Event) (past : List Event) → AreToldAgain history (event ∷ past) → AreToldAgain history past
told_rest history event past h = cc

told_request : (found : Option Request) (request : Request) → option_map Told found ≡ Some (Told request) → found ≡ Some request
told_request None request h = absurd (let e : None ≡ Some (Told request) = h in cc)
told_request (Some other) request h = let same : other ≡ request = cc in ap (λ (r : Request). Some r) same

told_reply : (ticket : ℕ) (found : Option Reply) (reply : Reply) → option_map (Answered ticket) found ≡ Some (Answered ticket reply)
    → found ≡ Some reply
told_reply ticket None reply h = absurd (let e : None ≡ Some (Answered ticket reply) = h in cc)
told_reply ticket (Some other) reply h = let same : other ≡ reply = cc in ap (λ (r : Reply). Some r) same

passing_is : {X : Type 0} (test : X → Bool) (found : Option X) (x : X) → found ≡ Some x → test x ≡ true → passing test found ≡ Some x
passing_is test found x is h = ap (passing test) is ∙ ap (λ (b : Bool). only_if b (Some x)) h

pub request_read : (history : List Event) (request : Request) → told_again history (Told request) ≡ Some (Told request)
    → is_formed_request request ≡ true → request_in history (request_body (number_of request)) ≡ Some request
request_read history request told formed =
    passing_is is_formed_request (request_told history (number_of request)) request
    (told_request (request_told history (number_of request)) request told) formed

pub reply_read : (history : List Event) (ticket : ℕ) (asked : Call) (reply : Reply)
    → told_again history (Answered ticket reply) ≡ Some (Answered ticket reply) → reply_fits asked reply ≡ true
    → reply_in history ticket asked (reply_body ticket) ≡ Some reply
reply_read history ticket asked reply told formed =
    ap (λ (b : Bool). only_if b (passing (reply_fits asked) (reply_told history ticket))) (eq-eqb ticket ticket refl)
    ∙ passing_is (reply_fits asked) (reply_told history ticket) reply (told_reply ticket (reply_told history ticket) reply told) formed

-- ---- spelled

has_form : (history : List Event) (request : Request) → told_again history (Told request) ≡ Some (Told request)
    → is_formed_request request ≡ true → HasForm (spelling_of history) request
has_form history request told formed =
    (request_body (number_of request), one_number (number_of request), request_read history request told formed)

reply_to : (history : List Event) (ticket : ℕ) (reply : Reply) (found : Option Errand)
    → told_again history (Answered ticket reply) ≡ Some (Answered ticket reply)
    → some_passes (λ errand. reply_fits (call_of errand.op) reply) found ≡ true
    → IsReplyTo (spelling_of history) ticket (option_map (λ errand. errand.op) found) reply
reply_to history ticket reply None told h = absurd (let e : false ≡ true = h in cc)
reply_to history ticket reply (Some errand) told h =
    (reply_body ticket, one_number ticket, reply_read history ticket (call_of errand.op) reply told h)

is_spelled : (history : List Event) (known : Known) (seat : ℕ) (what : What) → told_again history what ≡ Some what
    → MayHappen known seat what → IsSpelled (spelling_of history) known what
is_spelled history known seat (Told request) told may = has_form history request told may.formed
is_spelled history known seat (HostGone end) told may = tt
is_spelled history known seat (Begun ticket lane about) told may = tt
is_spelled history known seat (Answered ticket reply) told may = reply_to history ticket reply (errand_at known.history ticket) told may.fits
is_spelled history known seat (Lost ticket why) told may = tt
is_spelled history known seat (Kept number fresh) told may = tt
is_spelled history known seat (Dropped row) told may = tt
is_spelled history known seat (Cleared at) told may = tt
is_spelled history known seat (Posted n) told may = tt
is_spelled history known seat (Stopped stop) told may = absurd (let e : None ≡ Some (Stopped stop) = told in cc)

pub are_spelled : (run : Fixed) (history past : List Event) → AreToldAgain history past → IsOrderly run past
    → AreSpelled run (spelling_of history) past
are_spelled run history [] told orderly = tt
are_spelled run history (event ∷ past) told orderly = (
  are_spelled run history past (told_rest history event past told) orderly.0,
  is_spelled history (known_of run past) event.seat event.what (told_first history event past told) orderly.1,
)
