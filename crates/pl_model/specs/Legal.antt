-- Which histories a run may have.
use Rattle.std.specs.Prelude.{⊤, ◌≡◌, ◌≢◌, ◌⊎◌, ℕ, ◌==◌, Bool, true, false, ◌&&◌, nat_lt, Option, None, Some, is_none, is_some, List, [], ◌∷◌, length, option_map}
use Rattle.pl_world.specs.Frames.{IsBody}
use Rattle.pl_lemmas.specs.Words.{some_passes}
use Rattle.pl_state.specs.Kinds.{is_provider_goal}
use Rattle.pl_events.specs.Closing.{has_stop}
use Rattle.pl_events.specs.Replies.{reply_fits}
use Rattle.pl_events.specs.Requests.{is_formed_request}
use Rattle.pl_events.specs.declared.event.Event.{Event}
use Rattle.pl_events.specs.declared.event.Request.{Request}
use Rattle.pl_events.specs.declared.event.What.{What}
use Rattle.pl_events.specs.declared.event.What.TheVariants.{Told, HostGone, Begun, Answered, Lost, Kept, Dropped, Cleared, Posted, Stopped}
use Rattle.pl_events.specs.declared.event.Stop.{Stop}
use Rattle.pl_events.specs.declared.event.Stop.TheVariants.{StoreFault, StartFault, HostPipeFault, TooManyResources, MessageTooLong, NoMemory}
use Rattle.pl_events.specs.declared.operation.Op.{Op}
use Rattle.pl_events.specs.declared.reply.Reply.{Reply}
use Rattle.pl_model.specs.declared.fixed.Fixed.{Fixed}
use Rattle.pl_model.specs.declared.heard.Heard.{Heard}
use Rattle.pl_model.specs.declared.work.Work.TheVariants.{Clear as to_clear, Drop as to_drop, Keep as to_keep}
use Rattle.pl_model.specs.Run.{Spelling}
use Rattle.pl_world.specs.declared.frames.TheConstants.{MAX_BODY}
use Rattle.pl_model.specs.Tickets.{errand_at, is_open, next_ticket}
use Rattle.pl_model.specs.Asked.{ask_of, call_of}
use Rattle.pl_model.specs.Claims.{id_of_row, usable_id}
use Rattle.pl_model.specs.Due.{due_work, has_open, is_due, is_due_on, is_post_due, over_limit}
use Rattle.pl_model.specs.History.{known_of}
use Rattle.pl_model.specs.Known.{Known, claim_row, goal_at, host_ended, number_of}
use Rattle.pl_model.specs.Posts.{answer_of, is_too_long}

-- the number of the newest request that was told, 0 where none was
abbrev pub last_of : List Heard → ℕ
last_of [] = 0
last_of (newest ∷ earlier) = number_of newest.request

-- a request's number is above that of every request before it
abbrev pub may_be_next : Known → Request → Bool
may_be_next known request = nat_lt (last_of known.asked) (number_of request)

-- a request may be told: by the registrar, before the host's end (so never where a run has no host), in the form of
-- one, with a number above those before it
pub record MayBeTold (known : Known) (seat : ℕ) (request : Request) : Type 0 where
  pub registrar : seat ≡ 0
  pub host_open : host_ended known ≡ false
  pub formed : is_formed_request request ≡ true
  pub next : may_be_next known request ≡ true

-- the host may end: once, as the registrar saw it
pub record MayEnd (known : Known) (seat : ℕ) : Type 0 where
  pub registrar : seat ≡ 0
  pub host_open : host_ended known ≡ false

-- an operation may be begun: it carries its ticket, and is due on its lane
pub record MayBegin (known : Known) (ticket lane : ℕ) (about : Op) : Type 0 where
  pub next : ticket ≡ next_ticket known.history
  pub due : is_due_on known about lane ≡ true

-- whether a ticket is open and was begun at this seat
abbrev pub is_seats : Known → ℕ → ℕ → Bool
is_seats known seat ticket =
    is_open known.history ticket && some_passes (λ errand. errand.seat == seat) (errand_at known.history ticket)

-- whether a reply fits the call of the operation that was begun under a ticket
abbrev pub fits_ticket : Known → ℕ → Reply → Bool
fits_ticket known ticket reply =
    some_passes (λ errand. reply_fits (call_of errand.op) reply) (errand_at known.history ticket)

-- a reply may come: it closes an open ticket of the same seat, and fits its call
pub record MayBeAnswered (known : Known) (seat ticket : ℕ) (reply : Reply) : Type 0 where
  pub closes : is_seats known seat ticket ≡ true
  pub fits : fits_ticket known ticket reply ≡ true

-- whether a goal's keep carries a number: it is a provider whose claim has no id that a reference can name
abbrev pub needs_fresh : Known → ℕ → Bool
needs_fresh known number =
    some_passes is_provider_goal (goal_at known number) && is_none (usable_id (id_of_row (claim_row known number)))

-- a goal may be kept: its keep is due, and a number is there exactly where one is needed
pub record MayBeKept (known : Known) (number : ℕ) (fresh : Option ℕ) : Type 0 where
  pub due : is_due known (to_keep number) ≡ true
  pub number_there : is_some fresh ≡ needs_fresh known number

-- work is over the limit, and nothing else can be waited for
pub record MayBeTooMany (known : Known) : Type 0 where
  pub nothing_due : due_work known ≡ []
  pub closed : has_open known ≡ false
  pub some_over : over_limit known ≢ []

-- what a stop tells of the history before it
abbrev pub StopFits : Known → Stop → Type 0
StopFits known StoreFault = ⊤
StopFits known StartFault = ⊤
StopFits known HostPipeFault = ⊤
StopFits known TooManyResources = MayBeTooMany known
StopFits known MessageTooLong = ⊤
StopFits known NoMemory = ⊤

-- the run may stop: once
pub record MayStop (known : Known) (stop : Stop) : Type 0 where
  pub first : has_stop known.history ≡ false
  pub fits : StopFits known stop

-- this may happen after that history, by the thread at this seat
abbrev pub MayHappen : Known → ℕ → What → Type 0
MayHappen known seat (Told request) = MayBeTold known seat request
MayHappen known seat (HostGone end) = MayEnd known seat
MayHappen known seat (Begun ticket lane about) = MayBegin known ticket lane about
MayHappen known seat (Answered ticket reply) = MayBeAnswered known seat ticket reply
MayHappen known seat (Lost ticket why) = is_seats known seat ticket ≡ true
MayHappen known seat (Kept number fresh) = MayBeKept known number fresh
MayHappen known seat (Dropped row) = is_due known (to_drop row) ≡ true
MayHappen known seat (Cleared at) = is_due known (to_clear at) ≡ true
MayHappen known seat (Posted n) = is_post_due known n ≡ true
MayHappen known seat (Stopped stop) = MayStop known stop

-- every event may happen after those before it, their spelling aside
abbrev pub IsOrderly : Fixed → List Event → Type 0
IsOrderly run [] = ⊤
IsOrderly run (event ∷ past) = IsOrderly run past × MayHappen (known_of run past) event.seat event.what

-- ---- spelled

-- the request is one that a frame's body spells
abbrev pub HasForm : Spelling → Request → Type 0
HasForm spelling request = (body : List ℕ) × IsBody body × (spelling.request_in body ≡ Some request)

-- the reply to an operation is one that a frame's body spells, under its ticket and to its call
abbrev pub IsReplyTo : Spelling → ℕ → Option Op → Reply → Type 0
IsReplyTo spelling ticket None reply = ⊥
IsReplyTo spelling ticket (Some about) reply =
    (body : List ℕ) × IsBody body × (spelling.reply_in ticket (call_of about) body ≡ Some reply)

-- whether what an operation asks has a longer body than a frame may have
abbrev pub is_long_ask : Spelling → Known → Op → Bool
is_long_ask spelling known about =
    some_passes (λ asked. nat_lt MAX_BODY (length (spelling.ask_text (next_ticket known.history) asked))) (ask_of known about)

-- an operation or a post is due whose body a frame cannot have
abbrev pub MayBeTooLong : Spelling → Known → Type 0
MayBeTooLong spelling known =
    ((about : Op) × (lane : ℕ) × (is_due_on known about lane ≡ true) × (is_long_ask spelling known about ≡ true))
    ⊎ ((n : ℕ) × (is_post_due known n ≡ true) × (is_too_long spelling n (answer_of spelling known n) ≡ true))

-- what was told is spelled by a frame's body, and a message is too long where the run stops for it
abbrev pub IsSpelled : Spelling → Known → What → Type 0
IsSpelled spelling known (Told request) = HasForm spelling request
IsSpelled spelling known (Answered ticket reply) =
    IsReplyTo spelling ticket (option_map (λ errand. errand.op) (errand_at known.history ticket)) reply
IsSpelled spelling known (Stopped MessageTooLong) = MayBeTooLong spelling known
IsSpelled spelling known _ = ⊤

-- so it is with every event
abbrev pub AreSpelled : Fixed → Spelling → List Event → Type 0
AreSpelled run spelling [] = ⊤
AreSpelled run spelling (event ∷ past) =
    AreSpelled run spelling past × IsSpelled spelling (known_of run past) event.what

-- ---- legal

-- a history that a run may have: orderly and spelled
pub record IsLegal (run : Fixed) (spelling : Spelling) (history : List Event) : Type 0 where
  pub orderly : IsOrderly run history
  pub spelled : AreSpelled run spelling history
