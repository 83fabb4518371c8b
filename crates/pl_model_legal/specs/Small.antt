-- A small spelling for one history: a request is spelled by its number, a reply by its ticket, and what they say is
-- looked up in the history. A history of fewer than 256 requests and operations has bytes for them.
use Rattle.std.specs.Prelude.{ℕ, ◌==◌, Bool, Option, None, Some, List, [], ◌∷◌, bytes_eq, length}
use Rattle.pl_state.specs.declared.snapshot.Snapshot.{Snapshot}
use Rattle.pl_events.specs.Replies.{reply_fits}
use Rattle.pl_events.specs.Requests.{is_formed_request}
use Rattle.pl_events.specs.declared.event.Answer.{Answer}
use Rattle.pl_events.specs.declared.event.Answer.TheVariants as answer
use Rattle.pl_events.specs.declared.event.Event.{Event}
use Rattle.pl_events.specs.declared.event.Request.{Request}
use Rattle.pl_events.specs.declared.event.What.{What}
use Rattle.pl_events.specs.declared.event.What.TheVariants.{Told}
use Rattle.pl_events.specs.declared.operation.Ask.{Ask}
use Rattle.pl_events.specs.declared.operation.Ask.TheVariants as ask
use Rattle.pl_events.specs.declared.operation.Call.{Call}
use Rattle.pl_events.specs.declared.reply.Reply.{Reply}
use Rattle.pl_lemmas.specs.Words.{first_some, only_if}
use Rattle.pl_model.specs.Known.{number_of}
use Rattle.pl_model.specs.Run.{Spelling}
use Rattle.pl_model.specs.Tickets.{says_to}

-- ---- what a history tells

-- the request of a number, where an event tells it
abbrev pub told_as : ℕ → What → Option Request
told_as n (Told request) = only_if (number_of request == n) (Some request)
told_as n _ = None

-- the request of a number that a history tells
abbrev pub request_told : List Event → ℕ → Option Request
request_told history n = first_some (λ event. told_as n event.what) history

-- the reply to a ticket that a history tells
abbrev pub reply_told : List Event → ℕ → Option Reply
reply_told history ticket = first_some (λ event. says_to ticket event.what) history

-- what is there, where it passes a test
abbrev pub passing : {X : Type 0} → (X → Bool) → Option X → Option X
passing test None = None
passing test (Some x) = only_if (test x) (Some x)

-- ---- what the host and a provider say

-- no request has the number 0, so that this is none
abbrev pub success_body : List ℕ
success_body = 0 ∷ []

abbrev pub request_body : ℕ → List ℕ
request_body n = n ∷ []

abbrev pub request_in : List Event → List ℕ → Option Request
request_in history (n ∷ []) = passing is_formed_request (request_told history n)
request_in history _ = None

abbrev pub reply_body : ℕ → List ℕ
reply_body ticket = ticket ∷ []

abbrev pub reply_in : List Event → ℕ → Call → List ℕ → Option Reply
reply_in history ticket asked (n ∷ []) = only_if (n == ticket) (passing (reply_fits asked) (reply_told history ticket))
reply_in history ticket asked _ = None

-- ---- what they are given

abbrev pub answer_kind : Answer → ℕ
answer_kind (answer.Registered urn id outputs) = 0
answer_kind answer.Noted = 1
answer_kind (answer.Result fields) = 2
answer_kind (answer.Refused name) = 3

abbrev pub answer_body : ℕ → Answer → List ℕ
answer_body n given = n ∷ answer_kind given ∷ []

abbrev pub ask_kind : Ask → ℕ
ask_kind (ask.CheckConfig urn inputs old) = 0
ask_kind (ask.Configure inputs) = 1
ask_kind (ask.Check urn inputs old) = 2
ask_kind (ask.Diff urn id inputs outputs checked) = 3
ask_kind (ask.Create urn inputs) = 4
ask_kind (ask.Update urn id inputs outputs checked) = 5
ask_kind (ask.Delete urn id inputs outputs) = 6
ask_kind (ask.Read urn id inputs outputs) = 7
ask_kind (ask.Invoke token args) = 8

abbrev pub ask_body : ℕ → Ask → List ℕ
ask_body ticket asked = ticket ∷ ask_kind asked ∷ []

-- how many entries a state has, and how many pending operations
abbrev pub state_body : Snapshot → List ℕ
state_body state = length state.entries ∷ length state.pending ∷ []

-- the spelling of what a history tells; no body is the host's word of an error
abbrev pub spelling_of : List Event → Spelling
spelling_of history = record {
  request_in = request_in history;
  is_success = λ body. bytes_eq body success_body;
  error_in = λ body. None;
  answer_text = answer_body;
  ask_text = ask_body;
  reply_in = reply_in history;
  state_text = state_body;
}
