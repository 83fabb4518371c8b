-- What a service of the toy takes, replies and gives, round by round, and how it ends.
use Rattle.std.specs.Prelude.{⊤, ◌≡◌, ◌⊎◌, ℕ, ◌<◌, nat_lt, suc, zero, List, [], length, codes, if◌then◌else◌, Option, Some, None, Result, Ok, Err}
use Rattle.pl_world.specs.Counts.{Rose}
use Rattle.pl_world.specs.Frames.{IsBody, IsPartOfFrame, IsStartOfFrame, frame_of}
use Rattle.pl_world.specs.Told.{Gave, GavePart, Grew, Piece}
use Rattle.pl_world.specs.declared.frames.TheConstants.{MAX_BODY}
use Rattle.pl_events.specs.declared.operation.Ask.{Ask}
use Rattle.pl_events.specs.declared.reply.Reply.{Reply}
use Rattle.pl_events.specs.declared.reply.Reply.TheVariants.{Error}
use Rattle.pl_provider_msg.specs.Request.{ask_in}
use Rattle.pl_provider_msg.specs.Response.{reply_text}
use Rattle.pl_wire.specs.Exchange.{IsBadLength}
use Rattle.pl_toy.specs.Table.{IsReplied}
use Rattle.pl_toy.specs.Things.{Things}
use Rattle.pl_toy_serve.specs.declared.asking.Request.{Request}
use Rattle.pl_toy_serve.specs.declared.ending.Ending.{Ending}
use Rattle.pl_toy_serve.specs.declared.ending.Ending.TheVariants.{InputEnd, Enough, PipeFault, CutShort, NoRequest, NoMemory}
use Rattle.pl_toy_serve.specs.declared.serving.TheConstants.{MOST_REQUESTS}

-- ---- ends

-- the status of an end
abbrev pub status_of : Ending → ℕ
status_of InputEnd = 0
status_of Enough = 4
status_of PipeFault = 5
status_of CutShort = 6
status_of NoRequest = 6
status_of NoMemory = 7

-- a fact for the case that the pipe failed
abbrev pub OnFault : Ending → Type 0 → Type 0
OnFault PipeFault P = P
OnFault _ P = ⊤

-- a fact for the case that the input ended before a frame
abbrev pub OnInputEnd : Ending → Type 0 → Type 0
OnInputEnd InputEnd P = P
OnInputEnd _ P = ⊤

-- the same of a step that may end
abbrev pub IfFaulted : {T : Type 0} → Result T Ending → Type 0 → Type 0
IfFaulted (Ok _) P = ⊤
IfFaulted (Err ending) P = OnFault ending P

abbrev pub IfInputEnded : {T : Type 0} → Result T Ending → Type 0 → Type 0
IfInputEnded (Ok _) P = ⊤
IfInputEnded (Err ending) P = OnInputEnd ending P

-- ---- what is asked

-- what a body asks, or that it asks nothing
abbrev pub IsUnderstood : Result Request Ending → List ℕ → Type 0
IsUnderstood (Ok request) body = ask_in body ≡ Some (request.ticket, request.asked)
IsUnderstood (Err NoRequest) body = ask_in body ≡ None
IsUnderstood (Err NoMemory) body = ⊤
IsUnderstood (Err _) body = ⊥

-- bytes that are no request, and may not be the beginning of one: a frame whose body asks nothing, or a bad length
abbrev pub IsNoRequest : List ℕ → Type 0
IsNoRequest bytes = ((body : List ℕ) × IsBody body × (ask_in body ≡ None) × (bytes ≡ frame_of body)) ⊎ IsBadLength bytes

-- what was taken where nothing is asked; P says that bytes were taken
abbrev pub TakenAtEnd : Ending → (List ℕ → Type 0) → Type 0
TakenAtEnd InputEnd P = P []
TakenAtEnd Enough P = ⊥
TakenAtEnd PipeFault P = (bytes : List ℕ) × IsPartOfFrame bytes × P bytes
TakenAtEnd CutShort P = (bytes : List ℕ) × (0 < length bytes) × IsPartOfFrame bytes × P bytes
TakenAtEnd NoRequest P = (bytes : List ℕ) × IsNoRequest bytes × P bytes
TakenAtEnd NoMemory P = (bytes : List ℕ) × IsStartOfFrame bytes × P bytes

-- what was taken: the frame of a request, or what stands in its place at an end
abbrev pub TakenFor : Result Request Ending → (List ℕ → Type 0) → Type 0
TakenFor (Ok request) P = (body : List ℕ) × IsBody body × (ask_in body ≡ Some (request.ticket, request.asked)) × P (frame_of body)
TakenFor (Err ending) P = TakenAtEnd ending P

-- ---- what is given

-- the reply in the place of one that would be too long
abbrev pub too_long : Reply
too_long = Error (codes "too long")

-- the text of the reply, or of the error in its place where it would be longer than the body of a frame may be
abbrev pub given_text : ℕ → Reply → List ℕ
given_text ticket reply = if nat_lt MAX_BODY (length (reply_text ticket reply)) then reply_text ticket too_long else reply_text ticket reply

-- the body answers what was asked under the ticket; `rising` says that the shelf's count of faults rose
abbrev pub IsAnswer : ℕ → Ask → List ℕ → Option Things → Option Things → Type 0 → Type 0
IsAnswer ticket asked body before now rising = (reply : Reply) × IsReplied asked reply before now rising × (body ≡ given_text ticket reply)

-- the things are as before, or as after a reply
abbrev pub IsKeptOrReplied : Ask → Option Things → Option Things → Type 0 → Type 0
IsKeptOrReplied asked before now rising = (now ≡ before) ⊎ ((reply : Reply) × IsReplied asked reply before now rising)

-- why a frame was not given
abbrev pub IsGivenUp : {T : Type 0} → Result T Ending → Type 0
IsGivenUp (Ok _) = ⊤
IsGivenUp (Err PipeFault) = ⊤
IsGivenUp (Err NoMemory) = ⊤
IsGivenUp (Err _) = ⊥

-- ---- rounds

-- what is told of a shelf and of a pipe at a moment
pub record Seen : Type 0 where
  pub things : Option Things
  pub shelf_faults : ℕ
  pub given : Option (List Piece)
  pub taken : Option (List ℕ)

abbrev pub seen : Option Things → ℕ → Option (List Piece) → Option (List ℕ) → Seen
seen things shelf_faults given taken = record { things = things; shelf_faults = shelf_faults; given = given; taken = taken }

-- the fact that the shelf's count of faults rose
abbrev pub ShelfRose : Seen → Seen → Type 0
ShelfRose before now = Rose before.shelf_faults now.shelf_faults

-- nothing was done but that these bytes were taken
pub record OnlyTook (before now : Seen) (bytes : List ℕ) : Type 0 where
  pub took : Grew before.taken now.taken bytes
  pub things_stay : now.things ≡ before.things
  pub given_stays : now.given ≡ before.given

-- a request was taken whole: this was asked under the ticket
abbrev pub TookAsk : Seen → Seen → ℕ → Ask → Type 0
TookAsk before now ticket asked =
    (body : List ℕ) × IsBody body × (ask_in body ≡ Some (ticket, asked)) × Grew before.taken now.taken (frame_of body)

-- a request was taken whole and carried out; Given says that of its answer this was given
pub record IsCarriedOut (before now : Seen) (Given : List ℕ → Type 0) : Type 0 where
  pub ticket : ℕ
  pub asked : Ask
  pub body : List ℕ
  pub took : TookAsk before now ticket asked
  pub answer : IsAnswer ticket asked body before.things now.things (ShelfRose before now)
  pub given : Given body

-- a round: a request was taken whole, and one answer to it was given whole, without a cover
abbrev pub IsRound : Seen → Seen → Type 0
IsRound before now = IsCarriedOut before now (λ body. Gave before.given now.given (frame_of body) None)

-- a request was taken and carried out, but its answer wasn't given, or not all of it
abbrev pub IsUngiven : Seen → Seen → Type 0
IsUngiven before now = IsCarriedOut before now (λ body. GavePart before.given now.given (frame_of body) None)

-- a request was taken, and may have been carried out, but nothing was given
pub record IsUnanswered (before now : Seen) : Type 0 where
  pub ticket : ℕ
  pub asked : Ask
  pub took : TookAsk before now ticket asked
  pub things : IsKeptOrReplied asked before.things now.things (ShelfRose before now)
  pub given_stays : now.given ≡ before.given

-- an end behind a request that was taken
abbrev pub IsStuck : Ending → Seen → Seen → Type 0
IsStuck PipeFault before now = IsUngiven before now
IsStuck NoMemory before now = IsUnanswered before now ⊎ IsUngiven before now
IsStuck _ before now = ⊥

-- what was done since the last round where a service ended: no request was taken, or one that got no whole answer
abbrev pub IsCutOff : Ending → Seen → Seen → Type 0
IsCutOff ending before now = TakenAtEnd ending (OnlyTook before now) ⊎ IsStuck ending before now

-- a round, or an end
abbrev pub IsStep : {T : Type 0} → Result T Ending → Seen → Seen → Type 0
IsStep (Ok _) before now = IsRound before now
IsStep (Err ending) before now = IsCutOff ending before now

-- so many rounds, one after another
abbrev pub AreRounds : ℕ → Seen → Seen → Type 0
AreRounds zero before now = now ≡ before
AreRounds (suc n) before now = (between : Seen) × AreRounds n before between × IsRound between now

-- as many rounds as there may be, or fewer and then an end of another kind
abbrev pub IsEndAfter : ℕ → Ending → Seen → Seen → Type 0
IsEndAfter rounds ending between now =
    ((rounds ≡ MOST_REQUESTS) × (ending ≡ Enough) × (now ≡ between)) ⊎ ((rounds < MOST_REQUESTS) × IsCutOff ending between now)

-- a whole service: its rounds, and its end
abbrev pub IsServedTo : Ending → Seen → Seen → Type 0
IsServedTo ending before now = (rounds : ℕ) × (between : Seen) × AreRounds rounds before between × IsEndAfter rounds ending between now

-- the same by the status
abbrev pub IsServed : ℕ → Seen → Seen → Type 0
IsServed status before now = (ending : Ending) × (status ≡ status_of ending) × IsServedTo ending before now
