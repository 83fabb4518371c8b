-- What was taken from a lane and from the host under the small spelling, where nothing fails.
use Rattle.std.proofs.Common.{◌≡◌, ℕ, ◌==◌, All, Bool, true, false, Option, None, Some, List, [], ◌∷◌, ◌++◌, refl, ap, subst}
use Rattle.std.proofs.lemmas.List.Elements.{All-map}
use Rattle.pl_world.specs.Frames.{frame_of}
use Rattle.pl_world.specs.Told.{Piece}
use Rattle.pl_lemmas.specs.Words.{some_passes}
use Rattle.pl_events.specs.Replies.{reply_fits}
use Rattle.pl_events.specs.declared.event.Event.{Event}
use Rattle.pl_events.specs.declared.event.HostEnd.{HostEnd}
use Rattle.pl_events.specs.declared.event.HostEnd.TheVariants as ended
use Rattle.pl_events.specs.declared.event.HostEnd.TheVariants.{Success}
use Rattle.pl_events.specs.declared.event.What.{What}
use Rattle.pl_events.specs.declared.event.What.TheVariants.{Told, HostGone, Begun, Answered, Lost, Kept, Dropped, Cleared, Posted, Stopped}
use Rattle.pl_events.specs.declared.operation.Op.{Op}
use Rattle.pl_events.specs.declared.reply.Reply.{Reply}
use Rattle.pl_model.specs.declared.errand.Errand.{Errand}
use Rattle.pl_model.specs.declared.fixed.Fixed.{Fixed}
use Rattle.pl_model.specs.Asked.{call_of}
use Rattle.pl_model.specs.Frames.{Causes}
use Rattle.pl_model.specs.History.{known_of}
use Rattle.pl_model.specs.HostLines as host
use Rattle.pl_model.specs.HostLines.{EndFits, EndsFit, HostTook, Stands}
use Rattle.pl_model.specs.Known.{Known, number_of}
use Rattle.pl_model.specs.LaneLines as lane
use Rattle.pl_model.specs.LaneLines.{FitsNext, LaneTook, LossesFit, TookReply, on_lane, op_if}
use Rattle.pl_model.specs.Legal.{IsOrderly, MayHappen}
use Rattle.pl_model.specs.Tickets.{errand_at}
use Rattle.pl_model_legal.specs.Small.{reply_body, request_body, spelling_of, success_body}
use Rattle.pl_model_legal.specs.Whole.{piece, plain_pieces}
use Rattle.pl_model_legal.proofs.Spelled.{AreToldAgain, one_number, reply_read, request_read, told_again, told_first, told_rest}

history_of : (run : Fixed) (past : List Event) → (known_of run past).history ≡ past
unfolding known_of
history_of run [] = refl
history_of run (event ∷ past) = ap (λ (earlier : List Event). event ∷ earlier) (history_of run past)

-- ---- a lane

abbrev with_reply : ℕ → Option Op → List ℕ → List ℕ
with_reply ticket None before = before
with_reply ticket (Some about) before = before ++ frame_of (reply_body ticket)

abbrev with_taken : ℕ → List Event → What → List ℕ → List ℕ
with_taken number past (Answered ticket reply) before = with_reply ticket (on_lane number (errand_at past ticket)) before
with_taken number past _ before = before

-- the frames of the replies that came on a lane
abbrev pub taken_of : ℕ → List Event → List ℕ
taken_of number [] = []
taken_of number (event ∷ past) = with_taken number past event.what (taken_of number past)

module _ (history : List Event) (pipe : Causes) (number : ℕ) where
  took_reply : (ticket : ℕ) (reply : Reply) (found : Option Errand) (Before : List ℕ → Type 0) (before : List ℕ)
      → told_again history (Answered ticket reply) ≡ Some (Answered ticket reply)
      → some_passes (λ errand. reply_fits (call_of errand.op) reply) found ≡ true → Before before
      → TookReply (spelling_of history) ticket reply (on_lane number found) Before (with_reply ticket (on_lane number found) before)
  took_reply ticket reply None Before before told h held = absurd (let e : false ≡ true = h in cc)
  took_reply ticket reply (Some errand) Before before told h held = by (errand.lane == number)
    where
      by : (there : Bool) → TookReply (spelling_of history) ticket reply (op_if there errand.op) Before (with_reply ticket (op_if there errand.op) before)
      by true = (
        before,
        frame_of (reply_body ticket),
        held,
        (reply_body ticket, one_number ticket, reply_read history ticket (call_of errand.op) reply told h, refl),
        refl,
      )
      by false = held

  took_next : (known : Known) (past : List Event) (seat : ℕ) (what : What) (Before : List ℕ → Type 0) (before : List ℕ) → known.history ≡ past
      → told_again history what ≡ Some what → MayHappen known seat what → Before before
      → lane.TookNext (spelling_of history) pipe number past what Before (with_taken number past what before)
  took_next known past seat (Answered ticket reply) Before before same told may held =
      took_reply ticket reply (errand_at past ticket) Before before told
      (subst (λ (earlier : List Event). some_passes (λ errand. reply_fits (call_of errand.op) reply) (errand_at earlier ticket) ≡ true) same may.fits)
      held
  took_next known past seat (Lost ticket why) Before before same told may held = absurd (let e : None ≡ Some (Lost ticket why) = told in cc)
  took_next known past seat _ Before before same told may held = held

  pub lane_took : (run : Fixed) (past : List Event) → AreToldAgain history past → IsOrderly run past
      → LaneTook (spelling_of history) pipe number past (taken_of number past)
  lane_took run [] told orderly = refl
  lane_took run (event ∷ past) told orderly =
      took_next (known_of run past) past event.seat event.what (LaneTook (spelling_of history) pipe number past) (taken_of number past)
      (history_of run past) (told_first history event past told) orderly.1 (lane_took run past (told_rest history event past told) orderly.0)

  fits_next : (past : List Event) (what : What) → told_again history what ≡ Some what → FitsNext (spelling_of history) pipe number past what
  fits_next past (Lost ticket why) told = absurd (let e : None ≡ Some (Lost ticket why) = told in cc)
  fits_next past _ told = tt

  pub losses_fit : (past : List Event) → AreToldAgain history past → LossesFit (spelling_of history) pipe number past
  losses_fit [] told = tt
  losses_fit (event ∷ past) told =
      (fits_next past event.what (told_first history event past told), losses_fit past (told_rest history event past told))

-- ---- the host

abbrev with_heard : What → List ℕ → List ℕ
with_heard (Told request) before = before ++ frame_of (request_body (number_of request))
with_heard (HostGone end) before = before ++ frame_of success_body
with_heard _ before = before

-- the frames of the requests that were told, and of the host's word of success
abbrev pub heard_of : List Event → List ℕ
heard_of [] = []
heard_of (event ∷ past) = with_heard event.what (heard_of past)

module _ (run : Fixed) (history : List Event) (stands : Stands) (half : Causes) where
  heard_next : (past : List Event) (seat : ℕ) (what : What) (Before : List ℕ → Type 0) (before : List ℕ) → told_again history what ≡ Some what
      → MayHappen (known_of run past) seat what → Before before
      → host.TookNext run (spelling_of history) stands half past what Before (with_heard what before)
  heard_next past seat (Told request) Before before told may held = (
    before,
    frame_of (request_body (number_of request)),
    held,
    (request_body (number_of request), one_number (number_of request), request_read history request told may.formed, refl),
    refl,
  )
  heard_next past seat (HostGone Success) Before before told may held =
      (before, frame_of success_body, held, (success_body, one_number 0, refl, refl), refl)
  heard_next past seat (HostGone end) Before before told may held = absurd (let e : None ≡ Some (HostGone end) = told in cc)
  heard_next past seat _ Before before told may held = held

  pub host_took : (past : List Event) → AreToldAgain history past → IsOrderly run past
      → HostTook run (spelling_of history) stands half past (heard_of past)
  host_took [] told orderly = refl
  host_took (event ∷ past) told orderly =
      heard_next past event.seat event.what (HostTook run (spelling_of history) stands half past) (heard_of past)
      (told_first history event past told) orderly.1 (host_took past (told_rest history event past told) orderly.0)

  end_fits : (known : Known) (what : What) → told_again history what ≡ Some what → EndFits (spelling_of history) stands known what
  end_fits known (HostGone (ended.BadFrame bytes)) told = absurd (let e : None ≡ Some (HostGone (ended.BadFrame bytes)) = told in cc)
  end_fits known _ told = tt

  pub ends_fit : (past : List Event) → AreToldAgain history past → EndsFit run (spelling_of history) stands past
  ends_fit [] told = tt
  ends_fit (event ∷ past) told =
      (end_fits (known_of run past) event.what (told_first history event past told), ends_fit past (told_rest history event past told))

-- ---- answers

-- no piece without a cover has one
pub uncovered : (bodies : List (List ℕ)) → All (λ (given : Piece). given.1 ≡ None) (plain_pieces bodies)
uncovered bodies = All-map (λ (given : Piece). given.1 ≡ None) (λ (body : List ℕ). piece body None) bodies (λ k d low. refl)
