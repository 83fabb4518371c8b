-- What was given to a provider and taken from it in one exchange, and what came of it.
use Rattle.std.specs.Prelude.{⊤, ◌≡◌, ◌⊎◌, ◌<◌, ◌^◌, ℕ, true, List, Some, None}
use Rattle.pl_world.specs.Frames.{IsBody, IsPartOfFrame, IsStartOfFrame, frame_of, length_bytes}
use Rattle.pl_world.specs.declared.frames.TheConstants.{MAX_BODY}
use Rattle.pl_events.specs.Replies.{reply_fits}
use Rattle.pl_events.specs.declared.operation.Call.{Call}
use Rattle.pl_events.specs.declared.reply.Exchanged.{Exchanged}
use Rattle.pl_events.specs.declared.reply.Exchanged.TheVariants.{Reply, Lost}
use Rattle.pl_events.specs.declared.reply.Loss.TheVariants.{PipeFault, Ended, BadFrame, NoMemory}
use Rattle.pl_provider_msg.specs.Response.{reply_in}

-- the four bytes of a length that no body has
abbrev pub IsBadLength : List ℕ → Type 0
IsBadLength bytes = (n : ℕ) × (n < 2 ^ 32) × ((n ≡ 0) ⊎ (MAX_BODY < n)) × (bytes ≡ length_bytes n)

-- a reply, and the body that spelled it
abbrev pub IsReplyIn : ℕ → Call → Exchanged → List ℕ → Type 0
IsReplyIn ticket call (Reply reply) body = reply_in ticket call body ≡ Some reply
IsReplyIn ticket call (Lost (BadFrame bytes)) body = (bytes ≡ body) × (reply_in ticket call body ≡ None)
IsReplyIn ticket call (Lost NoMemory) body = ⊤
IsReplyIn ticket call (Lost _) body = ⊥

-- the loss that a length makes which no body has
abbrev pub IsLengthLoss : ℕ → Exchanged → Type 0
IsLengthLoss n (Lost (BadFrame bytes)) = bytes ≡ length_bytes n
IsLengthLoss n (Lost NoMemory) = ⊤
IsLengthLoss n _ = ⊥

-- what was given: Whole says that the whole frame was, Part that some first bytes of it were, maybe none, maybe all
abbrev pub GivenFor : Exchanged → Type 0 → Type 0 → Type 0
GivenFor (Reply reply) Whole Part = Whole
GivenFor (Lost PipeFault) Whole Part = Part
GivenFor (Lost Ended) Whole Part = Whole
GivenFor (Lost (BadFrame bytes)) Whole Part = Whole
GivenFor (Lost NoMemory) Whole Part = Part

-- what was taken: the frame of the body that spells the reply, the frame of one that spells none, a bad length, or
-- a part of a frame; P says that bytes were taken
abbrev pub TakenFor : ℕ → Call → Exchanged → (List ℕ → Type 0) → Type 0
TakenFor ticket call (Reply reply) P = (body : List ℕ) × IsBody body × (reply_in ticket call body ≡ Some reply) × P (frame_of body)
TakenFor ticket call (Lost PipeFault) P = (added : List ℕ) × IsPartOfFrame added × P added
TakenFor ticket call (Lost Ended) P = (added : List ℕ) × IsPartOfFrame added × P added
TakenFor ticket call (Lost (BadFrame bytes)) P =
    (IsBody bytes × (reply_in ticket call bytes ≡ None) × P (frame_of bytes)) ⊎ (IsBadLength bytes × P bytes)
TakenFor ticket call (Lost NoMemory) P = (added : List ℕ) × (IsStartOfFrame added ⊎ IsBadLength added) × P added

-- a fact for the case that the pipe failed
abbrev pub IfFaulted : Exchanged → Type 0 → Type 0
IfFaulted (Lost PipeFault) P = P
IfFaulted _ P = ⊤

-- a fact for the case that the input ended before the reply
abbrev pub IfEnded : Exchanged → Type 0 → Type 0
IfEnded (Lost Ended) P = P
IfEnded _ P = ⊤

-- a reply that came has the form of one to the call
abbrev pub FitsCall : Call → Exchanged → Type 0
FitsCall call (Reply reply) = reply_fits call reply ≡ true
FitsCall call (Lost _) = ⊤
