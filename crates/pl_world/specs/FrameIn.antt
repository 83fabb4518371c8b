use Rattle.std.specs.Prelude.{⊤, ◌≡◌, ◌^◌, ℕ, ◌<◌, List, [], length, Result, Ok, Err}
use Rattle.pl_world.specs.declared.frames.TheConstants.{MAX_BODY}
use Rattle.pl_world.specs.declared.trouble.Trouble.{Trouble}
use Rattle.pl_world.specs.declared.trouble.Trouble.TheVariants as trouble
use Rattle.pl_world.specs.declared.frames.FrameIn.{FrameIn}
use Rattle.pl_world.specs.declared.frames.FrameIn.TheVariants.{Fault, End, CutShort, TooLong, Empty, OutOfMemory}
use Rattle.pl_world.specs.Frames.{IsBody, length_bytes, frame_of, IsPartOfFrame}

-- what a reader of frames answers where the outside did not do what it was asked to
abbrev pub frame_trouble : Trouble → FrameIn
frame_trouble trouble.Failed = Fault
frame_trouble trouble.OutOfMemory = OutOfMemory

-- a fact for the case that the pipe failed
abbrev pub OnFault : {T : Type 0} → Result T FrameIn → Type 0 → Type 0
OnFault (Ok _) P = ⊤
OnFault (Err Fault) P = P
OnFault (Err End) P = ⊤
OnFault (Err (CutShort _)) P = ⊤
OnFault (Err (TooLong _)) P = ⊤
OnFault (Err Empty) P = ⊤
OnFault (Err OutOfMemory) P = ⊤

-- a fact for the case that the input ended, before a frame or within one
abbrev pub OnInputEnd : {T : Type 0} → Result T FrameIn → Type 0 → Type 0
OnInputEnd (Ok _) P = ⊤
OnInputEnd (Err Fault) P = ⊤
OnInputEnd (Err End) P = P
OnInputEnd (Err (CutShort _)) P = P
OnInputEnd (Err (TooLong _)) P = ⊤
OnInputEnd (Err Empty) P = ⊤
OnInputEnd (Err OutOfMemory) P = ⊤

-- the answer for an input that ended after these bytes of a frame
abbrev pub IsCutAt : List ℕ → FrameIn → Type 0
IsCutAt bytes Fault = ⊥
IsCutAt bytes End = bytes ≡ []
IsCutAt bytes (CutShort kept) = (0 < length kept) × (kept ≡ bytes)
IsCutAt bytes (TooLong _) = ⊥
IsCutAt bytes Empty = ⊥
IsCutAt bytes OutOfMemory = ⊥

-- the fact P of the bytes that were taken where a reader of frames answers so:
-- a frame for its body, nothing at the end, the bytes that it keeps where the frame was cut short, the
-- length alone where that is bad, and a part of a frame after a fault and for want of memory
abbrev pub TakesFor : Result (List ℕ) FrameIn → (List ℕ → Type 0) → Type 0
TakesFor (Ok body) P = IsBody body × P (frame_of body)
TakesFor (Err Fault) P = (bytes : List ℕ) × IsPartOfFrame bytes × P bytes
TakesFor (Err End) P = P []
TakesFor (Err (CutShort bytes)) P = (0 < length bytes) × IsPartOfFrame bytes × P bytes
TakesFor (Err (TooLong n)) P = (MAX_BODY < n) × (n < 2 ^ 32) × P (length_bytes n)
TakesFor (Err Empty) P = P (length_bytes 0)
TakesFor (Err OutOfMemory) P = (bytes : List ℕ) × IsPartOfFrame bytes × P bytes
