-- What was heard of the host, and what was taken for it.
use Rattle.std.specs.Prelude.{⊤, ◌≡◌, ◌⊎◌, ℕ, List, Some, None}
use Rattle.pl_model.specs.Frames.{IsBadLength}
use Rattle.pl_world.specs.Frames.{IsBody, frame_of, length_bytes, IsPartOfFrame, IsStartOfFrame}
use Rattle.pl_events.specs.declared.event.HostEnd.{HostEnd}
use Rattle.pl_events.specs.declared.event.HostEnd.TheVariants.{Success, Error, Ended, PipeFault, BadFrame, NoMemory}
use Rattle.pl_host_msg.specs.Word.{word_of}
use Rattle.pl_engine.specs.declared.hear.Heard.{Heard}

-- a message: its body's frame was taken, and the body spells it; P says that bytes were taken
pub record IsHeard (P : List ℕ → Type 0) (heard : Heard) : Type 0 where
  pub body : IsBody heard.body
  pub word : word_of heard.body ≡ Some heard.word
  pub taken : P (frame_of heard.body)

-- a body that no word spells, or want of memory
abbrev pub IsUnread : List ℕ → HostEnd → Type 0
IsUnread body (BadFrame bytes) = (bytes ≡ body) × (word_of body ≡ None)
IsUnread body NoMemory = ⊤
IsUnread body _ = ⊥

-- the end that a bad length makes
abbrev pub IsLengthEnd : ℕ → HostEnd → Type 0
IsLengthEnd n (BadFrame bytes) = bytes ≡ length_bytes n
IsLengthEnd n NoMemory = ⊤
IsLengthEnd n _ = ⊥

-- what was taken before the host's messages ended so; P says that bytes were taken
abbrev pub EndHeard : HostEnd → (List ℕ → Type 0) → Type 0
EndHeard Success P = ⊥
EndHeard (Error _) P = ⊥
EndHeard Ended P = (added : List ℕ) × IsPartOfFrame added × P added
EndHeard PipeFault P = (added : List ℕ) × IsPartOfFrame added × P added
EndHeard (BadFrame bytes) P =
    (IsBody bytes × (word_of bytes ≡ None) × P (frame_of bytes)) ⊎ (IsBadLength bytes × P bytes)
EndHeard NoMemory P = (added : List ℕ) × (IsStartOfFrame added ⊎ IsBadLength added) × P added

-- a fact for the case that the pipe failed
abbrev pub IfFaulted : HostEnd → Type 0 → Type 0
IfFaulted PipeFault P = P
IfFaulted _ P = ⊤

-- a fact for the case that the input ended
abbrev pub IfEnded : HostEnd → Type 0 → Type 0
IfEnded Ended P = P
IfEnded _ P = ⊤
