-- What a child's bytes may be beside whole messages.
use Rattle.std.specs.Prelude.{◌≡◌, ◌⊎◌, ℕ, ◌<◌, ◌^◌, Bool, List, ◌++◌}
use Rattle.pl_world.specs.Frames.{IsBody, frame_of, length_bytes}
use Rattle.pl_world.specs.declared.frames.TheConstants.{MAX_BODY}

-- what the run tells of the causes of a pipe's end: its counts, which began at 0, and whether memory was wanted
pub record Causes : Type 0 where
  pub faults : ℕ
  pub ends : ℕ
  pub wanted : Bool

-- the four bytes of a length that no body has
abbrev pub IsBadLength : List ℕ → Type 0
IsBadLength bytes = (n : ℕ) × (n < 2 ^ 32) × ((n ≡ 0) ⊎ (MAX_BODY < n)) × (bytes ≡ length_bytes n)

-- a body that is no message there, or the four bytes of a bad length
abbrev pub IsBad : (List ℕ → Type 0) → List ℕ → Type 0
IsBad IsNoMessage bytes = (IsBody bytes × IsNoMessage bytes) ⊎ IsBadLength bytes

-- the frame of a body that is no message there, or the four bytes of a bad length
abbrev pub IsBadFrame : (List ℕ → Type 0) → List ℕ → List ℕ → Type 0
IsBadFrame IsNoMessage bytes added =
    (IsBody bytes × IsNoMessage bytes × (added ≡ frame_of bytes)) ⊎ (IsBadLength bytes × (added ≡ bytes))

-- a frame whose body has a property
abbrev pub IsFrameOf : (List ℕ → Type 0) → List ℕ → Type 0
IsFrameOf Says added = (body : List ℕ) × IsBody body × Says body × (added ≡ frame_of body)

-- what is there is what was there before and then something more
abbrev pub IsLonger : {X : Type 0} → (List X → Type 0) → (List X → Type 0) → List X → Type 0
IsLonger {X} Before Adds now = (before added : List X) × Before before × Adds added × (now ≡ before ++ added)
