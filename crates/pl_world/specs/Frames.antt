use Rattle.std.specs.Prelude.{◌≡◌, ◌⊎◌, ℕ, ◌<◌, ◌≤◌, List, ◌++◌, length}
use Rattle.pl_world.specs.declared.frames.TheConstants.{MAX_BODY}
use Rattle.std.specs.Int.{w32, to_be_bytes}

-- a body has 1 to 4,194,304 bytes
abbrev pub IsBody : List ℕ → Type 0
IsBody body = (1 ≤ length body) × (length body ≤ MAX_BODY)

-- a length as it stands before a body: four bytes, the highest first
abbrev pub length_bytes : ℕ → List ℕ
length_bytes n = to_be_bytes w32 n

-- the frame of a body: its length and the body
abbrev pub frame_of : List ℕ → List ℕ
frame_of body = length_bytes (length body) ++ body

-- the beginning of the frame of some body, without its end
abbrev pub IsCutFrame : List ℕ → Type 0
IsCutFrame bytes = (body : List ℕ) × (rest : List ℕ) × IsBody body × (0 < length rest) × (bytes ++ rest ≡ frame_of body)

-- what may have come of one frame that isn't whole: a part of its length, whatever that is, or the
-- beginning of a frame
abbrev pub IsPartOfFrame : List ℕ → Type 0
IsPartOfFrame bytes = (length bytes < 4) ⊎ IsCutFrame bytes

-- what may have come of one frame, which may be whole
abbrev pub IsStartOfFrame : List ℕ → Type 0
IsStartOfFrame bytes = IsPartOfFrame bytes ⊎ ((body : List ℕ) × IsBody body × (bytes ≡ frame_of body))
