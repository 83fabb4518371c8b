-- Whole histories: what stands in the checkpoint before each operation, and the lines of a run in which nothing fails.
use Rattle.std.specs.Prelude.{ℕ, Bool, true, false, ⊤, Option, None, Some, List, [], ◌∷◌, ◌++◌, map}
use Rattle.pl_world.specs.Told.{Piece}
use Rattle.pl_world.specs.Frames.{frame_of}
use Rattle.pl_events.specs.declared.event.Event.{Event}
use Rattle.pl_events.specs.declared.event.What.{What}
use Rattle.pl_events.specs.declared.event.What.TheVariants.{Begun}
use Rattle.pl_model.specs.declared.fixed.Fixed.{Fixed}
use Rattle.pl_model.specs.Covers.{Covers}
use Rattle.pl_model.specs.Frames.{Causes}
use Rattle.pl_model.specs.HostLines.{HostLines}
use Rattle.pl_model.specs.LaneLines.{LaneLines}
use Rattle.pl_model.specs.Legal.{may_be_next}
use Rattle.pl_model.specs.Saves.{is_covered}
use Rattle.pl_model.specs.State.{state_of}
use Rattle.pl_model_legal.specs.Small.{spelling_of}

-- ---- covers

abbrev pub CoverIf : Bool → Type 0 → Type 0 → Type 0
CoverIf true Before Now = Before × Now
CoverIf false Before Now = Before

abbrev pub CoverNext : Fixed → List Event → Event → What → Type 0 → Type 0
CoverNext run past event (Begun ticket lane about) Before =
    CoverIf (is_covered about) Before (Covers run past about (state_of run (event ∷ past)))
CoverNext run past event _ Before = Before

-- the state with each operation begun that changes a thing covers that operation
abbrev pub AreCovered : Fixed → List Event → Type 0
AreCovered run [] = ⊤
AreCovered run (event ∷ past) = CoverNext run past event event.what (AreCovered run past)

-- ---- lines

-- no pipe fails, none ends early, and no memory is wanted
abbrev pub nothing_failed : Causes
nothing_failed = record { faults = 0; ends = 0; wanted = false }

-- the frames of bodies, one after another
abbrev pub frames_of : List (List ℕ) → List ℕ
frames_of [] = []
frames_of (body ∷ bodies) = frame_of body ++ frames_of bodies

-- a frame in one piece, with a cover or without one
abbrev pub piece : List ℕ → Option (List ℕ) → Piece
piece body cover = (frame_of body, cover)

-- frames in one piece each, without covers
abbrev pub plain_pieces : List (List ℕ) → List Piece
plain_pieces bodies = map (λ body. piece body None) bodies

-- a lane gave the frames of these bodies and was given these pieces, in a run in which nothing failed
abbrev pub LaneTells : Fixed → List Event → ℕ → List (List ℕ) → List Piece → Type 0
LaneTells run history lane told given =
    LaneLines run (spelling_of history) nothing_failed history lane (Some (frames_of told)) (Some given)

-- the host gave the frames of these bodies and was given those
abbrev pub HostTells : Fixed → List Event → List (List ℕ) → List (List ℕ) → Type 0
HostTells run history told given =
    HostLines run (spelling_of history) may_be_next nothing_failed nothing_failed history (Some (frames_of told))
    (Some (plain_pieces given))
