-- What a lane was given and what was taken from it.
use Rattle.std.specs.Prelude.{⊤, ◌≡◌, ◌⊎◌, ℕ, ◌==◌, Bool, true, false, Option, Some, None, List, [], ◌∷◌, ◌++◌, IfSome}
use Rattle.pl_world.specs.Counts.{Rose}
use Rattle.pl_world.specs.Told.{Bears, Piece}
use Rattle.pl_world.specs.Frames.{IsPartOfFrame, IsStartOfFrame, frame_of}
use Rattle.pl_events.specs.declared.event.Event.{Event}
use Rattle.pl_events.specs.declared.event.What.{What}
use Rattle.pl_events.specs.declared.event.What.TheVariants.{Begun, Answered, Lost}
use Rattle.pl_events.specs.declared.operation.Ask.{Ask}
use Rattle.pl_events.specs.declared.operation.Op.{Op}
use Rattle.pl_events.specs.declared.reply.Loss.{Loss}
use Rattle.pl_events.specs.declared.reply.Loss.TheVariants as loss
use Rattle.pl_events.specs.declared.reply.Reply.{Reply}
use Rattle.pl_model.specs.declared.errand.Errand.{Errand}
use Rattle.pl_model.specs.declared.fixed.Fixed.{Fixed}
use Rattle.pl_model.specs.Run.{Spelling}
use Rattle.pl_model.specs.Tickets.{errand_at, loses}
use Rattle.pl_model.specs.Asked.{ask_of, call_of}
use Rattle.pl_model.specs.Covers.{cover_of}
use Rattle.pl_model.specs.Frames.{Causes, IsBad, IsBadFrame, IsBadLength, IsFrameOf, IsLonger}
use Rattle.pl_model.specs.History.{known_of}
use Rattle.pl_model.specs.Saves.{is_covered}
use Rattle.std.specs.List.{list_any}

-- ---- given

-- the frame that asks an operation, under its ticket
abbrev pub ask_frame : Spelling → ℕ → Ask → List ℕ
ask_frame spelling ticket asked = frame_of (spelling.ask_text ticket asked)

abbrev pub only_some : Bool → List ℕ → Option (List ℕ)
only_some true text = Some text
only_some false text = None

-- the cover of an operation's pieces: only what changes a thing has one
abbrev pub piece_cover : Fixed → Spelling → List Event → Event → Op → Option (List ℕ)
piece_cover run spelling past event about = only_some (is_covered about) (cover_of run spelling past event)

-- whether a ticket is lost in the whole history
abbrev pub was_lost : List Event → ℕ → Bool
was_lost history ticket = list_any (λ event. loses ticket event.what) history

-- the pieces bear a frame, or a part of it where its operation was lost, each with this cover
abbrev pub BearsFrame : Bool → List ℕ → Option (List ℕ) → List Piece → Type 0
BearsFrame lost frame cover pieces =
    Bears pieces frame cover
    ⊎ ((lost ≡ true) × ((given rest : List ℕ) × (given ++ rest ≡ frame) × Bears pieces given cover))

-- the pieces ask an operation that is begun after this history
abbrev pub Asks : Fixed → Spelling → List Event → List Event → Event → ℕ → Op → List Piece → Type 0
Asks run spelling history past event ticket about pieces =
    (asked : Ask) × (ask_of (known_of run past) about ≡ Some asked)
    × BearsFrame (was_lost history ticket) (ask_frame spelling ticket asked) (piece_cover run spelling past event about) pieces

-- whether an event begins an operation on the lane
abbrev pub is_begun_on : ℕ → What → Bool
is_begun_on lane (Begun ticket other about) = other == lane
is_begun_on lane _ = false

abbrev pub GaveNext : Fixed → Spelling → List Event → List Event → Event → What → (List Piece → Type 0) → List Piece → Type 0
GaveNext run spelling history past event (Begun ticket lane about) Before given =
    IsLonger Before (Asks run spelling history past event ticket about) given
GaveNext run spelling history past event _ Before given = Before given

abbrev pub GaveIf : Bool → (List Piece → Type 0) → (List Piece → Type 0) → List Piece → Type 0
GaveIf true Next Before given = Next given
GaveIf false Next Before given = Before given

-- the lane was given, in order, the frames of the operations that were begun on it; of one that was lost maybe a
-- part alone
abbrev pub LaneGave : Fixed → Spelling → List Event → ℕ → List Event → List Piece → Type 0
LaneGave run spelling history lane [] given = given ≡ []
LaneGave run spelling history lane (event ∷ past) given =
    GaveIf (is_begun_on lane event.what)
    (GaveNext run spelling history past event event.what (LaneGave run spelling history lane past))
    (LaneGave run spelling history lane past) given

-- ---- taken

-- a body that is no reply to an operation under a ticket
abbrev pub IsNoReply : Spelling → ℕ → Op → List ℕ → Type 0
IsNoReply spelling ticket about body = spelling.reply_in ticket (call_of about) body ≡ None

-- what a loss adds to the bytes that were taken, and its cause
abbrev pub LossAdds : Spelling → Causes → ℕ → Op → Loss → List ℕ → Type 0
LossAdds spelling pipe ticket about loss.PipeFault added = Rose 0 pipe.faults × IsPartOfFrame added
LossAdds spelling pipe ticket about loss.Ended added = Rose 0 pipe.ends × IsPartOfFrame added
LossAdds spelling pipe ticket about (loss.BadFrame bytes) added = IsBadFrame (IsNoReply spelling ticket about) bytes added
LossAdds spelling pipe ticket about loss.NoMemory added =
    (pipe.wanted ≡ true) × (IsStartOfFrame added ⊎ IsBadLength added)

-- a frame that spells a reply
abbrev pub ReplyAdds : Spelling → ℕ → Op → Reply → List ℕ → Type 0
ReplyAdds spelling ticket about reply added =
    IsFrameOf (λ body. spelling.reply_in ticket (call_of about) body ≡ Some reply) added

abbrev pub op_if : Bool → Op → Option Op
op_if true about = Some about
op_if false about = None

abbrev pub on_lane : ℕ → Option Errand → Option Op
on_lane lane None = None
on_lane lane (Some errand) = op_if (errand.lane == lane) errand.op

abbrev pub TookReply : Spelling → ℕ → Reply → Option Op → (List ℕ → Type 0) → List ℕ → Type 0
TookReply spelling ticket reply None Before taken = Before taken
TookReply spelling ticket reply (Some about) Before taken = IsLonger Before (ReplyAdds spelling ticket about reply) taken

abbrev pub TookLoss : Spelling → Causes → ℕ → Loss → Option Op → (List ℕ → Type 0) → List ℕ → Type 0
TookLoss spelling pipe ticket why None Before taken = Before taken
TookLoss spelling pipe ticket why (Some about) Before taken = IsLonger Before (LossAdds spelling pipe ticket about why) taken

abbrev pub TookNext : Spelling → Causes → ℕ → List Event → What → (List ℕ → Type 0) → List ℕ → Type 0
TookNext spelling pipe lane past (Answered ticket reply) Before taken =
    TookReply spelling ticket reply (on_lane lane (errand_at past ticket)) Before taken
TookNext spelling pipe lane past (Lost ticket why) Before taken =
    TookLoss spelling pipe ticket why (on_lane lane (errand_at past ticket)) Before taken
TookNext spelling pipe lane past _ Before taken = Before taken

-- what was taken from the lane is, in order, the frames of its replies, and after them what its loss adds
abbrev pub LaneTook : Spelling → Causes → ℕ → List Event → List ℕ → Type 0
LaneTook spelling pipe lane [] taken = taken ≡ []
LaneTook spelling pipe lane (event ∷ past) taken =
    TookNext spelling pipe lane past event.what (LaneTook spelling pipe lane past) taken

-- the cause of a loss, whatever the pipe tells
abbrev pub LossFits : Spelling → Causes → ℕ → Op → Loss → Type 0
LossFits spelling pipe ticket about loss.PipeFault = Rose 0 pipe.faults
LossFits spelling pipe ticket about loss.Ended = Rose 0 pipe.ends
LossFits spelling pipe ticket about (loss.BadFrame bytes) = IsBad (IsNoReply spelling ticket about) bytes
LossFits spelling pipe ticket about loss.NoMemory = pipe.wanted ≡ true

abbrev pub LossFitsIf : Spelling → Causes → ℕ → Loss → Option Op → Type 0
LossFitsIf spelling pipe ticket why None = ⊤
LossFitsIf spelling pipe ticket why (Some about) = LossFits spelling pipe ticket about why

abbrev pub FitsNext : Spelling → Causes → ℕ → List Event → What → Type 0
FitsNext spelling pipe lane past (Lost ticket why) =
    LossFitsIf spelling pipe ticket why (on_lane lane (errand_at past ticket))
FitsNext spelling pipe lane past _ = ⊤

-- each loss on the lane has its cause
abbrev pub LossesFit : Spelling → Causes → ℕ → List Event → Type 0
LossesFit spelling pipe lane [] = ⊤
LossesFit spelling pipe lane (event ∷ past) =
    FitsNext spelling pipe lane past event.what × LossesFit spelling pipe lane past

-- the lines of a lane, where they are told
pub record LaneLines (run : Fixed) (spelling : Spelling) (pipe : Causes) (history : List Event) (lane : ℕ)
    (taken : Option (List ℕ)) (given : Option (List Piece)) : Type 0 where
  pub gave : IfSome given (LaneGave run spelling history lane history)
  pub took : IfSome taken (LaneTook spelling pipe lane history)
  pub losses_fit : LossesFit spelling pipe lane history
