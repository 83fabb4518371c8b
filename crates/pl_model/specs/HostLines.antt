-- What was taken from the host's reading half, and what its writing half was given.
use Rattle.std.specs.Prelude.{⊤, ◌≡◌, ◌⊎◌, ℕ, Bool, true, false, All, Option, Some, None, List, [], ◌∷◌, ◌++◌, IfSome}
use Rattle.pl_world.specs.Counts.{Rose}
use Rattle.pl_world.specs.Told.{Piece, bytes_of}
use Rattle.pl_world.specs.Frames.{IsPartOfFrame, IsStartOfFrame, frame_of}
use Rattle.pl_events.specs.declared.event.Event.{Event}
use Rattle.pl_events.specs.declared.event.HostEnd.{HostEnd}
use Rattle.pl_events.specs.declared.event.HostEnd.TheVariants.{Success, Error, Ended, PipeFault, BadFrame, NoMemory}
use Rattle.pl_events.specs.declared.event.Request.{Request}
use Rattle.pl_events.specs.declared.event.What.{What}
use Rattle.pl_events.specs.declared.event.What.TheVariants.{Told, HostGone, Posted}
use Rattle.pl_model.specs.declared.fixed.Fixed.{Fixed}
use Rattle.pl_model.specs.Run.{Spelling}
use Rattle.pl_lemmas.specs.Words.{has_number}
use Rattle.pl_model.specs.Recording.{posted_of}
use Rattle.pl_model.specs.Due.{is_post_due}
use Rattle.pl_model.specs.Frames.{Causes, IsBad, IsBadFrame, IsBadLength, IsFrameOf, IsLonger}
use Rattle.pl_model.specs.History.{known_of}
use Rattle.pl_model.specs.Known.{Known}
use Rattle.pl_model.specs.Posts.{answer_of}

-- which requests may stand after a history. In the end each whose number is above those before it (`may_be_next`);
-- a program that does not serve every form of request yet takes fewer
abbrev pub Stands : Type 0
Stands = Known → Request → Bool

-- a body that is no message that may stand after this history
pub record IsNoMessage (spelling : Spelling) (stands : Stands) (known : Known) (body : List ℕ) : Type 0 where
  pub no_success : spelling.is_success body ≡ false
  pub no_error : spelling.error_in body ≡ None
  pub no_request : (request : Request) → spelling.request_in body ≡ Some request → stands known request ≡ false

-- what the host's end adds to the bytes that were taken, and its cause
abbrev pub EndAdds : Spelling → Stands → Causes → Known → HostEnd → List ℕ → Type 0
EndAdds spelling stands half known Success added = IsFrameOf (λ body. spelling.is_success body ≡ true) added
EndAdds spelling stands half known (Error text) added = IsFrameOf (λ body. spelling.error_in body ≡ Some text) added
EndAdds spelling stands half known Ended added = Rose 0 half.ends × IsPartOfFrame added
EndAdds spelling stands half known PipeFault added = Rose 0 half.faults × IsPartOfFrame added
EndAdds spelling stands half known (BadFrame bytes) added = IsBadFrame (IsNoMessage spelling stands known) bytes added
EndAdds spelling stands half known NoMemory added = (half.wanted ≡ true) × (IsStartOfFrame added ⊎ IsBadLength added)

abbrev pub RequestAdds : Spelling → Request → List ℕ → Type 0
RequestAdds spelling request added = IsFrameOf (λ body. spelling.request_in body ≡ Some request) added

abbrev pub TookNext : Fixed → Spelling → Stands → Causes → List Event → What → (List ℕ → Type 0) → List ℕ → Type 0
TookNext run spelling stands half past (Told request) Before taken = IsLonger Before (RequestAdds spelling request) taken
TookNext run spelling stands half past (HostGone end) Before taken =
    IsLonger Before (EndAdds spelling stands half (known_of run past) end) taken
TookNext run spelling stands half past _ Before taken = Before taken

-- the bytes taken from the reading half are the frames of the told requests, in order, and what the host's end adds
abbrev pub HostTook : Fixed → Spelling → Stands → Causes → List Event → List ℕ → Type 0
HostTook run spelling stands half [] taken = taken ≡ []
HostTook run spelling stands half (event ∷ past) taken =
    TookNext run spelling stands half past event.what (HostTook run spelling stands half past) taken

-- the frame that answers request n after this history
abbrev pub answer_frame : Fixed → Spelling → List Event → ℕ → List ℕ
answer_frame run spelling past n = frame_of (spelling.answer_text n (answer_of spelling (known_of run past) n))

abbrev pub answers_next : Fixed → Spelling → List Event → What → List ℕ → List ℕ
answers_next run spelling past (Posted n) before = before ++ answer_frame run spelling past n
answers_next run spelling past _ before = before

-- the frames of the answers that were posted, in order of posting
abbrev pub posted_frames : Fixed → Spelling → List Event → List ℕ
posted_frames run spelling [] = []
posted_frames run spelling (event ∷ past) =
    answers_next run spelling past event.what (posted_frames run spelling past)

-- a part of one more answer, which was due at a prefix and is not posted: only where the half's count rose or memory
-- was wanted
pub record IsOneMore (run : Fixed) (spelling : Spelling) (half : Causes) (history : List Event) (more : List ℕ) : Type 0 where
  pub cause : Rose 0 half.faults ⊎ (half.wanted ≡ true)
  pub of_due : (later past : List Event) × (n : ℕ) × (history ≡ later ++ past)
      × (is_post_due (known_of run past) n ≡ true) × (has_number (posted_of history) n ≡ false)
      × ((rest : List ℕ) × (more ++ rest ≡ answer_frame run spelling past n))

-- the bytes that the writing half was given
abbrev pub HasAnswered : Fixed → Spelling → Causes → List Event → List ℕ → Type 0
HasAnswered run spelling half history given =
    (given ≡ posted_frames run spelling history)
    ⊎ ((more : List ℕ) × (given ≡ posted_frames run spelling history ++ more) × IsOneMore run spelling half history more)

-- what the writing half was given: the answers, and no piece with a cover
pub record HostGave (run : Fixed) (spelling : Spelling) (half : Causes) (history : List Event) (pieces : List Piece) : Type 0 where
  pub uncovered : All (λ piece. piece.1 ≡ None) pieces
  pub answered : HasAnswered run spelling half history (bytes_of pieces)

-- a bad frame that the host's end says of has its cause in the bytes that stand in the history, whatever the pipe tells
abbrev pub EndFits : Spelling → Stands → Known → What → Type 0
EndFits spelling stands known (HostGone (BadFrame bytes)) = IsBad (IsNoMessage spelling stands known) bytes
EndFits spelling stands known _ = ⊤

abbrev pub EndsFit : Fixed → Spelling → Stands → List Event → Type 0
EndsFit run spelling stands [] = ⊤
EndsFit run spelling stands (event ∷ past) =
    EndFits spelling stands (known_of run past) event.what × EndsFit run spelling stands past

-- the lines of both halves, where they are told
pub record HostLines (run : Fixed) (spelling : Spelling) (stands : Stands) (reading writing : Causes) (history : List Event)
    (taken : Option (List ℕ)) (given : Option (List Piece)) : Type 0 where
  pub took : IfSome taken (HostTook run spelling stands reading history)
  pub gave : IfSome given (HostGave run spelling writing history)
  pub ends_fit : EndsFit run spelling stands history
