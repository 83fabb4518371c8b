-- What was taken from the host's reading half, and what its writing half was given.
use Rattle.std.specs.Prelude.{⊤, ◌≡◌, ◌⊎◌, ℕ, true, false, All, Option, Some, None, List, [], ◌∷◌, ◌++◌, IfSome}
use Rattle.pl_world.specs.Counts.{Rose}
use Rattle.pl_world.specs.Told.{Piece, bytes_of}
use Rattle.pl_world.specs.Frames.{IsBody, frame_of, IsPartOfFrame, IsStartOfFrame}
use Rattle.pl_events.specs.declared.event.Event.{Event}
use Rattle.pl_events.specs.declared.event.Request.{Request}
use Rattle.pl_events.specs.declared.event.What.{What}
use Rattle.pl_events.specs.declared.event.What.TheVariants.{Told, HostGone, Posted}
use Rattle.pl_events.specs.declared.event.HostEnd.{HostEnd}
use Rattle.pl_events.specs.declared.event.HostEnd.TheVariants.{Success, Error, Ended, PipeFault, BadFrame, NoMemory}
use Rattle.pl_model.specs.Run.{Spelling}
use Rattle.pl_model.specs.Frames.{Causes, IsBad, IsBadFrame, IsBadLength}
use Rattle.pl_lemmas.specs.Words.{has_number}
use Rattle.pl_model.specs.Recording.{posted_of}
use Rattle.pl_components.specs.Run.{Fixed}
use Rattle.pl_components.specs.Requests.{may_be_next}
use Rattle.pl_components.specs.Due.{answer_of, is_post_due}

-- a body that is no message that may stand after this history
pub record IsNoMessage (run : Fixed) (spelling : Spelling) (past : List Event) (body : List ℕ) : Type 0 where
  pub no_success : spelling.is_success body ≡ false
  pub no_request : (request : Request) → spelling.request_in body ≡ Some request → may_be_next run past request ≡ false

-- what the host's end adds to the bytes that were taken, and its cause; no message spells an error yet
abbrev pub EndAdds : Fixed → Spelling → Causes → List Event → HostEnd → List ℕ → Type 0
EndAdds run spelling half past Success added =
    (body : List ℕ) × IsBody body × (spelling.is_success body ≡ true) × (added ≡ frame_of body)
EndAdds run spelling half past (Error text) added = ⊥
EndAdds run spelling half past Ended added = Rose 0 half.ends × IsPartOfFrame added
EndAdds run spelling half past PipeFault added = Rose 0 half.faults × IsPartOfFrame added
EndAdds run spelling half past (BadFrame bytes) added = IsBadFrame (IsNoMessage run spelling past) bytes added
EndAdds run spelling half past NoMemory added = (half.wanted ≡ true) × (IsStartOfFrame added ⊎ IsBadLength added)

-- a body's frame that spells this request
abbrev pub RequestAdds : Spelling → Request → List ℕ → Type 0
RequestAdds spelling request added =
    (body : List ℕ) × IsBody body × (spelling.request_in body ≡ Some request) × (added ≡ frame_of body)

-- the bytes are those that were taken before, and then what the event adds
abbrev pub TookAfter : Fixed → Spelling → Causes → What → List Event → (List ℕ → Type 0) → List ℕ → Type 0
TookAfter run spelling half (Told request) past Before taken =
    (before added : List ℕ) × Before before × RequestAdds spelling request added × (taken ≡ before ++ added)
TookAfter run spelling half (HostGone end) past Before taken =
    (before added : List ℕ) × Before before × EndAdds run spelling half past end added × (taken ≡ before ++ added)
TookAfter run spelling half _ past Before taken = Before taken

-- the bytes taken from the reading half are the frames of the told requests, in order, and what the
-- host's end adds
abbrev pub HostTook : Fixed → Spelling → Causes → List Event → List ℕ → Type 0
HostTook run spelling half [] taken = taken ≡ []
HostTook run spelling half (event ∷ past) taken =
    TookAfter run spelling half event.what past (HostTook run spelling half past) taken

-- the bytes of the answers after an event: a post adds the frame of its answer
abbrev pub answers_after : Fixed → Spelling → What → List Event → List ℕ → List ℕ
answers_after run spelling (Posted n) past before =
    before ++ frame_of (spelling.answer_text n (answer_of run spelling past n))
answers_after run spelling _ past before = before

-- the frames of the answers that were posted, in order of posting
abbrev pub answers_of : Fixed → Spelling → List Event → List ℕ
answers_of run spelling [] = []
answers_of run spelling (event ∷ past) =
    answers_after run spelling event.what past (answers_of run spelling past)

-- a part of one more answer, which was due at a prefix and is not posted: only where the half's count rose or memory was
-- wanted
pub record IsOneMore (run : Fixed) (spelling : Spelling) (half : Causes) (history : List Event) (more : List ℕ) : Type 0 where
  pub cause : Rose 0 half.faults ⊎ (half.wanted ≡ true)
  pub of_due : (later past : List Event) × (n : ℕ) × (history ≡ later ++ past)
      × (is_post_due run past n ≡ true) × (has_number (posted_of history) n ≡ false)
      × ((rest : List ℕ) × (more ++ rest ≡ frame_of (spelling.answer_text n (answer_of run spelling past n))))

-- the bytes that the writing half was given
abbrev pub HasAnswered : Fixed → Spelling → Causes → List Event → List ℕ → Type 0
HasAnswered run spelling half history given =
    (given ≡ answers_of run spelling history)
    ⊎ ((more : List ℕ) × (given ≡ answers_of run spelling history ++ more)
    × IsOneMore run spelling half history more)

-- what the writing half was given: the answers, and no piece with a cover
pub record HostGave (run : Fixed) (spelling : Spelling) (half : Causes) (history : List Event) (pieces : List Piece) : Type 0 where
  pub uncovered : All (λ piece. piece.1 ≡ None) pieces
  pub answered : HasAnswered run spelling half history (bytes_of pieces)

-- a bad frame that the host's end says of has its cause in the bytes that stand in the history, whatever the pipe tells
abbrev pub EndFits : Fixed → Spelling → List Event → What → Type 0
EndFits run spelling past (HostGone (BadFrame bytes)) = IsBad (IsNoMessage run spelling past) bytes
EndFits run spelling past _ = ⊤

abbrev pub EndsFit : Fixed → Spelling → List Event → Type 0
EndsFit run spelling [] = ⊤
EndsFit run spelling (event ∷ past) = EndFits run spelling past event.what × EndsFit run spelling past

-- the lines of both halves, where they are told
pub record HostLines (run : Fixed) (spelling : Spelling) (reading writing : Causes) (history : List Event)
    (taken : Option (List ℕ)) (given : Option (List Piece)) : Type 0 where
  pub took : IfSome taken (HostTook run spelling reading history)
  pub gave : IfSome given (HostGave run spelling writing history)
  pub ends_fit : EndsFit run spelling history
