-- What a host gives and takes, from its beginning to its end.
use Rattle.std.specs.Prelude.{◌≡◌, ◌⊎◌, Bool, if◌then◌else◌, ℕ, ◌<◌, ◌^◌, List, [], ◌++◌, take, Option, None, Some}
use Rattle.pl_world.specs.Frames.{IsBody, IsPartOfFrame, IsStartOfFrame, frame_of, length_bytes}
use Rattle.pl_world.specs.Told.{Gave, Grew, Piece}
use Rattle.pl_world.specs.declared.frames.FrameIn.{FrameIn}
use Rattle.pl_world.specs.declared.frames.FrameIn.TheVariants.{Fault, End, CutShort, TooLong, Empty, OutOfMemory}
use Rattle.pl_world.specs.declared.frames.TheConstants.{MAX_BODY}
use Rattle.pl_world.specs.declared.trouble.Trouble.{Trouble}
use Rattle.pl_world.specs.declared.trouble.Trouble.TheVariants as trouble
use Rattle.pl_program.specs.Due.{turn_of}
use Rattle.pl_program.specs.Heard.{asked, heard}
use Rattle.pl_program.specs.declared.talk.Talk.{Talk}
use Rattle.pl_program.specs.declared.talk.Turn.{Turn}
use Rattle.pl_program.specs.declared.talk.Turn.TheVariants.{Await, Ask, Done, Failed}

-- one step: a request is given, or an answer is taken; the lists are the bytes given and taken
pub data Steps (now : Talk) : Talk → List ℕ → List ℕ → Type 0 where
  asks : (body : List ℕ) → turn_of now ≡ Ask body → Steps now (asked now) (frame_of body) []
  hears : (body : List ℕ) (later : Talk) → turn_of now ≡ Await → IsBody body → heard body now ≡ Some later → Steps now later [] (frame_of body)

-- a talk, with the bytes that were given and taken from its beginning on
pub data Told (start : Talk) : Talk → List ℕ → List ℕ → Type 0 where
  begins : Told start start [] []
  goes_on : {now later : Talk} {given taken more_given more_taken : List ℕ}
      → Told start now given taken → Steps now later more_given more_taken → Told start later (given ++ more_given) (taken ++ more_taken)

-- what is given in a turn
abbrev pub Gives : Turn → List ℕ → Type 0
Gives Await body = ⊥
Gives (Ask sent) body = sent ≡ body
Gives (Done sent) body = sent ≡ body
Gives (Failed sent) body = sent ≡ body

-- how a talk ends, with the last bytes given and taken, and the status; Faulted says that the count of faults of a pipe
-- rose, AtEnd that the count of the ends of the input did; where no memory was found nothing was given or taken, or the
-- beginning of the frame that is due was given, or that of one frame was taken, which may be whole
pub data Ends (now : Talk) (Faulted AtEnd : Type 0) : List ℕ → List ℕ → ℕ → Type 0 where
  done : (body : List ℕ) → turn_of now ≡ Done body → Ends now Faulted AtEnd (frame_of body) [] 0
  failed : (body : List ℕ) → turn_of now ≡ Failed body → Ends now Faulted AtEnd (frame_of body) [] 1
  not_given : (body : List ℕ) (count : ℕ) → Gives (turn_of now) body → Faulted → Ends now Faulted AtEnd (take count (frame_of body)) [] 5
  not_taken : (bytes : List ℕ) → turn_of now ≡ Await → IsPartOfFrame bytes → Faulted → Ends now Faulted AtEnd [] bytes 5
  at_end : (bytes : List ℕ) → turn_of now ≡ Await → IsPartOfFrame bytes → AtEnd → Ends now Faulted AtEnd [] bytes 6
  no_answer : (body : List ℕ) → turn_of now ≡ Await → IsBody body → heard body now ≡ None → Ends now Faulted AtEnd [] (frame_of body) 6
  no_body : (n : ℕ) → turn_of now ≡ Await → n < 2 ^ 32 → (n ≡ 0) ⊎ (MAX_BODY < n) → Ends now Faulted AtEnd [] (length_bytes n) 6
  no_memory : Ends now Faulted AtEnd [] [] 7
  no_memory_to_give : (body : List ℕ) (count : ℕ) → Gives (turn_of now) body → Ends now Faulted AtEnd (take count (frame_of body)) [] 7
  no_memory_to_take : (bytes : List ℕ) → turn_of now ≡ Await → IsStartOfFrame bytes → Ends now Faulted AtEnd [] bytes 7

-- the status after a frame that was not given whole
abbrev pub trouble_status : Trouble → ℕ
trouble_status trouble.Failed = 5
trouble_status trouble.OutOfMemory = 7

-- the status where no frame came
abbrev pub frame_status : FrameIn → ℕ
frame_status Fault = 5
frame_status End = 6
frame_status (CutShort bytes) = 6
frame_status (TooLong n) = 6
frame_status Empty = 6
frame_status OutOfMemory = 7

-- the status after an answer that may not stand there
abbrev pub heard_status : Bool → Option ℕ
heard_status stands = if stands then None else Some 6

-- a whole talk: these bytes were given and taken, and it ended at this status
pub record IsTalk (start : Talk) (given taken : List ℕ) (status : ℕ) (Faulted AtEnd : Type 0) : Type 0 where
  pub now : Talk
  pub given_before : List ℕ
  pub taken_before : List ℕ
  pub given_last : List ℕ
  pub taken_last : List ℕ
  pub told : Told start now given_before taken_before
  pub ends : Ends now Faulted AtEnd given_last taken_last status
  pub all_given : given ≡ given_before ++ given_last
  pub all_taken : taken ≡ taken_before ++ taken_last

-- a fact of the bytes that were given on one pipe, cut anyhow, and taken on another
abbrev pub OverPipes : Option (List Piece) → Option (List Piece) → Option (List ℕ) → Option (List ℕ) → (List ℕ → List ℕ → Type 0) → Type 0
OverPipes given_old given_new taken_old taken_new P =
    (given : List ℕ) × (taken : List ℕ) × Gave given_old given_new given None × Grew taken_old taken_new taken × P given taken

-- one round: a step, or the end
abbrev pub Goes : Talk → Talk → Option ℕ → Type 0 → Type 0 → List ℕ → List ℕ → Type 0
Goes now later None Faulted AtEnd given taken = Steps now later given taken
Goes now later (Some status) Faulted AtEnd given taken = Ends now Faulted AtEnd given taken status
