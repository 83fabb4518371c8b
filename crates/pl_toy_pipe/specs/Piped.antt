-- What a toy behind a pipe in memory makes of the bytes that it is given.
use Rattle.std.specs.Prelude.{⊤, ◌≡◌, ◌⊎◌, ℕ, ◌+◌, ◌<◌, ◌≤◌, Bool, true, false, List, [], ◌++◌, length, take, drop, Option, Some, None, Result, Ok, Err}
use Rattle.std.specs.Int.{w32, from_be_bytes}
use Rattle.pl_world.specs.Counts.{Rose}
use Rattle.pl_world.specs.Frames.{IsBody, IsPartOfFrame, frame_of}
use Rattle.pl_world.specs.declared.frames.TheConstants.{MAX_BODY}
use Rattle.pl_events.specs.declared.operation.Ask.{Ask}
use Rattle.pl_provider_msg.specs.Request.{ask_in}
use Rattle.pl_wire.specs.Exchange.{IsBadLength}
use Rattle.pl_toy.specs.Things.{Things}
use Rattle.pl_toy_serve.specs.Served.{IsAnswer, IsKeptOrReplied, IsNoRequest}
use Rattle.pl_toy_serve.specs.declared.asking.Request.{Request}
use Rattle.pl_toy_pipe.specs.declared.ending.Ending.{Ending}
use Rattle.pl_toy_pipe.specs.declared.ending.Ending.TheVariants.{NoRequest, NoMemory}
use Rattle.pl_toy_pipe.specs.declared.framing.Reach.{Reach}
use Rattle.pl_toy_pipe.specs.declared.framing.Reach.TheVariants.{Part, Whole, BadLength}

-- ---- how far bytes reach

-- the length that the first four bytes say
abbrev pub length_in : List ℕ → ℕ
length_in bytes = from_be_bytes w32 (take 4 bytes)

-- of a frame more is missing, as far as its length is known
abbrev pub IsBegun : List ℕ → Type 0
IsBegun bytes = 4 ≤ length bytes → (1 ≤ length_in bytes) × (length_in bytes ≤ MAX_BODY) × (length bytes < 4 + length_in bytes)

-- of one frame no more came than it has, as far as its length is known
abbrev pub Fits : List ℕ → Type 0
Fits bytes = (length bytes ≤ 4) ⊎ ((1 ≤ length_in bytes) × (length_in bytes ≤ MAX_BODY) × (length bytes ≤ 4 + length_in bytes))

-- the bytes are a frame
abbrev pub IsWhole : List ℕ → Type 0
IsWhole bytes = IsBody (drop 4 bytes) × (bytes ≡ frame_of (drop 4 bytes))

-- how far the bytes of one frame reach
abbrev pub IsReached : Reach → List ℕ → Type 0
IsReached Part bytes = IsPartOfFrame bytes
IsReached Whole bytes = IsWhole bytes
IsReached BadLength bytes = IsBadLength bytes

-- ---- what a body asks

-- the body asks this under the ticket
abbrev pub Asks : List ℕ → ℕ → Ask → Type 0
Asks body ticket asked = ask_in body ≡ Some (ticket, asked)

-- what a body asks and under which ticket, or that it asks nothing
abbrev pub IsUnderstood : Result Request Ending → List ℕ → Type 0
IsUnderstood (Ok request) body = Asks body request.ticket request.asked
IsUnderstood (Err NoRequest) body = ask_in body ≡ None
IsUnderstood (Err NoMemory) body = ⊤

-- the answer is the one to what the body asks, under its ticket; `rising` says that the shelf's count of faults rose
abbrev pub IsBodyAnswered : List ℕ → List ℕ → Option Things → Option Things → Type 0 → Type 0
IsBodyAnswered body answer before now rising =
    (ticket : ℕ) × (asked : Ask) × Asks body ticket asked × IsAnswer ticket asked answer before now rising

-- the things are as before, or what the body asks was carried out
abbrev pub IsKeptOrCarriedOut : List ℕ → Option Things → Option Things → Type 0 → Type 0
IsKeptOrCarriedOut body before now rising =
    (now ≡ before) ⊎ ((ticket : ℕ) × (asked : Ask) × Asks body ticket asked × IsKeptOrReplied asked before now rising)

-- what became of a body that got no answer: it asks nothing and nothing was done, or no memory was found
abbrev pub IsUndone : Ending → List ℕ → Option Things → Option Things → Type 0 → Type 0
IsUndone NoRequest body before now rising = (ask_in body ≡ None) × (now ≡ before)
IsUndone NoMemory body before now rising = IsKeptOrCarriedOut body before now rising

-- ---- what becomes of the bytes that are given

-- how a toy stands at a moment: the bytes that came since the last answer, the frames of all replies, whether it has
-- ended, and what is told of its shelf
pub record State : Type 0 where
  pub begun : List ℕ
  pub replies : List ℕ
  pub is_over : Bool
  pub things : Option Things
  pub shelf_faults : ℕ

abbrev pub state : List ℕ → List ℕ → Bool → Option Things → ℕ → State
state begun replies is_over things shelf_faults =
    record { begun = begun; replies = replies; is_over = is_over; things = things; shelf_faults = shelf_faults }

-- the fact that the shelf's count of faults rose
abbrev pub ShelfRose : State → State → Type 0
ShelfRose before now = Rose before.shelf_faults now.shelf_faults

-- nothing was replied, and nothing was done over the shelf
pub record NothingDone (before now : State) : Type 0 where
  pub replies_stay : now.replies ≡ before.replies
  pub things_stay : now.things ≡ before.things

-- the bytes are a part of a frame, and more are awaited
pub record IsAwaiting (bytes : List ℕ) (before now : State) : Type 0 where
  pub part : IsPartOfFrame bytes
  pub kept : now.begun ≡ bytes
  pub goes_on : now.is_over ≡ false
  pub nothing_done : NothingDone before now

-- the bytes are the frame of a request, which was carried out: the frame of the one answer to it stands behind the
-- replies so far
pub record IsReplied (bytes : List ℕ) (before now : State) : Type 0 where
  pub body : List ℕ
  pub answer : List ℕ
  pub whole : IsBody body × (bytes ≡ frame_of body)
  pub answered : IsBodyAnswered body answer before.things now.things (ShelfRose before now)
  pub replied : IsBody answer × (now.replies ≡ before.replies ++ frame_of answer)
  pub done : now.begun ≡ []
  pub goes_on : now.is_over ≡ false

-- the bytes are no request, and the toy has ended
pub record HasEnded (bytes : List ℕ) (before now : State) : Type 0 where
  pub no_request : IsNoRequest bytes
  pub kept : now.begun ≡ bytes
  pub over : now.is_over ≡ true
  pub nothing_done : NothingDone before now

-- no memory was found, and the toy has ended: the things are as before, or the bytes are the frame of a request that was
-- carried out and got no reply
pub record HasGivenUp (bytes : List ℕ) (before now : State) : Type 0 where
  pub things : (now.things ≡ before.things)
      ⊎ ((body : List ℕ) × (bytes ≡ frame_of body) × IsKeptOrCarriedOut body before.things now.things (ShelfRose before now))
  pub over : now.is_over ≡ true
  pub replies_stay : now.replies ≡ before.replies

-- what became of the bytes since the last answer
abbrev pub IsHeard : List ℕ → State → State → Type 0
IsHeard bytes before now = IsAwaiting bytes before now ⊎ (IsReplied bytes before now ⊎ HasEnded bytes before now)

-- the same by how the toy goes on
abbrev pub IsStep : {T : Type 0} → Result T Ending → List ℕ → State → State → Type 0
IsStep (Ok _) bytes before now = IsAwaiting bytes before now ⊎ IsReplied bytes before now
IsStep (Err NoRequest) bytes before now = HasEnded bytes before now
IsStep (Err NoMemory) bytes before now = HasGivenUp bytes before now

-- some first bytes of these were heard, and then no memory was found
abbrev pub HasGivenUpWithin : List ℕ → List ℕ → State → State → Type 0
HasGivenUpWithin begun bytes before now = (count : ℕ) × (count ≤ length bytes) × HasGivenUp (begun ++ take count bytes) before now
