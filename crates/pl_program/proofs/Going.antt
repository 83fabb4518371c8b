-- Steps and ends, over one pipe and over both.
use Rattle.std.proofs.Common.{◌≡◌, ◌⊎◌, ℕ, ◌<◌, ◌≤◌, Bool, true, false, List, [], ◌++◌, Option, None, Some, Err, take, refl, sym, subst, inl, inr, arith}
use Rattle.std.proofs.lemmas.List.Elements.{All-nil}
use Rattle.pl_world.proofs.Telling.{Gave-append, Grew-append, Grew-nothing}
use Rattle.pl_world.specs.Causes.{OnFailed}
use Rattle.pl_world.specs.Counts.{Rose}
use Rattle.pl_world.specs.FrameIn.{OnFault, OnInputEnd, TakesFor}
use Rattle.pl_world.specs.Frames.{IsBody, frame_of, length_bytes}
use Rattle.pl_world.specs.Told.{Gave, GavePart, Grew, Piece, Took}
use Rattle.pl_world.specs.declared.frames.FrameIn.{FrameIn}
use Rattle.pl_world.specs.declared.frames.FrameIn.TheVariants.{Fault, End, CutShort, TooLong, Empty, OutOfMemory}
use Rattle.pl_world.specs.declared.trouble.Trouble.{Trouble}
use Rattle.pl_world.specs.declared.trouble.Trouble.TheVariants as trouble
use Rattle.pl_program.specs.Due.{turn_of}
use Rattle.pl_program.specs.Heard.{IsHeard, asked, heard}
use Rattle.pl_program.specs.Told.{Ends, Gives, Goes, IsTalk, OverPipes, Steps, Told, asks, at_end, begins, done, failed, frame_status, goes_on, heard_status, hears, no_answer, no_body, no_memory, no_memory_to_give, no_memory_to_take, not_given, not_taken, trouble_status}
use Rattle.pl_program.specs.declared.talk.Talk.{Talk}
use Rattle.pl_program.specs.declared.talk.Turn.{Turn}
use Rattle.pl_program.specs.declared.talk.Turn.TheVariants.{Await, Ask, Done, Failed}
use Rattle.pl_program.proofs.Weighing.{lighter, weight}

-- the same end where more is known of the counts
pub ends_by : {now : Talk} {F E : Type 0} {given taken : List ℕ} {status : ℕ} (F' E' : Type 0) → (F → F') → (E → E') → Ends now F E given taken status → Ends now F' E' given taken status
ends_by F' E' f e (done body is) = done body is
ends_by F' E' f e (failed body is) = failed body is
ends_by F' E' f e (not_given body count is fault) = not_given body count is (f fault)
ends_by F' E' f e (not_taken bytes is part fault) = not_taken bytes is part (f fault)
ends_by F' E' f e (at_end bytes is part ended) = at_end bytes is part (e ended)
ends_by F' E' f e (no_answer body is whole none) = no_answer body is whole none
ends_by F' E' f e (no_body n is small bad) = no_body n is small bad
ends_by F' E' f e no_memory = no_memory
ends_by F' E' f e (no_memory_to_give body count is) = no_memory_to_give body count is
ends_by F' E' f e (no_memory_to_take bytes is start) = no_memory_to_take bytes is start

pub goes_by : (now later : Talk) (F E : Type 0) (given taken : List ℕ) (status : Option ℕ) (F' E' : Type 0) → (F → F') → (E → E') → Goes now later status F E given taken → Goes now later status F' E' given taken
goes_by now later F E given taken None F' E' f e goes = goes
goes_by now later F E given taken (Some status) F' E' f e goes = ends_by F' E' f e goes

pub Gave-nothing : (before now : Option (List Piece)) → now ≡ before → Gave before now [] None
Gave-nothing before now same =
    ([], record { in_order = refl; covered = All-nil (λ (piece : Piece). piece.1 ≡ None) }, Grew-nothing before now same)

-- ---- counts

pub Rose-earlier : (start before now : ℕ) → start ≤ before → Rose before now → Rose start now
Rose-earlier start before now past rose = omega arith

-- of one of two pipes
pub either_rose : (start before now start' before' now' : ℕ) → start ≤ before → start' ≤ before' → Rose before now ⊎ Rose before' now' → Rose start now ⊎ Rose start' now'
either_rose start before now start' before' now' past past' (inl rose) = inl (Rose-earlier start before now past rose)
either_rose start before now start' before' now' past past' (inr rose) = inr (Rose-earlier start' before' now' past' rose)

-- ---- one pipe of two

abbrev pub OverTaking : Option (List ℕ) → Option (List ℕ) → (List ℕ → List ℕ → Type 0) → Type 0
OverTaking taken_old taken_new P = (taken : List ℕ) × Grew taken_old taken_new taken × P [] taken

abbrev pub OverGiving : Option (List Piece) → Option (List Piece) → (List ℕ → List ℕ → Type 0) → Type 0
OverGiving given_old given_new P = (given : List ℕ) × Gave given_old given_new given None × P given []

pub over_taking : (now later : Talk) (status : Option ℕ) (Taking Giving Ending : Type 0) (given : Option (List Piece)) (taken_old taken_new : Option (List ℕ))
    → OverTaking taken_old taken_new (Goes now later status Taking Ending)
    → OverPipes given given taken_old taken_new (Goes now later status (Taking ⊎ Giving) Ending)
over_taking now later status Taking Giving Ending given taken_old taken_new (taken, grew, goes) =
    ([], taken, Gave-nothing given given refl, grew, goes_by now later Taking Ending [] taken status (Taking ⊎ Giving) Ending inl (λ e. e) goes)

pub over_giving : (now later : Talk) (status : Option ℕ) (Taking Giving Ending : Type 0) (taken : Option (List ℕ)) (given_old given_new : Option (List Piece))
    → OverGiving given_old given_new (Goes now later status Giving ⊥)
    → OverPipes given_old given_new taken taken (Goes now later status (Taking ⊎ Giving) Ending)
over_giving now later status Taking Giving Ending taken given_old given_new (given, gave, goes) =
    (given, [], gave, Grew-nothing taken taken refl, goes_by now later Giving ⊥ given [] status (Taking ⊎ Giving) Ending inr (λ e. absurd e) goes)

-- ---- what one pipe did

-- a request was given
pub gave_request : (now later : Talk) (body : List ℕ) (Faulted : Type 0) (before after : Option (List Piece)) → turn_of now ≡ Ask body → later ≡ asked now
    → Gave before after (frame_of body) None → OverGiving before after (Goes now later None Faulted ⊥)
gave_request now later body Faulted before after turn counted gave =
    (frame_of body, gave, subst (λ (t : Talk). Steps now t (frame_of body) []) (sym counted) (asks body turn))

-- a frame was not given whole
pub gave_part : (why : Trouble) (now : Talk) (body : List ℕ) (Faulted : Type 0) (before after : Option (List Piece)) → Gives (turn_of now) body
    → GavePart before after (frame_of body) None → OnFailed {T = Unit {0}} (Err why) Faulted → OverGiving before after (λ given taken. Ends now Faulted ⊥ given taken (trouble_status why))
gave_part trouble.Failed now body Faulted before after gives part fault = (take part.0 (frame_of body), part.2, not_given body part.0 gives fault)
gave_part trouble.OutOfMemory now body Faulted before after gives part fault = (take part.0 (frame_of body), part.2, no_memory_to_give body part.0 gives)

pub asked_gives : (turn : Turn) (body : List ℕ) → turn ≡ Ask body → Gives turn body
asked_gives Await body is = absurd (cc)
asked_gives (Ask sent) body is = cc
asked_gives (Done sent) body is = absurd (cc)
asked_gives (Failed sent) body is = absurd (cc)

-- nothing was given
pub gave_nothing : (now : Talk) (Faulted : Type 0) (given : Option (List Piece)) → OverGiving given given (λ given taken. Ends now Faulted ⊥ given taken 7)
gave_nothing now Faulted given = ([], Gave-nothing given given refl, no_memory)

-- no frame came
pub took_none : (why : FrameIn) (now : Talk) (Faulted AtEnd : Type 0) (taken_old taken_new left_old left_new : Option (List ℕ)) → turn_of now ≡ Await
    → TakesFor (Err why) (Took taken_old taken_new left_old left_new) → OnFault {T = List ℕ} (Err why) Faulted → OnInputEnd {T = List ℕ} (Err why) AtEnd
    → OverTaking taken_old taken_new (λ given taken. Ends now Faulted AtEnd given taken (frame_status why))
took_none Fault now Faulted AtEnd taken_old taken_new left_old left_new turn (bytes, part, took) fault ended =
    (bytes, took.taken_grew, not_taken bytes turn part fault)
took_none End now Faulted AtEnd taken_old taken_new left_old left_new turn took fault ended =
    ([], took.taken_grew, at_end [] turn (inl (omega arith)) ended)
took_none (CutShort kept) now Faulted AtEnd taken_old taken_new left_old left_new turn (some, part, took) fault ended =
    (kept, took.taken_grew, at_end kept turn part ended)
took_none (TooLong n) now Faulted AtEnd taken_old taken_new left_old left_new turn (over, small, took) fault ended =
    (length_bytes n, took.taken_grew, no_body n turn small (inr over))
took_none Empty now Faulted AtEnd taken_old taken_new left_old left_new turn took fault ended =
    (length_bytes 0, took.taken_grew, no_body 0 turn (omega arith) (inl refl))
took_none OutOfMemory now Faulted AtEnd taken_old taken_new left_old left_new turn (bytes, part, took) fault ended =
    (bytes, took.taken_grew, no_memory_to_take bytes turn (inl part))

-- a frame came
pub took_frame : (now later : Talk) (status : Option ℕ) (body : List ℕ) (Faulted AtEnd : Type 0) (taken_old taken_new left_old left_new : Option (List ℕ))
    → Took taken_old taken_new left_old left_new (frame_of body) → Goes now later status ⊥ ⊥ [] (frame_of body)
    → OverTaking taken_old taken_new (Goes now later status Faulted AtEnd)
took_frame now later status body Faulted AtEnd taken_old taken_new left_old left_new took goes =
    (frame_of body, took.taken_grew, goes_by now later ⊥ ⊥ [] (frame_of body) status Faulted AtEnd (λ e. absurd e) (λ e. absurd e) goes)

-- what a body that was heard brings
pub heard_body : (stands : Bool) (now later : Talk) (body : List ℕ) → turn_of now ≡ Await → IsBody body → IsHeard stands (heard body now) later
    → Goes now later (heard_status stands) ⊥ ⊥ [] (frame_of body)
heard_body true now later body turn whole is = hears body later turn whole is
heard_body false now later body turn whole is = no_answer body turn whole is

-- ---- one round after another

pub over_none : (start : Talk) (given : Option (List Piece)) (taken : Option (List ℕ)) → OverPipes given given taken taken (Told start start)
over_none start given taken = ([], [], Gave-nothing given given refl, Grew-nothing taken taken refl, begins)

pub over_step : (start now later : Talk) (status : Option ℕ) (F E : Type 0) (given_old given given_new : Option (List Piece)) (taken_old taken taken_new : Option (List ℕ))
    → status ≡ None → OverPipes given_old given taken_old taken (Told start now)
    → OverPipes given given_new taken taken_new (Goes now later status F E)
    → OverPipes given_old given_new taken_old taken_new (Told start later)
over_step start now later None F E given_old given given_new taken_old taken taken_new none (g, t, gave, grew, told) (g', t', gave', grew', steps) = (
  g ++ g',
  t ++ t',
  Gave-append given_old given given_new g g' None gave gave',
  Grew-append taken_old taken taken_new t t' grew grew',
  goes_on told steps,
)
over_step start now later (Some status) F E given_old given given_new taken_old taken taken_new none told steps = absurd (cc)

pub over_end : (start now later : Talk) (end : Option ℕ) (status : ℕ) (F E F' E' : Type 0) (given_old given given_new : Option (List Piece)) (taken_old taken taken_new : Option (List ℕ))
    → end ≡ Some status → (F → F') → (E → E') → OverPipes given_old given taken_old taken (Told start now)
    → OverPipes given given_new taken taken_new (Goes now later end F E)
    → OverPipes given_old given_new taken_old taken_new (λ g t. IsTalk start g t status F' E')
over_end start now later None status F E F' E' given_old given given_new taken_old taken taken_new some f e told ends = absurd (cc)
over_end start now later (Some last) status F E F' E' given_old given given_new taken_old taken taken_new some f e (g, t, gave, grew, told) (g', t', gave', grew', ends) = (
  g ++ g',
  t ++ t',
  Gave-append given_old given given_new g g' None gave gave',
  Grew-append taken_old taken taken_new t t' grew grew',
  record {
    now = now;
    given_before = g;
    taken_before = t;
    given_last = g';
    taken_last = t';
    told = told;
    ends = let same : last ≡ status = cc in subst (λ (s : ℕ). Ends now F' E' g' t' s) same (ends_by F' E' f e ends);
    all_given = refl;
    all_taken = refl;
  },
)

-- a round is a step only where less is left to be done
pub over_lighter : (now later : Talk) (status : Option ℕ) (F E : Type 0) (given given_new : Option (List Piece)) (taken taken_new : Option (List ℕ))
    → status ≡ None → OverPipes given given_new taken taken_new (Goes now later status F E) → weight later < weight now
over_lighter now later None F E given given_new taken taken_new none (g, t, gave, grew, steps) = lighter now later g t steps
over_lighter now later (Some status) F E given given_new taken taken_new none over = absurd (cc)

-- want of memory before anything was said
pub over_nothing : (start : Talk) (F E : Type 0) (given : Option (List Piece)) (taken : Option (List ℕ)) → OverPipes given given taken taken (λ g t. IsTalk start g t 7 F E)
over_nothing start F E given taken = (
  [],
  [],
  Gave-nothing given given refl,
  Grew-nothing taken taken refl,
  record {
    now = start;
    given_before = [];
    taken_before = [];
    given_last = [];
    taken_last = [];
    told = begins;
    ends = no_memory;
    all_given = refl;
    all_taken = refl;
  },
)

-- want of memory in a round
pub over_wanting : (now later : Talk) (F E : Type 0) (given : Option (List Piece)) (taken : Option (List ℕ)) → OverPipes given given taken taken (Goes now later (Some 7) F E)
over_wanting now later F E given taken = ([], [], Gave-nothing given given refl, Grew-nothing taken taken refl, no_memory)
