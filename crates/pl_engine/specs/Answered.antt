-- What a post does to the history and to the writing half.
use Rattle.std.specs.Prelude.{◌≡◌, ◌⊎◌, ℕ, Bool, true, false, All, IfSome, List, ◌∷◌, Option, None}
use Rattle.pl_model.specs.Frames.{Causes}
use Rattle.pl_state.specs.declared.goal.Goal.{Goal}
use Rattle.pl_events.specs.declared.event.Event.{Event}
use Rattle.pl_events.specs.declared.event.Stop.{Stop}
use Rattle.pl_world.specs.Counts.{Rose}
use Rattle.pl_world.specs.Told.{Piece, bytes_of}
use Rattle.pl_components.specs.Run.{Fixed}
use Rattle.pl_components.specs.HostLines.{HostGave, HostTook, answers_of}
use Rattle.pl_engine.specs.Spelled.{host_spelling}
use Rattle.pl_engine.specs.Journal.{posted_event, stop_event}
use Rattle.pl_engine.specs.declared.journal.Journal.{Journal}

abbrev pub urn_of : Goal → List ℕ
urn_of goal = goal.urn

-- the history is the same, or a stop was added
abbrev pub Stops : List Event → List Event → Type 0
Stops old new = (new ≡ old) ⊎ ((stop : Stop) × (new ≡ stop_event stop ∷ old))

-- the answer is in the history; or the half failed, and the history is the same or takes a stop
abbrev pub Gives : ℕ → Bool → List Event → List Event → Type 0
Gives n false old new = new ≡ posted_event n ∷ old
Gives n true old new = Stops old new

-- the same after the stop that an answer asks for which would be too long
abbrev pub Answers : ℕ → Bool → List Event → List Event → Type 0
Answers n failed old new = (middle : List Event) × Stops old middle × Gives n failed middle new

-- the pieces are the answers, and none has a cover
pub record IsAnswered (run : Fixed) (history : List Event) (pieces : List Piece) : Type 0 where
  pub uncovered : All (λ piece. piece.1 ≡ None) pieces
  pub exact : bytes_of pieces ≡ answers_of run host_spelling history

-- how the writing half stands to the history: it was given the answers, until it failed
pub record Written (run : Fixed) (faults : ℕ) (wanted failed : Bool) (history : List Event)
    (given : Option (List Piece)) : Type 0 where
  pub exact : failed ≡ false → IfSome given (IsAnswered run history)
  pub loose : failed ≡ true → IfSome given
      (HostGave run host_spelling (record { faults = faults; ends = 0; wanted = wanted }) history)
  pub cause : failed ≡ true → Rose 0 faults ⊎ (wanted ≡ true)

-- where the half stood so to the history, it stands so again
abbrev pub KeepsWritten : Fixed → Journal → Journal → Bool → Bool → ℕ → ℕ → Option (List Piece) → Option (List Piece) → Type 0
KeepsWritten run old new failed failed' faults faults' given given' =
    Written run faults old.wanted failed old.history given
    → Written run faults' new.wanted failed' new.history given'

-- how the half that is read stands: what was taken is what the history says, whatever the causes
abbrev pub Taken : Fixed → List Event → Option (List ℕ) → Type 0
Taken run history taken = (half : Causes) → IfSome taken (HostTook run host_spelling half history)
