-- What a lane was given where each operation's frame is one piece.
use Rattle.std.proofs.Common.{◌≡◌, ℕ, Bool, true, false, ◌&&◌, if◌then◌else◌, Option, None, Some, is_some, List, [], ◌∷◌, ◌++◌, refl, inl, append-nil}
use Rattle.std.proofs.lemmas.Bool.{and_parts}
use Rattle.std.proofs.lemmas.List.Elements.{All-cons, All-nil}
use Rattle.pl_world.specs.Told.{Bears, Piece}
use Rattle.pl_events.specs.declared.event.Event.{Event}
use Rattle.pl_events.specs.declared.event.What.{What}
use Rattle.pl_events.specs.declared.event.What.TheVariants.{Told, HostGone, Begun, Answered, Lost, Kept, Dropped, Cleared, Posted, Stopped}
use Rattle.pl_events.specs.declared.operation.Ask.{Ask}
use Rattle.pl_events.specs.declared.operation.Op.{Op}
use Rattle.pl_model.specs.declared.fixed.Fixed.{Fixed}
use Rattle.pl_model.specs.Asked.{ask_of}
use Rattle.pl_model.specs.History.{known_of}
use Rattle.pl_model.specs.Known.{Known}
use Rattle.pl_model.specs.LaneLines.{Asks, GaveIf, GaveNext, LaneGave, ask_frame, is_begun_on, piece_cover, was_lost}
use Rattle.pl_model.specs.Run.{Spelling}

-- whether an event that begins an operation has something to ask
abbrev asks_something : Known → What → Bool
asks_something known (Begun ticket lane about) = is_some (ask_of known about)
asks_something known _ = true

abbrev pub are_asked : Fixed → List Event → Bool
are_asked run [] = true
are_asked run (event ∷ past) = are_asked run past && asks_something (known_of run past) event.what

module _ (run : Fixed) (spelling : Spelling) (history : List Event) (lane : ℕ) where
  -- an operation's frame in one piece
  abbrev pieces_for : List Event → Event → ℕ → Op → Option Ask → List Piece
  pieces_for past event ticket about None = []
  pieces_for past event ticket about (Some asked) = (ask_frame spelling ticket asked, piece_cover run spelling past event about) ∷ []

  abbrev with_pieces : List Event → Event → What → List Piece → List Piece
  with_pieces past event (Begun ticket other about) before = before ++ pieces_for past event ticket about (ask_of (known_of run past) about)
  with_pieces past event _ before = before

  -- the pieces of the operations that were begun on the lane
  abbrev pub pieces_of : List Event → List Piece
  pieces_of [] = []
  pieces_of (event ∷ past) = if is_begun_on lane event.what then with_pieces past event event.what (pieces_of past) else pieces_of past

  asks : (past : List Event) (event : Event) (ticket : ℕ) (about : Op) (asked : Option Ask) → ask_of (known_of run past) about ≡ asked
      → is_some asked ≡ true → Asks run spelling history past event ticket about (pieces_for past event ticket about asked)
  asks past event ticket about None is h = absurd (let e : false ≡ true = h in cc)
  asks past event ticket about (Some asked) is h = (
    asked,
    is,
    inl (record {
      in_order = append-nil (ask_frame spelling ticket asked);
      covered =
          let cover = piece_cover run spelling past event about in
          All-cons (λ (piece : Piece). piece.1 ≡ cover) (ask_frame spelling ticket asked, cover) [] refl (All-nil (λ (piece : Piece). piece.1 ≡ cover));
    }),
  )

  next_gave : (past : List Event) (event : Event) (what : What) (before : List Piece) (begun : Bool)
      → asks_something (known_of run past) what ≡ true → LaneGave run spelling history lane past before
      → GaveIf begun (GaveNext run spelling history past event what (LaneGave run spelling history lane past))
      (LaneGave run spelling history lane past) (if begun then with_pieces past event what before else before)
  next_gave past event what before false h held = held
  next_gave past event (Begun ticket other about) before true h held =
      (before, pieces_for past event ticket about (ask_of (known_of run past) about), held, asks past event ticket about (ask_of (known_of run past) about) refl h, refl)
  next_gave past event _ before true h held = held

  pub lane_gave : (past : List Event) → are_asked run past ≡ true → LaneGave run spelling history lane past (pieces_of past)
  lane_gave [] h = refl
  lane_gave (event ∷ past) h =
      let parts = and_parts (are_asked run past) (asks_something (known_of run past) event.what) h in
      next_gave past event event.what (pieces_of past) (is_begun_on lane event.what) parts.1 (lane_gave past parts.0)
