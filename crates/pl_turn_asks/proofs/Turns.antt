-- A turn, if it is that of the goal of a number.
use Rattle.std.proofs.Common.{◌≡◌, ◌==◌, ℕ, Bool, if◌then◌else◌, Option, None, Some, sym, ap, ◌∙◌, eq-eqb}
use Rattle.std.proofs.lemmas.Bool.{ne_eqb}
use Rattle.pl_model.specs.Decisions.{Turn as SeenTurn, number_at}
use Rattle.pl_turns.proofs.Turns.{number_is}
use Rattle.pl_turns.specs.Seen.{seen_turn}
use Rattle.pl_turns.specs.declared.turn.Turn.{Turn}

abbrev pub turn_at : ℕ → SeenTurn → Option SeenTurn
turn_at number turn = if number_at turn == number then Some turn else None

module _ (turn : Turn) (number : ℕ) where
  pub turn_there : turn.number ≡ number → Some (seen_turn turn) ≡ turn_at number (seen_turn turn)
  turn_there same =
      ap (λ (b : Bool). if b then Some (seen_turn turn) else None)
      (sym (eq-eqb (number_at (seen_turn turn)) number (number_is turn ∙ same)))

  pub turn_other : (turn.number ≡ number → ⊥) → None ≡ turn_at number (seen_turn turn)
  turn_other apart =
      ap (λ (b : Bool). if b then Some (seen_turn turn) else None)
      (sym (ne_eqb (number_at (seen_turn turn)) number (λ same. apart (sym (number_is turn) ∙ same))))
