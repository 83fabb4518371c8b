-- The turn of the first goal that is not decided, where it is that of a goal.
use Rattle.std.proofs.Common.{◌≡◌, ◌≢◌, ◌∙◌, ℕ, ◌==◌, Bool, false, ◌&&◌, sym, ap, arith}
use Rattle.std.proofs.lemmas.Bool.Decides.{nat_tests}
use Rattle.pl_lemmas.proofs.Numbers.{same_number}
use Rattle.pl_model.specs.Decisions.{Turn as SeenTurn, number_at}
use Rattle.pl_turns.specs.Seen.{seen_turn}
use Rattle.pl_turns.specs.declared.turn.Turn.{Turn}
use Rattle.pl_turns.proofs.Turns.{number_is}

other_number : (a b : ℕ) → a ≢ b → (a == b) ≡ false
other_number a b h = grind (arith, nat_tests)

pub turn_here : (turn : Turn) (number : ℕ) (test : SeenTurn → Bool) → turn.number ≡ number
    → test (seen_turn turn) ≡ (number_at (seen_turn turn) == number && test (seen_turn turn))
turn_here turn number test same =
    ap (λ (b : Bool). b && test (seen_turn turn))
    (sym (ap (λ (n : ℕ). n == number) (number_is turn ∙ same) ∙ same_number number))

pub turn_elsewhere : (turn : Turn) (number : ℕ) (test : SeenTurn → Bool) → turn.number ≢ number
    → false ≡ (number_at (seen_turn turn) == number && test (seen_turn turn))
turn_elsewhere turn number test other =
    ap (λ (b : Bool). b && test (seen_turn turn))
    (sym (ap (λ (n : ℕ). n == number) (number_is turn) ∙ other_number turn.number number other))
