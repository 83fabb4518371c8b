-- What is decided of the first goal that is not decided.
use Rattle.std.proofs.Common.{◌≡◌, Bool, true, false, ◌==◌, if◌then◌else◌, List, [], ◌∷◌, length, Option, Some, None, option_and_then, option_map, refl, sym, ap, ◌∙◌}
use Rattle.std.proofs.lemmas.Option.{none-some, same_Some}
use Rattle.std.specs.Option.{IfSome}
use Rattle.pl_state.specs.declared.goal.Diffed.{Diffed}
use Rattle.pl_state.specs.declared.goal.Goal.{Goal}
use Rattle.pl_model.specs.declared.decided.Decided.{Decided}
use Rattle.pl_model.specs.declared.errand.Closed.{Closed}
use Rattle.pl_model.specs.declared.fixed.Fixed.{Fixed}
use Rattle.pl_model.specs.Claims.{chain_of_goal}
use Rattle.pl_model.specs.Decisions.{Turn as SeenTurn, checked_at, decided_at, decided_by, diff_at, turn_in, turn_of}
use Rattle.pl_model.specs.Run.{Pairs}
use Rattle.pl_turns.specs.Seen.{seen_turn}
use Rattle.pl_turns.specs.declared.decided.Settled.{Settled}
use Rattle.pl_turns.specs.declared.turn.Turn.{Turn}

-- ---- what is decided at a turn, by its diff

pub decided_with_diff : (turn : SeenTurn) (diff : Option Diffed) → diff_at turn ≡ Some diff
    → option_map (λ checked. decided_by turn checked diff) (checked_at turn) ≡ decided_at turn
decided_with_diff turn diff known =
    by (checked_at turn)
    ∙ sym (ap (λ (d : Option (Option Diffed)). option_and_then (λ checked. option_map (decided_by turn checked) d) (checked_at turn)) known)
  where
    by : (o : Option Pairs) → option_map (λ checked. decided_by turn checked diff) o
        ≡ option_and_then (λ checked. option_map (decided_by turn checked) (Some diff)) o
    by None = refl
    by (Some checked) = refl

pub none_decided : (turn : SeenTurn) → diff_at turn ≡ None → None ≡ decided_at turn
none_decided turn awaited =
    by (checked_at turn)
    ∙ sym (ap (λ (d : Option (Option Diffed)). option_and_then (λ checked. option_map (decided_by turn checked) d) (checked_at turn)) awaited)
  where
    by : (o : Option Pairs) → None ≡ option_and_then (λ checked. option_map (decided_by turn checked) None) o
    by None = refl
    by (Some checked) = refl

-- ---- the next turn is over the run

over_same : (run : Fixed) (answers : List Closed) (goals : List Goal) (decided : List Decided) (turn : SeenTurn)
    → turn_in run answers goals decided ≡ Some turn → turn.run ≡ run
over_same run answers [] decided turn next = absurd (none-some turn next)
over_same run answers (goal ∷ earlier) decided turn next =
    by (length earlier == length decided) next (over_same run answers earlier decided turn)
  where
    by : (b : Bool) → (if b then Some (turn_of run answers earlier decided goal) else turn_in run answers earlier decided) ≡ Some turn
        → (turn_in run answers earlier decided ≡ Some turn → turn.run ≡ run) → turn.run ≡ run
    by true here rest =
        let same : turn_of run answers earlier decided goal ≡ turn = same_Some (turn_of run answers earlier decided goal) turn here in
        ap (λ (it : SeenTurn). it.run) (sym same)
    by false later rest = rest later

module _ (turn : Turn) (run : Fixed) (answers : List Closed) (goals : List Goal) (decided : List Decided)
    (next : Some (seen_turn turn) ≡ turn_in run answers goals decided) where
  same_run : turn.claims.now.run ≡ run
  same_run = over_same run answers goals decided (seen_turn turn) (sym next)

  pub next_chain : (made : Option Settled) → IfSome made (λ one. one.chain ≡ chain_of_goal turn.claims.now.run one.decided)
      → IfSome made (λ one. one.chain ≡ chain_of_goal run one.decided)
  next_chain None is = tt
  next_chain (Some one) is = is ∙ ap (λ (fixed : Fixed). chain_of_goal fixed one.decided) same_run
