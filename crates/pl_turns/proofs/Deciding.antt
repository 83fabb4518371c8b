-- What is decided at last, where the table's decision has passed the limits already.
use Rattle.std.proofs.Common.{◌≡◌, ℕ, Bool, true, false, if◌then◌else◌, List, Option, Some, None, refl, sym, ap, ◌∙◌}
use Rattle.pl_decide.specs.Limited.{final_decision, first_refusal, is_delete_first, limited, own_refusal, refused_by}
use Rattle.pl_decide.specs.declared.decision.Decision.{Decision}
use Rattle.pl_decide.specs.declared.limits.Limits.{Limits}
use Rattle.pl_decide.specs.declared.problem.Problem.{Problem}
use Rattle.pl_state.specs.declared.entry.Entry.{Entry}
use Rattle.pl_state.specs.declared.goal.Goal.{Goal}

module _ (limits : Limits) (claim : Option Entry) (goal : Goal) (claims : ℕ → Bool) (chain : List (ℕ × Entry)) (decision : Decision) where
  abbrev own : Option Problem
  own = own_refusal limits claim goal decision

  -- a refusal deletes nothing first
  refusal_last : (problem : Option Problem) → is_delete_first decision ≡ false → is_delete_first (refused_by problem decision) ≡ false
  refusal_last None last = last
  refusal_last (Some problem) last = refl

  limited_first : is_delete_first decision ≡ true → limited limits claim goal decision ≡ decision
  limited_first first = ap (λ (b : Bool). if b then decision else refused_by own decision) first

  limited_last : is_delete_first decision ≡ false → limited limits claim goal decision ≡ refused_by own decision
  limited_last last = ap (λ (b : Bool). if b then decision else refused_by own decision) last

  abbrev final_by : Bool → Decision
  final_by first =
      if first then refused_by (first_refusal limits claim goal claims chain decision) decision else limited limits claim goal decision

  pub final_first : is_delete_first (limited limits claim goal decision) ≡ true
      → final_decision limits claim goal claims chain decision
      ≡ refused_by (first_refusal limits claim goal claims chain (limited limits claim goal decision)) (limited limits claim goal decision)
  final_first is = by (is_delete_first decision) refl
    where
      by : (b : Bool) → is_delete_first decision ≡ b
          → final_decision limits claim goal claims chain decision
          ≡ refused_by (first_refusal limits claim goal claims chain (limited limits claim goal decision)) (limited limits claim goal decision)
      by true first =
          ap final_by first
          ∙ sym (ap (λ (made : Decision). refused_by (first_refusal limits claim goal claims chain made) made) (limited_first first))
      by false last =
          absurd (let e : true ≡ false = sym is ∙ ap is_delete_first (limited_last last) ∙ refusal_last own last in cc)

  pub final_last : is_delete_first (limited limits claim goal decision) ≡ false
      → final_decision limits claim goal claims chain decision ≡ limited limits claim goal decision
  final_last is = by (is_delete_first decision) refl
    where
      by : (b : Bool) → is_delete_first decision ≡ b
          → final_decision limits claim goal claims chain decision ≡ limited limits claim goal decision
      by true first = absurd (let e : true ≡ false = sym first ∙ ap is_delete_first (sym (limited_first first)) ∙ is in cc)
      by false last = ap final_by last
