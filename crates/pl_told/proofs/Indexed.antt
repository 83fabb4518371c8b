-- The indexes with one goal more, and with one told request more.
use Rattle.std.proofs.Common.{◌≡◌, ℕ, cond, List, [], ◌∷◌, ◌++◌, length, reverse, Option, Some, sym, ap, ◌∙◌}
use Rattle.std.proofs.lemmas.List.{length-reverse}
use Rattle.std.specs.HashMap.{HashMap, get_by_text}
use Rattle.std.specs.Str.{bytes_eq}
use Rattle.std.specs.Prelude.{String}
use Rattle.pl_state.specs.declared.goal.Goal.{Goal}
use Rattle.pl_model.specs.Claims.{goal_number}
use Rattle.pl_told.specs.Index.{FindsGoals}
use Rattle.pl_told.proofs.Places.{reverse-push}

pub finds_goal : {Y S : Type 0} (old new : HashMap (String Y) ℕ S) (goals : List Goal) (goal : Goal) → FindsGoals old goals
    → ((urn : List ℕ) → get_by_text new urn ≡ cond (bytes_eq goal.urn urn) (Some (length goals)) (get_by_text old urn))
    → FindsGoals new (goals ++ goal ∷ [])
finds_goal old new goals goal finds updates urn =
    updates urn
    ∙ ap (λ (o : Option ℕ). cond (bytes_eq goal.urn urn) (Some (length goals)) o) (finds urn)
    ∙ ap (λ (n : ℕ). cond (bytes_eq goal.urn urn) (Some n) (goal_number (reverse goals) urn)) (sym (length-reverse goals))
    ∙ ap (λ (l : List Goal). goal_number l urn) (sym (reverse-push goals goal))
