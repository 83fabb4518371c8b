-- The default provider of a package: it stands already, or is made.
use Rattle.std.proofs.Common.{◌≡◌, ℕ, Bool, true, false, List, ◌∷◌, length, Option, Some, None, is_some, if◌then◌else◌, sym, ap, ◌∙◌}
use Rattle.std.proofs.lemmas.Option.{none-some, same_Some}
use Rattle.pl_lemmas.proofs.Lists.{bytes_same}
use Rattle.pl_options.specs.Names.{default_provider_urn}
use Rattle.pl_state.specs.declared.goal.Goal.{Goal}
use Rattle.pl_model.specs.declared.fixed.Fixed.{Fixed}
use Rattle.pl_model.specs.Claims.{goal_number}
use Rattle.pl_model.specs.Known.{Known}
use Rattle.pl_model.specs.Requests.{default_goal, default_urn, has_goal, is_bad_default, with_default}
use Rattle.pl_requests.specs.Making.{Provides}
use Rattle.pl_requests.specs.Reading.{allowed_default}

-- ---- its URN

allowed_by : (bad : Bool) (made urn : List ℕ) → (if bad then None else Some made) ≡ Some urn → urn ≡ made
allowed_by true made urn e = absurd (none-some urn e)
allowed_by false made urn e = sym (same_Some made urn e)

pub allowed_is : (run : Fixed) (provided : List ℕ) (version : Option (List ℕ)) (urn : List ℕ)
    → allowed_default run provided version ≡ Some urn → urn ≡ default_provider_urn run.stack run.project provided version
allowed_is run provided version urn e =
    allowed_by (is_bad_default provided version) (default_provider_urn run.stack run.project provided version) urn e

-- ---- its goal and its number

module _ (known : Known) (provided : List ℕ) (version : Option (List ℕ)) where
  with_if : (has : Bool) → has_goal known (default_urn known provided version) ≡ has
      → with_default known provided version ≡ (if has then known.goals else default_goal known provided version ∷ known.goals)
  with_if has is = ap (λ (b : Bool). if b then known.goals else default_goal known provided version ∷ known.goals) is

  pub stands : (number : ℕ) → goal_number known.goals (default_urn known provided version) ≡ Some number
      → Provides known provided version (record { missing = None; number = Some number })
  stands number found =
      let same : with_default known provided version ≡ known.goals = with_if true (ap is_some found) in
      record {
        goals = sym same;
        number = sym (ap (λ (goals : List Goal). goal_number goals (default_urn known provided version)) same ∙ found);
      }

  pub is_made : goal_number known.goals (default_urn known provided version) ≡ None
      → Provides known provided version (record { missing = Some (default_goal known provided version); number = Some (length known.goals) })
  is_made none =
      let same : with_default known provided version ≡ default_goal known provided version ∷ known.goals = with_if false (ap is_some none) in
      let first : goal_number (default_goal known provided version ∷ known.goals) (default_urn known provided version) ≡ Some (length known.goals) =
      ap (λ (b : Bool). if b then Some (length known.goals) else goal_number known.goals (default_urn known provided version))
      (bytes_same (default_urn known provided version)) in
      record {
        goals = sym same;
        number = sym (ap (λ (goals : List Goal). goal_number goals (default_urn known provided version)) same ∙ first);
      }
