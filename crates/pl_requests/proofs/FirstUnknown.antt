-- The first reference of a registration that names no earlier goal.
use Rattle.std.proofs.Common.{◌≡◌, ℕ, Bool, true, false, not, cond, List, [], ◌∷◌, ◌++◌, Option, Some, None, refl, sym, ap, ◌∙◌}
use Rattle.std.specs.List.{filter, find}
use Rattle.std.specs.Option.{option_or}
use Rattle.std.proofs.lemmas.List.Folds.{find-append}
use Rattle.pl_lemmas.specs.Words.{first_in, option_list}
use Rattle.pl_options.specs.GoalOf.{given}
use Rattle.pl_state.specs.References.{further_urns, property_urns}
use Rattle.pl_state.specs.declared.goal.Goal.{Goal}
use Rattle.pl_state.specs.declared.goal.Registration.{Registration}
use Rattle.pl_model.specs.Known.{Known}
use Rattle.pl_model.specs.Requests.{has_goal, is_met_reference, unknown_references}
use Rattle.pl_requests.specs.Ids.{TellsIds}
use Rattle.pl_requests.specs.Reading.{is_unknown, is_unmet_text}
use Rattle.pl_requests.proofs.References.{met_is}

-- the first thing of a filtered list and another list
first-filter : {X : Type 0} (p : X → Bool) (xs ys : List X) → first_in (filter p xs ++ ys) ≡ option_or (find p xs) (first_in ys)
first-filter p [] ys = refl
first-filter {X = X} p (x ∷ xs) ys = by (first-filter p xs ys) (p x)
  where
    by : first_in (filter p xs ++ ys) ≡ option_or (find p xs) (first_in ys) → (b : Bool) → first_in (cond b (x ∷ filter p xs) (filter p xs) ++ ys) ≡ option_or (cond b (Some x) (find p xs)) (first_in ys)
    by rest true = refl
    by rest false = rest

first-filtered : {X : Type 0} (p : X → Bool) (xs : List X) → first_in (filter p xs) ≡ find p xs
first-filtered p [] = refl
first-filtered {X = X} p (x ∷ xs) = by (first-filtered p xs) (p x)
  where
    by : first_in (filter p xs) ≡ find p xs → (b : Bool) → first_in (cond b (x ∷ filter p xs) (filter p xs)) ≡ cond b (Some x) (find p xs)
    by rest true = refl
    by rest false = rest

-- it is looked for in the parent, in the provider, and in the further URNs
pub first_unknown : (ids : List (Option (List ℕ))) (known : Known) → TellsIds ids known → (told : Registration) (goal : Goal)
    → option_or (find (is_unknown known.goals) (option_list goal.parent))
    (option_or (find (is_unmet_text known.goals ids) (option_list (given told.provider))) (find (is_unknown known.goals) (further_urns goal)))
    ≡ first_in (unknown_references known told goal)
first_unknown ids known tells told goal =
    let met : find (is_unmet_text known.goals ids) (option_list (given told.provider)) ≡ find (λ text. not (is_met_reference known text)) (option_list (given told.provider)) =
    (λ i. find (λ text. not (met_is ids known tells text i)) (option_list (given told.provider))) in
    ap (λ (o : Option (List ℕ)). option_or (find (is_unknown known.goals) (option_list goal.parent)) (option_or o (find (is_unknown known.goals) (further_urns goal)))) met
    ∙ sym (first-filter (λ urn. not (has_goal known urn)) (option_list goal.parent)
    (filter (λ text. not (is_met_reference known text)) (option_list (given told.provider)) ++ filter (λ urn. not (has_goal known urn)) (further_urns goal))
    ∙ ap (option_or (find (is_unknown known.goals) (option_list goal.parent)))
    (first-filter (λ text. not (is_met_reference known text)) (option_list (given told.provider)) (filter (λ urn. not (has_goal known urn)) (further_urns goal))
    ∙ ap (option_or (find (λ text. not (is_met_reference known text)) (option_list (given told.provider))))
    (first-filtered (λ urn. not (has_goal known urn)) (further_urns goal))))

-- the same, where what is found in each of them is known
pub unknown_by : (ids : List (Option (List ℕ))) (known : Known) → TellsIds ids known → (told : Registration) (goal : Goal)
    → (parent provider further : Option (List ℕ))
    → find (is_unknown known.goals) (option_list goal.parent) ≡ parent
    → find (is_unmet_text known.goals ids) (option_list (given told.provider)) ≡ provider
    → find (is_unknown known.goals) (further_urns goal) ≡ further
    → option_or parent (option_or provider further) ≡ first_in (unknown_references known told goal)
unknown_by ids known tells told goal parent provider further a b c =
    (λ i. option_or (sym a i) (option_or (sym b i) (sym c i))) ∙ first_unknown ids known tells told goal

-- ---- the further URNs

module _ (test : List ℕ → Bool) (goal : Goal) where
  abbrev in_dependencies : Option (List ℕ)
  in_dependencies = find test goal.dependencies

  abbrev in_properties : Option (List ℕ)
  in_properties = find test (property_urns goal.property_dependencies)

  abbrev in_deleter : Option (List ℕ)
  in_deleter = find test (option_list goal.deleted_with)

  further_parts : find test (further_urns goal) ≡ option_or in_dependencies (option_or in_properties in_deleter)
  further_parts =
      find-append test goal.dependencies (property_urns goal.property_dependencies ++ option_list goal.deleted_with)
      ∙ ap (option_or in_dependencies) (find-append test (property_urns goal.property_dependencies) (option_list goal.deleted_with))

  pub among_dependencies : (urn : List ℕ) → find test goal.dependencies ≡ Some urn → find test (further_urns goal) ≡ Some urn
  among_dependencies urn found = further_parts ∙ ap (λ (o : Option (List ℕ)). option_or o (option_or in_properties in_deleter)) found

  pub among_properties : (urn : List ℕ) → find test goal.dependencies ≡ None
      → find test (property_urns goal.property_dependencies) ≡ Some urn → find test (further_urns goal) ≡ Some urn
  among_properties urn none found = further_parts ∙ (λ i. option_or (none i) (option_or (found i) in_deleter))

  pub as_deleter : find test goal.dependencies ≡ None → find test (property_urns goal.property_dependencies) ≡ None
      → find test (further_urns goal) ≡ find test (option_list goal.deleted_with)
  as_deleter none empty = further_parts ∙ (λ i. option_or (none i) (option_or (empty i) in_deleter))
