-- What a goal refers to has numbers below its own, so it is recorded once all goals below are.
use Rattle.std.proofs.Common.{◌≡◌, ℕ, ◌<◌, ◌==◌, Bool, true, false, ◌&&◌, if◌then◌else◌, List, [], ◌∷◌, length, Option, Some, None, refl, ◌∙◌, ap, subst}
use Rattle.std.specs.List.{list_all}
use Rattle.std.proofs.lemmas.Option.{same_Some}
use Rattle.pl_lemmas.proofs.Options.{some_there}
use Rattle.pl_lemmas.proofs.Numbers.{equal_numbers}
use Rattle.pl_lemmas.proofs.Each.{Each, each_weaker}
use Rattle.pl_lemmas.specs.Words.{none_or, numbered, some_passes}
use Rattle.pl_state.specs.Kinds.{is_provided}
use Rattle.pl_state.specs.References.{further_urns}
use Rattle.pl_state.specs.declared.goal.Goal.{Goal}
use Rattle.pl_events.specs.declared.event.Event.{Event}
use Rattle.pl_model.specs.declared.fixed.Fixed.{Fixed}
use Rattle.pl_model.specs.Run.{HasNames}
use Rattle.pl_model.specs.Due.{is_recorded_urn, references_recorded}
use Rattle.pl_model.specs.History.{known_of}
use Rattle.pl_model.specs.Known.{Known, goal_at, is_recorded}
use Rattle.pl_model.specs.Legal.{IsOrderly}
use Rattle.pl_model_laws.proofs.Urns.Distinct.{IsApart, IsFree, apart_of}
use Rattle.pl_model_laws.proofs.References.Naming.{AllBelow, IsBelow, RefersBelow, all-below, below_more}

-- ---- by numbers

-- what is below stays so when a goal with a URN of its own is added
refers_more : (newest : Goal) (goals : List Goal) (n : ℕ) (goal : Goal) → IsFree goals newest.urn → RefersBelow goals n goal
    → RefersBelow (newest ∷ goals) n goal
refers_more newest goals n goal free h = record {
  parent = λ urn is. more urn (h.parent urn is);
  provider = h.provider;
  further = each_weaker (IsBelow goals n) (IsBelow (newest ∷ goals) n) more (further_urns goal) h.further;
  provided = h.provided;
}
  where
    more : (urn : List ℕ) → IsBelow goals n urn → IsBelow (newest ∷ goals) n urn
    more urn = below_more newest goals n urn free

-- so a goal of whatever number refers to goals below it
refers_at : (goals : List Goal) → IsApart goals → AllBelow goals → (n : ℕ) (goal : Goal) → numbered goals n ≡ Some goal
    → RefersBelow goals n goal
refers_at [] apart all n goal h = absurd (let e : None ≡ Some goal = h in cc)
refers_at (newest ∷ earlier) apart all n goal h = by (length earlier == n) refl h (refers_at earlier apart.0 all.0 n goal)
  where
    by : (b : Bool) → (length earlier == n) ≡ b → (if b then Some newest else numbered earlier n) ≡ Some goal
        → (numbered earlier n ≡ Some goal → RefersBelow earlier n goal) → RefersBelow (newest ∷ earlier) n goal
    by true is h rest =
        let own : RefersBelow earlier n newest =
        subst (λ (k : ℕ). RefersBelow earlier k newest) (equal_numbers (length earlier) n is) all.1 in
        subst (λ (it : Goal). RefersBelow (newest ∷ earlier) n it) (same_Some newest goal h)
        (refers_more newest earlier n newest apart.1 own)
    by false is h rest = refers_more newest earlier n goal apart.1 (rest h)

-- what a goal refers to are goals below it
pub references-below : (run : Fixed) (history : List Event) (n : ℕ) (goal : Goal) → HasNames run → IsOrderly run history
    → goal_at (known_of run history) n ≡ Some goal → RefersBelow (known_of run history).goals n goal
references-below run history n goal names orderly =
    refers_at (known_of run history).goals (apart_of run history names orderly) (all-below run history names orderly) n goal

-- a goal that is provided for has its provider below it
pub provided-named : (run : Fixed) (history : List Event) (n : ℕ) (goal : Goal) → HasNames run → IsOrderly run history
    → goal_at (known_of run history) n ≡ Some goal → is_provided goal ≡ true → (m : ℕ) × (goal.provider ≡ Some m) × (m < n)
provided-named run history n goal names orderly stands provided =
    let refers = references-below run history n goal names orderly stands in
    let named = some_there goal.provider (refers.provided provided) in
    (named.0, named.1, refers.provider named.0 named.1)

-- ---- recorded references

-- what passes for each, all pass
all_of_each : {X : Type 0} (test : X → Bool) (xs : List X) → Each (λ x. test x ≡ true) xs → list_all test xs ≡ true
all_of_each test [] h = refl
all_of_each test (x ∷ xs) h = ap (λ (b : Bool). b && list_all test xs) h.0 ∙ all_of_each test xs h.1

module _ (known : Known) (n : ℕ) (goal : Goal) (refers : RefersBelow known.goals n goal)
    (recorded : (m : ℕ) → m < n → is_recorded known m ≡ true) where
  -- a URN below is that of a recorded goal
  urn_recorded : (urn : List ℕ) → IsBelow known.goals n urn → is_recorded_urn known urn ≡ true
  urn_recorded urn below = ap (λ (o : Option ℕ). some_passes (is_recorded known) o) below.1 ∙ recorded below.0 below.2

  urns_recorded : (urns : List (List ℕ)) → Each (IsBelow known.goals n) urns → list_all (is_recorded_urn known) urns ≡ true
  urns_recorded urns below =
      all_of_each (is_recorded_urn known) urns
      (each_weaker (IsBelow known.goals n) (λ (urn : List ℕ). is_recorded_urn known urn ≡ true) urn_recorded urns below)

  parent_recorded : (o : Option (List ℕ)) → ((urn : List ℕ) → o ≡ Some urn → IsBelow known.goals n urn) → none_or (is_recorded_urn known) o ≡ true
  parent_recorded None below = refl
  parent_recorded (Some urn) below = urn_recorded urn (below urn refl)

  provider_recorded : (o : Option ℕ) → ((m : ℕ) → o ≡ Some m → m < n) → none_or (is_recorded known) o ≡ true
  provider_recorded None low = refl
  provider_recorded (Some m) low = recorded m (low m refl)

  all_references : references_recorded known goal ≡ true
  all_references =
      three (none_or (is_recorded_urn known) goal.parent) (none_or (is_recorded known) goal.provider)
      (list_all (is_recorded_urn known) (further_urns goal))
      (parent_recorded goal.parent refers.parent) (provider_recorded goal.provider refers.provider)
      (urns_recorded (further_urns goal) refers.further)
    where
      three : (a b c : Bool) → a ≡ true → b ≡ true → c ≡ true → (a && b && c) ≡ true
      three true true true first second third = refl
      three true true false first second third = absurd (let e : false ≡ true = third in cc)
      three true false c first second third = absurd (let e : false ≡ true = second in cc)
      three false b c first second third = absurd (let e : false ≡ true = first in cc)

-- where the goals below a goal are recorded, those of its references are
pub references-ready : (run : Fixed) (history : List Event) (n : ℕ) (goal : Goal) → HasNames run → IsOrderly run history
    → ((m : ℕ) → m < n → is_recorded (known_of run history) m ≡ true) → goal_at (known_of run history) n ≡ Some goal
    → references_recorded (known_of run history) goal ≡ true
references-ready run history n goal names orderly recorded stands =
    all_references (known_of run history) n goal (references-below run history n goal names orderly stands) recorded
