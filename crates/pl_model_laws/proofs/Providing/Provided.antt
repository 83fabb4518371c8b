-- The provider of each goal is an earlier goal that is a provider.
use Rattle.std.proofs.Common.{◌≡◌, ℕ, ◌==◌, Bool, true, false, ◌&&◌, if◌then◌else◌, List, [], ◌∷◌, length, Option, Some, None, is_none, Ok, Err, refl, sym, ◌∙◌, ap, subst, option_and_then}
use Rattle.std.proofs.lemmas.Slice.Eq.{bytes_eq-Decides}
use Rattle.std.proofs.lemmas.Option.{same_Some}
use Rattle.pl_lemmas.proofs.Truth.{and_right}
use Rattle.pl_lemmas.proofs.Each.{Each, each_weaker}
use Rattle.pl_urn.specs.Grammar.{IsScope, child_fault, package_of, urn_fault}
use Rattle.pl_options.specs.GoalOf.{GoalResult, given, goal_of}
use Rattle.pl_options.specs.Names.{default_name, provider_type}
use Rattle.pl_reference.specs.Reference.{after_last_cut, before_last_cut, is_provider_urn, is_reference, reference_in}
use Rattle.pl_state.specs.Kinds.{is_of_provider, is_provider_goal}
use Rattle.pl_state.specs.declared.goal.Goal.{Goal}
use Rattle.pl_state.specs.declared.goal.Registration.{Registration}
use Rattle.pl_events.specs.declared.event.Event.{Event}
use Rattle.pl_events.specs.declared.event.Request.{Request}
use Rattle.pl_events.specs.declared.event.Request.TheVariants.{Register, Outputs, Invoke}
use Rattle.pl_events.specs.declared.event.What.{What}
use Rattle.pl_events.specs.declared.event.What.TheVariants.{Told}
use Rattle.pl_decide.specs.declared.problem.Problem.{Problem}
use Rattle.pl_model.specs.declared.fixed.Fixed.{Fixed}
use Rattle.pl_model.specs.declared.heard.Fate.TheVariants.{Halted as halted}
use Rattle.pl_model.specs.Run.{HasNames}
use Rattle.pl_lemmas.specs.Words.{numbered}
use Rattle.pl_model.specs.Claims.{goal_number}
use Rattle.pl_model.specs.History.{goals_after, known_of}
use Rattle.pl_model.specs.Known.{Known, has_problem}
use Rattle.pl_model.specs.Legal.{IsOrderly, MayHappen}
use Rattle.pl_model.specs.Requests.{default_goal, default_urn, fate_by, fate_of, goals_by, goals_made, has_goal, invoked_version, is_bad_default, named_provider, refusal_of, result_refusal, uses_default, with_default, with_goal, with_invoked, with_provider, with_result}
use Rattle.pl_model_stays.proofs.Lists.Growing.{Grown, grown_more, grown_not, numbered_grown}
use Rattle.pl_model_laws.proofs.Urns.Distinct.{IsAllowed, IsAllowed-from_refusal, default_is_provider, names-there, none_left, told-names}
use Rattle.pl_model_laws.proofs.References.Referring.{ProvidersProvide, number_found}

-- the provider of a goal stands among the goals, and is a provider
abbrev IsProvided : List Goal → Goal → Type 0
IsProvided goals goal = (own : ℕ) → goal.provider ≡ Some own → (other : Goal) × (numbered goals own ≡ Some other) × (is_provider_goal other ≡ true)

abbrev AllProvided : List Goal → Type 0
AllProvided goals = Each (IsProvided goals) goals

provided_more : (earlier later : List Goal) → Grown earlier later → (goal : Goal) → IsProvided earlier goal → IsProvided later goal
provided_more earlier later grown goal h = λ own is.
    let found = h own is in (found.0, numbered_grown earlier later own found.0 grown found.1, found.2)

all_more : (newest : Goal) (goals : List Goal) → IsProvided (newest ∷ goals) newest → AllProvided goals → AllProvided (newest ∷ goals)
all_more newest goals own all = (
  own,
  each_weaker (IsProvided goals) (IsProvided (newest ∷ goals))
      (provided_more goals (newest ∷ goals) (grown_more newest goals goals (grown_not goals))) goals all,
)

-- a goal without a provider needs none
provided_none : (goals : List Goal) (goal : Goal) → goal.provider ≡ None → IsProvided goals goal
provided_none goals goal none = λ own is. absurd (let e : None ≡ Some own = sym none ∙ is in cc)

all_default : (known : Known) (provided : List ℕ) (version : Option (List ℕ)) → AllProvided known.goals → AllProvided (with_default known provided version)
all_default known provided version all = by (has_goal known (default_urn known provided version))
  where
    by : (b : Bool) → AllProvided (if b then known.goals else default_goal known provided version ∷ known.goals)
    by true = all
    by false = all_more (default_goal known provided version) known.goals
        (provided_none (default_goal known provided version ∷ known.goals) (default_goal known provided version) refl) all

-- the URN of a provider reference is that of a provider
reference_names : (text : List ℕ) (pair : List ℕ × List ℕ) → reference_in text ≡ Some pair → is_of_provider pair.0 ≡ true
unfolding reference_in is_reference is_provider_urn
reference_names text pair h = by (is_reference text) refl h
  where
    by : (b : Bool) → is_reference text ≡ b → (if b then Some (before_last_cut text, after_last_cut text) else None) ≡ Some pair → is_of_provider pair.0 ≡ true
    by true is h =
        subst (λ (one : List ℕ × List ℕ). is_of_provider one.0 ≡ true) (same_Some (before_last_cut text, after_last_cut text) pair h)
        (and_right (is_none (urn_fault (before_last_cut text))) (is_of_provider (before_last_cut text))
        (and_right _ (is_provider_urn (before_last_cut text)) (and_right _ _ is)))
    by false is h = absurd (let e : None ≡ Some pair = h in cc)

-- the goal that a number of a provider's URN names
named_is : (goals : List Goal) (urn : List ℕ) (own : ℕ) → is_of_provider urn ≡ true → goal_number goals urn ≡ Some own
    → (other : Goal) × (numbered goals own ≡ Some other) × (is_provider_goal other ≡ true)
named_is goals urn own of_provider h =
    let found = number_found goals urn own h in
    (found.0, found.1, ap (λ (text : List ℕ). is_of_provider text) ((bytes_eq-Decides found.0.urn urn).0 found.2) ∙ of_provider)

named_provider_is : (known : Known) (text : Option (List ℕ)) (own : ℕ) → named_provider known text ≡ Some own
    → (other : Goal) × (numbered known.goals own ≡ Some other) × (is_provider_goal other ≡ true)
named_provider_is known None own h = absurd (let e : None ≡ Some own = h in cc)
named_provider_is known (Some text) own h = by (reference_in text) refl h
  where
    by : (o : Option (List ℕ × List ℕ)) → reference_in text ≡ o
        → option_and_then (λ (reference : List ℕ × List ℕ). goal_number known.goals reference.0) o ≡ Some own
        → (other : Goal) × (numbered known.goals own ≡ Some other) × (is_provider_goal other ≡ true)
    by None is h = absurd (let e : None ≡ Some own = h in cc)
    by (Some pair) is h = named_is known.goals pair.0 own (reference_names text pair is) h

module _ (known : Known) (in_stack : IsScope known.run.stack) (in_project : IsScope known.run.project) (all : AllProvided known.goals) where
  all_with : (told : Registration) (goal : Goal) → IsAllowed known told goal → AllProvided (with_goal known told goal)
  all_with told goal allowed = by (uses_default told goal) refl allowed.default_made
    where
      made_default : is_bad_default (package_of goal.urn) goal.version ≡ false → is_of_provider (default_urn known (package_of goal.urn) goal.version) ≡ true
      made_default made = default_is_provider known.run.stack known.run.project (package_of goal.urn) goal.version in_stack in_project
          (none_left (child_fault (provider_type (package_of goal.urn)) (default_name goal.version)) made)

      using : is_bad_default (package_of goal.urn) goal.version ≡ false
          → AllProvided (with_provider (with_default known (package_of goal.urn) goal.version) (default_urn known (package_of goal.urn) goal.version) goal)
      using made =
          let goals = with_default known (package_of goal.urn) goal.version in
          let urn = default_urn known (package_of goal.urn) goal.version in
          let newest : Goal = record goal { provider = goal_number goals urn } in
          all_more newest goals
          (provided_more goals (newest ∷ goals) (grown_more newest goals goals (grown_not goals)) newest
          (λ own is. named_is goals urn own (made_default made) is))
          (all_default known (package_of goal.urn) goal.version all)

      naming : AllProvided (record goal { provider = named_provider known (given told.provider) } ∷ known.goals)
      naming =
          let newest : Goal = record goal { provider = named_provider known (given told.provider) } in
          all_more newest known.goals
          (provided_more known.goals (newest ∷ known.goals) (grown_more newest known.goals known.goals (grown_not known.goals)) newest
          (λ own is. named_provider_is known (given told.provider) own is))
          all

      by : (b : Bool) → uses_default told goal ≡ b → (b && is_bad_default (package_of goal.urn) goal.version) ≡ false
          → AllProvided (if b
          then with_provider (with_default known (package_of goal.urn) goal.version) (default_urn known (package_of goal.urn) goal.version) goal
          else record goal { provider = named_provider known (given told.provider) } ∷ known.goals)
      by true is made = using made
      by false is made = naming

  all_result : (told : Registration) (result : GoalResult) → result_refusal known told result ≡ None → AllProvided (with_result known told result)
  all_result told (Err fault) h = all
  all_result told (Ok goal) h = all_with told goal (IsAllowed-from_refusal known told goal h)

  all_invoked : (token : List ℕ) (provider version : Option (List ℕ)) → AllProvided (with_invoked known token provider version)
  all_invoked token None version = all_default known _ version all
  all_invoked token (Some text) version = all

  all_made : (request : Request) → refusal_of known request ≡ None → AllProvided (goals_made known request)
  all_made (Register n told) h = all_result told (goal_of known.run.stack known.run.project told) h
  all_made (Outputs n urn outputs) h = all
  all_made (Invoke n token args provider version) h = all_invoked token (given provider) (invoked_version version)

  all_told : (request : Request) → AllProvided (goals_by known request (fate_of known request))
  all_told request = by (has_problem known) (refusal_of known request) refl
    where
      by : (b : Bool) (o : Option Problem) → refusal_of known request ≡ o → AllProvided (goals_by known request (if b then halted else fate_by o))
      by true o is = all
      by false None is = all_made request is
      by false (Some problem) is = all

all_after : (known : Known) (seat : ℕ) (what : What) → HasNames known.run → MayHappen known seat what
    → AllProvided known.goals → AllProvided (goals_after known what)
all_after known seat (Told request) names may all =
    let scopes = told-names known seat request names may in
    all_told known scopes.0 scopes.1 all request
all_after known seat _ names may all = all

all_of : (run : Fixed) (history : List Event) → HasNames run → IsOrderly run history
    → AllProvided (known_of run history).goals
unfolding known_of
all_of run [] names orderly = tt
all_of run (event ∷ past) names orderly =
    all_after (known_of run past) event.seat event.what (names-there run past names) orderly.1 (all_of run past names orderly.0)

each_numbered : (P : Goal → Type 0) (goals : List Goal) (number : ℕ) (goal : Goal) → Each P goals → numbered goals number ≡ Some goal → P goal
each_numbered P [] number goal all h = absurd (let e : None ≡ Some goal = h in cc)
each_numbered P (newest ∷ earlier) number goal all h = by (length earlier == number) h (each_numbered P earlier number goal all.1)
  where
    by : (b : Bool) → (if b then Some newest else numbered earlier number) ≡ Some goal → (numbered earlier number ≡ Some goal → P goal) → P goal
    by true h rest = subst (λ (one : Goal). P one) (same_Some newest goal h) all.0
    by false h rest = rest h

-- the provider of each goal is a provider
pub providers-provide : (run : Fixed) (history : List Event) → HasNames run → IsOrderly run history
    → ProvidersProvide (known_of run history)
providers-provide run history in_names orderly = λ number own goal other stands names there.
    let found = each_numbered (IsProvided (known_of run history).goals) (known_of run history).goals number goal
    (all_of run history in_names orderly) stands own names in
    subst (λ (one : Goal). is_provider_goal one ≡ true) (same_Some found.0 other (sym found.1 ∙ there)) found.2
