-- What a goal of a request refers to are goals before it, and one that is provided for has its provider.
use Rattle.std.proofs.Common.{◌≡◌, ℕ, ◌<◌, ◌≤◌, Bool, true, false, not, ◌&&◌, cond, if◌then◌else◌, List, [], ◌∷◌, length, bytes_eq, filter, Option, Some, None, is_none, is_some, Ok, Err, refl, sym, ◌∙◌, ap, subst, arith, option_map, option_and_then}
use Rattle.std.proofs.lemmas.Slice.Eq.{bytes_eq-Decides}
use Rattle.std.specs.Option.{option_or}
use Rattle.pl_lemmas.proofs.Options.{some_there, some_not_none, neither, mapped_none, passing}
use Rattle.pl_lemmas.proofs.Lists.{append_none}
use Rattle.pl_lemmas.proofs.Each.{Each, each_weaker}
use Rattle.pl_urn.specs.Grammar.{IsScope, child_fault, package_of}
use Rattle.pl_options.specs.GoalOf.{GoalResult, given, goal_of}
use Rattle.pl_options.specs.Names.{default_name, provider_type}
use Rattle.pl_reference.specs.Reference.{reference_in}
use Rattle.pl_state.specs.Kinds.{is_of_provider, is_provided}
use Rattle.pl_state.specs.declared.fault.OptionFault.TheVariants.{BadUrn}
use Rattle.pl_state.specs.declared.goal.Goal.{Goal}
use Rattle.pl_state.specs.declared.goal.Registration.{Registration}
use Rattle.pl_events.specs.declared.event.Event.{Event}
use Rattle.pl_events.specs.declared.event.Request.{Request}
use Rattle.pl_events.specs.declared.event.Request.TheVariants.{Register, Outputs, Invoke}
use Rattle.pl_events.specs.declared.event.What.{What}
use Rattle.pl_events.specs.declared.event.What.TheVariants.{Told}
use Rattle.pl_decide.specs.declared.problem.Problem.{Problem}
use Rattle.pl_decide.specs.declared.problem.Problem.TheVariants.{BadOption, DuplicateUrn, UnknownReference}
use Rattle.pl_lemmas.specs.Words.{first_in, option_list}
use Rattle.pl_state.specs.References.{further_urns}
use Rattle.pl_model.specs.declared.fixed.Fixed.{Fixed}
use Rattle.pl_model.specs.declared.heard.Fate.TheVariants.{Halted as halted}
use Rattle.pl_model.specs.Run.{HasNames}
use Rattle.pl_model.specs.Claims.{goal_number}
use Rattle.pl_model.specs.History.{goals_after, known_of}
use Rattle.pl_model.specs.Known.{Known, has_problem}
use Rattle.pl_model.specs.Legal.{IsOrderly, MayHappen}
use Rattle.pl_model.specs.Requests.{default_goal, default_urn, fate_by, fate_of, goal_refusal, goals_by, goals_made, has_goal, has_id, invoke_refusal, invoked_version, is_bad_default, is_met, is_met_reference, named_provider, refusal_of, refused_if, result_refusal, token_package, unknown_references, uses_default, with_default, with_goal, with_invoked, with_provider, with_result}
use Rattle.pl_model_stays.proofs.Lists.Growing.{numbered_below}
use Rattle.pl_model_stays.proofs.Goals.Staying.{not_refused}
use Rattle.pl_model_laws.proofs.Urns.Distinct.{IsAllowed-from_refusal, IsFree, default_is_provider, names-there, none_left, told-names}
use Rattle.pl_model_laws.proofs.References.Referring.{number_found}

-- ---- lists

-- a list without a first has none
without_first : {X : Type 0} (xs : List X) → first_in xs ≡ None → xs ≡ []
without_first [] h = refl
without_first (x ∷ xs) h = absurd (let e : Some x ≡ None = h in cc)

-- where none is left that does not pass, each passes
none_fails : {X : Type 0} (test : X → Bool) (xs : List X) → filter (λ x. not (test x)) xs ≡ [] → Each (λ x. test x ≡ true) xs
none_fails test [] h = tt
none_fails {X = X} test (x ∷ xs) h = by (test x) refl h (none_fails test xs)
  where
    by : (b : Bool) → test x ≡ b
        → cond (not b) (x ∷ filter (λ (y : X). not (test y)) xs) (filter (λ (y : X). not (test y)) xs) ≡ []
        → (filter (λ (y : X). not (test y)) xs ≡ [] → Each (λ y. test y ≡ true) xs) → Each (λ y. test y ≡ true) (x ∷ xs)
    by true is h rest = (is, rest h)
    by false is h rest = absurd (let e : x ∷ filter (λ (y : X). not (test y)) xs ≡ [] = h in cc)

-- ---- what a goal refers to

-- the URN is that of a goal whose number is below this one
abbrev pub IsBelow : List Goal → ℕ → List ℕ → Type 0
IsBelow goals n urn = (m : ℕ) × (goal_number goals urn ≡ Some m) × (m < n)

-- each reference of a goal with this number names a goal below, and the goal has a provider if it is provided for
pub record RefersBelow (goals : List Goal) (n : ℕ) (goal : Goal) : Type 0 where
  pub parent : (urn : List ℕ) → goal.parent ≡ Some urn → IsBelow goals n urn
  pub provider : (m : ℕ) → goal.provider ≡ Some m → m < n
  pub further : Each (IsBelow goals n) (further_urns goal)
  pub provided : is_provided goal ≡ true → is_some goal.provider ≡ true

-- each goal refers to goals behind it
abbrev pub AllBelow : List Goal → Type 0
AllBelow [] = Unit
AllBelow (newest ∷ earlier) = AllBelow earlier × RefersBelow earlier (length earlier) newest

below_wider : (goals : List Goal) (n k : ℕ) (urn : List ℕ) → n ≤ k → IsBelow goals n urn → IsBelow goals k urn
below_wider goals n k urn wide h = let low : h.0 < n = h.2 in (h.0, h.1, omega arith)

-- a newer goal with a URN of its own takes no number away
pub below_more : (newest : Goal) (goals : List Goal) (n : ℕ) (urn : List ℕ) → IsFree goals newest.urn → IsBelow goals n urn
    → IsBelow (newest ∷ goals) n urn
below_more newest goals n urn free h = (h.0, by (bytes_eq newest.urn urn) refl, h.2)
  where
    by : (b : Bool) → bytes_eq newest.urn urn ≡ b → (if b then Some (length goals) else goal_number goals urn) ≡ Some h.0
    by false is = h.1
    by true is =
        let none : goal_number goals urn ≡ None =
        ap (λ (text : List ℕ). goal_number goals text) (sym ((bytes_eq-Decides newest.urn urn).0 is)) ∙ free in
        absurd (let e : None ≡ Some h.0 = sym none ∙ h.1 in cc)

-- ---- the goals of requests

-- a number of a URN is below the count
number_below : (goals : List Goal) (urn : List ℕ) (m : ℕ) → goal_number goals urn ≡ Some m → m < length goals
number_below goals urn m h = let found = number_found goals urn m h in numbered_below goals m found.0 found.1

has_below : (known : Known) (urn : List ℕ) → has_goal known urn ≡ true → IsBelow known.goals (length known.goals) urn
has_below known urn h =
    let found = some_there (goal_number known.goals urn) h in
    (found.0, found.1, number_below known.goals urn found.0 found.1)

-- a default provider refers to nothing
refers_default : (known : Known) (provided : List ℕ) (version : Option (List ℕ)) (goals : List Goal) (n : ℕ)
    → is_of_provider (default_urn known provided version) ≡ true → RefersBelow goals n (default_goal known provided version)
refers_default known provided version goals n provider = record {
  parent = λ urn is. absurd (let e : None ≡ Some urn = is in cc);
  provider = λ m is. absurd (let e : None ≡ Some m = is in cc);
  further = tt;
  provided = λ h. absurd (let e : false ≡ true = sym (ap (λ (b : Bool). not b) provider) ∙ h in cc);
}

-- a default provider stands once it is made
default_there : (known : Known) (provided : List ℕ) (version : Option (List ℕ))
    → is_some (goal_number (with_default known provided version) (default_urn known provided version)) ≡ true
default_there known provided version = by (has_goal known (default_urn known provided version)) refl
  where
    by : (b : Bool) → has_goal known (default_urn known provided version) ≡ b
        → is_some (goal_number (if b then known.goals else default_goal known provided version ∷ known.goals) (default_urn known provided version)) ≡ true
    by true is = is
    by false is =
        let own = default_urn known provided version in
        ap (λ (b : Bool). is_some (if b then Some (length known.goals) else goal_number known.goals own)) ((bytes_eq-Decides own own).1 refl)

-- with a default provider's goal, what was below is below
below_default : (known : Known) (provided : List ℕ) (version : Option (List ℕ)) (urn : List ℕ)
    → IsBelow known.goals (length known.goals) urn
    → IsBelow (with_default known provided version) (length (with_default known provided version)) urn
below_default known provided version urn h = by (has_goal known (default_urn known provided version)) refl
  where
    by : (b : Bool) → has_goal known (default_urn known provided version) ≡ b
        → IsBelow (if b then known.goals else default_goal known provided version ∷ known.goals)
        (length (if b then known.goals else default_goal known provided version ∷ known.goals)) urn
    by true is = h
    by false is =
        let newest : Goal = default_goal known provided version in
        below_wider (newest ∷ known.goals) (length known.goals) (length (newest ∷ known.goals)) urn (omega arith)
        (below_more newest known.goals (length known.goals) urn
        (none_left (goal_number known.goals (default_urn known provided version)) is) h)

-- the number of a named provider is below the count
named_below : (known : Known) (text : Option (List ℕ)) (m : ℕ) → named_provider known text ≡ Some m → m < length known.goals
named_below known text m h = by (option_and_then reference_in text) h
  where
    by : (o : Option (List ℕ × List ℕ))
        → option_and_then (λ (reference : List ℕ × List ℕ). goal_number known.goals reference.0) o ≡ Some m → m < length known.goals
    by None h = absurd (let e : None ≡ Some m = h in cc)
    by (Some pair) h = number_below known.goals pair.0 m h

-- a provider reference that is met names a goal
met_named : (known : Known) (text : List ℕ) → is_met_reference known text ≡ true → is_some (named_provider known (Some text)) ≡ true
met_named known text h =
    let pair = passing (is_met known) (reference_in text) h in
    let found = passing (has_id known pair.0.1) (goal_number known.goals pair.0.0) pair.2 in
    ap (λ (o : Option (List ℕ × List ℕ)).
    is_some (option_and_then (λ (reference : List ℕ × List ℕ). goal_number known.goals reference.0) o)) pair.1
    ∙ ap (λ (o : Option ℕ). is_some o) found.1

-- what is known of the references of a registration that is not refused
record AreKnown (known : Known) (told : Registration) (goal : Goal) : Type 0 where
  parents : Each (λ urn. has_goal known urn ≡ true) (option_list goal.parent)
  providers : Each (λ text. is_met_reference known text ≡ true) (option_list (given told.provider))
  others : Each (λ urn. has_goal known urn ≡ true) (further_urns goal)

known_references : (known : Known) (told : Registration) (goal : Goal) → goal_refusal known told goal ≡ None → AreKnown known told goal
known_references known told goal h =
    let parts = neither (refused_if (uses_default told goal && is_bad_default (package_of goal.urn) goal.version) (BadOption (BadUrn goal.kind)))
    (option_or (option_map UnknownReference (first_in (unknown_references known told goal))) (refused_if (has_goal known goal.urn) (DuplicateUrn goal.urn))) h in
    let rest = neither (option_map UnknownReference (first_in (unknown_references known told goal)))
    (refused_if (has_goal known goal.urn) (DuplicateUrn goal.urn)) parts.1 in
    let none : unknown_references known told goal ≡ [] =
    without_first (unknown_references known told goal)
    (mapped_none UnknownReference (first_in (unknown_references known told goal)) rest.0) in
    let first = append_none (filter (λ (urn : List ℕ). not (has_goal known urn)) (option_list goal.parent)) _ none in
    let second = append_none (filter (λ (text : List ℕ). not (is_met_reference known text)) (option_list (given told.provider))) _ first.1 in
    record {
      parents = none_fails (has_goal known) (option_list goal.parent) first.0;
      providers = none_fails (is_met_reference known) (option_list (given told.provider)) second.0;
      others = none_fails (has_goal known) (further_urns goal) second.1;
    }

-- the references of such a registration, where each goal that there is counts as below
module _ (known : Known) (told : Registration) (goal : Goal) (are_known : AreKnown known told goal) (goals : List Goal) (n : ℕ)
    (below : (urn : List ℕ) → has_goal known urn ≡ true → IsBelow goals n urn) where
  parent_below : (urn : List ℕ) → goal.parent ≡ Some urn → IsBelow goals n urn
  parent_below urn is =
      below urn (subst (λ (o : Option (List ℕ)). Each (λ text. has_goal known text ≡ true) (option_list o)) is are_known.parents).0

  others_below : Each (IsBelow goals n) (further_urns goal)
  others_below =
      each_weaker (λ (urn : List ℕ). has_goal known urn ≡ true) (IsBelow goals n) below
      (further_urns goal) are_known.others

  refers_registered : (own : Option ℕ) → ((m : ℕ) → own ≡ Some m → m < n) → (is_provided goal ≡ true → is_some own ≡ true)
      → RefersBelow goals n (record goal { provider = own })
  refers_registered own low provides = record {
    parent = parent_below;
    provider = low;
    further = others_below;
    provided = provides;
  }

module _ (known : Known) (in_stack : IsScope known.run.stack) (in_project : IsScope known.run.project) (all : AllBelow known.goals) where
  made_default : (provided : List ℕ) (version : Option (List ℕ)) → is_bad_default provided version ≡ false
      → is_of_provider (default_urn known provided version) ≡ true
  made_default provided version made =
      default_is_provider known.run.stack known.run.project provided version in_stack in_project
      (none_left (child_fault (provider_type provided) (default_name version)) made)

  all_default : (provided : List ℕ) (version : Option (List ℕ)) → is_bad_default provided version ≡ false
      → AllBelow (with_default known provided version)
  all_default provided version made = by (has_goal known (default_urn known provided version))
    where
      by : (b : Bool) → AllBelow (if b then known.goals else default_goal known provided version ∷ known.goals)
      by true = all
      by false =
          (all, refers_default known provided version known.goals (length known.goals) (made_default provided version made))

  all_with : (told : Registration) (goal : Goal) → (uses_default told goal && is_bad_default (package_of goal.urn) goal.version) ≡ false
      → AreKnown known told goal → AllBelow (with_goal known told goal)
  all_with told goal allowed are_known = by (uses_default told goal) refl allowed
    where
      using : is_bad_default (package_of goal.urn) goal.version ≡ false
          → AllBelow (with_provider (with_default known (package_of goal.urn) goal.version) (default_urn known (package_of goal.urn) goal.version) goal)
      using made =
          let goals = with_default known (package_of goal.urn) goal.version in
          let urn = default_urn known (package_of goal.urn) goal.version in (
            all_default (package_of goal.urn) goal.version made,
            refers_registered known told goal are_known goals (length goals)
                (λ text has. below_default known (package_of goal.urn) goal.version text (has_below known text has))
                (goal_number goals urn) (λ m is. number_below goals urn m is)
                (λ provided. default_there known (package_of goal.urn) goal.version),
          )

      provides : uses_default told goal ≡ false → is_provided goal ≡ true → is_some (named_provider known (given told.provider)) ≡ true
      provides unused provided =
          let names = some_not_none (given told.provider)
          (sym (ap (λ (b : Bool). b && is_none (given told.provider)) provided) ∙ unused) in
          let met : is_met_reference known names.0 ≡ true =
          (subst (λ (o : Option (List ℕ)). Each (λ text. is_met_reference known text ≡ true) (option_list o)) names.1 are_known.providers).0 in
          ap (λ (o : Option (List ℕ)). is_some (named_provider known o)) names.1 ∙ met_named known names.0 met

      naming : uses_default told goal ≡ false → AllBelow (record goal { provider = named_provider known (given told.provider) } ∷ known.goals)
      naming unused = (
        all,
        refers_registered known told goal are_known known.goals (length known.goals) (has_below known)
            (named_provider known (given told.provider)) (named_below known (given told.provider)) (provides unused),
      )

      by : (b : Bool) → uses_default told goal ≡ b → (b && is_bad_default (package_of goal.urn) goal.version) ≡ false
          → AllBelow (if b
          then with_provider (with_default known (package_of goal.urn) goal.version) (default_urn known (package_of goal.urn) goal.version) goal
          else record goal { provider = named_provider known (given told.provider) } ∷ known.goals)
      by true is made = using made
      by false is made = naming is

  all_result : (told : Registration) (result : GoalResult) → result_refusal known told result ≡ None → AllBelow (with_result known told result)
  all_result told (Err fault) h = all
  all_result told (Ok goal) h =
      all_with told goal (IsAllowed-from_refusal known told goal h).default_made (known_references known told goal h)

  all_invoked : (token : List ℕ) (provider version : Option (List ℕ)) → invoke_refusal known token provider version ≡ None
      → AllBelow (with_invoked known token provider version)
  all_invoked token None version h =
      all_default (token_package token) version
      (not_refused (is_bad_default (token_package token) version) (BadOption (BadUrn token)) h)
  all_invoked token (Some text) version h = all

  all_made : (request : Request) → refusal_of known request ≡ None → AllBelow (goals_made known request)
  all_made (Register n told) h = all_result told (goal_of known.run.stack known.run.project told) h
  all_made (Outputs n urn outputs) h = all
  all_made (Invoke n token args provider version) h = all_invoked token (given provider) (invoked_version version) h

  all_told : (request : Request) → AllBelow (goals_by known request (fate_of known request))
  all_told request = by (has_problem known) (refusal_of known request) refl
    where
      by : (b : Bool) (o : Option Problem) → refusal_of known request ≡ o → AllBelow (goals_by known request (if b then halted else fate_by o))
      by true o is = all
      by false None is = all_made request is
      by false (Some problem) is = all

all_after : (known : Known) (seat : ℕ) (what : What) → HasNames known.run → MayHappen known seat what
    → AllBelow known.goals → AllBelow (goals_after known what)
all_after known seat (Told request) names may all =
    let scopes = told-names known seat request names may in
    all_told known scopes.0 scopes.1 all request
all_after known seat _ names may all = all

-- ---- the goals of a history

-- the goals of every orderly history refer to goals behind them
pub all-below : (run : Fixed) (history : List Event) → HasNames run → IsOrderly run history
    → AllBelow (known_of run history).goals
unfolding known_of
all-below run [] names orderly = tt
all-below run (event ∷ past) names orderly =
    all_after (known_of run past) event.seat event.what (names-there run past names) orderly.1 (all-below run past names orderly.0)
