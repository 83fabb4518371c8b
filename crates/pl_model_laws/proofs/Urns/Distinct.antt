-- No two goals have the same URN.
use Rattle.std.proofs.Common.{◌≡◌, ℕ, ◌==◌, Bool, true, false, not, ◌&&◌, ◌||◌, if◌then◌else◌, List, [], ◌∷◌, length, Option, Some, None, is_some, is_none, Ok, Err, refl, sym, ◌∙◌, ap, subst, option_map}
use Rattle.std.proofs.lemmas.Slice.Eq.{bytes_eq-Decides}
use Rattle.std.specs.List.{starts_with}
use Rattle.std.specs.Option.{option_or}
use Rattle.std.specs.Str.{bytes_eq}
use Rattle.std.proofs.lemmas.Option.{same_Some}
use Rattle.pl_lemmas.proofs.Truth.{and_left, and_right}
use Rattle.pl_lemmas.proofs.Options.{neither}
use Rattle.pl_lemmas.proofs.Numbers.{equal_numbers}
use Rattle.pl_urn.specs.Grammar.{IsScope, child_fault, package_of, provider_prefix}
use Rattle.pl_urn.proofs.Children.{own_type_of-child}
use Rattle.pl_options.specs.GoalOf.{GoalResult, given, goal_of}
use Rattle.pl_options.specs.Names.{default_name, default_provider_urn, provider_type}
use Rattle.pl_state.specs.Kinds.{is_of_provider, is_provided, is_provider_goal}
use Rattle.pl_state.specs.declared.fault.OptionFault.TheVariants.{BadUrn}
use Rattle.pl_state.specs.declared.goal.Goal.{Goal}
use Rattle.pl_state.specs.declared.goal.Registration.{Registration}
use Rattle.pl_events.specs.Closing.{has_host_end}
use Rattle.pl_events.specs.declared.event.Event.{Event}
use Rattle.pl_events.specs.declared.event.Request.{Request}
use Rattle.pl_events.specs.declared.event.Request.TheVariants.{Register, Outputs, Invoke}
use Rattle.pl_events.specs.declared.event.What.{What}
use Rattle.pl_events.specs.declared.event.What.TheVariants.{Told}
use Rattle.pl_decide.specs.declared.problem.Problem.{Problem}
use Rattle.pl_decide.specs.declared.problem.Problem.TheVariants.{BadOption, DuplicateUrn, UnknownReference}
use Rattle.pl_model.specs.declared.fixed.Fixed.{Fixed}
use Rattle.pl_model.specs.declared.heard.Fate.TheVariants.{Halted as halted}
use Rattle.pl_model.specs.Run.{HasNames, has_host}
use Rattle.pl_lemmas.specs.Words.{first_in, numbered}
use Rattle.pl_model.specs.Claims.{goal_number}
use Rattle.pl_model.specs.History.{goals_after, known_of}
use Rattle.pl_model.specs.Known.{Known, goal_at, has_problem}
use Rattle.pl_model.specs.Legal.{IsOrderly, MayHappen}
use Rattle.pl_model.specs.Requests.{default_goal, default_urn, fate_by, fate_of, goal_refusal, goals_by, goals_made, has_goal, invoked_version, is_bad_default, named_provider, refusal_of, refused_if, result_refusal, unknown_references, uses_default, with_default, with_goal, with_invoked, with_provider, with_result}
use Rattle.pl_model_stays.proofs.Lists.Growing.{run_of}
use Rattle.pl_model_stays.proofs.Operations.Once.{not_true}
use Rattle.pl_model_stays.proofs.Goals.Staying.{not_refused}

pub none_left : {X : Type 0} (o : Option X) → is_some o ≡ false → o ≡ None
none_left None h = refl
none_left (Some x) h = absurd (let e : true ≡ false = h in cc)

-- ---- lists of goals

-- no goal has this URN
abbrev pub IsFree : List Goal → List ℕ → Type 0
IsFree goals urn = goal_number goals urn ≡ None

-- each goal has a URN that none behind it has
abbrev pub IsApart : List Goal → Type 0
IsApart [] = Unit
IsApart (newest ∷ earlier) = IsApart earlier × IsFree earlier newest.urn

-- a goal has another URN than one that no goal has
free_other : (goals : List Goal) (urn : List ℕ) (number : ℕ) (goal : Goal) → IsFree goals urn → numbered goals number ≡ Some goal → goal.urn ≡ urn → ⊥
free_other [] urn number goal free h same = absurd (let e : None ≡ Some goal = h in cc)
free_other (newest ∷ earlier) urn number goal free h same =
    by (bytes_eq newest.urn urn) refl (length earlier == number) (free_other earlier urn number goal) free h
  where
    by : (b : Bool) → bytes_eq newest.urn urn ≡ b → (at : Bool)
        → (IsFree earlier urn → numbered earlier number ≡ Some goal → goal.urn ≡ urn → ⊥)
        → (if b then Some (length earlier) else goal_number earlier urn) ≡ None
        → (if at then Some newest else numbered earlier number) ≡ Some goal → ⊥
    by true is at rest free h = absurd (let e : Some (length earlier) ≡ None = free in cc)
    by false is true rest free h =
        let urns : newest.urn ≡ urn = ap (λ (one : Goal). one.urn) (same_Some newest goal h) ∙ same in
        absurd (let e : false ≡ true = sym is ∙ (bytes_eq-Decides newest.urn urn).1 urns in cc)
    by false is false rest free h = rest free h same

-- so a URN tells the number
apart_numbers : (goals : List Goal) → IsApart goals → (one other : ℕ) (first second : Goal) → numbered goals one ≡ Some first
    → numbered goals other ≡ Some second → first.urn ≡ second.urn → one ≡ other
apart_numbers [] apart one other first second h k same = absurd (let e : None ≡ Some first = h in cc)
apart_numbers (newest ∷ earlier) apart one other first second h k same =
    by (length earlier == one) refl (length earlier == other) refl (apart_numbers earlier apart.0 one other first second) h k
  where
    by : (a : Bool) → (length earlier == one) ≡ a → (b : Bool) → (length earlier == other) ≡ b
        → (numbered earlier one ≡ Some first → numbered earlier other ≡ Some second → first.urn ≡ second.urn → one ≡ other)
        → (if a then Some newest else numbered earlier one) ≡ Some first
        → (if b then Some newest else numbered earlier other) ≡ Some second → one ≡ other
    by true is true at rest h k = sym (equal_numbers (length earlier) one is) ∙ equal_numbers (length earlier) other at
    by true is false at rest h k = absurd (free_other earlier newest.urn other second apart.1 k
        (sym same ∙ ap (λ (goal : Goal). goal.urn) (sym (same_Some newest first h))))
    by false is true at rest h k = absurd (free_other earlier newest.urn one first apart.1 h
        (same ∙ ap (λ (goal : Goal). goal.urn) (sym (same_Some newest second k))))
    by false is false at rest h k = rest h k same

-- ---- default providers

-- a provider's type begins as one
provider_begins : (provided : List ℕ) → starts_with (λ a b. a == b) (provider_type provided) provider_prefix ≡ true
provider_begins provided = refl

-- the URN of a default provider is that of a provider
pub default_is_provider : (stack project provided : List ℕ) (version : Option (List ℕ)) → IsScope stack → IsScope project
    → child_fault (provider_type provided) (default_name version) ≡ None → is_of_provider (default_provider_urn stack project provided version) ≡ true
unfolding default_provider_urn
default_is_provider stack project provided version in_stack in_project allowed =
    ap (λ (text : List ℕ). starts_with (λ a b. a == b) text provider_prefix)
    (own_type_of-child None stack project (provider_type provided) (default_name version) tt in_stack in_project allowed)
    ∙ provider_begins provided

-- the URN of a provider is not that of something else
provider_other : (provider urn : List ℕ) → is_of_provider provider ≡ true → is_of_provider urn ≡ false → bytes_eq provider urn ≡ false
provider_other provider urn is other = by (bytes_eq provider urn) refl
  where
    by : (b : Bool) → bytes_eq provider urn ≡ b → b ≡ false
    by true same = absurd (let e : true ≡ false =
        sym is ∙ ap (λ (text : List ℕ). is_of_provider text) ((bytes_eq-Decides provider urn).0 same) ∙ other in cc)
    by false same = refl

-- a default provider's goal is made only where no goal has its URN
apart_default : (known : Known) (provided : List ℕ) (version : Option (List ℕ)) → IsApart known.goals → IsApart (with_default known provided version)
apart_default known provided version apart = by (has_goal known (default_urn known provided version)) refl
  where
    by : (b : Bool) → has_goal known (default_urn known provided version) ≡ b
        → IsApart (if b then known.goals else default_goal known provided version ∷ known.goals)
    by true is = apart
    by false is = (apart, none_left (goal_number known.goals (default_urn known provided version)) is)

-- a default provider takes no other URN
free_default : (known : Known) (provided : List ℕ) (version : Option (List ℕ)) (urn : List ℕ)
    → bytes_eq (default_urn known provided version) urn ≡ false → IsFree known.goals urn → IsFree (with_default known provided version) urn
free_default known provided version urn other free = by (has_goal known (default_urn known provided version))
  where
    by : (b : Bool) → IsFree (if b then known.goals else default_goal known provided version ∷ known.goals) urn
    by true = free
    by false = rw other free

-- ---- registrations

-- what uses a default provider is no provider
provided_other : (told : Registration) (goal : Goal) → uses_default told goal ≡ true → is_of_provider goal.urn ≡ false
provided_other told goal h =
    not_true (is_of_provider goal.urn) (and_right goal.custom (not (is_provider_goal goal)) (and_left (is_provided goal) (is_none (given told.provider)) h))

-- what is known of a registration that is not refused
pub record IsAllowed (known : Known) (told : Registration) (goal : Goal) : Type 0 where
  pub default_made : (uses_default told goal && is_bad_default (package_of goal.urn) goal.version) ≡ false
  pub free : IsFree known.goals goal.urn

pub IsAllowed-from_refusal : (known : Known) (told : Registration) (goal : Goal) → goal_refusal known told goal ≡ None → IsAllowed known told goal
IsAllowed-from_refusal known told goal h =
    let parts = neither (refused_if (uses_default told goal && is_bad_default (package_of goal.urn) goal.version) (BadOption (BadUrn goal.kind)))
    (option_or (option_map UnknownReference (first_in (unknown_references known told goal))) (refused_if (has_goal known goal.urn) (DuplicateUrn goal.urn))) h in
    let rest = neither (option_map UnknownReference (first_in (unknown_references known told goal)))
    (refused_if (has_goal known goal.urn) (DuplicateUrn goal.urn)) parts.1 in
    record {
      default_made = not_refused (uses_default told goal && is_bad_default (package_of goal.urn) goal.version) (BadOption (BadUrn goal.kind)) parts.0;
      free = none_left (goal_number known.goals goal.urn) (not_refused (has_goal known goal.urn) (DuplicateUrn goal.urn) rest.1);
    }

module _ (known : Known) (in_stack : IsScope known.run.stack) (in_project : IsScope known.run.project) (apart : IsApart known.goals) where
  -- a registration that uses a default provider
  apart_provided : (goal : Goal) → is_of_provider goal.urn ≡ false → is_bad_default (package_of goal.urn) goal.version ≡ false → IsFree known.goals goal.urn
      → IsApart (with_provider (with_default known (package_of goal.urn) goal.version) (default_urn known (package_of goal.urn) goal.version) goal)
  apart_provided goal other made free =
      let provider : is_of_provider (default_urn known (package_of goal.urn) goal.version) ≡ true =
      default_is_provider known.run.stack known.run.project (package_of goal.urn) goal.version in_stack in_project
      (none_left (child_fault (provider_type (package_of goal.urn)) (default_name goal.version)) made) in (
        apart_default known (package_of goal.urn) goal.version apart,
        free_default known (package_of goal.urn) goal.version goal.urn
            (provider_other (default_urn known (package_of goal.urn) goal.version) goal.urn provider other) free,
      )

  -- a registration that is not refused
  apart_with : (told : Registration) (goal : Goal) → IsAllowed known told goal → IsApart (with_goal known told goal)
  apart_with told goal allowed = by (uses_default told goal) refl allowed.default_made
    where
      by : (b : Bool) → uses_default told goal ≡ b → (b && is_bad_default (package_of goal.urn) goal.version) ≡ false
          → IsApart (if b
          then with_provider (with_default known (package_of goal.urn) goal.version) (default_urn known (package_of goal.urn) goal.version) goal
          else record goal { provider = named_provider known (given told.provider) } ∷ known.goals)
      by true is made = apart_provided goal (provided_other told goal is) made allowed.free
      by false is made = (apart, allowed.free)

  -- a registration, whatever it makes
  apart_result : (told : Registration) (result : GoalResult) → result_refusal known told result ≡ None → IsApart (with_result known told result)
  apart_result told (Err fault) h = apart
  apart_result told (Ok goal) h = apart_with told goal (IsAllowed-from_refusal known told goal h)

  -- an invoke
  apart_invoked : (token : List ℕ) (provider version : Option (List ℕ)) → IsApart (with_invoked known token provider version)
  apart_invoked token None version = apart_default known _ version apart
  apart_invoked token (Some text) version = apart

  -- an accepted request
  apart_made : (request : Request) → refusal_of known request ≡ None → IsApart (goals_made known request)
  apart_made (Register n told) h = apart_result told (goal_of known.run.stack known.run.project told) h
  apart_made (Outputs n urn outputs) h = apart
  apart_made (Invoke n token args provider version) h = apart_invoked token (given provider) (invoked_version version)

  -- a told request of whatever fate
  apart_told : (request : Request) → IsApart (goals_by known request (fate_of known request))
  apart_told request = by (has_problem known) (refusal_of known request) refl
    where
      by : (b : Bool) (o : Option Problem) → refusal_of known request ≡ o → IsApart (goals_by known request (if b then halted else fate_by o))
      by true o is = apart
      by false None is = apart_made request is
      by false (Some problem) is = apart

-- ---- orderly histories

-- where a request is told there is a host
hosted : (hosting ended : Bool) → (not hosting || ended) ≡ false → hosting ≡ true
hosted true ended h = refl
hosted false ended h = absurd (let e : true ≡ false = h in cc)

-- so stack and project have names that stand in a URN
pub told-names : (known : Known) (seat : ℕ) (request : Request) → HasNames known.run
    → MayHappen known seat (Told request) → IsScope known.run.stack × IsScope known.run.project
told-names known seat request names may = names (hosted (has_host known.run.mode) (has_host_end known.history) may.host_open)

-- the names are those of the run, whatever happened
pub names-there : (run : Fixed) (history : List Event) → HasNames run → HasNames (known_of run history).run
names-there run history names = subst (λ (fixed : Fixed). HasNames fixed) (sym (run_of run history)) names

-- one event more
apart_after : (known : Known) (seat : ℕ) (what : What) → HasNames known.run → MayHappen known seat what
    → IsApart known.goals → IsApart (goals_after known what)
apart_after known seat (Told request) names may apart =
    let scopes = told-names known seat request names may in
    apart_told known scopes.0 scopes.1 apart request
apart_after known seat _ names may apart = apart

-- the goals of every orderly history have URNs of their own
pub apart_of : (run : Fixed) (history : List Event) → HasNames run → IsOrderly run history
    → IsApart (known_of run history).goals
unfolding known_of
apart_of run [] names orderly = tt
apart_of run (event ∷ past) names orderly =
    apart_after (known_of run past) event.seat event.what (names-there run past names) orderly.1 (apart_of run past names orderly.0)

-- no two goals have the same URN
pub goals-apart : (run : Fixed) (history : List Event) (one other : ℕ) (first second : Goal)
    → HasNames run → IsOrderly run history
    → goal_at (known_of run history) one ≡ Some first → goal_at (known_of run history) other ≡ Some second → first.urn ≡ second.urn → one ≡ other
goals-apart run history one other first second names orderly =
    apart_numbers (known_of run history).goals (apart_of run history names orderly) one other first second
