-- What each kind of request makes, where it is not refused.
use Rattle.std.proofs.Common.{◌≡◌, ℕ, Bool, true, false, not, ◌&&◌, List, ◌∷◌, length, Option, Some, None, Ok, if◌then◌else◌, option_map, refl, sym, ap, subst, ◌∙◌}
use Rattle.std.specs.Str.{bytes_eq}
use Rattle.std.proofs.lemmas.Option.{none-some}
use Rattle.pl_lemmas.proofs.Lists.{same_bytes}
use Rattle.pl_lemmas.proofs.Options.{mapped_none, neither}
use Rattle.pl_lemmas.proofs.Truth.{and_fails}
use Rattle.pl_decide.specs.declared.problem.Problem.{Problem}
use Rattle.pl_decide.specs.declared.problem.Problem.TheVariants.{BadOption}
use Rattle.pl_events.specs.declared.event.Request.{Request}
use Rattle.pl_options.specs.GoalOf.{bad_path, bad_reference, bad_urn, bad_version, given, goal_of, is_version, option_fault, plain_goal_of, unless, unless_fault}
use Rattle.pl_options.proofs.OnLiterals.{options_on_literals}
use Rattle.pl_state.specs.declared.fault.OptionFault.{OptionFault}
use Rattle.pl_state.specs.declared.fault.OptionFault.TheVariants as fault
use Rattle.pl_state.specs.declared.goal.Goal.{Goal}
use Rattle.pl_state.specs.declared.goal.Registration.{Registration}
use Rattle.pl_urn.specs.Grammar.{package_of}
use Rattle.pl_value.specs.Marks.{unknown_text}
use Rattle.pl_model.specs.declared.fixed.Fixed.{Fixed}
use Rattle.pl_model.specs.declared.heard.Fate.{Fate}
use Rattle.pl_model.specs.declared.heard.Fate.TheVariants as fate
use Rattle.pl_model.specs.Known.{Known, has_problem}
use Rattle.pl_model.specs.Requests.{about_of, default_urn, fate_by, fate_of, goal_refusal, goals_made, invoke_refusal, invoked_provider, is_bad_default, named_provider, newest_number, refusal_of, refused_if, token_package, uses_default, with_default, with_goal, with_invoked, with_provider}
use Rattle.pl_requests.specs.declared.default.DefaultProvider.{DefaultProvider}
use Rattle.pl_requests.specs.declared.making.Making.{Making}
use Rattle.pl_told.specs.Column.{Change}
use Rattle.pl_requests.specs.Column.{IsChangeBy, IsTold, IsToldAs, accepted_with}
use Rattle.pl_requests.specs.Ids.{known_over}
use Rattle.pl_requests.specs.Making.{Makes, MakesFor, Provides, own_making}
use Rattle.pl_requests.specs.Reading.{is_known_version}

-- ---- versions

unknown_is_no_version : is_version unknown_text ≡ false
unfolding options_on_literals unknown_text
unknown_is_no_version = refl

differs : (text : List ℕ) (same : Bool) → bytes_eq text unknown_text ≡ same → is_version text ≡ true → not same ≡ true
differs text true is version =
    let e : is_version unknown_text ≡ true = subst (λ (other : List ℕ). is_version other ≡ true) (same_bytes text unknown_text is) version in
    let no : is_version unknown_text ≡ false = unknown_is_no_version in
    absurd cc
differs text false is version = refl

passes_unless : (text : List ℕ) (is : Bool) → is_version text ≡ is → (if is then None else Some text) ≡ None → is_version text ≡ true
passes_unless text true is e = is
passes_unless text false is e = absurd (none-some text (sym e))

version_is_known : (version : Option (List ℕ)) → unless is_version version ≡ None → is_known_version version ≡ true
version_is_known None passes = refl
version_is_known (Some text) passes =
    differs text (bytes_eq text unknown_text) refl (passes_unless text (is_version text) refl passes)

fault_version : (told : Registration) → option_fault told ≡ None → bad_version told ≡ None
unfolding option_fault
fault_version told none =
    let further = (neither (option_map fault.BadReference (bad_reference told)) _ none).1 in
    let past_urn = (neither (option_map fault.BadUrn (bad_urn told)) _ further).1 in
    let past_path = (neither (option_map fault.BadPath (bad_path told)) _ past_urn).1 in
    let here = (neither (option_map fault.BadVersion (bad_version told)) _ past_path).0 in
    mapped_none fault.BadVersion (bad_version told) here

plain_version : (stack project : List ℕ) (told : Registration) → (plain_goal_of stack project told).version ≡ given told.version
unfolding plain_goal_of
plain_version stack project told = refl

made_version : (stack project : List ℕ) (told : Registration) (goal : Goal) (found : Option OptionFault) → option_fault told ≡ found
    → unless_fault found (plain_goal_of stack project told) ≡ Ok goal → is_known_version goal.version ≡ true
made_version stack project told goal None is made =
    let same : plain_goal_of stack project told ≡ goal = cc in
    let version : given told.version ≡ goal.version = sym (plain_version stack project told) ∙ ap (λ (one : Goal). one.version) same in
    subst (λ (version : Option (List ℕ)). is_known_version version ≡ true) version (version_is_known (given told.version) (fault_version told is))
made_version stack project told goal (Some found) is made = absurd cc

-- the version of a goal is other than the text of the unknown
pub goal_version : (stack project : List ℕ) (told : Registration) (goal : Goal) → goal_of stack project told ≡ Ok goal → is_known_version goal.version ≡ true
goal_version stack project told goal made = made_version stack project told goal (option_fault told) refl made

-- ---- registrations

not_refused : (refused : Bool) (problem : Problem) → refused_if refused problem ≡ None → refused ≡ false
not_refused true problem e = absurd (none-some problem (sym e))
not_refused false problem e = refl

module _ (known : Known) (told : Registration) (goal : Goal) where
  if_default : (uses : Bool) → uses_default told goal ≡ uses → with_goal known told goal
      ≡ (if uses then with_provider (with_default known (package_of goal.urn) goal.version) (default_urn known (package_of goal.urn) goal.version) goal
      else record goal { provider = named_provider known (given told.provider) } ∷ known.goals)
  if_default uses is = ap (λ (b : Bool). if b
      then with_provider (with_default known (package_of goal.urn) goal.version) (default_urn known (package_of goal.urn) goal.version) goal
      else record goal { provider = named_provider known (given told.provider) } ∷ known.goals) is

  allows : goal_refusal known told goal ≡ None → uses_default told goal ≡ true → is_bad_default (package_of goal.urn) goal.version ≡ false
  allows none uses =
      and_fails (uses_default told goal) (is_bad_default (package_of goal.urn) goal.version)
      (not_refused (uses_default told goal && is_bad_default (package_of goal.urn) goal.version) (BadOption (fault.BadUrn goal.kind))
      ((neither (refused_if (uses_default told goal && is_bad_default (package_of goal.urn) goal.version) (BadOption (fault.BadUrn goal.kind))) _ none).0)) uses

  pub makes_by_default : (provider : DefaultProvider) → uses_default told goal ≡ true
      → (is_bad_default (package_of goal.urn) goal.version ≡ false → Provides known (package_of goal.urn) goal.version provider)
      → goal_refusal known told goal ≡ None
      → Makes known (with_goal known told goal) (newest_number (with_goal known told goal)) (own_making known.goals provider.missing goal provider.number)
  makes_by_default provider uses provides none =
      let given_by : Provides known (package_of goal.urn) goal.version provider = provides (allows none uses) in
      subst (λ (goals : List Goal). Makes known goals (newest_number goals) (own_making known.goals provider.missing goal provider.number))
      (sym (if_default true uses))
      (record {
        goals = λ i. record goal { provider = given_by.number i } ∷ given_by.goals i;
        about = ap (λ (goals : List Goal). Some (length goals)) given_by.goals;
      })

-- ---- invokes

module _ (known : Known) (token : List ℕ) (version : Option (List ℕ)) where
  pub makes_invoked : (named : Option (List ℕ)) (provider : DefaultProvider) → named ≡ None
      → (is_bad_default (token_package token) version ≡ false → Provides known (token_package token) version provider)
      → invoke_refusal known token named version ≡ None
      → Makes known (with_invoked known token named version) (invoked_provider known token named version)
      (record { default = provider.missing; own = None; about = provider.number })
  makes_invoked None provider is provides none =
      let given_by : Provides known (token_package token) version provider =
      provides (not_refused (is_bad_default (token_package token) version) (BadOption (fault.BadUrn token)) none) in
      record { goals = given_by.goals; about = given_by.number }
  makes_invoked (Some text) provider is provides none = absurd (none-some text (sym is))

-- ---- changes

pub accepts : (run : Fixed) (goals : List Goal) (request : Request) (making : Making) → MakesFor run goals request making
    → IsChangeBy run goals request fate.Accepted (accepted_with making request)
accepts run goals request making makes known allowed =
    let made : Makes (known_over run goals known) (goals_made (known_over run goals known) request)
    (about_of (known_over run goals known) request) making = makes known (allowed refl) in
    record { goals = made.goals; heard = λ i. record { request = request; fate = fate.Accepted; about = made.about i } }

accepted_by : (halts : Bool) (refusal : Option Problem) → (if halts then fate.Halted else fate_by refusal) ≡ fate.Accepted → refusal ≡ None
accepted_by true refusal e = absurd cc
accepted_by false None e = refl
accepted_by false (Some problem) e = absurd cc

pub is_told : (run : Fixed) (goals : List Goal) (request : Request) (own : Fate) (change : Change) (known : Known)
    → IsChangeBy run goals request own change → own ≡ fate_of (known_over run goals known) request → IsTold (known_over run goals known) request change
is_told run goals request own change known changes same =
    subst (λ (one : Fate). IsToldAs (known_over run goals known) request one change) same
    (changes known (λ accepted. accepted_by (has_problem (known_over run goals known)) (refusal_of (known_over run goals known) request) (sym same ∙ accepted)))
