-- The fate of a told request, and the goals that it makes.
use Rattle.std.specs.Prelude.{ℕ, Bool, true, false, not, ◌&&◌, if◌then◌else◌, Option, None, Some, is_some, is_none, Ok, Err, List, [], ◌∷◌, ◌++◌, length, filter, find, option_map, option_and_then, slice_get, bytes_eq, codes}
use Rattle.std.specs.List.{before_first}
use Rattle.std.specs.Option.{option_or}
use Rattle.pl_urn.specs.Grammar.{child_fault, is_colon, package_of}
use Rattle.pl_value.specs.Marks.{unknown_text}
use Rattle.pl_value.specs.declared.value.Value.TheVariants as value
use Rattle.pl_options.specs.GoalOf.{GoalResult, given, goal_of}
use Rattle.pl_options.specs.Names.{default_name, default_provider_urn, provider_type}
use Rattle.pl_lemmas.specs.Words.{first_in, option_list, some_passes}
use Rattle.pl_state.specs.Component.{plain_goal}
use Rattle.pl_state.specs.Kinds.{is_component, is_provided}
use Rattle.pl_reference.specs.Reference.{is_reference, reference_in}
use Rattle.pl_state.specs.References.{further_urns, keeps_urn}
use Rattle.pl_state.specs.declared.entry.Entry.{Entry}
use Rattle.pl_state.specs.declared.fault.OptionFault.TheVariants.{BadUrn, BadReference}
use Rattle.pl_state.specs.declared.goal.Goal.{Goal}
use Rattle.pl_state.specs.declared.goal.Registration.{Registration}
use Rattle.pl_events.specs.declared.event.Request.{Request}
use Rattle.pl_events.specs.declared.event.Request.TheVariants.{Register, Outputs, Invoke}
use Rattle.pl_decide.specs.declared.problem.Problem.{Problem}
use Rattle.pl_decide.specs.declared.problem.Problem.TheVariants.{BadOption, UnknownReference, DuplicateUrn, OutputsOfCustom}
use Rattle.pl_model.specs.Run.{Pairs, rows_of}
use Rattle.pl_model.specs.Claims.{goal_number}
use Rattle.pl_model.specs.declared.heard.Fate.{Fate}
use Rattle.pl_model.specs.declared.heard.Fate.TheVariants.{Accepted as accepted, Halted as halted, Refused as refused}
use Rattle.pl_model.specs.declared.heard.Heard.{Heard}
use Rattle.pl_model.specs.Known.{Known, has_problem, goal_at, is_recorded, provider_id}

abbrev pub fate_by : Option Problem → Fate
fate_by None = accepted
fate_by (Some problem) = refused problem

abbrev pub has_goal : Known → List ℕ → Bool
has_goal known urn = is_some (goal_number known.goals urn)

-- ---- references

-- whether a goal is recorded under this id
abbrev pub has_id : Known → List ℕ → ℕ → Bool
has_id known id goal = is_recorded known goal && some_passes (λ own. bytes_eq own id) (provider_id known goal)

-- whether a provider reference names an earlier goal that is recorded with the reference's id
abbrev pub is_met : Known → List ℕ × List ℕ → Bool
is_met known reference = some_passes (has_id known reference.1) (goal_number known.goals reference.0)

abbrev pub is_met_reference : Known → List ℕ → Bool
is_met_reference known text = some_passes (is_met known) (reference_in text)

-- the references of a registration that name no earlier goal, in the order in which they are tried
abbrev pub unknown_references : Known → Registration → Goal → List (List ℕ)
unknown_references known told goal =
    filter (λ urn. not (has_goal known urn)) (option_list goal.parent)
    ++ (filter (λ text. not (is_met_reference known text)) (option_list (given told.provider))
    ++ filter (λ urn. not (has_goal known urn)) (further_urns goal))

-- the number of the goal that a provider reference names
abbrev pub named_provider : Known → Option (List ℕ) → Option ℕ
named_provider known text =
    option_and_then (λ reference. goal_number known.goals reference.0) (option_and_then reference_in text)

-- ---- default providers

-- whether a registration uses the default provider of its package: it is provided for and names no provider
abbrev pub uses_default : Registration → Goal → Bool
uses_default told goal = is_provided goal && is_none (given told.provider)

abbrev pub default_urn : Known → List ℕ → Option (List ℕ) → List ℕ
default_urn known provided version = default_provider_urn known.run.stack known.run.project provided version

-- the inputs of a default provider that has no row: its version alone
abbrev pub version_inputs : Option (List ℕ) → Pairs
version_inputs None = []
version_inputs (Some version) = (codes "version", value.Text version) ∷ []

abbrev pub inputs_or : Option Entry → Pairs → Pairs
inputs_or None others = others
inputs_or (Some row) others = row.inputs

-- a default provider's own goal: it keeps the inputs of the row with its URN
abbrev pub default_goal : Known → List ℕ → Option (List ℕ) → Goal
default_goal known provided version =
    record (plain_goal (default_urn known provided version) (provider_type provided) None) {
      custom = true;
      inputs = inputs_or (find (keeps_urn (default_urn known provided version)) (rows_of known.run)) (version_inputs version);
      version = version;
    }

-- the goals with the default provider's own, which is made where it does not stand yet
abbrev pub with_default : Known → List ℕ → Option (List ℕ) → List Goal
with_default known provided version =
    if has_goal known (default_urn known provided version) then known.goals
    else default_goal known provided version ∷ known.goals

-- whether the type of a default provider makes no URN
abbrev pub is_bad_default : List ℕ → Option (List ℕ) → Bool
is_bad_default provided version = is_some (child_fault (provider_type provided) (default_name version))

abbrev pub refused_if : Bool → Problem → Option Problem
refused_if true problem = Some problem
refused_if false problem = None

-- ---- registrations

-- why a registration with a goal is refused: its default provider has no URN, it refers to what is no earlier
-- goal, or an earlier goal has its URN
abbrev pub goal_refusal : Known → Registration → Goal → Option Problem
goal_refusal known told goal =
    option_or (refused_if (uses_default told goal && is_bad_default (package_of goal.urn) goal.version) (BadOption (BadUrn goal.kind)))
    (option_or (option_map UnknownReference (first_in (unknown_references known told goal)))
    (refused_if (has_goal known goal.urn) (DuplicateUrn goal.urn)))

abbrev pub result_refusal : Known → Registration → GoalResult → Option Problem
result_refusal known told (Err fault) = Some (BadOption fault)
result_refusal known told (Ok goal) = goal_refusal known told goal

abbrev pub registration_refusal : Known → Registration → Option Problem
registration_refusal known told = result_refusal known told (goal_of known.run.stack known.run.project told)

abbrev pub with_provider : List Goal → List ℕ → Goal → List Goal
with_provider goals urn goal = record goal { provider = goal_number goals urn } ∷ goals

-- the goals with that of a registration, its provider's number put in
abbrev pub with_goal : Known → Registration → Goal → List Goal
with_goal known told goal =
    if uses_default told goal
    then with_provider (with_default known (package_of goal.urn) goal.version) (default_urn known (package_of goal.urn) goal.version) goal
    else record goal { provider = named_provider known (given told.provider) } ∷ known.goals

abbrev pub with_result : Known → Registration → GoalResult → List Goal
with_result known told (Err fault) = known.goals
with_result known told (Ok goal) = with_goal known told goal

-- ---- outputs and invokes

-- why told outputs are refused: the URN is no goal's, or that goal is no component
abbrev pub outputs_refusal : Known → List ℕ → Option Goal → Option Problem
outputs_refusal known urn None = Some (UnknownReference urn)
outputs_refusal known urn (Some goal) = refused_if (not (is_component goal)) (OutputsOfCustom goal.urn)

abbrev pub goal_with_urn : Known → List ℕ → Option Goal
goal_with_urn known urn = option_and_then (goal_at known) (goal_number known.goals urn)

-- the package of a token: what stands before its first `:`
abbrev pub token_package : List ℕ → List ℕ
token_package token = before_first is_colon token

abbrev pub unless_unknown : Option (List ℕ) → Option (List ℕ)
unless_unknown None = None
unless_unknown (Some text) = if bytes_eq text unknown_text then None else Some text

-- the version that an invoke names; the empty text and that of the unknown name none
abbrev pub invoked_version : Option (List ℕ) → Option (List ℕ)
invoked_version version = unless_unknown (given version)

-- why an invoke is refused, by the provider that it names or else by its default one
abbrev pub invoke_refusal : Known → List ℕ → Option (List ℕ) → Option (List ℕ) → Option Problem
invoke_refusal known token None version =
    refused_if (is_bad_default (token_package token) version) (BadOption (BadUrn token))
invoke_refusal known token (Some text) version =
    option_or (refused_if (not (is_reference text)) (BadOption (BadReference text)))
    (refused_if (not (is_met_reference known text)) (UnknownReference text))

-- the goals after an invoke: the default provider's own where it names none
abbrev pub with_invoked : Known → List ℕ → Option (List ℕ) → Option (List ℕ) → List Goal
with_invoked known token None version = with_default known (token_package token) version
with_invoked known token (Some text) version = known.goals

-- ---- fates

abbrev pub refusal_of : Known → Request → Option Problem
refusal_of known (Register n told) = registration_refusal known told
refusal_of known (Outputs n urn outputs) = outputs_refusal known urn (goal_with_urn known urn)
refusal_of known (Invoke n token args provider version) =
    invoke_refusal known token (given provider) (invoked_version version)

-- what becomes of a request that is told after this history
abbrev pub fate_of : Known → Request → Fate
fate_of known request = if has_problem known then halted else fate_by (refusal_of known request)

-- the goals with those that an accepted request makes
abbrev pub goals_made : Known → Request → List Goal
goals_made known (Register n told) = with_result known told (goal_of known.run.stack known.run.project told)
goals_made known (Outputs n urn outputs) = known.goals
goals_made known (Invoke n token args provider version) =
    with_invoked known token (given provider) (invoked_version version)

abbrev pub goals_by : Known → Request → Fate → List Goal
goals_by known request accepted = goals_made known request
goals_by known request halted = known.goals
goals_by known request (refused problem) = known.goals

-- the provider that an invoke is for
abbrev pub invoked_provider : Known → List ℕ → Option (List ℕ) → Option (List ℕ) → Option ℕ
invoked_provider known token None version =
    goal_number (with_default known (token_package token) version) (default_urn known (token_package token) version)
invoked_provider known token (Some text) version = named_provider known (Some text)

-- the number of the newest of the goals
abbrev pub newest_number : List Goal → Option ℕ
newest_number [] = None
newest_number (goal ∷ earlier) = Some (length earlier)

-- the goal that an accepted request is about
abbrev pub about_of : Known → Request → Option ℕ
about_of known (Register n told) = newest_number (goals_made known (Register n told))
about_of known (Outputs n urn outputs) = goal_number known.goals urn
about_of known (Invoke n token args provider version) =
    invoked_provider known token (given provider) (invoked_version version)

abbrev pub asked_by : Known → Request → Fate → Heard
asked_by known request accepted = record { request = request; fate = accepted; about = about_of known request }
asked_by known request fate = record { request = request; fate = fate; about = None }
