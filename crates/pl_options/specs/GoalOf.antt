-- The goal of a registration, or why it makes none.
use Rattle.std.specs.Prelude.{ℕ, Bool, not, ◌&&◌, if◌then◌else◌, is_none, is_some, is_ok, find, List, [], ◌∷◌, Option, None, Some, option_map, Result, Ok, Err}
use Rattle.std.specs.Option.{option_or}
use Rattle.semver.specs.Parse.{version_parts}
use Rattle.pl_urn.specs.Grammar.{child_fault, child_text, is_provider_type, urn_fault}
use Rattle.pl_urn.specs.declared.fault.UrnFault.{UrnFault}
use Rattle.pl_urn.specs.declared.fault.UrnFault.TheVariants as urn
use Rattle.pl_path.specs.Grammar.{is_path}
use Rattle.pl_reference.specs.Reference.{is_reference}
use Rattle.pl_state.specs.References.{property_urns}
use Rattle.pl_state.specs.declared.fault.OptionFault.{OptionFault}
use Rattle.pl_state.specs.declared.fault.OptionFault.TheVariants.{BadUrn, BadPath, BadVersion, BadReference, ProviderOfProvider}
use Rattle.pl_state.specs.declared.goal.Goal.{Goal}
use Rattle.pl_state.specs.declared.goal.Registration.{Registration}

-- a text that may be left out; the empty one counts as left out
abbrev pub given : Option (List ℕ) → Option (List ℕ)
given None = None
given (Some []) = None
given (Some (byte ∷ more)) = Some (byte ∷ more)

-- whether a text is a URN
abbrev pub is_urn : List ℕ → Bool
is_urn text = is_none (urn_fault text)

-- whether a text is a version, as the reader of versions reads them
unfoldable pub is_version : List ℕ → Bool
is_version text = is_ok (version_parts text)

-- the text, if there is one that does not pass
abbrev pub unless : (List ℕ → Bool) → Option (List ℕ) → Option (List ℕ)
unless passes None = None
unless passes (Some text) = if passes text then None else Some text

-- the first of the texts that does not pass
abbrev pub first_bad : (List ℕ → Bool) → List (List ℕ) → Option (List ℕ)
first_bad passes texts = find (λ text. not (passes text)) texts

-- the first text that is to be a reference and is none: parent, provider, dependencies, property dependencies,
-- what the resource is deleted with, aliases; the provider is to be a provider reference, the others are to be URNs
abbrev pub bad_reference : Registration → Option (List ℕ)
bad_reference told =
    option_or (unless is_urn (given told.parent))
    (option_or (unless is_reference (given told.provider))
    (option_or (first_bad is_urn told.dependencies)
    (option_or (first_bad is_urn (property_urns told.property_dependencies))
    (option_or (unless is_urn (given told.deleted_with))
    (first_bad is_urn told.aliases)))))

-- the part that makes no URN: the type where that is bad, or else the name
abbrev pub bad_part : Registration → Option UrnFault → Option (List ℕ)
bad_part told None = None
bad_part told (Some urn.BadType) = Some told.kind
bad_part told (Some _) = Some told.name

-- the own type or the name, where they make no URN
abbrev pub bad_urn : Registration → Option (List ℕ)
bad_urn told = bad_part told (child_fault told.kind told.name)

-- the first path that is none
abbrev pub bad_path : Registration → Option (List ℕ)
bad_path told = first_bad is_path told.ignore_changes

-- the version, if there is one and it is none
abbrev pub bad_version : Registration → Option (List ℕ)
bad_version told = unless is_version (given told.version)

-- a provider is registered that names a provider
abbrev pub provider_of_provider : Registration → Option OptionFault
provider_of_provider told =
    if is_provider_type told.kind && is_some (given told.provider) then Some ProviderOfProvider else None

-- why a registration makes no goal, if it makes none: the first fault in this order
unfoldable pub option_fault : Registration → Option OptionFault
option_fault told =
    option_or (option_map BadReference (bad_reference told))
    (option_or (option_map BadUrn (bad_urn told))
    (option_or (option_map BadPath (bad_path told))
    (option_or (option_map BadVersion (bad_version told))
    (provider_of_provider told))))

-- the goal, where nothing is at fault; which goal its provider is stays open
unfoldable pub plain_goal_of : List ℕ → List ℕ → Registration → Goal
plain_goal_of stack project told = record {
  urn = child_text (given told.parent) stack project told.kind told.name;
  custom = told.custom;
  kind = told.kind;
  inputs = told.inputs;
  parent = given told.parent;
  provider = None;
  dependencies = told.dependencies;
  property_dependencies = told.property_dependencies;
  protect = told.protect;
  aliases = told.aliases;
  ignore_changes = told.ignore_changes;
  delete_before_replace = told.delete_before_replace;
  retain_on_delete = told.retain_on_delete;
  deleted_with = given told.deleted_with;
  additional_secret_outputs = told.additional_secret_outputs;
  import_id = given told.import_id;
  version = given told.version;
  read_id = given told.read_id;
}

-- the goal of a registration, or why it makes none
abbrev pub GoalResult : Type 0
GoalResult = Result Goal OptionFault

-- the goal, or the fault where there is one
abbrev pub unless_fault : Option OptionFault → Goal → GoalResult
unless_fault None goal = Ok goal
unless_fault (Some fault) goal = Err fault

-- the goal of a registration in this stack and project, or its first fault
abbrev pub goal_of : List ℕ → List ℕ → Registration → GoalResult
goal_of stack project told = unless_fault (option_fault told) (plain_goal_of stack project told)
