-- What is registered for a resource of a program, once the resources that it uses are known.
use Rattle.std.specs.Prelude.{ℕ, List, [], ◌∷◌, ◌++◌, Bool, true, false, bytes_eq, if◌then◌else◌, Option, None, Some, option_map, option_and_then, Result, Ok, Err}
use Rattle.std.specs.List.{filter_map, fold, list_any}
use Rattle.pl_reference.specs.Reference.{reference_text}
use Rattle.pl_state.specs.declared.goal.Registration.{Registration}
use Rattle.pl_urn.specs.Cut.{cut}
use Rattle.pl_value.specs.Marks.{unknown_text}
use Rattle.pl_value.specs.declared.value.Value.{Value}
use Rattle.pl_program_file.specs.Filled.{filled_fields, id_key, known_at, made_of}
use Rattle.pl_program_file.specs.Names.{Name, names_in, names_in_fields}
use Rattle.pl_program_file.specs.declared.fault.Unfilled.{Unfilled}
use Rattle.pl_program_file.specs.declared.fault.Unfilled.TheVariants.{Missing}
use Rattle.pl_program_file.specs.declared.known.Known.{Known}
use Rattle.pl_program_file.specs.declared.program.Resource.{Resource}

abbrev pub Pairs : Type 0
Pairs = List (List ℕ × Value)

-- ---- URNs of other resources

-- the URN of the resource of a name
abbrev pub urn_at : List Known → Name → Option (List ℕ)
urn_at known name = option_map (λ row. row.urn) (known_at name known)

-- that of the resource that is named, if one is
abbrev pub urn_of : List Known → Option Name → Option (List ℕ)
urn_of known name = option_and_then (urn_at known) name

-- the parent: the stack, where no other is named
abbrev pub parent_of : List Known → List ℕ → Option Name → Option (List ℕ)
parent_of known stack None = Some stack
parent_of known stack (Some name) = urn_at known name

abbrev pub has : List (List ℕ) → List ℕ → Bool
has urns urn = list_any (λ one. bytes_eq one urn) urns

-- the URNs with one more, unless it is among them
abbrev pub with_once : List (List ℕ) → List ℕ → List (List ℕ)
with_once urns urn = if has urns urn then urns else urns ++ urn ∷ []

-- the URNs of the resources of these names, each once, at its first place
abbrev pub urns_once : List Known → List Name → List (List ℕ)
urns_once known names = fold with_once [] (filter_map (urn_at known) names)

-- the resources that the options name, and then those that the inputs refer to
abbrev pub dependencies_of : List Known → Resource → List (List ℕ)
dependencies_of known resource = urns_once known (resource.links.depends_on ++ names_in_fields resource.inputs)

-- an input that refers to names, with the URNs of their resources
abbrev pub property_by : List Known → List ℕ → List Name → Option (List ℕ × List (List ℕ))
property_by known key [] = None
property_by known key (name ∷ more) = Some (key, urns_once known (name ∷ more))

abbrev pub property_of : List Known → List ℕ × Value → Option (List ℕ × List (List ℕ))
property_of known field = property_by known field.0 (names_in field.1)

abbrev pub property_dependencies_of : List Known → Pairs → List (List ℕ × List (List ℕ))
property_dependencies_of known inputs = filter_map (property_of known) inputs

-- the properties with that of one more input, if it refers to names
abbrev pub with_property : List Known → List (List ℕ × List (List ℕ)) → List ℕ × Value → List (List ℕ × List (List ℕ))
with_property known pairs field = pairs ++ filter_map (property_of known) (field ∷ [])

-- ---- the provider

-- the text of a reference to a provider
abbrev pub provider_text : List ℕ → List ℕ → List ℕ
provider_text urn id = reference_text (record { urn = urn; id = id })

-- a provider has no id
abbrev pub no_id : Name → Unfilled
no_id name = Missing name id_key

-- an id that is missing is the unknown in a preview
abbrev pub id_told : Bool → Name → Option (List ℕ) → Result (List ℕ) Unfilled
id_told preview name (Some id) = Ok id
id_told true name None = Ok unknown_text
id_told false name None = Err (no_id name)

abbrev pub provider_in : Bool → Name → Option Known → Result (Option (List ℕ)) Unfilled
provider_in preview name None = Err (no_id name)
provider_in preview name (Some row) = made_of (λ id. Some (provider_text row.urn id)) (id_told preview name row.id)

-- the reference to the provider that is named, if one is
abbrev pub provider_of : List Known → Bool → Option Name → Result (Option (List ℕ)) Unfilled
provider_of known preview None = Ok None
provider_of known preview (Some name) = provider_in preview name (known_at name known)

-- ---- the registration

-- what is registered, given the provider's reference and the filled inputs
abbrev pub registered : List Known → List ℕ → Resource → Option (List ℕ) → Pairs → Registration
registered known stack resource provider inputs = record {
  kind = resource.kind;
  name = resource.name;
  custom = resource.custom;
  inputs = inputs;
  parent = parent_of known stack resource.links.parent;
  provider = provider;
  dependencies = dependencies_of known resource;
  property_dependencies = property_dependencies_of known resource.inputs;
  protect = resource.settings.protect;
  aliases = resource.settings.aliases;
  ignore_changes = resource.settings.ignore_changes;
  delete_before_replace = resource.settings.delete_before_replace;
  retain_on_delete = resource.settings.retain_on_delete;
  deleted_with = urn_of known resource.links.deleted_with;
  additional_secret_outputs = resource.settings.additional_secret_outputs;
  import_id = resource.settings.import_id;
  version = resource.settings.version;
  read_id = None;
}

-- of the provider's id and the inputs, the first that is missing is told
abbrev pub with_inputs : List Known → List ℕ → Bool → Resource → Result (Option (List ℕ)) Unfilled → Result Registration Unfilled
with_inputs known stack preview resource (Ok provider) =
    made_of (registered known stack resource provider) (filled_fields known preview resource.inputs)
with_inputs known stack preview resource (Err why) = Err why

abbrev pub registration : List Known → List ℕ → Bool → Resource → Result Registration Unfilled
registration known stack preview resource =
    with_inputs known stack preview resource (provider_of known preview resource.links.provider)
