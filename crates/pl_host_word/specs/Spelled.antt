-- What a host says, as it is written. An object's members stand in rising order of their names.
use Rattle.std.specs.Prelude.{ℕ, List, [], ◌∷◌, ◌++◌, codes, Option, Some, None, option_map}
use Rattle.serde_json.specs.Data.{Data, boolean, number}
use Rattle.serde_json.specs.Written.{compact_text}
use Rattle.pl_json.specs.Spelled.{spelled_fields}
use Rattle.pl_state.specs.declared.goal.Registration.{Registration}
use Rattle.pl_events.specs.declared.event.Request.{Request}
use Rattle.pl_events.specs.declared.event.Request.TheVariants as request
use Rattle.pl_members.specs.Field.{Pairs}
use Rattle.pl_json.specs.Objects.{Field, object_with, flag_data, text_data}
use Rattle.pl_members.specs.Spelled.{one_text, number_data, list_data, pairs_data, keyed_data}
use Rattle.pl_host_word.specs.Words.{call_word}
use Rattle.pl_host_word.specs.declared.calls.HostCall.{HostCall}
use Rattle.pl_host_word.specs.declared.calls.HostCall.TheVariants as called
use Rattle.pl_host_word.specs.declared.word.HostWord.{HostWord}
use Rattle.pl_host_word.specs.declared.word.HostWord.TheVariants.{Request as Asks, Success, Error}

-- the word of a call
abbrev pub call_data : HostCall → Option Data
call_data call = one_text (call_word call)

-- ---- registrations

-- the first fields of a registration: `call` and `custom` always stand in it, any other one where it has a value of its own
abbrev pub early_fields : Registration → List Field
early_fields told =
    (codes "additionalSecretOutputs", list_data told.additional_secret_outputs)
    ∷ (codes "aliases", list_data told.aliases)
    ∷ (codes "call", call_data called.Register)
    ∷ (codes "custom", Some (boolean told.custom))
    ∷ (codes "deleteBeforeReplace", option_map boolean told.delete_before_replace)
    ∷ (codes "deletedWith", text_data told.deleted_with)
    ∷ (codes "dependencies", list_data told.dependencies)
    ∷ (codes "ignoreChanges", list_data told.ignore_changes)
    ∷ (codes "importId", text_data told.import_id)
    ∷ (codes "inputs", pairs_data told.inputs)
    ∷ []

-- the other fields of a registration: `n`, `name` and `type` always stand in it
abbrev pub late_fields : ℕ → Registration → List Field
late_fields n told =
    (codes "n", number_data n)
    ∷ (codes "name", one_text told.name)
    ∷ (codes "parent", text_data told.parent)
    ∷ (codes "propertyDependencies", keyed_data told.property_dependencies)
    ∷ (codes "protect", flag_data told.protect)
    ∷ (codes "provider", text_data told.provider)
    ∷ (codes "retainOnDelete", flag_data told.retain_on_delete)
    ∷ (codes "type", one_text told.kind)
    ∷ (codes "version", text_data told.version)
    ∷ []

-- the fields of a registration
abbrev pub register_fields : ℕ → Registration → List Field
register_fields n told = early_fields told ++ late_fields n told

-- the registration under a number
unfoldable pub register_data : ℕ → Registration → Data
register_data n told = object_with (register_fields n told)

-- the first fields of a reading of the thing that is there under an id
abbrev pub early_read_fields : List ℕ → Registration → List Field
early_read_fields id told =
    (codes "call", call_data called.Read)
    ∷ (codes "dependencies", list_data told.dependencies)
    ∷ (codes "id", one_text id)
    ∷ (codes "inputs", pairs_data told.inputs)
    ∷ []

-- the other fields of a reading
abbrev pub late_read_fields : ℕ → Registration → List Field
late_read_fields n told =
    (codes "n", number_data n)
    ∷ (codes "name", one_text told.name)
    ∷ (codes "parent", text_data told.parent)
    ∷ (codes "propertyDependencies", keyed_data told.property_dependencies)
    ∷ (codes "provider", text_data told.provider)
    ∷ (codes "type", one_text told.kind)
    ∷ (codes "version", text_data told.version)
    ∷ []

-- the fields of a reading
abbrev pub read_fields : ℕ → List ℕ → Registration → List Field
read_fields n id told = early_read_fields id told ++ late_read_fields n told

-- the reading under a number
unfoldable pub read_data : ℕ → List ℕ → Registration → Data
read_data n id told = object_with (read_fields n id told)

-- a registration that names an id to read is a reading
abbrev pub told_data : ℕ → Registration → Option (List ℕ) → Data
told_data n told None = register_data n told
told_data n told (Some id) = read_data n id told

-- ---- the other requests

-- the fields of the outputs of a component
abbrev pub outputs_fields : ℕ → List ℕ → Pairs → List Field
outputs_fields n urn outputs =
    (codes "call", call_data called.Outputs)
    ∷ (codes "n", number_data n)
    ∷ (codes "outputs", Some (spelled_fields outputs))
    ∷ (codes "urn", one_text urn)
    ∷ []

-- the outputs of a component
unfoldable pub outputs_data : ℕ → List ℕ → Pairs → Data
outputs_data n urn outputs = object_with (outputs_fields n urn outputs)

-- the fields of the call of a provider's function
abbrev pub invoke_fields : ℕ → List ℕ → Pairs → Option (List ℕ) → Option (List ℕ) → List Field
invoke_fields n token args provider version =
    (codes "args", pairs_data args)
    ∷ (codes "call", call_data called.Invoke)
    ∷ (codes "n", number_data n)
    ∷ (codes "provider", text_data provider)
    ∷ (codes "token", one_text token)
    ∷ (codes "version", text_data version)
    ∷ []

-- the call of a provider's function
unfoldable pub invoke_data : ℕ → List ℕ → Pairs → Option (List ℕ) → Option (List ℕ) → Data
invoke_data n token args provider version = object_with (invoke_fields n token args provider version)

abbrev pub request_data : Request → Data
request_data (request.Register n told) = told_data n told told.read_id
request_data (request.Outputs n urn outputs) = outputs_data n urn outputs
request_data (request.Invoke n token args provider version) = invoke_data n token args provider version

-- ---- the word

-- the word of success
abbrev pub done_data : Data
done_data = object_with ((codes "call", call_data called.Done) ∷ [])

-- the word of error
abbrev pub failed_data : List ℕ → Data
failed_data text = object_with ((codes "call", call_data called.Failed) ∷ (codes "text", one_text text) ∷ [])

-- the JSON value of a word
abbrev pub word_data : HostWord → Data
word_data (Asks request) = request_data request
word_data Success = done_data
word_data (Error text) = failed_data text

-- the bytes of a word
unfoldable pub word_text : HostWord → List ℕ
word_text word = compact_text (word_data word)
