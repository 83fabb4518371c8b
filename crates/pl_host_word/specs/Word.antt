-- The word of a host that a frame's body spells.
use Rattle.std.specs.Prelude.{ℕ, Bool, true, false, List, [], codes, Option, Some, None, option_map, option_and_then}
use Rattle.serde_json.specs.Data.{Data}
use Rattle.serde_json.specs.Find.{get}
use Rattle.pl_state.specs.declared.goal.Registration.{Registration}
use Rattle.pl_events.specs.Requests.{is_formed_request}
use Rattle.pl_events.specs.declared.event.Request.{Request}
use Rattle.pl_events.specs.declared.event.Request.TheVariants as request
use Rattle.pl_json.specs.Texts.{json_of}
use Rattle.pl_members.specs.Field.{◌>>=◌, flag_if_there, flag_or, keyed_or_none, nonempty_text, pairs, pairs_or_none, present, request_number, text, text_if_there, texts_or_none}
use Rattle.pl_host_word.specs.Parent.{parent_text}
use Rattle.pl_host_word.specs.Words.{call_named}
use Rattle.pl_host_word.specs.declared.calls.HostCall.{HostCall}
use Rattle.pl_host_word.specs.declared.calls.HostCall.TheVariants as called
use Rattle.pl_host_word.specs.declared.options.Flags.{Flags}
use Rattle.pl_host_word.specs.declared.options.Extras.{Extras}
use Rattle.pl_host_word.specs.declared.resource.Links.{Links}
use Rattle.pl_host_word.specs.declared.resource.Names.{Names}
use Rattle.pl_host_word.specs.declared.word.HostWord.{HostWord}
use Rattle.pl_host_word.specs.declared.word.HostWord.TheVariants.{Request as Asks, Success, Error}

-- ---- what a registration and a reading have alike

-- the texts that name the resource
unfoldable pub names_of : Data → Option Names
names_of message = do
  kind ← text (get (codes "type") message)
  name ← text (get (codes "name") message)
  parent ← parent_text (present (codes "parent") message)
  provider ← text_if_there (present (codes "provider") message)
  version ← text_if_there (present (codes "version") message)
  Some (record { kind = kind; name = name; parent = parent; provider = provider; version = version })

-- what goes into the resource, and what it depends on
unfoldable pub links_of : Data → Option Links
links_of message = do
  inputs ← pairs_or_none (present (codes "inputs") message)
  dependencies ← texts_or_none (present (codes "dependencies") message)
  properties ← keyed_or_none (present (codes "propertyDependencies") message)
  Some (record { inputs = inputs; dependencies = dependencies; property_dependencies = properties })

-- ---- what a registration alone has

-- the options that are true or false
unfoldable pub flags_of : Data → Option Flags
flags_of message = do
  custom ← flag_or false (present (codes "custom") message)
  protect ← flag_or false (present (codes "protect") message)
  retain ← flag_or false (present (codes "retainOnDelete") message)
  first ← flag_if_there (present (codes "deleteBeforeReplace") message)
  Some (record { custom = custom; protect = protect; retain_on_delete = retain; delete_before_replace = first })

-- the options that are texts and lists of texts
unfoldable pub extras_of : Data → Option Extras
extras_of message = do
  aliases ← texts_or_none (present (codes "aliases") message)
  ignored ← texts_or_none (present (codes "ignoreChanges") message)
  secrets ← texts_or_none (present (codes "additionalSecretOutputs") message)
  deleted_with ← text_if_there (present (codes "deletedWith") message)
  import_id ← text_if_there (present (codes "importId") message)
  Some (record { aliases = aliases; ignore_changes = ignored; additional_secret_outputs = secrets; deleted_with = deleted_with; import_id = import_id })

-- ---- registrations and readings

-- the registration that has these parts
abbrev pub registered : Names → Links → Flags → Extras → Registration
registered names links flags extras = record {
  kind = names.kind;
  name = names.name;
  custom = flags.custom;
  inputs = links.inputs;
  parent = names.parent;
  provider = names.provider;
  dependencies = links.dependencies;
  property_dependencies = links.property_dependencies;
  protect = flags.protect;
  aliases = extras.aliases;
  ignore_changes = extras.ignore_changes;
  delete_before_replace = flags.delete_before_replace;
  retain_on_delete = flags.retain_on_delete;
  deleted_with = extras.deleted_with;
  additional_secret_outputs = extras.additional_secret_outputs;
  import_id = extras.import_id;
  version = names.version;
  read_id = None;
}

-- the reading of the thing that is there under an id: it is custom, and has no option of a registration
abbrev pub reading : Names → Links → List ℕ → Registration
reading names links id = record {
  kind = names.kind;
  name = names.name;
  custom = true;
  inputs = links.inputs;
  parent = names.parent;
  provider = names.provider;
  dependencies = links.dependencies;
  property_dependencies = links.property_dependencies;
  protect = false;
  aliases = [];
  ignore_changes = [];
  delete_before_replace = None;
  retain_on_delete = false;
  deleted_with = None;
  additional_secret_outputs = [];
  import_id = None;
  version = names.version;
  read_id = Some id;
}

-- ---- requests

unfoldable pub register_of : Data → Option Request
register_of message = do
  n ← request_number (get (codes "n") message)
  names ← names_of message
  links ← links_of message
  flags ← flags_of message
  extras ← extras_of message
  Some (request.Register n (registered names links flags extras))

unfoldable pub read_of : Data → Option Request
read_of message = do
  n ← request_number (get (codes "n") message)
  names ← names_of message
  id ← nonempty_text (get (codes "id") message)
  links ← links_of message
  Some (request.Register n (reading names links id))

unfoldable pub outputs_of : Data → Option Request
outputs_of message = do
  n ← request_number (get (codes "n") message)
  urn ← text (get (codes "urn") message)
  outputs ← pairs (get (codes "outputs") message)
  Some (request.Outputs n urn outputs)

unfoldable pub invoke_of : Data → Option Request
invoke_of message = do
  n ← request_number (get (codes "n") message)
  token ← text (get (codes "token") message)
  args ← pairs_or_none (present (codes "args") message)
  provider ← text_if_there (present (codes "provider") message)
  version ← text_if_there (present (codes "version") message)
  Some (request.Invoke n token args provider version)

-- ---- the word

-- the word of error
abbrev pub failed_of : Data → Option HostWord
failed_of message = option_map Error (text (get (codes "text") message))

-- whether a word, if it is a request, has the form that a message gives one
abbrev pub is_formed_word : HostWord → Bool
is_formed_word (Asks request) = is_formed_request request
is_formed_word Success = true
is_formed_word (Error text) = true

-- the word that a message with this call spells
abbrev pub word_called : HostCall → Data → Option HostWord
word_called called.Register message = option_map Asks (register_of message)
word_called called.Read message = option_map Asks (read_of message)
word_called called.Outputs message = option_map Asks (outputs_of message)
word_called called.Invoke message = option_map Asks (invoke_of message)
word_called called.Done message = Some Success
word_called called.Failed message = failed_of message

-- the word that a message spells
unfoldable pub word_read : Data → Option HostWord
word_read message = do
  word ← text (get (codes "call") message)
  call ← call_named word
  word_called call message

-- the word that the bytes spell; `None` where they are no message
unfoldable pub word_in : List ℕ → Option HostWord
word_in bytes = option_and_then word_read (json_of bytes)
