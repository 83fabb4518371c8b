-- How a state is spelled: the checkpoint's data of version 3 and its text. An object's members stand in rising order of
-- their keys.
use Rattle.std.specs.Prelude.{ℕ, Bool, true, false, if◌then◌else◌, List, [], ◌∷◌, map, Option, Some, None, option_and_then, option_map, is_some, codes}
use Rattle.pl_json.specs.Objects.{Field, with_fields, flag_data, text_data, unless_empty, texts_data}
use Rattle.pl_json.specs.Spelled.{spelled_fields}
use Rattle.pl_state.specs.declared.entry.Entry.{Entry}
use Rattle.pl_state.specs.declared.pending.Pending.{Pending}
use Rattle.pl_state.specs.declared.pending.PendingKind.{PendingKind}
use Rattle.pl_state.specs.declared.pending.PendingKind.TheVariants.{Creating, Updating, Deleting, Reading, Importing}
use Rattle.pl_reference.specs.Reference.{reference_text}
use Rattle.pl_state.specs.declared.snapshot.Snapshot.{Snapshot}
use Rattle.serde_json.specs.Data.{Data, boolean, number, unsigned, string, array, object, Members, no_members, member, put}
use Rattle.serde_json.specs.Find.{as_object, get_member}
use Rattle.serde_json.specs.Read.{read}
use Rattle.serde_json.specs.View.{items_of}
use Rattle.serde_json.specs.Written.{compact_text, members_have_float}

-- ---- what stands under one key

-- the field of a property: the URNs that its value depends on, an empty array where there are none
abbrev pub property_field : List ℕ × List (List ℕ) → Field
property_field pair = (pair.0, Some (texts_data pair.1))

-- lists of URNs by their properties, as an object
abbrev pub properties_data : List (List ℕ × List (List ℕ)) → Data
properties_data pairs = object (with_fields (map property_field pairs) no_members)

-- ---- fields that are kept unread

-- the members; none where there are none, and none where a number in them is not whole
abbrev pub whole_members : Option Members → Members
whole_members None = no_members
whole_members (Some ms) = if members_have_float ms then no_members else ms

-- the fields that a text spells, those of the object that it is
unfoldable pub unread_fields : List ℕ → Members
unread_fields text = whole_members (option_and_then as_object (read text))

-- ---- entries

-- The fields of an entry, by their keys. `custom`, `type` and `urn` always stand in it, any other one where it has a
-- value of its own.
unfoldable pub entry_fields : Entry → List Field
entry_fields entry =
    (codes "additionalSecretOutputs", unless_empty entry.additional_secret_outputs (texts_data entry.additional_secret_outputs))
    ∷ (codes "aliases", unless_empty entry.aliases (texts_data entry.aliases))
    ∷ (codes "custom", Some (boolean entry.custom))
    ∷ (codes "delete", flag_data entry.doomed)
    ∷ (codes "deletedWith", text_data entry.deleted_with)
    ∷ (codes "dependencies", unless_empty entry.dependencies (texts_data entry.dependencies))
    ∷ (codes "external", flag_data entry.external)
    ∷ (codes "id", text_data entry.id)
    ∷ (codes "importID", text_data entry.import_id)
    ∷ (codes "initErrors", unless_empty entry.init_errors (texts_data entry.init_errors))
    ∷ (codes "inputs", unless_empty entry.inputs (spelled_fields entry.inputs))
    ∷ (codes "outputs", unless_empty entry.outputs (spelled_fields entry.outputs))
    ∷ (codes "parent", text_data entry.parent)
    ∷ (codes "pendingReplacement", flag_data entry.pending_replacement)
    ∷ (codes "propertyDependencies", unless_empty entry.property_dependencies (properties_data entry.property_dependencies))
    ∷ (codes "protect", flag_data entry.protect)
    ∷ (codes "provider", text_data (option_map reference_text entry.provider))
    ∷ (codes "retainOnDelete", flag_data entry.retain_on_delete)
    ∷ (codes "type", Some (string entry.kind))
    ∷ (codes "urn", Some (string entry.urn))
    ∷ []

-- an entry's object: its own fields among those that are kept unread
unfoldable pub entry_data : Entry → Data
entry_data entry = object (with_fields (entry_fields entry) (unread_fields entry.rest))

-- the entries in their order, as an array
unfoldable pub entries_data : List Entry → Data
entries_data entries = array (items_of (map entry_data entries))

-- ---- pending operations

-- the word for what an operation was about to do
abbrev pub kind_word : PendingKind → List ℕ
kind_word Creating = codes "creating"
kind_word Updating = codes "updating"
kind_word Deleting = codes "deleting"
kind_word Reading = codes "reading"
kind_word Importing = codes "importing"

-- a pending operation: the entry that it is about, and its word
unfoldable pub pending_data : Pending → Data
pending_data operation = object (
    member (codes "resource") (entry_data operation.entry) (
    member (codes "type") (string (kind_word operation.kind))
    no_members))

-- the operations in their order, as an array
unfoldable pub pendings_data : List Pending → Data
pendings_data operations = array (items_of (map pending_data operations))

-- ---- the state

-- the members, with an empty manifest where they have none
abbrev pub with_manifest : Members → Members
with_manifest ms =
    if is_some (get_member (codes "manifest") ms) then ms else put (codes "manifest") (object no_members) ms

-- the fields of a deployment: what is pending, and the entries
unfoldable pub deployment_fields : Snapshot → List Field
deployment_fields state =
    (codes "pending_operations", Some (pendings_data state.pending))
    ∷ (codes "resources", Some (entries_data state.entries))
    ∷ []

-- the deployment: its own fields among those that are kept unread, the manifest among these
unfoldable pub deployment_data : Snapshot → Data
deployment_data state = object (with_fields (deployment_fields state) (with_manifest (unread_fields state.rest)))

-- the stack: its deployment and its name
unfoldable pub stack_data : Snapshot → Data
stack_data state = object (
    member (codes "latest") (deployment_data state) (
    member (codes "stack") (string state.stack)
    no_members))

-- the whole checkpoint: the stack, and the number of the format's version
unfoldable pub checkpoint_data : Snapshot → Data
checkpoint_data state = object (
    member (codes "checkpoint") (stack_data state) (
    member (codes "version") (number (unsigned 3))
    no_members))

-- the checkpoint's bytes: JSON without a space or a line break
unfoldable pub checkpoint_text : Snapshot → List ℕ
checkpoint_text state = compact_text (checkpoint_data state)
