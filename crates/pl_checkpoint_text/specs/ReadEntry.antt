-- How an entry and a pending operation are read, and what becomes of the fields of an object that are kept unread.
use Rattle.std.specs.Prelude.{ℕ, zero, suc, ◌+◌, false, if◌then◌else◌, find, List, [], ◌∷◌, codes, bytes_eq, Option, Some, None, option_and_then, option_map, Ok, Err}
use Rattle.pl_json.specs.Faults.{key_step, element_step, behind}
use Rattle.pl_state.specs.declared.entry.Entry.{Entry}
use Rattle.pl_state.specs.declared.fault.BadCheckpoint.TheVariants.{BadValue}
use Rattle.pl_state.specs.declared.pending.Pending.{Pending}
use Rattle.pl_state.specs.declared.pending.PendingKind.{PendingKind}
use Rattle.pl_state.specs.declared.pending.PendingKind.TheVariants.{Creating, Updating, Deleting, Reading as ReadingKind, Importing}
use Rattle.pl_value.specs.Depth.{most_levels}
use Rattle.pl_value.specs.declared.json.JsonFault.{JsonFault}
use Rattle.pl_value.specs.declared.json.JsonFault.TheVariants.{NotWhole, TooDeep}
use Rattle.serde_json.specs.Data.{Data, null, boolean, number, string, array, object, Items, no_items, item, Members, no_members, member}
use Rattle.serde_json.specs.Find.{as_str}
use Rattle.serde_json.specs.Written.{compact_text}
use Rattle.pl_checkpoint_text.specs.Formed.{is_whole, is_one_of}
use Rattle.pl_checkpoint_text.specs.ReadField.{Reading, ◌>>=◌, required, optional, of_kind, flag_in, nonempty_in, members_in, urn_in, text_of, urn_of, reference_of, some_in, values_in, texts_in, urns_in, properties_in}
use Rattle.pl_checkpoint_text.specs.Spelled.{kind_word}

-- ---- fields that are kept unread

-- the members that have none of these keys
abbrev pub other_members : List (List ℕ) → Members → Members
other_members keys no_members = no_members
other_members keys (member key value more) =
    if is_one_of keys key then other_members keys more else member key value (other_members keys more)

-- the first fault of data that is kept unread
abbrev pub first_of : Option JsonFault → Option JsonFault → Option JsonFault
first_of None others = others
first_of (Some fault) others = Some fault

-- Why data is not kept unread, where so many lists and objects may stand in each other: a number in it is not whole, or it
-- is too deep. The first fault is told, from the outside in, keys and elements in their order, with the path to it.
abbrev mutual
  pub unread_fault : ℕ → Data → Option JsonFault
  unread_fault levels null = None
  unread_fault levels (boolean flag) = None
  unread_fault levels (number n) = if is_whole n then None else Some (NotWhole [])
  unread_fault levels (string text) = None
  unread_fault zero (array items) = Some (TooDeep [])
  unread_fault (suc levels) (array items) = items_fault levels 0 items
  unread_fault zero (object ms) = Some (TooDeep [])
  unread_fault (suc levels) (object ms) = members_fault levels ms

  pub items_fault : ℕ → ℕ → Items → Option JsonFault
  items_fault levels place no_items = None
  items_fault levels place (item value more) =
      first_of (option_map (behind (element_step place)) (unread_fault levels value)) (items_fault levels (place + 1) more)

  pub members_fault : ℕ → Members → Option JsonFault
  members_fault levels no_members = None
  members_fault levels (member key value more) =
      first_of (option_map (behind (key_step key)) (unread_fault levels value)) (members_fault levels more)

-- the compact text of an object of the members, unless one of them has a fault
abbrev pub unread_by : List ℕ → Members → Option JsonFault → Reading (List ℕ)
unread_by path ms None = Ok (compact_text (object ms))
unread_by path ms (Some fault) = Err (BadValue (behind path fault))

-- the text of the members that are kept unread, of the object at the path
unfoldable pub unread_of : List ℕ → Members → Reading (List ℕ)
unread_of path ms = unread_by path ms (members_fault most_levels ms)

-- ---- entries

-- the keys of an entry that are read; any other field is kept unread
abbrev pub entry_keys : List (List ℕ)
entry_keys =
    codes "additionalSecretOutputs" ∷ codes "aliases" ∷ codes "custom" ∷ codes "delete" ∷ codes "deletedWith"
    ∷ codes "dependencies" ∷ codes "external" ∷ codes "id" ∷ codes "importID" ∷ codes "initErrors" ∷ codes "inputs"
    ∷ codes "outputs" ∷ codes "parent" ∷ codes "pendingReplacement" ∷ codes "propertyDependencies" ∷ codes "protect"
    ∷ codes "provider" ∷ codes "retainOnDelete" ∷ codes "type" ∷ codes "urn" ∷ []

-- the entry whose fields are these members, at the path: its fields in the order in which they are read
unfoldable pub entry_of : List ℕ → Members → Reading Entry
entry_of path ms = do
  urn ← required urn_in path (codes "urn") ms
  kind ← required nonempty_in path (codes "type") ms
  custom ← optional false flag_in path (codes "custom") ms
  doomed ← optional false flag_in path (codes "delete") ms
  id ← optional None (some_in text_of) path (codes "id") ms
  inputs ← optional [] values_in path (codes "inputs") ms
  outputs ← optional [] values_in path (codes "outputs") ms
  parent ← optional None (some_in urn_of) path (codes "parent") ms
  provider ← optional None (some_in reference_of) path (codes "provider") ms
  dependencies ← optional [] urns_in path (codes "dependencies") ms
  property_dependencies ← optional [] properties_in path (codes "propertyDependencies") ms
  protect ← optional false flag_in path (codes "protect") ms
  external ← optional false flag_in path (codes "external") ms
  init_errors ← optional [] texts_in path (codes "initErrors") ms
  additional_secret_outputs ← optional [] texts_in path (codes "additionalSecretOutputs") ms
  aliases ← optional [] urns_in path (codes "aliases") ms
  import_id ← optional None (some_in text_of) path (codes "importID") ms
  retain_on_delete ← optional false flag_in path (codes "retainOnDelete") ms
  deleted_with ← optional None (some_in urn_of) path (codes "deletedWith") ms
  pending_replacement ← optional false flag_in path (codes "pendingReplacement") ms
  rest ← unread_of path (other_members entry_keys ms)
  Ok (record {
    urn = urn;
    custom = custom;
    kind = kind;
    id = id;
    inputs = inputs;
    outputs = outputs;
    parent = parent;
    provider = provider;
    dependencies = dependencies;
    property_dependencies = property_dependencies;
    doomed = doomed;
    protect = protect;
    external = external;
    init_errors = init_errors;
    additional_secret_outputs = additional_secret_outputs;
    aliases = aliases;
    import_id = import_id;
    retain_on_delete = retain_on_delete;
    deleted_with = deleted_with;
    pending_replacement = pending_replacement;
    rest = rest;
  })

-- an entry
abbrev pub entry_in : List ℕ → Data → Reading Entry
entry_in path value = members_in path value >>= entry_of path

-- ---- pending operations

-- what an operation was about to do, by its word
abbrev pub kind_called : List ℕ → Option PendingKind
kind_called word =
    find (λ kind. bytes_eq (kind_word kind) word) (Creating ∷ Updating ∷ Deleting ∷ ReadingKind ∷ Importing ∷ [])

-- the word for what an operation was about to do
abbrev pub kind_in : List ℕ → Data → Reading PendingKind
kind_in path value = of_kind path (option_and_then kind_called (as_str value))

-- the pending operation whose fields are these members, at the path; any other field is passed over
unfoldable pub pending_of : List ℕ → Members → Reading Pending
pending_of path ms = do
  kind ← required kind_in path (codes "type") ms
  entry ← required entry_in path (codes "resource") ms
  Ok (record { kind = kind; entry = entry })

-- a pending operation
abbrev pub pending_in : List ℕ → Data → Reading Pending
pending_in path value = members_in path value >>= pending_of path
