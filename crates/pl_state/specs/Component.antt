-- What a component has that was registered without an option.
use Rattle.std.specs.Prelude.{ℕ, Bool, true, false, not, ◌&&◌, Option, None, is_none, List, [], ◌∷◌, codes}
use Rattle.pl_lemmas.specs.Words.{has_none}
use Rattle.pl_state.specs.declared.entry.Entry.{Entry}
use Rattle.pl_state.specs.declared.goal.Goal.{Goal}
use Rattle.pl_state.specs.declared.goal.Registration.{Registration}
use Rattle.pl_state.specs.declared.snapshot.Snapshot.{Snapshot}

-- the text of a JSON object without a field
abbrev pub no_fields : List ℕ
no_fields = codes "{}"

-- an entry that has nothing but a type, a parent and whether it is custom
abbrev pub bare_entry : List ℕ → Bool → List ℕ → Option (List ℕ) → Entry
bare_entry urn custom kind parent = record {
  urn = urn;
  custom = custom;
  kind = kind;
  id = None;
  inputs = [];
  outputs = [];
  parent = parent;
  provider = None;
  dependencies = [];
  property_dependencies = [];
  doomed = false;
  protect = false;
  external = false;
  init_errors = [];
  additional_secret_outputs = [];
  aliases = [];
  import_id = None;
  retain_on_delete = false;
  deleted_with = None;
  pending_replacement = false;
  rest = no_fields;
}

-- the entry of a component that has nothing but a type and a parent
abbrev pub component_entry : List ℕ → List ℕ → Option (List ℕ) → Entry
component_entry urn kind parent = bare_entry urn false kind parent

-- the text of the unread fields of a new state: an empty manifest
abbrev pub new_fields : List ℕ
new_fields = codes "{\"manifest\":{}}"

-- a state with these entries, nothing pending, and an empty manifest
abbrev pub bare_state : List ℕ → List Entry → Snapshot
bare_state stack entries = record { stack = stack; entries = entries; pending = []; rest = new_fields }

-- the registration of such a component
abbrev pub plain_registration : List ℕ → List ℕ → Option (List ℕ) → Registration
plain_registration kind name parent = record {
  kind = kind;
  name = name;
  custom = false;
  inputs = [];
  parent = parent;
  provider = None;
  dependencies = [];
  property_dependencies = [];
  protect = false;
  aliases = [];
  ignore_changes = [];
  delete_before_replace = None;
  retain_on_delete = false;
  deleted_with = None;
  additional_secret_outputs = [];
  import_id = None;
  version = None;
  read_id = None;
}

-- the goal of such a component
abbrev pub plain_goal : List ℕ → List ℕ → Option (List ℕ) → Goal
plain_goal urn kind parent = record {
  urn = urn;
  custom = false;
  kind = kind;
  inputs = [];
  parent = parent;
  provider = None;
  dependencies = [];
  property_dependencies = [];
  protect = false;
  aliases = [];
  ignore_changes = [];
  delete_before_replace = None;
  retain_on_delete = false;
  deleted_with = None;
  additional_secret_outputs = [];
  import_id = None;
  version = None;
  read_id = None;
}

-- whether the options that say what is done with the thing are left out
abbrev pub has_no_flags : Registration → Bool
has_no_flags told =
    not told.custom && not told.protect && not told.retain_on_delete && is_none told.delete_before_replace

-- whether the texts that name one thing are left out
abbrev pub has_no_names : Registration → Bool
has_no_names told =
    is_none told.provider && is_none told.deleted_with && is_none told.import_id && is_none told.version && is_none told.read_id

-- whether the lists of options are empty
abbrev pub has_no_lists : Registration → Bool
has_no_lists told =
    has_none told.inputs && has_none told.dependencies && has_none told.property_dependencies
    && has_none told.aliases && has_none told.ignore_changes && has_none told.additional_secret_outputs

-- whether a registration is that of a component without an option
abbrev pub is_plain : Registration → Bool
is_plain told = has_no_flags told && has_no_names told && has_no_lists told
