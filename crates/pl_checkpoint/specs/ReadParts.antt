-- An entry in parts, each with some of its fields in the order in which they are read.
use Rattle.std.specs.Prelude.{ℕ, false, List, [], codes, None, Ok}
use Rattle.pl_state.specs.declared.entry.Entry.{Entry}
use Rattle.serde_json.specs.Data.{Members}
use Rattle.pl_checkpoint_text.specs.ReadEntry.{entry_keys, other_members, unread_of}
use Rattle.pl_checkpoint_text.specs.ReadField.{Reading, ◌>>=◌, required, optional, flag_in, nonempty_in, urn_in, text_of, urn_of, reference_of, some_in, values_in, texts_in, urns_in, properties_in}
use Rattle.pl_checkpoint.specs.declared.sections.Further.{Further}
use Rattle.pl_checkpoint.specs.declared.sections.Last.{Last}
use Rattle.pl_checkpoint.specs.declared.sections.Linked.{Linked}
use Rattle.pl_checkpoint.specs.declared.sections.Named.{Named}
use Rattle.pl_checkpoint.specs.declared.sections.Placed.{Placed}

-- what names the entry, and what it is
unfoldable pub named_of : List ℕ → Members → Reading Named
named_of path ms = do
  urn ← required urn_in path (codes "urn") ms
  kind ← required nonempty_in path (codes "type") ms
  custom ← optional false flag_in path (codes "custom") ms
  doomed ← optional false flag_in path (codes "delete") ms
  id ← optional None (some_in text_of) path (codes "id") ms
  Ok (record { urn = urn; kind = kind; custom = custom; doomed = doomed; id = id })

-- its values, and what it belongs to
unfoldable pub placed_of : List ℕ → Members → Reading Placed
placed_of path ms = do
  inputs ← optional [] values_in path (codes "inputs") ms
  outputs ← optional [] values_in path (codes "outputs") ms
  parent ← optional None (some_in urn_of) path (codes "parent") ms
  provider ← optional None (some_in reference_of) path (codes "provider") ms
  Ok (record { inputs = inputs; outputs = outputs; parent = parent; provider = provider })

-- what it depends on, and how it is kept
unfoldable pub linked_of : List ℕ → Members → Reading Linked
linked_of path ms = do
  dependencies ← optional [] urns_in path (codes "dependencies") ms
  property_dependencies ← optional [] properties_in path (codes "propertyDependencies") ms
  protect ← optional false flag_in path (codes "protect") ms
  external ← optional false flag_in path (codes "external") ms
  init_errors ← optional [] texts_in path (codes "initErrors") ms
  Ok (record { dependencies = dependencies; property_dependencies = property_dependencies; protect = protect; external = external; init_errors = init_errors })

-- its further choices
unfoldable pub further_of : List ℕ → Members → Reading Further
further_of path ms = do
  additional_secret_outputs ← optional [] texts_in path (codes "additionalSecretOutputs") ms
  aliases ← optional [] urns_in path (codes "aliases") ms
  import_id ← optional None (some_in text_of) path (codes "importID") ms
  retain_on_delete ← optional false flag_in path (codes "retainOnDelete") ms
  Ok (record { additional_secret_outputs = additional_secret_outputs; aliases = aliases; import_id = import_id; retain_on_delete = retain_on_delete })

-- what is read last, and the fields that are kept unread
unfoldable pub last_of : List ℕ → Members → Reading Last
last_of path ms = do
  deleted_with ← optional None (some_in urn_of) path (codes "deletedWith") ms
  pending_replacement ← optional false flag_in path (codes "pendingReplacement") ms
  rest ← unread_of path (other_members entry_keys ms)
  Ok (record { deleted_with = deleted_with; pending_replacement = pending_replacement; rest = rest })

-- the entry with these parts
abbrev pub joined : Named → Placed → Linked → Further → Last → Entry
joined named placed linked further last = record {
  urn = named.urn;
  custom = named.custom;
  kind = named.kind;
  id = named.id;
  inputs = placed.inputs;
  outputs = placed.outputs;
  parent = placed.parent;
  provider = placed.provider;
  dependencies = linked.dependencies;
  property_dependencies = linked.property_dependencies;
  doomed = named.doomed;
  protect = linked.protect;
  external = linked.external;
  init_errors = linked.init_errors;
  additional_secret_outputs = further.additional_secret_outputs;
  aliases = further.aliases;
  import_id = further.import_id;
  retain_on_delete = further.retain_on_delete;
  deleted_with = last.deleted_with;
  pending_replacement = last.pending_replacement;
  rest = last.rest;
}

-- the entry whose fields are these members, at the path, part by part
unfoldable pub entry_by_parts : List ℕ → Members → Reading Entry
entry_by_parts path ms = do
  named ← named_of path ms
  placed ← placed_of path ms
  linked ← linked_of path ms
  further ← further_of path ms
  last ← last_of path ms
  Ok (joined named placed linked further last)
