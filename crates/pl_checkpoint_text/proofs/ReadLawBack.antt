-- An entry is read as what it was written for, and so is a pending operation.
use Rattle.std.proofs.Common.{◌≡◌, ℕ, true, false, List, [], codes, Some, None, Ok, refl, sym, ap, ◌∙◌}
use Rattle.pl_value.specs.Depth.{most_levels}
use Rattle.pl_value.specs.Keys.{keys_of}
use Rattle.pl_state.specs.declared.entry.Entry.{Entry}
use Rattle.pl_state.specs.declared.pending.Pending.{Pending}
use Rattle.pl_state.specs.declared.pending.PendingKind.{PendingKind}
use Rattle.pl_state.specs.declared.pending.PendingKind.TheVariants.{Creating, Updating, Deleting, Reading as ReadingKind, Importing}
use Rattle.serde_json.specs.Data.{string, Members, no_members, member}
use Rattle.pl_checkpoint_text.specs.Formed.{is_one_of, IsFormedEntry, IsUnread}
use Rattle.pl_checkpoint_text.specs.Laws.{HasValues}
use Rattle.pl_checkpoint_text.specs.ReadEntry.{entry_in, entry_keys, entry_of, kind_in, other_members, pending_in, pending_of, unread_by, unread_of}
use Rattle.pl_checkpoint_text.specs.ReadField.{field_path, flag_in, nonempty_in, optional, properties_in, reference_of, required, some_in, text_of, texts_in, unless_null, urn_in, urn_of, urns_in, values_in}
use Rattle.pl_checkpoint_text.specs.ReadLaws.{HasUrns}
use Rattle.pl_json.specs.Objects.{with_fields}
use Rattle.pl_checkpoint_text.specs.Spelled.{entry_data, entry_fields, kind_word, pending_data, unread_fields}
use Rattle.pl_json.proofs.Objects.{over_none}
use Rattle.pl_checkpoint_text.proofs.EntryTells.{get_member-own, other_members-own, own_keys}
use Rattle.pl_checkpoint_text.proofs.Fields.{Key}
use Rattle.pl_checkpoint_text.proofs.ReadLawEntry.{IsTold, keys_same}
use Rattle.pl_checkpoint_text.proofs.ReadLawKinds.{then_ok, required_some, flag_back, bool_back, text_back, kind_back, urn_back, some_urn_back, provider_back, texts_back, urns_back, values_back, properties_back}
use Rattle.pl_checkpoint_text.proofs.ReadLawUnread.{faultless_members}

-- the text of unread fields is what it was
pub rest_back : (path text : List ℕ) (keys : List Key) → IsUnread keys text → unread_of path (unread_fields text) ≡ Ok text
unfolding unread_of
rest_back path text keys unread =
    ap (unread_by path (unread_fields text)) (faultless_members most_levels (unread_fields text) unread.wholes unread.depth)
    ∙ ap Ok (sym unread.spelled)

-- ---- entries

abbrev written : Entry → Members
written entry = with_fields (entry_fields entry) (unread_fields entry.rest)

given_rest : (path : List ℕ) (entry : Entry) → IsFormedEntry entry → unread_of path (other_members entry_keys (written entry)) ≡ Ok entry.rest
given_rest path entry formed =
    ap (λ keys. unread_of path (other_members keys (written entry))) (keys_same entry)
    ∙ ap (unread_of path) (other_members-own (entry_fields entry) (unread_fields entry.rest) formed.rest.other (own_keys entry))
    ∙ rest_back path entry.rest (keys_of (entry_fields entry)) formed.rest

entry_back : (path : List ℕ) (entry : Entry) → IsFormedEntry entry → HasValues entry → HasUrns entry → entry_of path (written entry) ≡ Ok entry
unfolding entry_of entry_fields
entry_back path entry formed valued named =
    let ms = written entry in
    let at = λ (key : Key) (own : is_one_of (keys_of (entry_fields entry)) key ≡ true). get_member-own (entry_fields entry) (unread_fields entry.rest) key formed.rest.other own in
    then_ok (required urn_in path (codes "urn") ms) _ entry.urn (urn_back path (codes "urn") ms entry.urn (at (codes "urn") refl) named.urn)
    ∙ then_ok (required nonempty_in path (codes "type") ms) _ entry.kind (kind_back path (codes "type") ms entry.kind (at (codes "type") refl) formed.kind)
    ∙ then_ok (optional false flag_in path (codes "custom") ms) _ entry.custom (bool_back path (codes "custom") ms entry.custom (at (codes "custom") refl))
    ∙ then_ok (optional false flag_in path (codes "delete") ms) _ entry.doomed (flag_back path (codes "delete") ms entry.doomed (at (codes "delete") refl ∙ over_none _))
    ∙ then_ok (optional None (some_in text_of) path (codes "id") ms) _ entry.id (text_back path (codes "id") ms entry.id (at (codes "id") refl ∙ over_none _) formed.id)
    ∙ then_ok (optional [] values_in path (codes "inputs") ms) _ entry.inputs
    (values_back path (codes "inputs") ms entry.inputs (at (codes "inputs") refl ∙ over_none _) valued.inputs valued.whole_inputs formed.inputs)
    ∙ then_ok (optional [] values_in path (codes "outputs") ms) _ entry.outputs
    (values_back path (codes "outputs") ms entry.outputs (at (codes "outputs") refl ∙ over_none _) valued.outputs valued.whole_outputs formed.outputs)
    ∙ then_ok (optional None (some_in urn_of) path (codes "parent") ms) _ entry.parent (some_urn_back path (codes "parent") ms entry.parent (at (codes "parent") refl ∙ over_none _) named.parent)
    ∙ then_ok (optional None (some_in reference_of) path (codes "provider") ms) _ entry.provider
    (provider_back path (codes "provider") ms entry.provider (at (codes "provider") refl ∙ over_none _) formed.provider)
    ∙ then_ok (optional [] urns_in path (codes "dependencies") ms) _ entry.dependencies
    (urns_back path (codes "dependencies") ms entry.dependencies (at (codes "dependencies") refl ∙ over_none _) named.dependencies)
    ∙ then_ok (optional [] properties_in path (codes "propertyDependencies") ms) _ entry.property_dependencies
    (properties_back path (codes "propertyDependencies") ms entry.property_dependencies (at (codes "propertyDependencies") refl ∙ over_none _) formed.properties named.properties)
    ∙ then_ok (optional false flag_in path (codes "protect") ms) _ entry.protect (flag_back path (codes "protect") ms entry.protect (at (codes "protect") refl ∙ over_none _))
    ∙ then_ok (optional false flag_in path (codes "external") ms) _ entry.external (flag_back path (codes "external") ms entry.external (at (codes "external") refl ∙ over_none _))
    ∙ then_ok (optional [] texts_in path (codes "initErrors") ms) _ entry.init_errors (texts_back path (codes "initErrors") ms entry.init_errors (at (codes "initErrors") refl ∙ over_none _))
    ∙ then_ok (optional [] texts_in path (codes "additionalSecretOutputs") ms) _ entry.additional_secret_outputs
    (texts_back path (codes "additionalSecretOutputs") ms entry.additional_secret_outputs (at (codes "additionalSecretOutputs") refl ∙ over_none _))
    ∙ then_ok (optional [] urns_in path (codes "aliases") ms) _ entry.aliases (urns_back path (codes "aliases") ms entry.aliases (at (codes "aliases") refl ∙ over_none _) named.aliases)
    ∙ then_ok (optional None (some_in text_of) path (codes "importID") ms) _ entry.import_id
    (text_back path (codes "importID") ms entry.import_id (at (codes "importID") refl ∙ over_none _) formed.import_id)
    ∙ then_ok (optional false flag_in path (codes "retainOnDelete") ms) _ entry.retain_on_delete
    (flag_back path (codes "retainOnDelete") ms entry.retain_on_delete (at (codes "retainOnDelete") refl ∙ over_none _))
    ∙ then_ok (optional None (some_in urn_of) path (codes "deletedWith") ms) _ entry.deleted_with
    (some_urn_back path (codes "deletedWith") ms entry.deleted_with (at (codes "deletedWith") refl ∙ over_none _) named.deleted_with)
    ∙ then_ok (optional false flag_in path (codes "pendingReplacement") ms) _ entry.pending_replacement
    (flag_back path (codes "pendingReplacement") ms entry.pending_replacement (at (codes "pendingReplacement") refl ∙ over_none _))
    ∙ then_ok (unread_of path (other_members entry_keys ms)) _ entry.rest (given_rest path entry formed)

pub entry_read : (path : List ℕ) (entry : Entry) → IsTold entry → entry_in path (entry_data entry) ≡ Ok entry
unfolding entry_data
entry_read path entry told = entry_back path entry told.formed told.valued told.named

-- ---- pending operations

word_read : (path : List ℕ) (kind : PendingKind) → kind_in path (string (kind_word kind)) ≡ Ok kind
word_read path Creating = refl
word_read path Updating = refl
word_read path Deleting = refl
word_read path ReadingKind = refl
word_read path Importing = refl

not_null : (entry : Entry) → unless_null (Some (entry_data entry)) ≡ Some (entry_data entry)
unfolding entry_data
not_null entry = refl

pub pending_read : (path : List ℕ) (operation : Pending) → IsTold operation.entry → pending_in path (pending_data operation) ≡ Ok operation
unfolding pending_of pending_data
pending_read path operation told =
    let ms = member (codes "resource") (entry_data operation.entry) (member (codes "type") (string (kind_word operation.kind)) no_members) in
    then_ok (required kind_in path (codes "type") ms) _ operation.kind
    (required_some operation.kind kind_in path (codes "type") ms (string (kind_word operation.kind)) refl refl (word_read (field_path path (codes "type")) operation.kind))
    ∙ then_ok (required entry_in path (codes "resource") ms) _ operation.entry
    (required_some operation.entry entry_in path (codes "resource") ms (entry_data operation.entry) refl (not_null operation.entry) (entry_read (field_path path (codes "resource")) operation.entry told))
