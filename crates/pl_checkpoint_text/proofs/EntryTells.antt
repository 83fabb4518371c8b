-- What is written of an entry tells the entry.
use Rattle.std.proofs.Common.{◌≡◌, ℕ, Bool, true, List, [], ◌∷◌, map, Option, Some, None, codes, refl, sym, ap, ap₂, ◌∙◌}
use Rattle.std.specs.List.{AllByRecursion, list_all}
use Rattle.pl_value.specs.Keys.{keys_of}
use Rattle.pl_value.specs.declared.value.Value.{Value}
use Rattle.pl_state.specs.declared.entry.Entry.{Entry}
use Rattle.pl_state.specs.declared.pending.Pending.{Pending}
use Rattle.pl_state.specs.declared.pending.PendingKind.{PendingKind}
use Rattle.pl_reference.specs.declared.reference.ProviderRef.{ProviderRef}
use Rattle.serde_json.specs.Data.{Data, object, Members}
use Rattle.serde_json.specs.Find.{get_member}
use Rattle.serde_json.specs.View.{items_of}
use Rattle.serde_json.specs.Written.{compact_text}
use Rattle.pl_checkpoint_text.specs.Formed.{is_one_of, are_other, IsUnread, IsFormedEntry}
use Rattle.pl_checkpoint_text.specs.ReadEntry.{other_members}
use Rattle.pl_checkpoint_text.specs.Laws.{HasValues}
use Rattle.pl_json.specs.Objects.{Field, with_fields}
use Rattle.pl_checkpoint_text.specs.Spelled.{entry_fields, entry_data, pending_data, unread_fields}
use Rattle.pl_json.proofs.Objects.{over, over_none}
use Rattle.pl_checkpoint_text.proofs.Fields.{Key, found, get_member-with_fields, get_member-other, other_members-other, other_members-with_fields}
use Rattle.pl_checkpoint_text.proofs.Parts.{same_flag, same_text, same_texts, same_values, same_properties, same_provider, same_kind}

-- ---- fields among others

-- what stands under the key of a field is what was written of the field
pub get_member-own : (fields : List Field) (ms : Members) (key : Key) → are_other (keys_of fields) ms ≡ true → is_one_of (keys_of fields) key ≡ true
    → get_member key (with_fields fields ms) ≡ found fields key None
get_member-own fields ms key other own =
    get_member-with_fields fields key ms ∙ ap (found fields key) (get_member-other (keys_of fields) key ms own other)

-- the other members are those that stood there
pub other_members-own : (fields : List Field) (ms : Members) → are_other (keys_of fields) ms ≡ true
    → list_all (λ field. is_one_of (keys_of fields) field.0) fields ≡ true → other_members (keys_of fields) (with_fields fields ms) ≡ ms
other_members-own fields ms other own =
    other_members-with_fields (keys_of fields) fields ms own ∙ other_members-other (keys_of fields) ms other

bare : (one two : Option Data) → over one None ≡ over two None → one ≡ two
bare one two same = sym (over_none one) ∙ same ∙ over_none two

-- the text of unread fields is told by them
pub same_rest : (keys : List Key) (one two : List ℕ) → IsUnread keys one → IsUnread keys two → unread_fields one ≡ unread_fields two → one ≡ two
same_rest keys one two unread unread' same = unread.spelled ∙ ap (λ ms. compact_text (object ms)) same ∙ sym unread'.spelled

-- ---- one entry

pub own_keys : (entry : Entry) → list_all (λ field. is_one_of (keys_of (entry_fields entry)) field.0) (entry_fields entry) ≡ true
unfolding entry_fields
own_keys entry = refl

same_keys : (one two : Entry) → keys_of (entry_fields one) ≡ keys_of (entry_fields two)
unfolding entry_fields
same_keys one two = refl

abbrev written : Entry → Members
written entry = with_fields (entry_fields entry) (unread_fields entry.rest)

same_written : (one two : Entry) → entry_data one ≡ entry_data two → written one ≡ written two
unfolding entry_data
same_written one two same = cc

same_unread : (one two : Entry) → IsFormedEntry one → IsFormedEntry two → written one ≡ written two → unread_fields one.rest ≡ unread_fields two.rest
same_unread one two formed formed' same =
    sym (other_members-own (entry_fields one) (unread_fields one.rest) formed.rest.other (own_keys one))
    ∙ ap₂ other_members (same_keys one two) same
    ∙ other_members-own (entry_fields two) (unread_fields two.rest) formed'.rest.other (own_keys two)

-- the same is found under each key
same_at : (one two : Entry) → IsFormedEntry one → IsFormedEntry two → written one ≡ written two
    → (key : Key) → is_one_of (keys_of (entry_fields one)) key ≡ true → found (entry_fields one) key None ≡ found (entry_fields two) key None
same_at one two formed formed' same key own =
    sym (get_member-own (entry_fields one) (unread_fields one.rest) key formed.rest.other own)
    ∙ ap (get_member key) same
    ∙ get_member-own (entry_fields two) (unread_fields two.rest) key formed'.rest.other (sym (ap (λ keys. is_one_of keys key) (same_keys one two)) ∙ own)

same_record : (one two : Entry)
    → one.urn ≡ two.urn
    → one.custom ≡ two.custom
    → one.kind ≡ two.kind
    → one.id ≡ two.id
    → one.inputs ≡ two.inputs
    → one.outputs ≡ two.outputs
    → one.parent ≡ two.parent
    → one.provider ≡ two.provider
    → one.dependencies ≡ two.dependencies
    → one.property_dependencies ≡ two.property_dependencies
    → one.doomed ≡ two.doomed
    → one.protect ≡ two.protect
    → one.external ≡ two.external
    → one.init_errors ≡ two.init_errors
    → one.additional_secret_outputs ≡ two.additional_secret_outputs
    → one.aliases ≡ two.aliases
    → one.import_id ≡ two.import_id
    → one.retain_on_delete ≡ two.retain_on_delete
    → one.deleted_with ≡ two.deleted_with
    → one.pending_replacement ≡ two.pending_replacement
    → one.rest ≡ two.rest
    → one ≡ two
same_record one two e0 e1 e2 e3 e4 e5 e6 e7 e8 e9 e10 e11 e12 e13 e14 e15 e16 e17 e18 e19 e20 =
    let same : made one.urn one.custom one.kind one.id one.inputs one.outputs one.parent one.provider one.dependencies one.property_dependencies one.doomed one.protect one.external one.init_errors one.additional_secret_outputs one.aliases one.import_id one.retain_on_delete one.deleted_with one.pending_replacement one.rest
    ≡ made two.urn two.custom two.kind two.id two.inputs two.outputs two.parent two.provider two.dependencies two.property_dependencies two.doomed two.protect two.external two.init_errors two.additional_secret_outputs two.aliases two.import_id two.retain_on_delete two.deleted_with two.pending_replacement two.rest = cc in same
  where
    made : Key → Bool → Key → Option Key → List (Key × Value) → List (Key × Value) → Option Key → Option ProviderRef → List Key → List (Key × List Key) → Bool → Bool → Bool → List Key → List Key → List Key → Option Key → Bool → Option Key → Bool → Key → Entry
    made urn custom kind id inputs outputs parent provider dependencies property_dependencies doomed protect external init_errors additional_secret_outputs aliases import_id retain_on_delete deleted_with pending_replacement rest = record { urn = urn; custom = custom; kind = kind; id = id; inputs = inputs; outputs = outputs; parent = parent; provider = provider; dependencies = dependencies; property_dependencies = property_dependencies; doomed = doomed; protect = protect; external = external; init_errors = init_errors; additional_secret_outputs = additional_secret_outputs; aliases = aliases; import_id = import_id; retain_on_delete = retain_on_delete; deleted_with = deleted_with; pending_replacement = pending_replacement; rest = rest }

same_entry : (one two : Entry) → IsFormedEntry one → IsFormedEntry two → HasValues one → HasValues two → entry_data one ≡ entry_data two → one ≡ two
unfolding entry_fields
same_entry one two formed formed' valued valued' same =
    let ms = same_written one two same in
    let at = same_at one two formed formed' ms in
    let secrets = same_texts one.additional_secret_outputs two.additional_secret_outputs (bare _ _ (at (codes "additionalSecretOutputs") refl)) in
    let aliases = same_texts one.aliases two.aliases (bare _ _ (at (codes "aliases") refl)) in
    let custom : one.custom ≡ two.custom = let c = at (codes "custom") refl in cc in
    let doomed = same_flag one.doomed two.doomed (bare _ _ (at (codes "delete") refl)) in
    let deleted_with = same_text one.deleted_with two.deleted_with (bare _ _ (at (codes "deletedWith") refl)) in
    let dependencies = same_texts one.dependencies two.dependencies (bare _ _ (at (codes "dependencies") refl)) in
    let external = same_flag one.external two.external (bare _ _ (at (codes "external") refl)) in
    let id = same_text one.id two.id (bare _ _ (at (codes "id") refl)) in
    let import_id = same_text one.import_id two.import_id (bare _ _ (at (codes "importID") refl)) in
    let init_errors = same_texts one.init_errors two.init_errors (bare _ _ (at (codes "initErrors") refl)) in
    let inputs = same_values one.inputs two.inputs valued.inputs valued'.inputs valued.whole_inputs valued'.whole_inputs (bare _ _ (at (codes "inputs") refl)) in
    let outputs = same_values one.outputs two.outputs valued.outputs valued'.outputs valued.whole_outputs valued'.whole_outputs (bare _ _ (at (codes "outputs") refl)) in
    let parent = same_text one.parent two.parent (bare _ _ (at (codes "parent") refl)) in
    let pending_replacement = same_flag one.pending_replacement two.pending_replacement (bare _ _ (at (codes "pendingReplacement") refl)) in
    let properties = same_properties one.property_dependencies two.property_dependencies formed.properties formed'.properties (bare _ _ (at (codes "propertyDependencies") refl)) in
    let protect = same_flag one.protect two.protect (bare _ _ (at (codes "protect") refl)) in
    let provider = same_provider one.provider two.provider formed.provider formed'.provider (bare _ _ (at (codes "provider") refl)) in
    let retain = same_flag one.retain_on_delete two.retain_on_delete (bare _ _ (at (codes "retainOnDelete") refl)) in
    let kind : one.kind ≡ two.kind = let k = at (codes "type") refl in cc in
    let urn : one.urn ≡ two.urn = let u = at (codes "urn") refl in cc in
    let rest = same_rest (keys_of (entry_fields one)) one.rest two.rest formed.rest formed'.rest (same_unread one two formed formed' ms) in
    same_record one two urn custom kind id inputs outputs parent provider dependencies properties doomed protect external init_errors secrets aliases import_id retain deleted_with pending_replacement rest

-- ---- lists of them

pub same_entries : (some others : List Entry) → AllByRecursion IsFormedEntry some → AllByRecursion IsFormedEntry others
    → AllByRecursion HasValues some → AllByRecursion HasValues others → items_of (map entry_data some) ≡ items_of (map entry_data others) → some ≡ others
same_entries [] [] f g v w same = refl
same_entries [] (two ∷ others) f g v w same = cc
same_entries (one ∷ some) [] f g v w same = cc
same_entries (one ∷ some) (two ∷ others) f g v w same =
    ap₂ (λ e es. e ∷ es) (same_entry one two f.0 g.0 v.0 w.0 cc) (same_entries some others f.1 g.1 v.1 w.1 cc)

same_pending : (one two : Pending) → IsFormedEntry one.entry → IsFormedEntry two.entry → HasValues one.entry → HasValues two.entry
    → pending_data one ≡ pending_data two → one ≡ two
unfolding pending_data
same_pending one two f g v w same =
    let entry : one.entry ≡ two.entry = same_entry one.entry two.entry f g v w cc in
    let kind : one.kind ≡ two.kind = same_kind one.kind two.kind cc in
    ap₂ (λ k e. pending k e) kind entry
  where
    pending : PendingKind → Entry → Pending
    pending kind entry = record { kind = kind; entry = entry }

pub same_pendings : (some others : List Pending) → AllByRecursion (λ operation. IsFormedEntry operation.entry) some → AllByRecursion (λ operation. IsFormedEntry operation.entry) others
    → AllByRecursion (λ operation. HasValues operation.entry) some → AllByRecursion (λ operation. HasValues operation.entry) others
    → items_of (map pending_data some) ≡ items_of (map pending_data others) → some ≡ others
same_pendings [] [] f g v w same = refl
same_pendings [] (two ∷ others) f g v w same = cc
same_pendings (one ∷ some) [] f g v w same = cc
same_pendings (one ∷ some) (two ∷ others) f g v w same =
    ap₂ (λ e es. e ∷ es) (same_pending one two f.0 g.0 v.0 w.0 cc) (same_pendings some others f.1 g.1 v.1 w.1 cc)
