-- An entry that was read is one that the format can tell.
use Rattle.std.proofs.Common.{◌≡◌, ◌≢◌, ◌≤◌, ℕ, true, false, List, [], codes, Option, Some, None, IfSome, Ok, refl, subst, arith}
use Rattle.pl_reference.specs.declared.reference.ProviderRef.{ProviderRef}
use Rattle.pl_state.specs.declared.entry.Entry.{Entry}
use Rattle.pl_state.specs.declared.pending.Pending.{Pending}
use Rattle.pl_value.specs.Depth.{most_levels}
use Rattle.pl_value.specs.Inside.{greatest_field_depth}
use Rattle.pl_value.specs.Keys.{are_rising, keys_of}
use Rattle.pl_value.specs.declared.value.Value.{Value}
use Rattle.serde_json.specs.Data.{Data, Members}
use Rattle.pl_checkpoint_text.specs.Formed.{IsFormedEntry, IsUnread, reads_back}
use Rattle.pl_checkpoint_text.specs.Laws.{HasValues}
use Rattle.pl_checkpoint_text.specs.ReadEntry.{entry_in, entry_keys, entry_of, kind_in, other_members, pending_in, pending_of, unread_of}
use Rattle.pl_checkpoint_text.specs.ReadField.{field_path, flag_in, members_in, nonempty_in, optional, properties_in, reference_of, required, some_in, text_of, texts_in, urn_in, urn_of, urns_in, values_in}
use Rattle.pl_checkpoint_text.specs.ReadLaws.{HasUrns}
use Rattle.pl_checkpoint_text.specs.Spelled.{entry_fields}
use Rattle.pl_checkpoint_text.proofs.ReadLawFields.{ok_same, bound, proper_member, optional_gives, required_gives, object_proper, nonempty_text, nonempty_or_none, provider_back, shallow_values, rising_properties, unread_gives}
use Rattle.pl_checkpoint_text.proofs.ReadLawProper.{IsProper, MembersAreProper}
use Rattle.pl_checkpoint_text.proofs.ReadLawUnread.{unread_text, are_other-other_members, proper-other_members}
use Rattle.pl_checkpoint_text.proofs.ReadLawUrns.{given_urn, given_some_urn, given_urns, given_pairs}
use Rattle.pl_checkpoint_text.proofs.ReadLawValues.{Fields, AreGood, good_values}

-- ---- fields

given_kind : (path key text : List ℕ) (ms : Members) → required nonempty_in path key ms ≡ Ok text → text ≢ []
given_kind path key text ms = required_gives (λ t. t ≢ []) text nonempty_in path key ms (λ d found. nonempty_text (field_path path key) d text)

given_text : (path key : List ℕ) (text : Option (List ℕ)) (ms : Members) → optional None (some_in text_of) path key ms ≡ Ok text → text ≢ Some []
given_text path key text ms =
    optional_gives (λ t. t ≢ Some []) None text (some_in text_of) path key ms (λ none. cc) (λ d found. nonempty_or_none (field_path path key) d text)

given_provider : (path key : List ℕ) (made : Option ProviderRef) (ms : Members) → optional None (some_in reference_of) path key ms ≡ Ok made → IfSome made reads_back
given_provider path key made ms =
    optional_gives (λ r. IfSome r reads_back) None made (some_in reference_of) path key ms tt (λ d found. provider_back (field_path path key) d made)

given_values : (path key : List ℕ) (fields : List (List ℕ × Value)) (ms : Members) → optional [] values_in path key ms ≡ Ok fields → greatest_field_depth fields ≤ most_levels
given_values path key fields ms =
    optional_gives (λ fs. greatest_field_depth fs ≤ most_levels) [] fields values_in path key ms (omega arith) (λ d found. shallow_values (field_path path key) d fields)

given_properties : (path key : List ℕ) (pairs : List (List ℕ × List (List ℕ))) (ms : Members) → MembersAreProper ms → optional [] properties_in path key ms ≡ Ok pairs
    → are_rising (keys_of pairs) ≡ true
given_properties path key pairs ms proper =
    optional_gives (λ (ps : List (List ℕ × List (List ℕ))). are_rising (keys_of ps) ≡ true) [] pairs properties_in path key ms refl
    (λ d found. rising_properties (field_path path key) d pairs (proper_member key ms d proper found))

given_good : (path key : List ℕ) (fields : Fields) (ms : Members) → MembersAreProper ms → optional [] values_in path key ms ≡ Ok fields → AreGood fields
given_good path key fields ms proper =
    optional_gives AreGood [] fields values_in path key ms (refl, refl) (λ d found. good_values (field_path path key) d fields (proper_member key ms d proper found))

-- the text of the members that are none of one's own is an unread one
given_rest : (keys : List (List ℕ)) (path text : List ℕ) (ms : Members) → MembersAreProper ms → unread_of path (other_members keys ms) ≡ Ok text → IsUnread keys text
given_rest keys path text ms proper is =
    let told = unread_gives path text (other_members keys ms) is in
    subst (IsUnread keys) told.1 (unread_text keys (other_members keys ms) (proper-other_members keys ms proper) (are_other-other_members keys ms) told.0).1

pub keys_same : (entry : Entry) → entry_keys ≡ keys_of (entry_fields entry)
unfolding entry_fields
keys_same entry = refl

-- ---- entries

-- an entry that the format can tell, with what an entry in memory always has
pub record IsTold (entry : Entry) : Type 0 where
  pub formed : IsFormedEntry entry
  pub valued : HasValues entry
  pub named : HasUrns entry

told_by : (path : List ℕ) (ms : Members) (entry : Entry) → MembersAreProper ms → entry_of path ms ≡ Ok entry → IsTold entry
unfolding entry_of
told_by path ms entry proper is =
    let urn = bound (required urn_in path (codes "urn") ms) _ _ is in
    let kind = bound (required nonempty_in path (codes "type") ms) _ _ urn.2 in
    let custom = bound (optional false flag_in path (codes "custom") ms) _ _ kind.2 in
    let doomed = bound (optional false flag_in path (codes "delete") ms) _ _ custom.2 in
    let id = bound (optional None (some_in text_of) path (codes "id") ms) _ _ doomed.2 in
    let inputs = bound (optional [] values_in path (codes "inputs") ms) _ _ id.2 in
    let outputs = bound (optional [] values_in path (codes "outputs") ms) _ _ inputs.2 in
    let parent = bound (optional None (some_in urn_of) path (codes "parent") ms) _ _ outputs.2 in
    let provider = bound (optional None (some_in reference_of) path (codes "provider") ms) _ _ parent.2 in
    let dependencies = bound (optional [] urns_in path (codes "dependencies") ms) _ _ provider.2 in
    let properties = bound (optional [] properties_in path (codes "propertyDependencies") ms) _ _ dependencies.2 in
    let protect = bound (optional false flag_in path (codes "protect") ms) _ _ properties.2 in
    let external = bound (optional false flag_in path (codes "external") ms) _ _ protect.2 in
    let errors = bound (optional [] texts_in path (codes "initErrors") ms) _ _ external.2 in
    let secrets = bound (optional [] texts_in path (codes "additionalSecretOutputs") ms) _ _ errors.2 in
    let aliases = bound (optional [] urns_in path (codes "aliases") ms) _ _ secrets.2 in
    let import_id = bound (optional None (some_in text_of) path (codes "importID") ms) _ _ aliases.2 in
    let retain = bound (optional false flag_in path (codes "retainOnDelete") ms) _ _ import_id.2 in
    let deleted_with = bound (optional None (some_in urn_of) path (codes "deletedWith") ms) _ _ retain.2 in
    let replacement = bound (optional false flag_in path (codes "pendingReplacement") ms) _ _ deleted_with.2 in
    let rest = bound (unread_of path (other_members entry_keys ms)) _ _ replacement.2 in
    let same = ok_same _ entry rest.2 in
    let good_inputs = given_good path (codes "inputs") inputs.0 ms proper inputs.1 in
    let good_outputs = given_good path (codes "outputs") outputs.0 ms proper outputs.1 in
    subst IsTold same (record {
      formed = record {
        kind = given_kind path (codes "type") kind.0 ms kind.1;
        id = given_text path (codes "id") id.0 ms id.1;
        import_id = given_text path (codes "importID") import_id.0 ms import_id.1;
        provider = given_provider path (codes "provider") provider.0 ms provider.1;
        properties = given_properties path (codes "propertyDependencies") properties.0 ms proper properties.1;
        inputs = given_values path (codes "inputs") inputs.0 ms inputs.1;
        outputs = given_values path (codes "outputs") outputs.0 ms outputs.1;
        rest = subst (λ keys. IsUnread keys rest.0) (keys_same _) (given_rest entry_keys path rest.0 ms proper rest.1);
      };
      valued = record { inputs = good_inputs.0; outputs = good_outputs.0; whole_inputs = good_inputs.1; whole_outputs = good_outputs.1 };
      named = record {
        urn = given_urn path (codes "urn") urn.0 ms proper urn.1;
        parent = given_some_urn path (codes "parent") parent.0 ms parent.1;
        dependencies = given_urns path (codes "dependencies") dependencies.0 ms proper dependencies.1;
        properties = given_pairs path (codes "propertyDependencies") properties.0 ms proper properties.1;
        aliases = given_urns path (codes "aliases") aliases.0 ms proper aliases.1;
        deleted_with = given_some_urn path (codes "deletedWith") deleted_with.0 ms deleted_with.1;
      };
    })

pub told_entry : (path : List ℕ) (d : Data) (entry : Entry) → IsProper d → entry_in path d ≡ Ok entry → IsTold entry
told_entry path d entry proper is =
    let fields = bound (members_in path d) _ _ is in
    told_by path fields.0 entry (object_proper path d fields.0 proper fields.1) fields.2

-- ---- pending operations

pending_by : (path : List ℕ) (ms : Members) (operation : Pending) → MembersAreProper ms → pending_of path ms ≡ Ok operation → IsTold operation.entry
unfolding pending_of
pending_by path ms operation proper is =
    let kind = bound (required kind_in path (codes "type") ms) _ _ is in
    let entry = bound (required entry_in path (codes "resource") ms) _ _ kind.2 in
    let same = ok_same _ operation entry.2 in
    subst (λ (made : Pending). IsTold made.entry) same
    (required_gives IsTold entry.0 entry_in path (codes "resource") ms
    (λ d found. told_entry (field_path path (codes "resource")) d entry.0 (proper_member (codes "resource") ms d proper found)) entry.1)

pub told_pending : (path : List ℕ) (d : Data) (operation : Pending) → IsProper d → pending_in path d ≡ Ok operation → IsTold operation.entry
told_pending path d operation proper is =
    let fields = bound (members_in path d) _ _ is in
    pending_by path fields.0 operation (object_proper path d fields.0 proper fields.1) fields.2
