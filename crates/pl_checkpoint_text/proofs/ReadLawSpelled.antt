-- A state is what its data reads as.
use Rattle.std.proofs.Common.{◌≡◌, ◌≤◌, ℕ, Bool, true, false, cond, nat_lt, if◌then◌else◌, List, [], ◌∷◌, map, codes, Option, Some, None, is_some, option_and_then, Ok, refl, ap, ◌∙◌, arith}
use Rattle.std.proofs.lemmas.List.Elements.{recursion_from_All}
use Rattle.std.specs.List.{AllByRecursion}
use borrow.Author.Tests.{ltb-true}
use Rattle.pl_state.specs.declared.entry.Entry.{Entry}
use Rattle.pl_state.specs.declared.pending.Pending.{Pending}
use Rattle.pl_state.specs.declared.snapshot.Snapshot.{Snapshot}
use Rattle.pl_value.specs.Keys.{keys_of}
use Rattle.serde_json.specs.Data.{Data, null, boolean, number, string, array, object, Members, no_members, no_items, put}
use Rattle.serde_json.specs.Find.{as_object, get_member}
use Rattle.serde_json.specs.View.{items_of}
use Rattle.pl_checkpoint_text.specs.Formed.{is_one_of, IsFormed, IsFormedEntry}
use Rattle.pl_checkpoint_text.specs.Laws.{HasValues}
use Rattle.pl_checkpoint_text.specs.Read.{checkpoint_read, count_of, deployment_keys, deployment_of, stack_path, unless_unsound, with_own_manifest, within_limit}
use Rattle.pl_state.specs.Formed.{most_resources}
use Rattle.pl_checkpoint_text.specs.ReadEntry.{entry_in, other_members, pending_in, unread_of}
use Rattle.pl_checkpoint_text.specs.ReadField.{Reading, elements, field_path, items_in, members_in, optional, required, unless_null}
use Rattle.pl_checkpoint_text.specs.ReadLaws.{HasUrns, IsReadable, SpelledIsRead}
use Rattle.pl_json.specs.Objects.{with_fields}
use Rattle.pl_checkpoint_text.specs.Spelled.{checkpoint_data, deployment_data, deployment_fields, entries_data, entry_data, pending_data, pendings_data, stack_data, unread_fields, with_manifest}
use Rattle.pl_checkpoint_text.proofs.EntryTells.{get_member-own, other_members-own}
use Rattle.pl_checkpoint_text.proofs.Fields.{Key, get_member-with_fields}
use Rattle.pl_checkpoint_text.proofs.ReadLawBack.{entry_read, pending_read, rest_back}
use Rattle.pl_checkpoint_text.proofs.ReadLawEntry.{IsTold}
use Rattle.pl_checkpoint_text.proofs.ReadLawKinds.{then_ok, optional_some, elements_back}
use Rattle.pl_checkpoint_text.proofs.ReadLawState.{counted_entries, counted_pendings, keys_same, OfPending}
use Rattle.pl_checkpoint_text.proofs.TextTells.{own_keys, with_manifest-there}
use Rattle.pl_checkpoint_text.proofs.FirstUnsound.{first_unsound-none}

-- ---- the limit and soundness

within_by : (count : ℕ) (t : Bool) (why : Reading (Unit {0})) → nat_lt most_resources count ≡ t → count ≤ most_resources → cond t why (Ok tt) ≡ Ok tt
within_by count true why above few = absurd (omega (arith, ltb-true))
within_by count false why above few = refl

within : (count : ℕ) → count ≤ most_resources → within_limit count ≡ Ok tt
within count few = within_by count (nat_lt most_resources count) _ refl few

-- ---- entries and pending operations

told_entries : (entries : List Entry) → AllByRecursion IsFormedEntry entries → AllByRecursion HasValues entries → AllByRecursion HasUrns entries → AllByRecursion IsTold entries
told_entries [] f v n = tt
told_entries (entry ∷ more) f v n = (record { formed = f.0; valued = v.0; named = n.0 }, told_entries more f.1 v.1 n.1)

told_pendings : (operations : List Pending) → AllByRecursion (OfPending IsFormedEntry) operations → AllByRecursion (OfPending HasValues) operations
    → AllByRecursion (OfPending HasUrns) operations → AllByRecursion (OfPending IsTold) operations
told_pendings [] f v n = tt
told_pendings (operation ∷ more) f v n = (record { formed = f.0; valued = v.0; named = n.0 }, told_pendings more f.1 v.1 n.1)

module _ (path : List ℕ) (state : Snapshot) (readable : IsReadable state) where
  entries_read : elements entry_in path 0 (items_of (map entry_data state.entries)) ≡ Ok state.entries
  entries_read = elements_back IsTold entry_in entry_data entry_read path 0 state.entries
      (told_entries state.entries (recursion_from_All _ state.entries readable.formed.entries) (recursion_from_All _ state.entries readable.valued.entries) (recursion_from_All _ state.entries readable.named.entries))

  pendings_read : elements pending_in path 0 (items_of (map pending_data state.pending)) ≡ Ok state.pending
  pendings_read = elements_back (OfPending IsTold) pending_in pending_data pending_read path 0 state.pending
      (told_pendings state.pending (recursion_from_All _ state.pending readable.formed.pending) (recursion_from_All _ state.pending readable.valued.pending) (recursion_from_All _ state.pending readable.named.pending))

-- ---- the deployment

abbrev written : Snapshot → Members
written state = with_fields (deployment_fields state) (unread_fields state.rest)

abbrev manifest_key : Key
manifest_key = codes "manifest"

manifest_object : (found : Option Data) → is_some (option_and_then as_object found) ≡ true → (own : Members) × (found ≡ Some (object own))
manifest_object None is = absurd (cc)
manifest_object (Some null) is = absurd (cc)
manifest_object (Some (boolean b)) is = absurd (cc)
manifest_object (Some (number n)) is = absurd (cc)
manifest_object (Some (string s)) is = absurd (cc)
manifest_object (Some (array ds)) is = absurd (cc)
manifest_object (Some (object own)) is = (own, refl)

manifest_of : (state : Snapshot) → IsFormed state → (own : Members) × (get_member manifest_key (unread_fields state.rest) ≡ Some (object own))
manifest_of state formed = manifest_object (get_member manifest_key (unread_fields state.rest)) formed.manifest

manifest_there : (state : Snapshot) → get_member manifest_key (written state) ≡ get_member manifest_key (unread_fields state.rest)
unfolding deployment_fields
manifest_there state = get_member-with_fields (deployment_fields state) manifest_key (unread_fields state.rest)

with_own : (ms own : Members) → get_member manifest_key ms ≡ Some (object own) → with_own_manifest ms ≡ ms
with_own ms own is = ap (λ found. if is_some (unless_null found) then ms else put manifest_key (object no_members) ms) is

given_rest : (path : List ℕ) (state : Snapshot) → IsFormed state → unread_of path (with_own_manifest (other_members deployment_keys (written state))) ≡ Ok state.rest
given_rest path state formed =
    let own = manifest_of state formed in
    ap (λ keys. unread_of path (with_own_manifest (other_members keys (written state)))) (keys_same state)
    ∙ ap (λ ms. unread_of path (with_own_manifest ms)) (other_members-own (deployment_fields state) (unread_fields state.rest) formed.rest.other (own_keys state))
    ∙ ap (unread_of path) (with_own (unread_fields state.rest) own.0 own.1)
    ∙ rest_back path state.rest (keys_of (deployment_fields state)) formed.rest

deployment_back : (path : List ℕ) (state : Snapshot) → IsReadable state → deployment_of path state.stack (written state) ≡ Ok state
unfolding deployment_of deployment_fields entries_data pendings_data
deployment_back path state readable =
    let ms = written state in
    let formed = readable.formed in
    let at = λ (key : Key) (own : is_one_of (keys_of (deployment_fields state)) key ≡ true). get_member-own (deployment_fields state) (unread_fields state.rest) key formed.rest.other own in
    let resources = items_of (map entry_data state.entries) in
    let operations = items_of (map pending_data state.pending) in
    let own = manifest_of state formed in
    let entries = entries_read (field_path path (codes "resources")) state readable in
    let pendings = pendings_read (field_path path (codes "pending_operations")) state readable in
    let rows = counted_entries (field_path path (codes "resources")) 0 resources state.entries entries in
    let making = counted_pendings (field_path path (codes "pending_operations")) 0 operations state.pending pendings in
    let few : count_of resources operations ≤ most_resources = omega (arith, rows, making, readable.small) in
    then_ok (optional no_items items_in path (codes "resources") ms) _ resources
    (optional_some no_items resources items_in path (codes "resources") ms (array resources) (at (codes "resources") refl) refl refl)
    ∙ then_ok (optional no_items items_in path (codes "pending_operations") ms) _ operations
    (optional_some no_items operations items_in path (codes "pending_operations") ms (array operations) (at (codes "pending_operations") refl) refl refl)
    ∙ then_ok (optional no_members members_in path manifest_key ms) _ own.0
    (optional_some no_members own.0 members_in path manifest_key ms (object own.0) (manifest_there state ∙ own.1) refl refl)
    ∙ then_ok (within_limit (count_of resources operations)) _ tt (within (count_of resources operations) few)
    ∙ then_ok (unread_of path (with_own_manifest (other_members deployment_keys ms))) _ state.rest (given_rest path state formed)
    ∙ then_ok (elements entry_in (field_path path (codes "resources")) 0 resources) _ state.entries entries
    ∙ then_ok (elements pending_in (field_path path (codes "pending_operations")) 0 operations) _ state.pending pendings
    ∙ ap (unless_unsound state) (first_unsound-none state.entries readable.sound)

-- ---- the whole

abbrev deployment_path : List ℕ
deployment_path = field_path stack_path (codes "latest")

read_deployment : (state : Snapshot) → checkpoint_read (checkpoint_data state) ≡ deployment_of deployment_path state.stack (with_fields (deployment_fields state) (with_manifest (unread_fields state.rest)))
unfolding checkpoint_read checkpoint_data stack_data deployment_data required optional
read_deployment state = refl

pub spelled_is_read : SpelledIsRead
spelled_is_read state readable =
    read_deployment state
    ∙ ap (λ unread. deployment_of deployment_path state.stack (with_fields (deployment_fields state) unread)) (with_manifest-there state readable.formed)
    ∙ deployment_back deployment_path state readable
