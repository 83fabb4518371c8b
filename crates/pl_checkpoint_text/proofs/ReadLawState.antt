-- A state that was read is formed and sound, and not too large.
use Rattle.std.proofs.Common.{◌≡◌, ◌≤◌, ◌<◌, ◌+◌, ℕ, zero, suc, Bool, true, false, cond, nat_lt, if◌then◌else◌, List, [], ◌∷◌, All, length, filter, find, codes, bytes_eq, Option, Some, None, is_some, option_and_then, option_map, inl, inr, Ok, refl, sym, ap, subst, ◌∙◌, arith}
use Rattle.std.proofs.lemmas.Bool.{cases_lt}
use Rattle.std.proofs.lemmas.List.Elements.{All-from_recursion}
use Rattle.std.proofs.lemmas.Slice.Eq.{bytes_eq-Decides}
use Rattle.std.specs.List.{AllByRecursion, range_with_len}
use Rattle.std.specs.Str.{is_utf8}
use borrow.Author.Tests.{ltb-false}
use Rattle.pl_sound.proofs.Soundness.{IsSound-from_below}
use Rattle.pl_sound.specs.Sound.{fault_at, IsSound}
use Rattle.pl_state.specs.declared.entry.Entry.{Entry}
use Rattle.pl_state.specs.declared.fault.Missing.{Missing}
use Rattle.pl_state.specs.declared.fault.Unsound.{Unsound}
use Rattle.pl_state.specs.declared.pending.Pending.{Pending}
use Rattle.pl_state.specs.declared.pending.PendingKind.{PendingKind}
use Rattle.pl_state.specs.declared.pending.PendingKind.TheVariants.{Creating, Updating, Deleting, Reading as ReadingKind, Importing}
use Rattle.pl_state.specs.declared.snapshot.Snapshot.{Snapshot}
use Rattle.pl_value.specs.Keys.{keys_of}
use Rattle.serde_json.proofs.Views.{get_member-put}
use Rattle.serde_json.specs.Data.{Data, null, boolean, number, string, array, object, Items, no_items, item, Members, no_members, put}
use Rattle.serde_json.specs.Events.{items_len}
use Rattle.serde_json.specs.Find.{as_object, as_str, get_member}
use Rattle.serde_json.specs.Read.{read}
use Rattle.pl_checkpoint_text.specs.Formed.{are_other, IsFormedEntry, IsUnread}
use Rattle.pl_checkpoint_text.specs.Laws.{HasValues}
use Rattle.pl_json.specs.Texts.{json_of}
use Rattle.pl_checkpoint_text.specs.Read.{checkpoint_read, count_items, count_of, data_reading, deployment_keys, deployment_of, first_unsound, makes_one, may_make, reading_of, stack_path, unless_unsound, unsound_at, version_of, with_own_manifest, within_limit}
use Rattle.pl_state.specs.Formed.{most_resources}
use Rattle.pl_checkpoint_text.specs.ReadEntry.{entry_in, kind_called, kind_in, other_members, pending_in, pending_of, unread_of}
use Rattle.pl_checkpoint_text.specs.ReadField.{Reading, element_path, elements, field_path, given, items_in, members_in, of_kind, optional, or_default, required, text_in, unless_null}
use Rattle.pl_checkpoint_text.specs.ReadLaws.{HasUrns, IsReadable, ReadIsReadable}
use Rattle.pl_checkpoint_text.specs.Spelled.{deployment_fields, kind_word, unread_fields}
use Rattle.pl_checkpoint_text.proofs.ReadLawEntry.{IsTold, told_entry, told_pending}
use Rattle.pl_checkpoint_text.proofs.ReadLawFields.{all_elements, ok_same, bound, proper_member, optional_gives, required_gives, object_proper, list_proper, unread_gives}
use Rattle.pl_checkpoint_text.proofs.ReadLawProper.{IsProper, ItemsAreProper, MembersAreProper, proper_put, proper_read}
use Rattle.pl_checkpoint_text.proofs.ReadLawUnread.{unread_text, are_other-other_members, are_other-put, get_member-other_members, proper-other_members}

-- ---- how many resources there are

kind_found : (word : List ℕ) (kind : PendingKind) (kinds : List PendingKind) → find (λ one. bytes_eq (kind_word one) word) kinds ≡ Some kind → kind_word kind ≡ word
kind_found word kind [] is = cc
kind_found word kind (first ∷ more) is = by_case (bytes_eq (kind_word first) word) refl is (kind_found word kind more)
  where
    by_case : (t : Bool) → bytes_eq (kind_word first) word ≡ t → cond t (Some first) (find (λ one. bytes_eq (kind_word one) word) more) ≡ Some kind
        → (find (λ one. bytes_eq (kind_word one) word) more ≡ Some kind → kind_word kind ≡ word) → kind_word kind ≡ word
    by_case true same found later =
        let equal : kind_word first ≡ word = (bytes_eq-Decides (kind_word first) word).0 same in
        let own : first ≡ kind = cc in
        sym (ap kind_word own) ∙ equal
    by_case false same found later = later found

word_found : (path : List ℕ) (found : Option (List ℕ)) (kind : PendingKind) → of_kind path (option_and_then kind_called found) ≡ Ok kind → found ≡ Some (kind_word kind)
word_found path None kind is = absurd (cc)
word_found path (Some word) kind is = by_case (kind_called word) refl is
  where
    by_case : (o : Option PendingKind) → kind_called word ≡ o → of_kind path o ≡ Ok kind → Some word ≡ Some (kind_word kind)
    by_case None same told = absurd (cc)
    by_case (Some one) same told =
        let equal : kind_word one ≡ word = kind_found word one (Creating ∷ Updating ∷ Deleting ∷ ReadingKind ∷ Importing ∷ []) same in
        ap Some (sym equal ∙ ap kind_word (ok_same one kind told))

abbrev pub may_make_one : Pending → Bool
may_make_one operation = may_make (Some (kind_word operation.kind))

pending_word : (path : List ℕ) (ms : Members) (operation : Pending) → pending_of path ms ≡ Ok operation
    → option_and_then as_str (get_member (codes "type") ms) ≡ Some (kind_word operation.kind)
unfolding pending_of
pending_word path ms operation is =
    let kind = bound (required kind_in path (codes "type") ms) _ _ is in
    let entry = bound (required entry_in path (codes "resource") ms) _ _ kind.2 in
    let same = ok_same _ operation entry.2 in
    subst (λ (made : Pending). option_and_then as_str (get_member (codes "type") ms) ≡ Some (kind_word made.kind)) same
    (required_gives (λ (k : PendingKind). option_and_then as_str (get_member (codes "type") ms) ≡ Some (kind_word k)) kind.0 kind_in path (codes "type") ms
    (λ d found told. ap (option_and_then as_str) found ∙ word_found (field_path path (codes "type")) (as_str d) kind.0 told) kind.1)

pending_counts : (path : List ℕ) (d : Data) (operation : Pending) → pending_in path d ≡ Ok operation → makes_one d ≡ may_make_one operation
pending_counts path null operation is = absurd (cc)
pending_counts path (boolean b) operation is = absurd (cc)
pending_counts path (number n) operation is = absurd (cc)
pending_counts path (string s) operation is = absurd (cc)
pending_counts path (array ds) operation is = absurd (cc)
pending_counts path (object ms) operation is = ap may_make (pending_word path ms operation is)

counted_by : (t : Bool) (operation : Pending) (operations : List Pending) (count : ℕ) → count ≡ length operations
    → cond t 1 0 + count ≡ length (cond t (operation ∷ operations) operations)
counted_by true operation operations count same = omega arith
counted_by false operation operations count same = omega arith

pub counted_pendings : (path : List ℕ) (place : ℕ) (ds : Items) (operations : List Pending) → elements pending_in path place ds ≡ Ok operations
    → count_items makes_one ds ≡ length (filter may_make_one operations)
unfolding elements
counted_pendings path place no_items operations is = ap (λ (os : List Pending). length (filter may_make_one os)) (ok_same [] operations is)
counted_pendings path place (item d more) operations is =
    let first = bound (pending_in (element_path path place) d) _ _ is in
    let others = bound (elements pending_in path (place + 1) more) _ _ first.2 in
    ap (λ t. cond t 1 0 + count_items makes_one more) (pending_counts (element_path path place) d first.0 first.1)
    ∙ counted_by (may_make_one first.0) first.0 (filter may_make_one others.0) (count_items makes_one more) (counted_pendings path (place + 1) more others.0 others.1)
    ∙ ap (λ (os : List Pending). length (filter may_make_one os)) (ok_same _ operations others.2)

pub counted_entries : (path : List ℕ) (place : ℕ) (ds : Items) (entries : List Entry) → elements entry_in path place ds ≡ Ok entries
    → items_len ds ≡ length entries
unfolding elements
counted_entries path place no_items entries is = ap length (ok_same [] entries is)
counted_entries path place (item d more) entries is =
    let first = bound (entry_in (element_path path place) d) _ _ is in
    let others = bound (elements entry_in path (place + 1) more) _ _ first.2 in
    let later = counted_entries path (place + 1) more others.0 others.1 in
    let same = ap length (ok_same _ entries others.2) in
    omega (arith, later, same)

limited_by : (count : ℕ) (t : Bool) (told : Unit {0}) (why : Reading (Unit {0})) → nat_lt most_resources count ≡ t → cond t why (Ok tt) ≡ Ok told
    → (why ≡ Ok told → ⊥) → count ≤ most_resources
limited_by count true told why above is never = absurd (never is)
limited_by count false told why above is never = omega (arith, ltb-false)

limited : (count : ℕ) (told : Unit {0}) → within_limit count ≡ Ok told → count ≤ most_resources
limited count told is = limited_by count (nat_lt most_resources count) told _ refl is (λ same. cc)

-- ---- soundness

none_in_range : (p : ℕ → Bool) (from count at : ℕ) → find p (range_with_len from count) ≡ None → from ≤ at → at < from + count → p at ≡ false
none_in_range p from zero at none low high = absurd (omega arith)
none_in_range p from (suc count) at none low high = by_case (p from) refl none (none_in_range p (from + 1) count at)
  where
    by_case : (t : Bool) → p from ≡ t → cond t (Some from) (find p (range_with_len (from + 1) count)) ≡ None
        → (find p (range_with_len (from + 1) count) ≡ None → from + 1 ≤ at → at < from + 1 + count → p at ≡ false) → p at ≡ false
    by_case true is found later = absurd (cc)
    by_case false is found later = elim (cases_lt from at) [
      | inl more ↦ later found (omega arith) (omega arith)
      | inr last ↦ let same : from ≡ at = omega arith in sym (ap p same) ∙ is
    ]

found_passes : (p : ℕ → Bool) (places : List ℕ) (at : ℕ) → find p places ≡ Some at → p at ≡ true
found_passes p [] at is = cc
found_passes p (first ∷ more) at is = by_case (p first) refl is (found_passes p more at)
  where
    by_case : (t : Bool) → p first ≡ t → cond t (Some first) (find p more) ≡ Some at → (find p more ≡ Some at → p at ≡ true) → p at ≡ true
    by_case true passes found later = let same : first ≡ at = cc in sym (ap p same) ∙ passes
    by_case false passes found later = later found

none_missing : (o : Option Missing) → is_some o ≡ false → o ≡ None
none_missing None is = refl
none_missing (Some missing) is = cc

abbrev missing_at : ℕ → Missing → Unsound
missing_at at missing = record { at = at; missing = missing }

no_unsound : (rows : List Entry) (found : Option ℕ) → find (λ at. is_some (fault_at rows at)) (range_with_len 0 (length rows)) ≡ found
    → option_and_then (unsound_at rows) found ≡ None → find (λ at. is_some (fault_at rows at)) (range_with_len 0 (length rows)) ≡ None
no_unsound rows None is none = is
no_unsound rows (Some at) is none =
    let passes = found_passes (λ at. is_some (fault_at rows at)) (range_with_len 0 (length rows)) at is in
    absurd (there (fault_at rows at) passes none)
  where
    there : (o : Option Missing) → is_some o ≡ true → option_map (missing_at at) o ≡ None → ⊥
    there None some none = cc
    there (Some missing) some none = cc

sound_rows : (rows : List Entry) → first_unsound rows ≡ None → IsSound rows
unfolding first_unsound
sound_rows rows none =
    let nowhere = no_unsound rows (find (λ at. is_some (fault_at rows at)) (range_with_len 0 (length rows))) refl none in
    IsSound-from_below rows (λ at below.
    none_missing (fault_at rows at) (none_in_range (λ at. is_some (fault_at rows at)) 0 (length rows) at nowhere (omega arith) (omega arith)))

sound_by : (state made : Snapshot) (fault : Option Unsound) → unless_unsound state fault ≡ Ok made → (fault ≡ None) × (state ≡ made)
sound_by state made None is = (refl, ok_same state made is)
sound_by state made (Some fault) is = absurd (cc)

-- ---- the fields that a deployment keeps unread

abbrev manifest_key : List ℕ
manifest_key = codes "manifest"

abbrev with_one : Bool → Members → Members
with_one there ms = if there then ms else put manifest_key (object no_members) ms

proper_with_one : (there : Bool) (ms : Members) → MembersAreProper ms → MembersAreProper (with_one there ms)
proper_with_one true ms proper = proper
proper_with_one false ms proper = proper_put manifest_key (object no_members) ms tt proper

other_with_one : (there : Bool) (ms : Members) → are_other deployment_keys ms ≡ true → are_other deployment_keys (with_one there ms) ≡ true
other_with_one true ms other = other
other_with_one false ms other = are_other-put deployment_keys manifest_key (object no_members) ms refl other

abbrev HasOne : Members → Type 0
HasOne ms = is_some (option_and_then as_object (get_member manifest_key ms)) ≡ true

put_one : (ms : Members) → HasOne (put manifest_key (object no_members) ms)
put_one ms = ap (λ (o : Option Data). is_some (option_and_then as_object o)) (get_member-put manifest_key (object no_members) ms)

has_one : (path : List ℕ) (ms made : Members) (found : Option Data) → get_member manifest_key ms ≡ found → or_default no_members (members_in path) (unless_null found) ≡ Ok made
    → HasOne (with_one (is_some (unless_null found)) ms)
has_one path ms made None is told = put_one ms
has_one path ms made (Some null) is told = put_one ms
has_one path ms made (Some (boolean b)) is told = absurd (cc)
has_one path ms made (Some (number n)) is told = absurd (cc)
has_one path ms made (Some (string s)) is told = absurd (cc)
has_one path ms made (Some (array ds)) is told = absurd (cc)
has_one path ms made (Some (object own)) is told = ap (λ (o : Option Data). is_some (option_and_then as_object o)) is

pub keys_same : (state : Snapshot) → deployment_keys ≡ keys_of (deployment_fields state)
unfolding deployment_fields
keys_same state = refl

-- the text of the unread fields of a deployment, with the manifest among them
given_rest : (path text : List ℕ) (ms made : Members) (there : Bool) → MembersAreProper ms → unread_of path (with_one there (other_members deployment_keys ms)) ≡ Ok text
    → HasOne (with_one there (other_members deployment_keys ms)) → IsUnread deployment_keys text × HasOne (unread_fields text)
given_rest path text ms made there proper is has =
    let others = other_members deployment_keys ms in
    let told = unread_gives path text (with_one there others) is in
    let kept = unread_text deployment_keys (with_one there others) (proper_with_one there others (proper-other_members deployment_keys ms proper))
    (other_with_one there others (are_other-other_members deployment_keys ms)) told.0 in
    let back : unread_fields text ≡ with_one there others = sym (ap unread_fields told.1) ∙ kept.0 in
    (subst (IsUnread deployment_keys) told.1 kept.1, subst HasOne (sym back) has)

manifest_found : (path : List ℕ) (ms made : Members) → optional no_members members_in path manifest_key ms ≡ Ok made
    → HasOne (with_own_manifest (other_members deployment_keys ms))
unfolding optional
manifest_found path ms made is =
    let others = other_members deployment_keys ms in
    let same : get_member manifest_key others ≡ get_member manifest_key ms = get_member-other_members deployment_keys manifest_key ms refl in
    has_one (field_path path manifest_key) others made (get_member manifest_key others) refl
    (ap (λ o. or_default no_members (members_in (field_path path manifest_key)) (unless_null o)) same ∙ is)

given_items : (path key : List ℕ) (ms : Members) (ds : Items) → MembersAreProper ms → optional no_items items_in path key ms ≡ Ok ds → ItemsAreProper ds
given_items path key ms ds proper =
    optional_gives ItemsAreProper no_items ds items_in path key ms tt (λ d found. list_proper (field_path path key) d ds (proper_member key ms d proper found))

-- ---- the state

abbrev pub OfPending : (Entry → Type 0) → Pending → Type 0
OfPending P operation = P operation.entry

all_along : {X : Type 0} (P Q : X → Type 0) → ((x : X) → P x → Q x) → (xs : List X) → AllByRecursion P xs → AllByRecursion Q xs
all_along P Q each [] all = tt
all_along P Q each (x ∷ more) all = (each x all.0, all_along P Q each more all.1)

each_entry : (P Q : Entry → Type 0) → ((entry : Entry) → P entry → Q entry) → (entries : List Entry) → AllByRecursion P entries → All Q entries
each_entry P Q each entries all = All-from_recursion Q entries (all_along P Q each entries all)

each_pending : (P Q : Entry → Type 0) → ((entry : Entry) → P entry → Q entry) → (operations : List Pending) → AllByRecursion (OfPending P) operations → All (OfPending Q) operations
each_pending P Q each operations all =
    All-from_recursion (OfPending Q) operations (all_along (OfPending P) (OfPending Q) (λ operation told. each operation.entry told) operations all)

readable_by : (path stack : List ℕ) (ms : Members) (state : Snapshot) → MembersAreProper ms → deployment_of path stack ms ≡ Ok state → IsReadable state
unfolding deployment_of
readable_by path stack ms state proper is =
    let resources = bound (optional no_items items_in path (codes "resources") ms) _ _ is in
    let operations = bound (optional no_items items_in path (codes "pending_operations") ms) _ _ resources.2 in
    let manifest = bound (optional no_members members_in path manifest_key ms) _ _ operations.2 in
    let limit = bound (within_limit (count_of resources.0 operations.0)) _ _ manifest.2 in
    let rest = bound (unread_of path (with_own_manifest (other_members deployment_keys ms))) _ _ limit.2 in
    let entries = bound (elements entry_in (field_path path (codes "resources")) 0 resources.0) _ _ rest.2 in
    let pending = bound (elements pending_in (field_path path (codes "pending_operations")) 0 operations.0) _ _ entries.2 in
    let made : Snapshot = record { stack = stack; entries = entries.0; pending = pending.0; rest = rest.0 } in
    let sound = sound_by made state (first_unsound entries.0) pending.2 in
    let kept = given_rest path rest.0 ms manifest.0 (is_some (given manifest_key (other_members deployment_keys ms))) proper rest.1 (manifest_found path ms manifest.0 manifest.1) in
    let proper_resources = given_items path (codes "resources") ms resources.0 proper resources.1 in
    let proper_operations = given_items path (codes "pending_operations") ms operations.0 proper operations.1 in
    let told_rows = all_elements IsTold entry_in told_entry (field_path path (codes "resources")) 0 resources.0 entries.0 proper_resources entries.1 in
    let told_pendings = all_elements (OfPending IsTold) pending_in told_pending (field_path path (codes "pending_operations")) 0 operations.0 pending.0 proper_operations pending.1 in
    subst IsReadable sound.1 (record {
      formed = record {
        entries = each_entry IsTold IsFormedEntry (λ entry told. told.formed) entries.0 told_rows;
        pending = each_pending IsTold IsFormedEntry (λ entry told. told.formed) pending.0 told_pendings;
        rest = subst (λ keys. IsUnread keys rest.0) (keys_same made) kept.0;
        manifest = kept.1;
      };
      valued = record {
        entries = each_entry IsTold HasValues (λ entry told. told.valued) entries.0 told_rows;
        pending = each_pending IsTold HasValues (λ entry told. told.valued) pending.0 told_pendings;
      };
      named = record {
        entries = each_entry IsTold HasUrns (λ entry told. told.named) entries.0 told_rows;
        pending = each_pending IsTold HasUrns (λ entry told. told.named) pending.0 told_pendings;
      };
      sound = sound_rows entries.0 sound.0;
      small =
          let few = limited (count_of resources.0 operations.0) limit.0 limit.1 in
          let rows = counted_entries (field_path path (codes "resources")) 0 resources.0 entries.0 entries.1 in
          let making = counted_pendings (field_path path (codes "pending_operations")) 0 operations.0 pending.0 pending.1 in
          omega (arith, few, rows, making);
    })

readable_data : (d : Data) (state : Snapshot) → IsProper d → checkpoint_read d ≡ Ok state → IsReadable state
unfolding checkpoint_read
readable_data d state proper is =
    let outermost = bound (members_in [] d) _ _ is in
    let version = bound (version_of (get_member (codes "version") outermost.0)) _ _ outermost.2 in
    let checkpoint = bound (required members_in [] stack_path outermost.0) _ _ version.2 in
    let stack = bound (required text_in stack_path (codes "stack") checkpoint.0) _ _ checkpoint.2 in
    let latest = bound (optional no_members members_in stack_path (codes "latest") checkpoint.0) _ _ stack.2 in
    let proper_outermost = object_proper [] d outermost.0 proper outermost.1 in
    let proper_checkpoint = required_gives MembersAreProper checkpoint.0 members_in [] stack_path outermost.0
    (λ value found. object_proper (field_path [] stack_path) value checkpoint.0 (proper_member stack_path outermost.0 value proper_outermost found)) checkpoint.1 in
    let proper_latest = optional_gives MembersAreProper no_members latest.0 members_in stack_path (codes "latest") checkpoint.0 tt
    (λ value found. object_proper (field_path stack_path (codes "latest")) value latest.0 (proper_member (codes "latest") checkpoint.0 value proper_checkpoint found)) latest.1 in
    readable_by (field_path stack_path (codes "latest")) stack.0 latest.0 state proper_latest latest.2

readable_reading : (told : Option Data) (state : Snapshot) → ((d : Data) → told ≡ Some d → IsProper d) → data_reading told ≡ Ok state → IsReadable state
readable_reading None state proper is = absurd (cc)
readable_reading (Some d) state proper is = readable_data d state (proper d refl) is

text_proper : (bytes : List ℕ) (t : Bool) (d : Data) → cond t (read bytes) None ≡ Some d → IsProper d
text_proper bytes true d is = proper_read bytes d is
text_proper bytes false d is = absurd (cc)

pub read_is_readable : ReadIsReadable
unfolding reading_of
read_is_readable bytes state is = readable_reading (json_of bytes) state (text_proper bytes (is_utf8 bytes)) is
