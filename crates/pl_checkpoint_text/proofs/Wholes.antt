-- What is written of a formed state has whole numbers of 64 bits alone.
use Rattle.std.proofs.Common.{◌≡◌, ℕ, pos, negsuc, Bool, true, false, if◌then◌else◌, List, [], ◌∷◌, map, Option, Some, None, Ordering, Less, Equal, Greater, is_some, codes, refl}
use Rattle.std.proofs.lemmas.Bool.{and_parts}
use Rattle.std.proofs.lemmas.List.Elements.{recursion_from_All}
use Rattle.std.specs.Cmp.Lexicographic.{slice_cmp}
use Rattle.std.specs.List.{AllByRecursion, list_all}
use Rattle.std.specs.Ordering.{nat_cmp, match_ordering}
use Rattle.pl_json.proofs.TextTells.{HasWholes, ItemsHaveWholes, MembersHaveWholes, IsWhole}
use Rattle.pl_json.proofs.Wholes.{HasWholes-spelled}
use Rattle.pl_json.specs.Fits.{FieldsFit, wholes_fit}
use Rattle.pl_json.specs.Spelled.{spelled_fields, spelled_members}
use Rattle.pl_value.specs.declared.value.Value.{Value}
use Rattle.pl_state.specs.declared.entry.Entry.{Entry}
use Rattle.pl_state.specs.declared.pending.Pending.{Pending}
use Rattle.pl_state.specs.declared.snapshot.Snapshot.{Snapshot}
use Rattle.serde_json.specs.Data.{Num, unsigned, negative, float, Data, null, boolean, number, string, array, object, Items, no_items, item, Members, no_members, member, put}
use Rattle.serde_json.specs.Find.{get_member}
use Rattle.serde_json.specs.View.{items_of}
use Rattle.pl_checkpoint_text.specs.Formed.{is_whole, has_wholes, items_have_wholes, members_have_wholes, IsFormedEntry, IsFormed}
use Rattle.pl_checkpoint_text.specs.Laws.{HasValues, AreValued}
use Rattle.pl_json.specs.Objects.{Field, put_if_some, with_fields, flag_data, text_data, unless_empty, texts_data}
use Rattle.pl_checkpoint_text.specs.Spelled.{property_field, properties_data, unread_fields, entry_fields, entry_data, entries_data, pending_data, pendings_data, with_manifest, deployment_fields, deployment_data, stack_data, checkpoint_data}

-- ---- data whose numbers are whole

IsWhole-from : (n : Num) → is_whole n ≡ true → IsWhole n
IsWhole-from (unsigned n) h = (pos n, h, refl)
IsWhole-from (negative (pos n)) h = absurd (cc)
IsWhole-from (negative (negsuc n)) h = (negsuc n, h, refl)
IsWhole-from (float x) h = absurd (cc)

mutual
  pub HasWholes-from : (d : Data) → has_wholes d ≡ true → HasWholes d
  HasWholes-from null h = tt
  HasWholes-from (boolean b) h = tt
  HasWholes-from (number n) h = IsWhole-from n h
  HasWholes-from (string s) h = tt
  HasWholes-from (array ds) h = ItemsHaveWholes-from ds h
  HasWholes-from (object ms) h = MembersHaveWholes-from ms h

  ItemsHaveWholes-from : (ds : Items) → items_have_wholes ds ≡ true → ItemsHaveWholes ds
  ItemsHaveWholes-from no_items h = tt
  ItemsHaveWholes-from (item d ds) h =
      let parts = and_parts (has_wholes d) (items_have_wholes ds) h in
      (HasWholes-from d parts.0, ItemsHaveWholes-from ds parts.1)

  pub MembersHaveWholes-from : (ms : Members) → members_have_wholes ms ≡ true → MembersHaveWholes ms
  MembersHaveWholes-from no_members h = tt
  MembersHaveWholes-from (member k d ms) h =
      let parts = and_parts (has_wholes d) (members_have_wholes ms) h in
      (HasWholes-from d parts.0, MembersHaveWholes-from ms parts.1)

-- ---- fields that are put in

either_whole : (o : Ordering) (a b c : Members) → MembersHaveWholes a → MembersHaveWholes b → MembersHaveWholes c → MembersHaveWholes (match_ordering o a b c)
either_whole Less a b c x y z = x
either_whole Equal a b c x y z = y
either_whole Greater a b c x y z = z

put-whole : (key : List ℕ) (value : Data) (ms : Members) → HasWholes value → MembersHaveWholes ms → MembersHaveWholes (put key value ms)
put-whole key value no_members own all = (own, tt)
put-whole key value (member first here more) own all =
    either_whole (slice_cmp nat_cmp key first) _ _ _ (own, all) (own, all.1) (all.0, put-whole key value more own all.1)

abbrev FieldHasWholes : Option Data → Type 0
FieldHasWholes None = Unit {0}
FieldHasWholes (Some value) = HasWholes value

abbrev FieldsHaveWholes : List Field → Type 0
FieldsHaveWholes [] = Unit {0}
FieldsHaveWholes (field ∷ more) = FieldHasWholes field.1 × FieldsHaveWholes more

put_if_some-whole : (key : List ℕ) (value : Option Data) (ms : Members) → FieldHasWholes value → MembersHaveWholes ms → MembersHaveWholes (put_if_some key value ms)
put_if_some-whole key None ms own all = all
put_if_some-whole key (Some value) ms own all = put-whole key value ms own all

with_fields-whole : (fields : List Field) (ms : Members) → FieldsHaveWholes fields → MembersHaveWholes ms → MembersHaveWholes (with_fields fields ms)
with_fields-whole [] ms own all = all
with_fields-whole (field ∷ more) ms own all = with_fields-whole more _ own.1 (put_if_some-whole field.0 field.1 ms own.0 all)

-- ---- kinds of fields

flag_whole : (flag : Bool) → FieldHasWholes (flag_data flag)
flag_whole true = tt
flag_whole false = tt

text_whole : (text : Option (List ℕ)) → FieldHasWholes (text_data text)
text_whole None = tt
text_whole (Some text) = tt

list_whole : {X : Type 0} (list : List X) (value : Data) → HasWholes value → FieldHasWholes (unless_empty list value)
list_whole [] value own = tt
list_whole (first ∷ more) value own = own

items_whole : (texts : List (List ℕ)) → ItemsHaveWholes (items_of (map string texts))
items_whole [] = tt
items_whole (text ∷ more) = (tt, items_whole more)

texts_whole : (texts : List (List ℕ)) → FieldHasWholes (unless_empty texts (texts_data texts))
texts_whole texts = list_whole texts _ (items_whole texts)

property_fields_whole : (pairs : List (List ℕ × List (List ℕ))) → FieldsHaveWholes (map property_field pairs)
property_fields_whole [] = tt
property_fields_whole (pair ∷ more) = (items_whole pair.1, property_fields_whole more)

properties_whole : (pairs : List (List ℕ × List (List ℕ))) → FieldHasWholes (unless_empty pairs (properties_data pairs))
properties_whole pairs = list_whole pairs _ (with_fields-whole (map property_field pairs) no_members (property_fields_whole pairs) tt)

members_whole : (fields : List (List ℕ × Value)) → list_all (λ field. wholes_fit field.1) fields ≡ true → MembersHaveWholes (spelled_members fields)
members_whole [] fit = tt
members_whole (field ∷ more) fit =
    let parts = and_parts (wholes_fit field.1) (list_all (λ one. wholes_fit one.1) more) fit in
    (HasWholes-spelled field.1 parts.0, members_whole more parts.1)

values_whole : (fields : List (List ℕ × Value)) → FieldsFit fields → FieldHasWholes (unless_empty fields (spelled_fields fields))
values_whole fields fit = list_whole fields _ (members_whole fields fit)

-- ---- entries and the state

entry_fields_whole : (entry : Entry) → HasValues entry → FieldsHaveWholes (entry_fields entry)
unfolding entry_fields
entry_fields_whole entry valued = (texts_whole entry.additional_secret_outputs, (texts_whole entry.aliases, (tt, (flag_whole entry.doomed, (text_whole entry.deleted_with, (texts_whole entry.dependencies, (flag_whole entry.external, (text_whole entry.id, (text_whole entry.import_id, (texts_whole entry.init_errors, (values_whole entry.inputs valued.whole_inputs, (values_whole entry.outputs valued.whole_outputs, (text_whole entry.parent, (flag_whole entry.pending_replacement, (properties_whole entry.property_dependencies, (flag_whole entry.protect, (text_whole _, (flag_whole entry.retain_on_delete, (tt, (tt, tt))))))))))))))))))))

entry_whole : (entry : Entry) → IsFormedEntry entry → HasValues entry → HasWholes (entry_data entry)
unfolding entry_data
entry_whole entry formed valued =
    with_fields-whole (entry_fields entry) (unread_fields entry.rest) (entry_fields_whole entry valued) (MembersHaveWholes-from _ formed.rest.wholes)

entries_whole : (entries : List Entry) → AllByRecursion IsFormedEntry entries → AllByRecursion HasValues entries → ItemsHaveWholes (items_of (map entry_data entries))
entries_whole [] formed valued = tt
entries_whole (entry ∷ more) formed valued = (entry_whole entry formed.0 valued.0, entries_whole more formed.1 valued.1)

pending_whole : (operation : Pending) → IsFormedEntry operation.entry → HasValues operation.entry → HasWholes (pending_data operation)
unfolding pending_data
pending_whole operation formed valued = (entry_whole operation.entry formed valued, (tt, tt))

pendings_whole : (operations : List Pending) → AllByRecursion (λ operation. IsFormedEntry operation.entry) operations → AllByRecursion (λ operation. HasValues operation.entry) operations
    → ItemsHaveWholes (items_of (map pending_data operations))
pendings_whole [] formed valued = tt
pendings_whole (operation ∷ more) formed valued = (pending_whole operation formed.0 valued.0, pendings_whole more formed.1 valued.1)

deployment_fields_whole : (state : Snapshot) → IsFormed state → AreValued state → FieldsHaveWholes (deployment_fields state)
unfolding deployment_fields pendings_data entries_data
deployment_fields_whole state formed valued = (
  pendings_whole state.pending (recursion_from_All _ state.pending formed.pending) (recursion_from_All _ state.pending valued.pending),
  (entries_whole state.entries (recursion_from_All _ state.entries formed.entries) (recursion_from_All _ state.entries valued.entries), tt),
)

manifest_whole : (b : Bool) (ms : Members) → MembersHaveWholes ms → MembersHaveWholes (if b then ms else put (codes "manifest") (object no_members) ms)
manifest_whole true ms all = all
manifest_whole false ms all = put-whole _ _ ms tt all

deployment_whole : (state : Snapshot) → IsFormed state → AreValued state → HasWholes (deployment_data state)
unfolding deployment_data
deployment_whole state formed valued =
    with_fields-whole (deployment_fields state) (with_manifest (unread_fields state.rest)) (deployment_fields_whole state formed valued)
    (manifest_whole (is_some (get_member (codes "manifest") (unread_fields state.rest))) (unread_fields state.rest) (MembersHaveWholes-from _ formed.rest.wholes))

-- the checkpoint has whole numbers alone
pub checkpoint_wholes : (state : Snapshot) → IsFormed state → AreValued state → HasWholes (checkpoint_data state)
unfolding checkpoint_data stack_data
checkpoint_wholes state formed valued = ((deployment_whole state formed valued, (tt, tt)), ((pos 3, refl, refl), tt))
