-- The keys in what is written of a state rise, and it is not too deep to be read.
use Rattle.std.proofs.Common.{◌≡◌, ◌≤◌, ℕ, pos, negsuc, Bool, true, false, if◌then◌else◌, List, [], ◌∷◌, map, Option, Some, None, option_map, option_and_then, Ordering, Less, Equal, Greater, refl, sym, ap, subst, ◌∙◌, arith}
use Rattle.std.proofs.lemmas.List.Elements.{recursion_from_All}
use Rattle.std.specs.Cmp.Lexicographic.{slice_cmp}
use Rattle.std.specs.List.{AllByRecursion}
use Rattle.std.specs.Ordering.{nat_cmp, match_ordering}
use Rattle.pl_json.proofs.Levels.{spelled-Object}
use Rattle.pl_json.proofs.ReadBack.{Rises, ItemsRise, MembersRise}
use Rattle.pl_json.proofs.SpellingShape.{spelled-rises, spelled-nests}
use Rattle.pl_json.proofs.TextTells.{IsWhole, HasWholes, ItemsHaveWholes, MembersHaveWholes}
use Rattle.pl_json.proofs.ValueTells.{object_fits}
use Rattle.pl_json.proofs.Wholes.{HasWholes-spelled}
use Rattle.pl_json.specs.Fits.{FieldsFit, fits}
use Rattle.pl_json.specs.Spelled.{spelled_fields}
use Rattle.pl_reference.specs.Reference.{reference_text}
use Rattle.pl_state.specs.declared.entry.Entry.{Entry}
use Rattle.pl_state.specs.declared.pending.Pending.{Pending}
use Rattle.pl_state.specs.declared.snapshot.Snapshot.{Snapshot}
use Rattle.pl_value.proofs.Levels.{is_value-Object, depth-Object}
use Rattle.pl_value.specs.Depth.{most_levels}
use Rattle.pl_value.specs.Inside.{greatest_field_depth}
use Rattle.pl_value.specs.IsValue.{AreFields}
use Rattle.pl_value.specs.declared.value.Value.{Value}
use Rattle.pl_value.specs.declared.value.Value.TheVariants as value
use Rattle.serde_json.specs.Data.{Num, Data, null, boolean, number, string, array, object, Items, no_items, item, Members, no_members, member, put, depth, items_depth, members_depth}
use Rattle.serde_json.specs.Find.{as_object, of_integer}
use Rattle.serde_json.specs.Read.{read}
use Rattle.serde_json.specs.View.{items_of}
use Rattle.serde_json.specs.Written.{members_have_float}
use Rattle.pl_checkpoint_text.specs.Formed.{IsFormed, IsFormedEntry}
use Rattle.pl_checkpoint_text.specs.Laws.{AreValued, HasValues}
use Rattle.pl_json.specs.Objects.{Field, flag_data, put_if_some, text_data, texts_data, unless_empty, with_fields}
use Rattle.pl_checkpoint_text.specs.Spelled.{checkpoint_data, deployment_data, deployment_fields, entries_data, entry_data, entry_fields, pending_data, pendings_data, properties_data, property_field, stack_data, unread_fields, whole_members}
use Rattle.pl_checkpoint_text.proofs.ReadLawProper.{is_signed, IsProper, ItemsAreProper, MembersAreProper, proper_put, proper_read}
use Rattle.pl_checkpoint_text.proofs.TextTells.{with_manifest-there}
use Rattle.pl_checkpoint_text.proofs.ReadLawState.{OfPending}

-- the data rises, its negative numbers have 64 bits, and it is no deeper
pub record IsFlat (levels : ℕ) (d : Data) : Type 0 where
  pub proper : IsProper d
  pub shallow : depth d ≤ levels

record AreFlat (levels : ℕ) (ms : Members) : Type 0 where
  proper : MembersAreProper ms
  shallow : members_depth ms ≤ levels

-- ---- values

signed_integer : (n : Num) → IsWhole n → is_signed n ≡ true
signed_integer n whole = ap is_signed whole.2 ∙ by_case whole.0 whole.1
  where
    by_case : (z : _) → fits z ≡ true → is_signed (of_integer z) ≡ true
    by_case (pos k) small = refl
    by_case (negsuc k) small = small

mutual
  proper_data : (d : Data) → Rises d → HasWholes d → IsProper d
  proper_data null r w = tt
  proper_data (boolean b) r w = tt
  proper_data (number n) r w = signed_integer n w
  proper_data (string s) r w = tt
  proper_data (array ds) r w = proper_items ds r w
  proper_data (object ms) r w = proper_members ms r w

  proper_items : (ds : Items) → ItemsRise ds → ItemsHaveWholes ds → ItemsAreProper ds
  proper_items no_items r w = tt
  proper_items (item d ds) r w = (proper_data d r.0 w.0, proper_items ds r.1 w.1)

  proper_members : (ms : Members) → MembersRise ms → MembersHaveWholes ms → MembersAreProper ms
  proper_members no_members r w = tt
  proper_members (member key d ms) r w = (proper_data d r.0 w.0, r.1, proper_members ms r.2 w.1)

flat_values : (fields : List (List ℕ × Value)) → AreFields fields → FieldsFit fields → greatest_field_depth fields ≤ most_levels → IsFlat 65 (spelled_fields fields)
flat_values fields are fit shallow =
    let same = spelled-Object fields in
    let whole = HasWholes-spelled (value.Object fields) (object_fits fields fit) in
    let rising = spelled-rises (value.Object fields) (is_value-Object fields ∙ are) in
    record {
      proper = subst IsProper same (proper_data _ rising whole);
      shallow = let nests = spelled-nests (value.Object fields) in omega (arith, ap depth same, depth-Object fields, nests);
    }

-- ---- fields that are put in

depth-either : (o : Ordering) (a b c : Members) (levels : ℕ) → members_depth a ≤ levels → members_depth b ≤ levels → members_depth c ≤ levels
    → members_depth (match_ordering o a b c) ≤ levels
depth-either Less a b c levels x y z = x
depth-either Equal a b c levels x y z = y
depth-either Greater a b c levels x y z = z

depth-put : (key : List ℕ) (d : Data) (ms : Members) (levels : ℕ) → depth d ≤ levels → members_depth ms ≤ levels → members_depth (put key d ms) ≤ levels
depth-put key d no_members levels own all = omega arith
depth-put key d (member first e ms) levels own all =
    depth-either (slice_cmp nat_cmp key first) _ _ _ levels (omega arith) (omega arith) (omega (arith, depth-put key d ms levels own (omega arith)))

flat_put : (levels : ℕ) (key : List ℕ) (d : Data) (ms : Members) → IsFlat levels d → AreFlat levels ms → AreFlat levels (put key d ms)
flat_put levels key d ms own all = record { proper = proper_put key d ms own.proper all.proper; shallow = depth-put key d ms levels own.shallow all.shallow }

abbrev FieldIsFlat : ℕ → Option Data → Type 0
FieldIsFlat levels None = Unit {0}
FieldIsFlat levels (Some d) = IsFlat levels d

abbrev FieldsAreFlat : ℕ → List Field → Type 0
FieldsAreFlat levels [] = Unit {0}
FieldsAreFlat levels (field ∷ more) = FieldIsFlat levels field.1 × FieldsAreFlat levels more

flat_put_if_some : (levels : ℕ) (key : List ℕ) (d : Option Data) (ms : Members) → FieldIsFlat levels d → AreFlat levels ms → AreFlat levels (put_if_some key d ms)
flat_put_if_some levels key None ms own all = all
flat_put_if_some levels key (Some d) ms own all = flat_put levels key d ms own all

flat_fields : (levels : ℕ) (fields : List Field) (ms : Members) → FieldsAreFlat levels fields → AreFlat levels ms → AreFlat levels (with_fields fields ms)
flat_fields levels [] ms own all = all
flat_fields levels (field ∷ more) ms own all = flat_fields levels more _ own.1 (flat_put_if_some levels field.0 field.1 ms own.0 all)

-- ---- kinds of fields

flat_flag : (flag : Bool) → FieldIsFlat 65 (flag_data flag)
flat_flag true = record { proper = tt; shallow = omega arith }
flat_flag false = tt

flat_text : (text : Option (List ℕ)) → FieldIsFlat 65 (text_data text)
flat_text None = tt
flat_text (Some text) = record { proper = tt; shallow = omega arith }

flat_list : {X : Type 0} (list : List X) (d : Data) → IsFlat 65 d → FieldIsFlat 65 (unless_empty list d)
flat_list [] d own = tt
flat_list (first ∷ more) d own = own

proper_texts : (texts : List (List ℕ)) → ItemsAreProper (items_of (map string texts))
proper_texts [] = tt
proper_texts (text ∷ more) = (tt, proper_texts more)

shallow_texts : (texts : List (List ℕ)) → items_depth (items_of (map string texts)) ≤ 0
shallow_texts [] = omega arith
shallow_texts (text ∷ more) = omega (arith, shallow_texts more)

flat_texts_at : (levels : ℕ) (texts : List (List ℕ)) → 1 ≤ levels → IsFlat levels (texts_data texts)
flat_texts_at levels texts some = record { proper = proper_texts texts; shallow = omega (arith, shallow_texts texts) }

flat_texts : (texts : List (List ℕ)) → FieldIsFlat 65 (unless_empty texts (texts_data texts))
flat_texts texts = flat_list texts _ (flat_texts_at 65 texts (omega arith))

flat_property_fields : (pairs : List (List ℕ × List (List ℕ))) → FieldsAreFlat 1 (map property_field pairs)
flat_property_fields [] = tt
flat_property_fields (pair ∷ more) = (flat_texts_at 1 pair.1 (omega arith), flat_property_fields more)

flat_properties : (pairs : List (List ℕ × List (List ℕ))) → FieldIsFlat 65 (unless_empty pairs (properties_data pairs))
flat_properties pairs =
    let all = flat_fields 1 (map property_field pairs) no_members (flat_property_fields pairs) (record { proper = tt; shallow = omega arith }) in
    flat_list pairs _ (record { proper = all.proper; shallow = omega (arith, all.shallow) })

flat_field_values : (fields : List (List ℕ × Value)) → AreFields fields → FieldsFit fields → greatest_field_depth fields ≤ most_levels → FieldIsFlat 65 (unless_empty fields (spelled_fields fields))
flat_field_values fields are fit shallow = flat_list fields _ (flat_values fields are fit shallow)

-- ---- unread fields

proper_unless : (t : Bool) (ms : Members) → MembersAreProper ms → MembersAreProper (if t then no_members else ms)
proper_unless true ms proper = tt
proper_unless false ms proper = proper

proper_found : (found : Option Data) → ((d : Data) → found ≡ Some d → IsProper d) → MembersAreProper (whole_members (option_and_then as_object found))
proper_found None each = tt
proper_found (Some null) each = tt
proper_found (Some (boolean b)) each = tt
proper_found (Some (number n)) each = tt
proper_found (Some (string s)) each = tt
proper_found (Some (array ds)) each = tt
proper_found (Some (object ms)) each = proper_unless (members_have_float ms) ms (each (object ms) refl)

proper_unread : (text : List ℕ) → MembersAreProper (unread_fields text)
unfolding unread_fields
proper_unread text = proper_found (read text) (proper_read text)

-- ---- entries and the state

flat_entry_fields : (entry : Entry) → IsFormedEntry entry → HasValues entry → FieldsAreFlat 65 (entry_fields entry)
unfolding entry_fields
flat_entry_fields entry formed valued = (flat_texts entry.additional_secret_outputs, (flat_texts entry.aliases, (record { proper = tt; shallow = omega arith }, (flat_flag entry.doomed, (flat_text entry.deleted_with, (flat_texts entry.dependencies, (flat_flag entry.external, (flat_text entry.id, (flat_text entry.import_id, (flat_texts entry.init_errors, (flat_field_values entry.inputs valued.inputs valued.whole_inputs formed.inputs, (flat_field_values entry.outputs valued.outputs valued.whole_outputs formed.outputs, (flat_text entry.parent, (flat_flag entry.pending_replacement, (flat_properties entry.property_dependencies, (flat_flag entry.protect, (flat_text (option_map reference_text entry.provider), (flat_flag entry.retain_on_delete, (record { proper = tt; shallow = omega arith }, (record { proper = tt; shallow = omega arith }, tt))))))))))))))))))))

flat_entry : (entry : Entry) → IsFormedEntry entry → HasValues entry → IsFlat 66 (entry_data entry)
unfolding entry_data
flat_entry entry formed valued =
    let deep = formed.rest.depth in
    let all = flat_fields 65 (entry_fields entry) (unread_fields entry.rest) (flat_entry_fields entry formed valued) (record { proper = proper_unread entry.rest; shallow = omega arith }) in
    record { proper = all.proper; shallow = omega (arith, all.shallow) }

record ItemsAreFlat (levels : ℕ) (ds : Items) : Type 0 where
  proper : ItemsAreProper ds
  shallow : items_depth ds ≤ levels

flat_elements : {A : Type 0} (P : A → Type 0) (levels : ℕ) (data_of : A → Data) → ((a : A) → P a → IsFlat levels (data_of a)) → (list : List A) → AllByRecursion P list
    → ItemsAreFlat levels (items_of (map data_of list))
flat_elements P levels data_of each [] all = record { proper = tt; shallow = omega arith }
flat_elements P levels data_of each (a ∷ more) all =
    let first = each a all.0 in
    let others = flat_elements P levels data_of each more all.1 in
    record { proper = (first.proper, others.proper); shallow = omega (arith, first.shallow, others.shallow) }

abbrev IsWritten : Entry → Type 0
IsWritten entry = IsFormedEntry entry × HasValues entry

written_entries : (entries : List Entry) → AllByRecursion IsFormedEntry entries → AllByRecursion HasValues entries → AllByRecursion IsWritten entries
written_entries [] f v = tt
written_entries (entry ∷ more) f v = ((f.0, v.0), written_entries more f.1 v.1)

written_pendings : (operations : List Pending) → AllByRecursion (OfPending IsFormedEntry) operations → AllByRecursion (OfPending HasValues) operations
    → AllByRecursion (OfPending IsWritten) operations
written_pendings [] f v = tt
written_pendings (operation ∷ more) f v = ((f.0, v.0), written_pendings more f.1 v.1)

flat_pending : (operation : Pending) → OfPending IsWritten operation → IsFlat 67 (pending_data operation)
unfolding pending_data
flat_pending operation is =
    let entry = flat_entry operation.entry is.0 is.1 in
    record { proper = (entry.proper, (refl, tt), (tt, tt, tt)); shallow = omega (arith, entry.shallow) }

flat_deployment : (state : Snapshot) → IsFormed state → AreValued state → IsFlat 69 (deployment_data state)
unfolding deployment_data deployment_fields entries_data pendings_data
flat_deployment state formed valued =
    let entries = flat_elements IsWritten 66 entry_data (λ entry is. flat_entry entry is.0 is.1) state.entries
    (written_entries state.entries (recursion_from_All _ state.entries formed.entries) (recursion_from_All _ state.entries valued.entries)) in
    let pendings = flat_elements (OfPending IsWritten) 67 pending_data flat_pending state.pending
    (written_pendings state.pending (recursion_from_All _ state.pending formed.pending) (recursion_from_All _ state.pending valued.pending)) in
    let unread = with_manifest-there state formed in
    let deep = formed.rest.depth in
    let all = flat_fields 68 (deployment_fields state) (unread_fields state.rest)
    (record { proper = pendings.proper; shallow = omega (arith, pendings.shallow) }, (record { proper = entries.proper; shallow = omega (arith, entries.shallow) }, tt))
    (record { proper = proper_unread state.rest; shallow = omega arith }) in
    subst (λ ms. IsFlat 69 (object (with_fields (deployment_fields state) ms))) (sym unread) (record { proper = all.proper; shallow = omega (arith, all.shallow) })

-- the checkpoint's data
pub flat_checkpoint : (state : Snapshot) → IsFormed state → AreValued state → IsFlat 71 (checkpoint_data state)
unfolding checkpoint_data stack_data
flat_checkpoint state formed valued =
    let deployment = flat_deployment state formed valued in
    record {
      proper = ((deployment.proper, (refl, tt), (tt, tt, tt)), (refl, tt), (refl, tt, tt));
      shallow = omega (arith, deployment.shallow);
    }
