-- What is written of a state's parts has no float.
use Rattle.std.proofs.Common.{◌≡◌, Bool, true, false, ◌||◌, if◌then◌else◌, List, [], ◌∷◌, map, ℕ, Option, Some, None, Ordering, Less, Equal, Greater, is_some, option_and_then, codes, refl}
use Rattle.std.proofs.lemmas.Bool.{or_parts, or_from}
use Rattle.std.specs.Cmp.Lexicographic.{slice_cmp}
use Rattle.std.specs.Ordering.{nat_cmp, match_ordering}
use Rattle.pl_json.proofs.NoFloat.{has_float-spelled_members}
use Rattle.pl_json.specs.Spelled.{spelled_fields}
use Rattle.pl_value.specs.declared.value.Value.{Value}
use Rattle.pl_state.specs.declared.entry.Entry.{Entry}
use Rattle.pl_state.specs.declared.pending.Pending.{Pending}
use Rattle.serde_json.specs.Data.{Data, null, string, object, Members, no_members, member, put}
use Rattle.serde_json.specs.Find.{as_object, get_member}
use Rattle.serde_json.specs.Read.{read}
use Rattle.serde_json.specs.View.{items_of}
use Rattle.serde_json.specs.Written.{has_float, items_have_float, members_have_float}
use Rattle.pl_json.specs.Objects.{Field, put_if_some, with_fields, flag_data, text_data, unless_empty, texts_data}
use Rattle.pl_checkpoint_text.specs.Spelled.{property_field, properties_data, whole_members, unread_fields, entry_fields, entry_data, pending_data, with_manifest}
use Rattle.pl_checkpoint_text.specs.Pieces.{with_places}
use Rattle.pl_json.proofs.Objects.{items-whole, put-whole}

-- whether what is written of a field has a float
abbrev field_has_float : Option Data → Bool
field_has_float None = false
field_has_float (Some value) = has_float value

abbrev fields_have_float : List Field → Bool
fields_have_float [] = false
fields_have_float (field ∷ more) = field_has_float field.1 || fields_have_float more

put_if_some-whole : (key : List ℕ) (value : Option Data) (ms : Members) → field_has_float value ≡ false → members_have_float ms ≡ false
    → members_have_float (put_if_some key value ms) ≡ false
put_if_some-whole key None ms none all = all
put_if_some-whole key (Some value) ms none all = put-whole key value ms none all

with_fields-whole : (fields : List Field) (ms : Members) → fields_have_float fields ≡ false → members_have_float ms ≡ false
    → members_have_float (with_fields fields ms) ≡ false
with_fields-whole [] ms none all = all
with_fields-whole (field ∷ more) ms none all =
    let parts = or_parts (field_has_float field.1) (fields_have_float more) none in
    with_fields-whole more _ parts.1 (put_if_some-whole field.0 field.1 ms parts.0 all)

-- ---- kinds of fields

flag_whole : (flag : Bool) → field_has_float (flag_data flag) ≡ false
flag_whole true = refl
flag_whole false = refl

text_whole : (text : Option (List ℕ)) → field_has_float (text_data text) ≡ false
text_whole None = refl
text_whole (Some text) = refl

list_whole : {X : Type 0} (list : List X) (value : Data) → has_float value ≡ false → field_has_float (unless_empty list value) ≡ false
list_whole [] value none = refl
list_whole (first ∷ more) value none = none

texts_whole : (texts : List (List ℕ)) → field_has_float (unless_empty texts (texts_data texts)) ≡ false
texts_whole texts = list_whole texts _ (items-whole texts)

property_fields_whole : (pairs : List (List ℕ × List (List ℕ))) → fields_have_float (map property_field pairs) ≡ false
property_fields_whole [] = refl
property_fields_whole (pair ∷ more) = or_from _ _ (items-whole pair.1) (property_fields_whole more)

properties_whole : (pairs : List (List ℕ × List (List ℕ))) → field_has_float (unless_empty pairs (properties_data pairs)) ≡ false
properties_whole pairs = list_whole pairs _ (with_fields-whole (map property_field pairs) no_members (property_fields_whole pairs) refl)

values_whole : (fields : List (List ℕ × Value)) → field_has_float (unless_empty fields (spelled_fields fields)) ≡ false
values_whole fields = list_whole fields _ (has_float-spelled_members fields)

-- ---- unread fields

kept_whole : (ms : Members) (b : Bool) → members_have_float ms ≡ b → members_have_float (if b then no_members else ms) ≡ false
kept_whole ms true is = refl
kept_whole ms false is = is

whole_members-whole : (ms : Option Members) → members_have_float (whole_members ms) ≡ false
whole_members-whole None = refl
whole_members-whole (Some ms) = kept_whole ms (members_have_float ms) refl

unread_whole : (text : List ℕ) → members_have_float (unread_fields text) ≡ false
unfolding unread_fields
unread_whole text = whole_members-whole (option_and_then as_object (read text))

-- ---- entries and the state

entry_fields_whole : (entry : Entry) → fields_have_float (entry_fields entry) ≡ false
unfolding entry_fields
entry_fields_whole entry =
    or_from _ _ (texts_whole entry.additional_secret_outputs)
    (or_from _ _ (texts_whole entry.aliases)
    (or_from _ _ (flag_whole entry.doomed)
    (or_from _ _ (text_whole entry.deleted_with)
    (or_from _ _ (texts_whole entry.dependencies)
    (or_from _ _ (flag_whole entry.external)
    (or_from _ _ (text_whole entry.id)
    (or_from _ _ (text_whole entry.import_id)
    (or_from _ _ (texts_whole entry.init_errors)
    (or_from _ _ (values_whole entry.inputs)
    (or_from _ _ (values_whole entry.outputs)
    (or_from _ _ (text_whole entry.parent)
    (or_from _ _ (flag_whole entry.pending_replacement)
    (or_from _ _ (properties_whole entry.property_dependencies)
    (or_from _ _ (flag_whole entry.protect)
    (or_from _ _ (text_whole _)
    (or_from _ _ (flag_whole entry.retain_on_delete)
    refl))))))))))))))))

pub entry_whole : (entry : Entry) → has_float (entry_data entry) ≡ false
unfolding entry_data
entry_whole entry = with_fields-whole (entry_fields entry) (unread_fields entry.rest) (entry_fields_whole entry) (unread_whole entry.rest)

pub pending_whole : (operation : Pending) → has_float (pending_data operation) ≡ false
unfolding pending_data
pending_whole operation = or_from _ _ (entry_whole operation.entry) refl

manifest_whole : (b : Bool) (ms : Members) → members_have_float ms ≡ false
    → members_have_float (if b then ms else put (codes "manifest") (object no_members) ms) ≡ false
manifest_whole true ms all = all
manifest_whole false ms all = put-whole _ _ ms refl all

-- a deployment's members without its lists have no float
pub with_places-whole : (text : List ℕ) → members_have_float (with_places (unread_fields text)) ≡ false
with_places-whole text =
    let ms = with_manifest (unread_fields text) in
    let whole : members_have_float ms ≡ false =
    manifest_whole (is_some (get_member (codes "manifest") (unread_fields text))) (unread_fields text) (unread_whole text) in
    put-whole (codes "resources") null (put (codes "pending_operations") null ms) refl
    (put-whole (codes "pending_operations") null ms refl whole)
