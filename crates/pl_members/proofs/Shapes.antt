-- An object of fields whose names rise: its members in their order, what stands under a name, and that it is read back from
-- its text.
use Rattle.std.proofs.Common.{◌≡◌, ℕ, suc, true, List, [], ◌∷◌, Option, Some, None, Ordering, Less, Equal, Greater, refl, sym, ap, subst, ◌∙◌}
use Rattle.std.proofs.lemmas.Bool.{and_from, and_parts}
use Rattle.std.specs.Cmp.Lexicographic.{slice_cmp}
use Rattle.std.specs.List.{list_all}
use Rattle.std.specs.Ordering.{nat_cmp, match_ordering}
use Rattle.serde_json.specs.Data.{Data, object, Members, no_members, member, put}
use Rattle.serde_json.specs.Find.{get, get_member}
use Rattle.pl_value.proofs.Rising.{reversed, less_from}
use Rattle.pl_value.specs.Keys.{are_rising, is_below, keys_of}
use Rattle.pl_json.specs.Spelled.{members_of}
use Rattle.pl_members.proofs.Outlines.{EachMemberRead, IsRead, list_of, object-read}
use Rattle.pl_json.specs.Objects.{Field, object_with, put_if_some, with_fields}
use Rattle.pl_json.proofs.Objects.{over, over_none}

-- a member, where something is written
abbrev pub told_then : List ℕ → Option Data → List (List ℕ × Data) → List (List ℕ × Data)
told_then name None later = later
told_then name (Some value) later = (name, value) ∷ later

-- the fields that are written
abbrev pub told_of : List Field → List (List ℕ × Data)
told_of [] = []
told_of (field ∷ more) = told_then field.0 field.1 (told_of more)

-- ---- the members in their order

behind_by : (value : Option Data) (name : List ℕ) (more : List Field) (low : List ℕ) (d : Data) (ms : Members) → is_below low name ≡ true
    → ((later : Members) → with_fields more (member low d later) ≡ member low d (with_fields more later))
    → with_fields more (put_if_some name value (member low d ms)) ≡ member low d (with_fields more (put_if_some name value ms))
behind_by None name more low d ms below later = later ms
behind_by (Some value) name more low d ms below later =
    let greater : slice_cmp nat_cmp name low ≡ Greater = reversed low name Less (less_from _ below) in
    rw greater (later (put name value ms))

-- fields with names above the first one go behind it
behind : (fields : List Field) (low : List ℕ) (d : Data) (ms : Members) → list_all (is_below low) (keys_of fields) ≡ true
    → with_fields fields (member low d ms) ≡ member low d (with_fields fields ms)
behind [] low d ms above = refl
behind (field ∷ more) low d ms above =
    let parts = and_parts (is_below low field.0) (list_all (is_below low) (keys_of more)) above in
    behind_by field.1 field.0 more low d ms parts.0 (λ later. behind more low d later parts.1)

told_by : (value : Option Data) (name : List ℕ) (more : List Field) → list_all (is_below name) (keys_of more) ≡ true → with_fields more no_members ≡ members_of (told_of more)
    → with_fields more (put_if_some name value no_members) ≡ members_of (told_then name value (told_of more))
told_by None name more above same = same
told_by (Some value) name more above same = behind more name value no_members above ∙ ap (member name value) same

pub with_fields-told : (fields : List Field) → are_rising (keys_of fields) ≡ true → with_fields fields no_members ≡ members_of (told_of fields)
with_fields-told [] rising = refl
with_fields-told (field ∷ more) rising =
    let parts = and_parts (list_all (is_below field.0) (keys_of more)) (are_rising (keys_of more)) rising in
    told_by field.1 field.0 more parts.0 (with_fields-told more parts.1)

-- ---- the names of those that are written rise too

above_by : (low : List ℕ) (value : Option Data) (name : List ℕ) (later : List (List ℕ × Data)) → is_below low name ≡ true → list_all (is_below low) (keys_of later) ≡ true
    → list_all (is_below low) (keys_of (told_then name value later)) ≡ true
above_by low None name later below above = above
above_by low (Some value) name later below above = and_from _ _ below above

above_told : (low : List ℕ) (fields : List Field) → list_all (is_below low) (keys_of fields) ≡ true → list_all (is_below low) (keys_of (told_of fields)) ≡ true
above_told low [] above = refl
above_told low (field ∷ more) above =
    let parts = and_parts (is_below low field.0) (list_all (is_below low) (keys_of more)) above in
    above_by low field.1 field.0 (told_of more) parts.0 (above_told low more parts.1)

rising_by : (value : Option Data) (name : List ℕ) (later : List (List ℕ × Data)) → list_all (is_below name) (keys_of later) ≡ true → are_rising (keys_of later) ≡ true
    → are_rising (keys_of (told_then name value later)) ≡ true
rising_by None name later above rising = rising
rising_by (Some value) name later above rising = and_from _ _ above rising

rising_told : (fields : List Field) → are_rising (keys_of fields) ≡ true → are_rising (keys_of (told_of fields)) ≡ true
rising_told [] rising = refl
rising_told (field ∷ more) rising =
    let parts = and_parts (list_all (is_below field.0) (keys_of more)) (are_rising (keys_of more)) rising in
    rising_by field.1 field.0 (told_of more) (above_told field.0 more parts.0) (rising_told more parts.1)

-- ---- what stands under a name

-- what is written under a name
abbrev pub under : List ℕ → List Field → Option Data
under name [] = None
under name (field ∷ more) = match_ordering (slice_cmp nat_cmp name field.0) (under name more) (over field.1 (under name more)) (under name more)

under_none : (o : Ordering) (here later : Option Data) → here ≡ later → here ≡ match_ordering o later (over None later) later
under_none Less here later same = same
under_none Equal here later same = same
under_none Greater here later same = same

under_some : (o : Ordering) (value : Data) (here later : Option Data) → here ≡ later → match_ordering o here (Some value) here ≡ match_ordering o later (over (Some value) later) later
under_some Less value here later same = same
under_some Equal value here later same = refl
under_some Greater value here later same = same

under_by : (asked : List ℕ) (value : Option Data) (name : List ℕ) (more : List (List ℕ × Data)) (later : Option Data) → get_member asked (members_of more) ≡ later
    → get_member asked (members_of (told_then name value more)) ≡ match_ordering (slice_cmp nat_cmp asked name) later (over value later) later
under_by asked None name more later same = under_none (slice_cmp nat_cmp asked name) _ later same
under_by asked (Some value) name more later same = under_some (slice_cmp nat_cmp asked name) value _ later same

get_told : (asked : List ℕ) (fields : List Field) → get_member asked (members_of (told_of fields)) ≡ under asked fields
get_told asked [] = refl
get_told asked (field ∷ more) = under_by asked field.1 field.0 (told_of more) (under asked more) (get_told asked more)

pub get-object_with : (asked : List ℕ) (fields : List Field) → are_rising (keys_of fields) ≡ true → get asked (object_with fields) ≡ under asked fields
get-object_with asked fields rising = ap (get_member asked) (with_fields-told fields rising) ∙ get_told asked fields

-- ---- read back from the text

abbrev pub FieldIsRead : ℕ → Option Data → Type 0
FieldIsRead levels None = Unit {0}
FieldIsRead levels (Some value) = IsRead levels value

abbrev pub FieldsAreRead : ℕ → List Field → Type 0
FieldsAreRead levels [] = Unit {0}
FieldsAreRead levels (field ∷ more) = FieldIsRead levels field.1 × FieldsAreRead levels more

each_by : (levels : ℕ) (value : Option Data) (name : List ℕ) (later : List (List ℕ × Data)) → FieldIsRead levels value → EachMemberRead levels later → EachMemberRead levels (told_then name value later)
each_by levels None name later here each = each
each_by levels (Some value) name later here each = (here, each)

each_told : (levels : ℕ) (fields : List Field) → FieldsAreRead levels fields → EachMemberRead levels (told_of fields)
each_told levels [] each = tt
each_told levels (field ∷ more) each = each_by levels field.1 field.0 (told_of more) each.0 (each_told levels more each.1)

list_of-members_of : (pairs : List (List ℕ × Data)) → list_of (members_of pairs) ≡ pairs
list_of-members_of [] = refl
list_of-members_of (pair ∷ more) = ap (λ later. pair ∷ later) (list_of-members_of more)

pub object_with-read : (levels : ℕ) (fields : List Field) → are_rising (keys_of fields) ≡ true → FieldsAreRead levels fields → IsRead (suc levels) (object_with fields)
object_with-read levels fields rising each =
    let told = told_of fields in
    let same = list_of-members_of told in
    subst (λ ms. IsRead (suc levels) (object ms)) (sym (with_fields-told fields rising))
    (object-read levels (members_of told) (ap (λ pairs. are_rising (keys_of pairs)) same ∙ rising_told fields rising) (subst (EachMemberRead levels) (sym same) (each_told levels fields each)))
