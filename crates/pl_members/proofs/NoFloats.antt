-- No object of fields holds a float.
use Rattle.std.proofs.Common.{◌≡◌, ℕ, Bool, true, false, ◌||◌, ◌++◌, List, [], ◌∷◌, map, Option, Some, None, Ordering, Less, Equal, Greater, option_map, refl}
use Rattle.std.proofs.lemmas.Bool.{or_parts}
use Rattle.std.specs.Cmp.Lexicographic.{slice_cmp}
use Rattle.std.specs.Ordering.{nat_cmp, match_ordering}
use Rattle.serde_json.specs.Data.{Data, boolean, string, Members, no_members, member, put}
use Rattle.serde_json.specs.View.{items_of}
use Rattle.serde_json.specs.Written.{has_float, items_have_float, members_have_float}
use Rattle.pl_json.proofs.NoFloat.{has_float-spelled_members}
use Rattle.pl_members.specs.Field.{Keyed, Pairs}
use Rattle.pl_json.specs.Objects.{Field, flag_data, object_with, put_if_some, text_data, unless_empty, with_fields}
use Rattle.pl_members.specs.Spelled.{keyed_data, keyed_field, list_data, pairs_data}
use Rattle.pl_json.proofs.Objects.{items-whole, put-whole}

abbrev pub IsWhole : Option Data → Type 0
IsWhole None = Unit {0}
IsWhole (Some value) = has_float value ≡ false

abbrev pub AreWhole : List Field → Type 0
AreWhole [] = Unit {0}
AreWhole (field ∷ more) = IsWhole field.1 × AreWhole more

put_if_some-whole : (name : List ℕ) (value : Option Data) (ms : Members) → IsWhole value → members_have_float ms ≡ false → members_have_float (put_if_some name value ms) ≡ false
put_if_some-whole name None ms none all = all
put_if_some-whole name (Some value) ms none all = put-whole name value ms none all

fields-whole : (fields : List Field) (ms : Members) → AreWhole fields → members_have_float ms ≡ false → members_have_float (with_fields fields ms) ≡ false
fields-whole [] ms none all = all
fields-whole (field ∷ more) ms none all = fields-whole more _ none.1 (put_if_some-whole field.0 field.1 ms none.0 all)

pub object-whole : (fields : List Field) → AreWhole fields → has_float (object_with fields) ≡ false
object-whole fields none = fields-whole fields no_members none refl

pub append-whole : (early late : List Field) → AreWhole early → AreWhole late → AreWhole (early ++ late)
append-whole [] late one two = two
append-whole (field ∷ more) late one two = (one.0, append-whole more late one.1 two)

pub flag-whole : (flag : Bool) → IsWhole (flag_data flag)
flag-whole true = refl
flag-whole false = tt

pub flag_if_there-whole : (flag : Option Bool) → IsWhole (option_map boolean flag)
flag_if_there-whole None = tt
flag_if_there-whole (Some flag) = refl

pub text-whole : (text : Option (List ℕ)) → IsWhole (text_data text)
text-whole None = tt
text-whole (Some text) = refl

list-whole : {X : Type 0} (list : List X) (value : Data) → has_float value ≡ false → IsWhole (unless_empty list value)
list-whole [] value none = tt
list-whole (first ∷ more) value none = none

pub texts-whole : (texts : List (List ℕ)) → IsWhole (list_data texts)
texts-whole texts = list-whole texts _ (items-whole texts)

keyed_fields-whole : (pairs : Keyed) → AreWhole (map keyed_field pairs)
keyed_fields-whole [] = tt
keyed_fields-whole (pair ∷ more) = (items-whole pair.1, keyed_fields-whole more)

pub keyed-whole : (pairs : Keyed) → IsWhole (keyed_data pairs)
keyed-whole pairs = list-whole pairs _ (object-whole (map keyed_field pairs) (keyed_fields-whole pairs))

pub pairs-whole : (fields : Pairs) → IsWhole (pairs_data fields)
pairs-whole fields = list-whole fields _ (has_float-spelled_members fields)
