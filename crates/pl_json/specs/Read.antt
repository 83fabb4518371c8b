-- What JSON reads as: the property value that it spells, or its first fault, from the outside in, keys and elements
-- in their order.
use Rattle.std.specs.Prelude.{ℕ, zero, suc, ◌+◌, ℤ, Bool, true, false, if◌then◌else◌, List, [], ◌∷◌, codes, bytes_eq, Option, Some, None, is_some, Result, Ok, Err}
use Rattle.std.specs.Result.{result_map_both}
use Rattle.pl_value.specs.Depth.{most_levels}
use Rattle.pl_value.specs.Marks.{unknown_text, secret_key, secret_mark}
use Rattle.pl_value.specs.declared.json.JsonFault.{JsonFault}
use Rattle.pl_value.specs.declared.json.JsonFault.TheVariants.{NotWhole, SecretSealed, BadSecret, TooDeep}
use Rattle.pl_value.specs.declared.value.Value.{Value}
use Rattle.pl_value.specs.declared.value.Value.TheVariants as value
use Rattle.serde_json.specs.Data.{Data, null, boolean, number, string, array, object, Items, no_items, item, Members, no_members, member}
use Rattle.serde_json.specs.Find.{as_i64, get_member}
use Rattle.serde_json.specs.Read.{read}
use Rattle.pl_json.specs.Faults.{with_fault, behind, hidden, placed, key_step, element_step}
use Rattle.pl_json.specs.Spelled.{plaintext_key}
use Rattle.pl_json.specs.declared.fault.FieldsFault.{FieldsFault}
use Rattle.pl_json.specs.declared.fault.FieldsFault.TheVariants.{WrongKind, Json}

-- how many lists, objects and secrets may stand in each other
unfoldable pub deepest : ℕ
deepest = most_levels

-- the key under which the object of a secret holds the ciphertext of its value
unfoldable pub ciphertext_key : List ℕ
ciphertext_key = codes "ciphertext"

-- what is read of a value, or a fault
abbrev pub Reading : Type 0
Reading = Result Value JsonFault

-- ---- one level, where `inside` says what the data in it reads as

-- a number that is a whole one of 64 bits with a sign
abbrev pub whole_read : Option ℤ → Reading
whole_read None = Err (NotWhole [])
whole_read (Some whole) = Ok (value.Whole whole)

-- a text: that of the unknown, or any other
abbrev pub text_read : List ℕ → Value
text_read text = if bytes_eq text unknown_text then value.Unknown else value.Text text

-- the first before the others; of two faults the first is told
abbrev pub before : {A : Type 0} → Result A JsonFault → Result (List A) JsonFault → Result (List A) JsonFault
before (Ok first) (Ok more) = Ok (first ∷ more)
before (Ok first) (Err fault) = Err fault
before (Err fault) others = Err fault

-- an element of a list
abbrev pub element_read : (Data → Reading) → ℕ → Data → Reading
element_read inside place given = with_fault (behind (element_step place)) (inside given)

-- the elements of a list, of which the first has this place
abbrev pub items_read : (Data → Reading) → ℕ → Items → Result (List Value) JsonFault
items_read inside place no_items = Ok []
items_read inside place (item given more) = before (element_read inside place given) (items_read inside (place + 1) more)

-- a field of an object
abbrev pub field_read : (Data → Reading) → List ℕ → Data → Result (List ℕ × Value) JsonFault
field_read inside key given = result_map_both (λ found. (key, found)) (behind (key_step key)) (inside given)

-- the fields of an object that is no secret
abbrev pub members_read : (Data → Reading) → Members → Result (List (List ℕ × Value)) JsonFault
members_read inside no_members = Ok []
members_read inside (member key given more) = before (field_read inside key given) (members_read inside more)

-- whether an object is a secret's, by what stands under the secret's key: the mark, or nothing or another text
abbrev pub marked_by : Option Data → Result Bool JsonFault
marked_by None = Ok false
marked_by (Some (string text)) = Ok (bytes_eq text secret_mark)
marked_by (Some _) = Err (BadSecret [])

abbrev pub is_marked : Members → Result Bool JsonFault
is_marked ms = marked_by (get_member secret_key ms)

-- the secret of the value that its plaintext spells; a text that isn't JSON spells none
abbrev pub plaintext_read : (Data → Reading) → Option Data → Reading
plaintext_read inside None = Err (BadSecret [])
plaintext_read inside (Some given) = result_map_both value.Secret hidden (inside given)

-- a secret by what stands under the plaintext's key; without it, it is sealed where it has a ciphertext
abbrev pub secret_by : (Data → Reading) → Option Data → Bool → Reading
secret_by inside (Some (string text)) sealed = plaintext_read inside (read text)
secret_by inside (Some _) sealed = Err (BadSecret [])
secret_by inside None true = Err (SecretSealed [])
secret_by inside None false = Err (BadSecret [])

abbrev pub secret_read : (Data → Reading) → Members → Reading
secret_read inside ms =
    secret_by inside (get_member plaintext_key ms) (is_some (get_member ciphertext_key ms))

-- an object: a secret, or its fields
abbrev pub object_by : (Data → Reading) → Members → Result Bool JsonFault → Reading
object_by inside ms (Ok true) = secret_read inside ms
object_by inside ms (Ok false) = result_map_both value.Object (λ fault. fault) (members_read inside ms)
object_by inside ms (Err fault) = Err fault

abbrev pub object_read : (Data → Reading) → Members → Reading
object_read inside ms = object_by inside ms (is_marked ms)

abbrev pub list_read : (Data → Reading) → Items → Reading
list_read inside items = result_map_both value.List (λ fault. fault) (items_read inside 0 items)

-- data, where `items_as` and `members_as` say what a list of such items and an object of such members read as
abbrev pub level_read : (Items → Reading) → (Members → Reading) → Data → Reading
level_read items_as members_as null = Ok value.Null
level_read items_as members_as (boolean flag) = Ok (value.Flag flag)
level_read items_as members_as (number n) = whole_read (as_i64 n)
level_read items_as members_as (string text) = Ok (text_read text)
level_read items_as members_as (array items) = items_as items
level_read items_as members_as (object ms) = members_as ms

-- ---- whole values

-- data in which there may be a list, an object or a secret
abbrev pub holding : (Data → Reading) → Data → Reading
holding inside = level_read (list_read inside) (object_read inside)

-- a list, an object or a secret where none may stand
abbrev pub too_deep : JsonFault
too_deep = TooDeep []

-- data in which there may be none
abbrev pub holding_none : Data → Reading
holding_none = level_read (λ items. Err too_deep) (λ ms. Err too_deep)

-- data in which so many lists, objects and secrets may stand in each other
abbrev pub read_in : ℕ → Data → Reading
read_in zero = holding_none
read_in (suc levels) = holding (read_in levels)

-- the value at the path
abbrev pub value_read : List ℕ → Data → Reading
value_read path given = with_fault (placed path) (read_in deepest given)

-- ---- an object of values, which is not counted in the depth of its values

-- the fields of an object, and none where it is a secret that can be read
abbrev pub unless_secret_by : Members → Result Bool JsonFault → Result (Option (List (List ℕ × Value))) JsonFault
unless_secret_by ms (Ok true) = result_map_both (λ secret. None) (λ fault. fault) (secret_read (read_in deepest) ms)
unless_secret_by ms (Ok false) = result_map_both Some (λ fault. fault) (members_read (read_in deepest) ms)
unless_secret_by ms (Err fault) = Err fault

abbrev pub unless_secret : Members → Result (Option (List (List ℕ × Value))) JsonFault
unless_secret ms = unless_secret_by ms (is_marked ms)

-- a secret isn't an object of values, but a fault in it is told first
abbrev pub fields_of : List ℕ → Result (Option (List (List ℕ × Value))) JsonFault → Result (List (List ℕ × Value)) FieldsFault
fields_of path (Ok (Some fields)) = Ok fields
fields_of path (Ok None) = Err WrongKind
fields_of path (Err fault) = Err (Json (placed path fault))

-- the fields of the object of values at the path
abbrev pub fields_read : List ℕ → Data → Result (List (List ℕ × Value)) FieldsFault
fields_read path (object ms) = fields_of path (unless_secret ms)
fields_read path _ = Err WrongKind
