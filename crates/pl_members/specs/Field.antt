-- What the fields of an object may hold. Each reader takes what stands in a field, which is `None` where it is absent,
-- and gives `None` where what stands there has another form.
use Rattle.std.specs.Prelude.{ℕ, List, [], ◌∷◌, Bool, if◌then◌else◌, is_none, Option, Some, None, option_map, option_and_then}
use Rattle.std.specs.Result.{result_ok}
use Rattle.std.specs.Str.{is_utf8}
use Rattle.serde_json.specs.Data.{Data, null, boolean, number, string, array, object, Items, no_items, item, Members, no_members, member}
use Rattle.serde_json.specs.Find.{get, as_bool, as_number, as_u64, as_str, as_array, as_object}
use Rattle.serde_json.specs.Read.{read}
use Rattle.pl_json.specs.Read.{fields_read}
use Rattle.pl_events.specs.Requests.{is_request_number}
use Rattle.pl_urn.specs.Grammar.{urn_fault}
use Rattle.pl_value.specs.declared.value.Value.{Value}

infixl 10 ◌>>=◌
abbrev pub ◌>>=◌ : {A B : Type 0} → Option A → (A → Option B) → Option B
read_field >>= others = option_and_then others read_field

-- the fields of an object, in rising order of their keys
abbrev pub Pairs : Type 0
Pairs = List (List ℕ × Value)

-- lists of texts by their keys
abbrev pub Keyed : Type 0
Keyed = List (List ℕ × List (List ℕ))

-- the value, unless it is null
abbrev pub unless_null : Data → Option Data
unless_null null = None
unless_null (boolean b) = Some (boolean b)
unless_null (number n) = Some (number n)
unless_null (string s) = Some (string s)
unless_null (array ds) = Some (array ds)
unless_null (object ms) = Some (object ms)

-- what stands in a field in which null counts as absent
abbrev pub present : List ℕ → Data → Option Data
present name message = option_and_then unless_null (get name message)

-- the list, unless nothing is in it
abbrev pub unless_none : {X : Type 0} → List X → Option (List X)
unless_none [] = None
unless_none (x ∷ xs) = Some (x ∷ xs)

-- ---- single values

-- a text of any content
abbrev pub text : Option Data → Option (List ℕ)
text = option_and_then as_str

-- a text with a byte at least
abbrev pub nonempty_text : Option Data → Option (List ℕ)
nonempty_text value = option_and_then unless_none (text value)

-- a whole number from 0 to 2^64 - 1
abbrev pub whole : Option Data → Option ℕ
whole value = option_and_then as_u64 (option_and_then as_number value)

-- the number, if a request may have it
abbrev pub if_number : ℕ → Option ℕ
if_number n = if is_request_number n then Some n else None

-- the number of a request
abbrev pub request_number : Option Data → Option ℕ
request_number value = option_and_then if_number (whole value)

-- true or false; the usual one where it is absent
abbrev pub flag_or : Bool → Option Data → Option Bool
flag_or usual None = Some usual
flag_or usual (Some value) = as_bool value

-- true or false, or none where it is absent
abbrev pub flag_if_there : Option Data → Option (Option Bool)
flag_if_there None = Some None
flag_if_there (Some value) = option_map Some (as_bool value)

-- a text of any content, or none where it is absent
abbrev pub text_if_there : Option Data → Option (Option (List ℕ))
text_if_there None = Some None
text_if_there (Some value) = option_map Some (as_str value)

-- the text, if it is a URN
abbrev pub if_urn : List ℕ → Option (List ℕ)
if_urn found = if is_none (urn_fault found) then Some found else None

-- a URN
abbrev pub urn : Option Data → Option (List ℕ)
urn value = option_and_then if_urn (text value)

-- ---- objects of values

-- the object of values that the data spells
abbrev pub pairs_of : Data → Option Pairs
pairs_of value = result_ok (fields_read [] value)

-- an object of values
abbrev pub pairs : Option Data → Option Pairs
pairs = option_and_then pairs_of

-- an object of values, or none where it is absent
abbrev pub pairs_if_there : Option Data → Option (Option Pairs)
pairs_if_there None = Some None
pairs_if_there (Some value) = option_map Some (pairs_of value)

-- an object of values; nothing is in it where it is absent
abbrev pub pairs_or_none : Option Data → Option Pairs
pairs_or_none None = Some []
pairs_or_none (Some value) = pairs_of value

-- ---- lists

-- one before the others, where all are read
abbrev pub before : {X : Type 0} → Option X → Option (List X) → Option (List X)
before None others = None
before (Some first) others = option_map (λ more. first ∷ more) others

-- each element of a list
abbrev pub each_item : {X : Type 0} → (Data → Option X) → Items → Option (List X)
each_item one no_items = Some []
each_item one (item value others) = before (one value) (each_item one others)

-- a list of texts
abbrev pub texts_of : Data → Option (List (List ℕ))
texts_of value = option_and_then (each_item as_str) (as_array value)

-- a list of texts; nothing is in it where it is absent
abbrev pub texts_or_none : Option Data → Option (List (List ℕ))
texts_or_none None = Some []
texts_or_none (Some value) = texts_of value

-- a list of texts, and one at least
abbrev pub some_texts : Option Data → Option (List (List ℕ))
some_texts value = option_and_then unless_none (option_and_then texts_of value)

-- ---- objects of lists of texts

-- each member of an object, with its key
abbrev pub each_member : {X : Type 0} → (Data → Option X) → Members → Option (List (List ℕ × X))
each_member one no_members = Some []
each_member one (member key value others) = before (option_map (λ found. (key, found)) (one value)) (each_member one others)

-- an object of lists of texts
abbrev pub keyed_of : Data → Option Keyed
keyed_of value = option_and_then (each_member texts_of) (as_object value)

-- an object of lists of texts; nothing is in it where it is absent
abbrev pub keyed_or_none : Option Data → Option Keyed
keyed_or_none None = Some []
keyed_or_none (Some value) = keyed_of value
