-- How the fields of a checkpoint's objects are read, each kind by itself. A path is the keys from the outermost object on,
-- joined by `.`, with `[i]` for an element of a list.
use Rattle.std.specs.Prelude.{ℕ, ◌+◌, Bool, if◌then◌else◌, List, [], ◌∷◌, ◌++◌, Option, Some, None, is_none, option_and_then, Result, Ok, Err}
use Rattle.std.specs.Result.{result_map_both}
use Rattle.pl_json.specs.Faults.{key_step, element_step, joined}
use Rattle.pl_json.specs.Read.{fields_read}
use Rattle.pl_json.specs.declared.fault.FieldsFault.{FieldsFault}
use Rattle.pl_json.specs.declared.fault.FieldsFault.TheVariants as fields_fault
use Rattle.pl_reference.specs.Reference.{reference_in}
use Rattle.pl_reference.specs.declared.reference.ProviderRef.{ProviderRef}
use Rattle.pl_state.specs.declared.fault.BadCheckpoint.{BadCheckpoint}
use Rattle.pl_state.specs.declared.fault.BadCheckpoint.TheVariants.{MissingField, WrongKind, BadUrn, BadValue}
use Rattle.pl_urn.specs.Grammar.{urn_fault}
use Rattle.pl_value.specs.declared.value.Value.{Value}
use Rattle.serde_json.specs.Data.{Data, null, Items, no_items, item, Members, no_members, member}
use Rattle.serde_json.specs.Find.{as_bool, as_str, as_array, as_object, get_member}

-- ---- one reading after another

-- what is read, or why the bytes are no checkpoint
abbrev pub Reading : Type 0 → Type 0
Reading A = Result A BadCheckpoint

-- the next reading, of what the first gave; a fault of the first is told
infixl 10 ◌>>=◌
abbrev pub ◌>>=◌ : {A B : Type 0} → Reading A → (A → Reading B) → Reading B
(Ok found) >>= next = next found
(Err why) >>= next = Err why

-- ---- paths

-- the path of the field with this key in the object at the path
abbrev pub field_path : List ℕ → List ℕ → List ℕ
field_path path key = joined path (key_step key)

-- the path of the element at this place of the list at the path
abbrev pub element_path : List ℕ → ℕ → List ℕ
element_path path place = path ++ element_step place

-- ---- fields that may be absent; a null field counts as absent

-- what is given, unless it is null
abbrev pub unless_null : Option Data → Option Data
unless_null None = None
unless_null (Some null) = None
unless_null (Some value) = Some value

-- what stands under the key
abbrev pub given : List ℕ → Members → Option Data
given key ms = unless_null (get_member key ms)

-- what is read of the value, or the default where there is none
abbrev pub or_default : {A : Type 0} → A → (Data → Reading A) → Option Data → Reading A
or_default default read None = Ok default
or_default default read (Some value) = read value

-- what is read of the value, which has to be there
abbrev pub or_missing : {A : Type 0} → List ℕ → (Data → Reading A) → Option Data → Reading A
or_missing path read None = Err (MissingField path)
or_missing path read (Some value) = read value

-- the field with this key in the object at the path, of a kind that has a default
unfoldable pub optional : {A : Type 0} → A → (List ℕ → Data → Reading A) → List ℕ → List ℕ → Members → Reading A
optional default kind path key ms = or_default default (kind (field_path path key)) (given key ms)

-- the field with this key in the object at the path, which has to be there
unfoldable pub required : {A : Type 0} → (List ℕ → Data → Reading A) → List ℕ → List ℕ → Members → Reading A
required kind path key ms = or_missing (field_path path key) (kind (field_path path key)) (given key ms)

-- ---- kinds of fields: what the value at the path is read as

-- what was found in the value at the path, which is of the wrong kind where nothing was
abbrev pub of_kind : {A : Type 0} → List ℕ → Option A → Reading A
of_kind path None = Err (WrongKind path)
of_kind path (Some found) = Ok found

-- true or false
abbrev pub flag_in : List ℕ → Data → Reading Bool
flag_in path value = of_kind path (as_bool value)

-- a text
abbrev pub text_in : List ℕ → Data → Reading (List ℕ)
text_in path value = of_kind path (as_str value)

-- a list
abbrev pub items_in : List ℕ → Data → Reading Items
items_in path value = of_kind path (as_array value)

-- an object
abbrev pub members_in : List ℕ → Data → Reading Members
members_in path value = of_kind path (as_object value)

-- the text, unless it is empty
abbrev pub unless_empty_text : List ℕ → Option (List ℕ)
unless_empty_text [] = None
unless_empty_text (first ∷ more) = Some (first ∷ more)

-- a text that is not empty
abbrev pub nonempty_in : List ℕ → Data → Reading (List ℕ)
nonempty_in path value = of_kind path (option_and_then unless_empty_text (as_str value))

-- the text at the path as a URN
abbrev pub urn_of : List ℕ → List ℕ → Reading (List ℕ)
urn_of path text = if is_none (urn_fault text) then Ok text else Err (BadUrn path)

-- a URN
abbrev pub urn_in : List ℕ → Data → Reading (List ℕ)
urn_in path value = text_in path value >>= urn_of path

-- the text at the path as it is
abbrev pub text_of : List ℕ → List ℕ → Reading (List ℕ)
text_of path text = Ok text

-- the URN and the id of a provider, where they were found in the text at the path
abbrev pub reference_found : List ℕ → Option (List ℕ × List ℕ) → Reading ProviderRef
reference_found path None = Err (BadUrn path)
reference_found path (Some parts) = Ok (record { urn = parts.0; id = parts.1 })

-- the text at the path as a provider's URN and id
abbrev pub reference_of : List ℕ → List ℕ → Reading ProviderRef
reference_of path text = reference_found path (reference_in text)

-- what is read of a text at the path, and nothing where there is none
abbrev pub some_of : {A : Type 0} → (List ℕ → List ℕ → Reading A) → List ℕ → Option (List ℕ) → Reading (Option A)
some_of read path None = Ok None
some_of read path (Some text) = result_map_both Some (λ why. why) (read path text)

-- a text that is read further; the empty text counts as none
abbrev pub some_in : {A : Type 0} → (List ℕ → List ℕ → Reading A) → List ℕ → Data → Reading (Option A)
some_in read path value = text_in path value >>= λ text. some_of read path (unless_empty_text text)

-- why the value at the path is no object of values
abbrev pub values_fault : List ℕ → FieldsFault → BadCheckpoint
values_fault path fields_fault.WrongKind = WrongKind path
values_fault path (fields_fault.Json fault) = BadValue fault

-- an object of values
abbrev pub values_in : List ℕ → Data → Reading (List (List ℕ × Value))
values_in path value = result_map_both (λ fields. fields) (values_fault path) (fields_read path value)

-- ---- lists, and objects of lists

-- the elements, each of this kind, of the list at the path; the first of them stands at this place
unfoldable pub elements : {A : Type 0} → (List ℕ → Data → Reading A) → List ℕ → ℕ → Items → Reading (List A)
elements kind path place no_items = Ok []
elements kind path place (item value more) = do
  first ← kind (element_path path place) value
  others ← elements kind path (place + 1) more
  Ok (first ∷ others)

-- a list of elements of this kind
abbrev pub list_in : {A : Type 0} → (List ℕ → Data → Reading A) → List ℕ → Data → Reading (List A)
list_in kind path value = items_in path value >>= elements kind path 0

-- a list of texts
abbrev pub texts_in : List ℕ → Data → Reading (List (List ℕ))
texts_in path value = list_in text_in path value

-- a list of URNs
abbrev pub urns_in : List ℕ → Data → Reading (List (List ℕ))
urns_in path value = list_in urn_in path value

-- lists of URNs by their keys, in the object at the path; a null list is empty
unfoldable pub properties_of : List ℕ → Members → Reading (List (List ℕ × List (List ℕ)))
properties_of path no_members = Ok []
properties_of path (member key value more) = do
  urns ← or_default [] (urns_in (field_path path key)) (unless_null (Some value))
  others ← properties_of path more
  Ok ((key, urns) ∷ others)

-- an object of lists of URNs
abbrev pub properties_in : List ℕ → Data → Reading (List (List ℕ × List (List ℕ)))
properties_in path value = members_in path value >>= properties_of path
