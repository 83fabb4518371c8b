-- What the fields of a message may hold. Each reader takes a field as it stands, which is `None` where
-- it is absent or null.
use Rattle.std.specs.Prelude.{ℕ, ◌^◌, ◌&&◌, ◌==◌, nat_eq, nat_le, not, length, List, codes, Bool, true, false, if◌then◌else◌, Option, Some, None, option_map, option_and_then, unwrap_or}
use Rattle.pl_urn.specs.Grammar.{is_provider_type}
use Rattle.serde_json.specs.Data.{Data, Items, no_items, item, Members, no_members, member}
use Rattle.serde_json.specs.Find.{as_bool, as_str, as_array, as_object}
use Rattle.pl_members.specs.Field.{text, whole}

-- the value, where it passes the test
abbrev pub if_passing : {A : Type 0} → (A → Bool) → A → Option A
if_passing test value = if test value then Some value else None

-- ---- fields that have to be there: `None` where the message is none

-- the number of a request, from 1 to 2^53
abbrev pub request_number : Option Data → Option ℕ
request_number value = option_and_then (if_passing (λ n. nat_le 1 n && nat_le n (2 ^ 53))) (whole value)

-- the type of a resource that is no provider
abbrev pub plain_type : Option Data → Option (List ℕ)
plain_type value = option_and_then (if_passing (λ kind. not (is_provider_type kind))) (text value)

-- ---- fields that may be left out: `None` where the message is none

-- the text, unless it is empty
abbrev pub unless_empty : List ℕ → Option (List ℕ)
unless_empty s = if length s == 0 then None else Some s

-- a text; where it is left out or empty there is none
abbrev pub optional_text : Option Data → Option (Option (List ℕ))
optional_text None = Some None
optional_text (Some value) = option_map unless_empty (as_str value)

-- ---- fields that may only stand at their default yet

-- left out
abbrev pub is_left_out : Option Data → Bool
is_left_out None = true
is_left_out (Some value) = false

-- false, or left out
abbrev pub is_false : Option Data → Bool
is_false None = true
is_false (Some value) = not (unwrap_or (as_bool value) true)

abbrev pub has_no_items : Items → Bool
has_no_items no_items = true
has_no_items (item value others) = false

abbrev pub has_no_members : Members → Bool
has_no_members no_members = true
has_no_members (member name value others) = false

-- an empty list, or left out
abbrev pub is_empty_list : Option Data → Bool
is_empty_list None = true
is_empty_list (Some value) = unwrap_or (option_map has_no_items (as_array value)) false

-- an empty object, or left out
abbrev pub is_empty_object : Option Data → Bool
is_empty_object None = true
is_empty_object (Some value) = unwrap_or (option_map has_no_members (as_object value)) false
