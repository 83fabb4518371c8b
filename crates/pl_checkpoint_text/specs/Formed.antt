-- Which states are formed: those that the checkpoint's format can tell.
use Rattle.std.specs.Prelude.{◌≡◌, ◌≢◌, ◌≤◌, ◌^◌, ℕ, pos, negsuc, Bool, true, false, not, ◌&&◌, nat_lt, All, IsTrue, IfSome, List, [], bytes_eq, Some, codes, is_some, option_and_then}
use Rattle.std.specs.List.{list_any}
use Rattle.pl_value.specs.Depth.{most_levels}
use Rattle.pl_value.specs.Inside.{greatest_field_depth}
use Rattle.pl_value.specs.Keys.{are_rising, keys_of}
use Rattle.pl_reference.specs.Reference.{reference_in, reference_text}
use Rattle.pl_state.specs.declared.entry.Entry.{Entry}
use Rattle.pl_reference.specs.declared.reference.ProviderRef.{ProviderRef}
use Rattle.pl_state.specs.declared.snapshot.Snapshot.{Snapshot}
use Rattle.serde_json.specs.Data.{Num, unsigned, negative, float, Data, null, boolean, number, string, array, object, Items, no_items, item, Members, no_members, member, members_depth}
use Rattle.serde_json.specs.Find.{get_member, as_object}
use Rattle.serde_json.specs.Written.{compact_text}
use Rattle.pl_checkpoint_text.specs.Spelled.{entry_fields, deployment_fields, unread_fields}

-- ---- data that is kept unread

-- the number is whole, and from -2^63 to 2^63 - 1
abbrev pub is_whole : Num → Bool
is_whole (unsigned n) = nat_lt n (2 ^ 63)
is_whole (negative (pos n)) = false
is_whole (negative (negsuc n)) = nat_lt n (2 ^ 63)
is_whole (float x) = false

-- each number in the data is such a one
abbrev mutual
  pub has_wholes : Data → Bool
  has_wholes null = true
  has_wholes (boolean b) = true
  has_wholes (number n) = is_whole n
  has_wholes (string s) = true
  has_wholes (array ds) = items_have_wholes ds
  has_wholes (object ms) = members_have_wholes ms

  pub items_have_wholes : Items → Bool
  items_have_wholes no_items = true
  items_have_wholes (item d ds) = has_wholes d && items_have_wholes ds

  pub members_have_wholes : Members → Bool
  members_have_wholes no_members = true
  members_have_wholes (member k d ms) = has_wholes d && members_have_wholes ms

-- the key is one of these
abbrev pub is_one_of : List (List ℕ) → List ℕ → Bool
is_one_of keys key = list_any (λ own. bytes_eq own key) keys

-- no member has one of these keys
abbrev pub are_other : List (List ℕ) → Members → Bool
are_other keys no_members = true
are_other keys (member key value more) = not (is_one_of keys key) && are_other keys more

-- the text is that of an object without these keys, which holds whole numbers alone and is not too deep
pub record IsUnread (keys : List (List ℕ)) (text : List ℕ) : Type 0 where
  pub spelled : text ≡ compact_text (object (unread_fields text))
  pub other : IsTrue (are_other keys (unread_fields text))
  pub wholes : IsTrue (members_have_wholes (unread_fields text))
  pub depth : members_depth (unread_fields text) ≤ most_levels

-- ---- states

-- the reference reads as what it is
abbrev pub reads_back : ProviderRef → Type 0
reads_back reference = reference_in (reference_text reference) ≡ Some (reference.urn, reference.id)

-- an entry whose every field the format can tell
pub record IsFormedEntry (entry : Entry) : Type 0 where
  pub kind : entry.kind ≢ []
  pub id : entry.id ≢ Some []
  pub import_id : entry.import_id ≢ Some []
  pub provider : IfSome entry.provider reads_back
  pub properties : IsTrue (are_rising (keys_of entry.property_dependencies))
  pub inputs : greatest_field_depth entry.inputs ≤ most_levels
  pub outputs : greatest_field_depth entry.outputs ≤ most_levels
  pub rest : IsUnread (keys_of (entry_fields entry)) entry.rest

-- the fields that a state keeps unread have a manifest, which is an object
abbrev pub has_manifest : Snapshot → Bool
has_manifest state = is_some (option_and_then as_object (get_member (codes "manifest") (unread_fields state.rest)))

-- a state whose entries, those of pending operations too, are formed, and whose unread fields have a manifest
pub record IsFormed (state : Snapshot) : Type 0 where
  pub entries : All IsFormedEntry state.entries
  pub pending : All (λ operation. IsFormedEntry operation.entry) state.pending
  pub rest : IsUnread (keys_of (deployment_fields state)) state.rest
  pub manifest : IsTrue (has_manifest state)
