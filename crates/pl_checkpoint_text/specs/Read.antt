-- What bytes read as: the state that the checkpoint tells, or the first reason why they are no checkpoint.
use Rattle.std.specs.Prelude.{◌≡◌, ℕ, ◌+◌, ◌==◌, Bool, true, false, not, nat_lt, if◌then◌else◌, find, List, [], ◌∷◌, length, codes, Option, Some, None, is_some, option_and_then, option_map, Result, Ok, Err}
use Rattle.std.specs.List.{range_with_len}
use Rattle.std.specs.Str.{is_utf8}
use Rattle.pl_sound.specs.Sound.{fault_at}
use Rattle.pl_state.specs.Formed.{most_resources}
use Rattle.pl_state.specs.declared.entry.Entry.{Entry}
use Rattle.pl_state.specs.declared.fault.BadCheckpoint.TheVariants as bad
use Rattle.pl_state.specs.declared.fault.Unsound.{Unsound}
use Rattle.pl_state.specs.declared.snapshot.Snapshot.{Snapshot}
use Rattle.serde_json.specs.Data.{Data, object, Items, no_items, item, Members, no_members, put}
use Rattle.serde_json.specs.Events.{items_len}
use Rattle.serde_json.specs.Find.{as_number, as_str, as_u64, get, get_member}
use Rattle.serde_json.specs.Read.{read}
use Rattle.serde_json.specs.Written.{compact_text}
use Rattle.pl_checkpoint_text.specs.Formed.{has_wholes, is_one_of}
use Rattle.pl_checkpoint_text.specs.ReadEntry.{entry_in, other_members, pending_in, unread_of}
use Rattle.pl_checkpoint_text.specs.ReadField.{Reading, ◌>>=◌, elements, field_path, given, items_in, members_in, optional, required, text_in}
use Rattle.pl_checkpoint_text.specs.declared.fault.ReadFault.{ReadFault}
use Rattle.pl_checkpoint_text.specs.declared.fault.ReadFault.TheVariants.{Bad, OutOfMemory}
use Rattle.pl_json.specs.Texts.{json_of}

-- ---- the version

-- the number is 3
abbrev pub is_three : Option ℕ → Bool
is_three None = false
is_three (Some n) = n == 3

-- the compact text of what stands for the version, and the empty text where a number in it is not whole
abbrev pub version_text : Data → List ℕ
version_text value = if has_wholes value then compact_text value else []

-- the version has to be there, and the whole number 3
abbrev pub version_of : Option Data → Reading (Unit {0})
version_of None = Err (bad.MissingField (codes "version"))
version_of (Some value) =
    if is_three (option_and_then as_u64 (as_number value)) then Ok tt else Err (bad.NotVersion3 (version_text value))

-- ---- how many resources there may be

-- how many of the items pass the test
abbrev pub count_items : (Data → Bool) → Items → ℕ
count_items test no_items = 0
count_items test (item value more) = (if test value then 1 else 0) + count_items test more

-- an operation of this word may make a resource: it is no update and no delete
abbrev pub may_make : Option (List ℕ) → Bool
may_make None = true
may_make (Some word) = not (is_one_of (codes "updating" ∷ codes "deleting" ∷ []) word)

-- whether the data of a pending operation is that of one that may make a resource
abbrev pub makes_one : Data → Bool
makes_one operation = may_make (option_and_then as_str (get (codes "type") operation))

-- how many resources there are, with the pending operations that may make one
abbrev pub count_of : Items → Items → ℕ
count_of resources operations = items_len resources + count_items makes_one operations

-- the count is not above the limit
abbrev pub within_limit : ℕ → Reading (Unit {0})
within_limit count = if nat_lt most_resources count then Err (bad.TooMany count) else Ok tt

-- ---- soundness

-- what the row at the place misses first
abbrev pub unsound_at : List Entry → ℕ → Option Unsound
unsound_at rows at = option_map (λ missing. record { at = at; missing = missing }) (fault_at rows at)

-- the first row that misses something, and what it misses first
unfoldable pub first_unsound : List Entry → Option Unsound
first_unsound rows =
    option_and_then (unsound_at rows) (find (λ at. is_some (fault_at rows at)) (range_with_len 0 (length rows)))

-- the state, unless a row of it misses something
abbrev pub unless_unsound : Snapshot → Option Unsound → Reading Snapshot
unless_unsound state None = Ok state
unless_unsound state (Some fault) = Err (bad.Unsound fault)

-- the state, where it is sound
abbrev pub if_sound : Snapshot → Reading Snapshot
if_sound state = unless_unsound state (first_unsound state.entries)

-- ---- the state

-- the keys of a deployment that are read; any other field is kept unread, the manifest too
abbrev pub deployment_keys : List (List ℕ)
deployment_keys = codes "pending_operations" ∷ codes "resources" ∷ []

-- the members, with an empty manifest where there is none or a null one
abbrev pub with_own_manifest : Members → Members
with_own_manifest ms = if is_some (given (codes "manifest") ms) then ms else put (codes "manifest") (object no_members) ms

-- The state of a stack of this name, whose deployment has these members and stands at the path. Its fields are looked at
-- before their content.
unfoldable pub deployment_of : List ℕ → List ℕ → Members → Reading Snapshot
deployment_of path stack ms = do
  resources ← optional no_items items_in path (codes "resources") ms
  operations ← optional no_items items_in path (codes "pending_operations") ms
  _ ← optional no_members members_in path (codes "manifest") ms
  _ ← within_limit (count_of resources operations)
  rest ← unread_of path (with_own_manifest (other_members deployment_keys ms))
  entries ← elements entry_in (field_path path (codes "resources")) 0 resources
  pending ← elements pending_in (field_path path (codes "pending_operations")) 0 operations
  if_sound (record { stack = stack; entries = entries; pending = pending; rest = rest })

-- the path of the stack in the outermost object
abbrev pub stack_path : List ℕ
stack_path = codes "checkpoint"

-- the state that the data tells
unfoldable pub checkpoint_read : Data → Reading Snapshot
checkpoint_read value = do
  outermost ← members_in [] value
  _ ← version_of (get_member (codes "version") outermost)
  checkpoint ← required members_in [] stack_path outermost
  stack ← required text_in stack_path (codes "stack") checkpoint
  latest ← optional no_members members_in stack_path (codes "latest") checkpoint
  deployment_of (field_path stack_path (codes "latest")) stack latest

-- ---- bytes

-- the state that the data tells, where the bytes are a JSON text
abbrev pub data_reading : Option Data → Reading Snapshot
data_reading None = Err bad.NotJson
data_reading (Some value) = checkpoint_read value

-- the state that the bytes tell
unfoldable pub reading_of : List ℕ → Reading Snapshot
reading_of bytes = data_reading (json_of bytes)

-- a fault is the one that the reading tells; want of memory may come at any time
abbrev pub TellsFault : {A : Type 0} → Reading A → ReadFault → Type 0
TellsFault told (Bad why) = told ≡ Err why
TellsFault told OutOfMemory = Unit {0}

-- an answer is what the reading tells; want of memory may come at any time
abbrev pub Tells : {A : Type 0} → Reading A → Result A ReadFault → Type 0
Tells told (Ok found) = told ≡ Ok found
Tells told (Err fault) = TellsFault told fault

-- an answer, seen by `view`, is what the reading tells; want of memory may come at any time
abbrev pub TellsAs : {A B : Type 0} → (B → A) → Reading A → Result B ReadFault → Type 0
TellsAs view told (Ok found) = told ≡ Ok (view found)
TellsAs view told (Err fault) = TellsFault told fault
