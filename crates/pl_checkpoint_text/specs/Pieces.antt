-- A state's text in pieces: the texts of its entries and pending operations, and how they are joined to one.
use Rattle.std.specs.Prelude.{◌≡◌, ℕ, Bool, true, false, bytes_eq, if◌then◌else◌, List, [], ◌∷◌, ◌++◌, codes, map}
use Rattle.pl_state.specs.declared.entry.Entry.{Entry}
use Rattle.pl_state.specs.declared.pending.Pending.{Pending}
use Rattle.pl_state.specs.declared.snapshot.Snapshot.{Snapshot}
use Rattle.serde_json.specs.Data.{Data, null, string, Members, no_members, member, put}
use Rattle.serde_json.specs.Written.{compact_text, comma_if}
use Rattle.pl_checkpoint_text.specs.Spelled.{entry_data, pending_data, with_manifest}

-- the text of an entry
unfoldable pub entry_text : Entry → List ℕ
entry_text entry = compact_text (entry_data entry)

-- the text of a pending operation
unfoldable pub pending_text : Pending → List ℕ
pending_text operation = compact_text (pending_data operation)

-- the state's name and unread fields, and the texts of its entries and of its pending operations, each in order
pub record ArePieces (name unread : List ℕ) (entry_texts pending_texts : List (List ℕ)) (state : Snapshot) : Type 0 where
  pub stack : state.stack ≡ name
  pub rest : state.rest ≡ unread
  pub entries : map entry_text state.entries ≡ entry_texts
  pub pendings : map pending_text state.pending ≡ pending_texts

-- ---- for private clauses: how the pieces are joined

-- the members of a deployment, with nothing yet where its two lists stand
abbrev pub with_places : Members → Members
with_places ms = put (codes "resources") null (put (codes "pending_operations") null (with_manifest ms))

-- the texts of an array's elements with commas between them, one more before the first where something stands before
abbrev pub listed : Bool → List (List ℕ) → List ℕ
listed later [] = []
listed later (text ∷ more) = comma_if later ++ (text ++ listed true more)

-- the text of an array whose elements have these texts
abbrev pub list_text : List (List ℕ) → List ℕ
list_text texts = 91 ∷ (listed false texts ++ 93 ∷ [])

-- what stands under a key of the deployment: a list of texts that were spelled before, or what the member holds
abbrev pub field_text : List (List ℕ) → List (List ℕ) → List ℕ → Data → List ℕ
field_text entries pendings key value =
    if bytes_eq key (codes "pending_operations") then list_text pendings
    else (if bytes_eq key (codes "resources") then list_text entries else compact_text value)

-- the members with such texts, with commas between them
abbrev pub fields_text : List (List ℕ) → List (List ℕ) → Bool → Members → List ℕ
fields_text entries pendings later no_members = []
fields_text entries pendings later (member key value more) =
    comma_if later ++ (compact_text (string key) ++ 58 ∷ (field_text entries pendings key value ++ fields_text entries pendings true more))
