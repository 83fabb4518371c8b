-- What is read of bytes, and of the bytes of a state.
use Rattle.std.specs.Prelude.{◌≡◌, ◌≤◌, ◌+◌, ℕ, List, length, filter, All, IfSome, Some, Ok}
use Rattle.std.specs.Str.{IsUtf8}
use Rattle.pl_sound.specs.Sound.{IsSound}
use Rattle.pl_state.specs.declared.entry.Entry.{Entry}
use Rattle.pl_state.specs.declared.snapshot.Snapshot.{Snapshot}
use Rattle.pl_urn.specs.Grammar.{IsUrn}
use Rattle.pl_checkpoint_text.specs.Formed.{IsFormed}
use Rattle.pl_checkpoint_text.specs.Laws.{AreValued}
use Rattle.pl_checkpoint_text.specs.Read.{checkpoint_read, may_make, reading_of}
use Rattle.pl_state.specs.Formed.{most_resources}
use Rattle.pl_checkpoint_text.specs.Spelled.{checkpoint_data, checkpoint_text, kind_word}

-- the URNs of the entry are URNs, as those of an entry in memory always are
pub record HasUrns (entry : Entry) : Type 0 where
  pub urn : IsUrn entry.urn
  pub parent : IfSome entry.parent IsUrn
  pub dependencies : All IsUrn entry.dependencies
  pub properties : All (λ pair. All IsUrn pair.1) entry.property_dependencies
  pub aliases : All IsUrn entry.aliases
  pub deleted_with : IfSome entry.deleted_with IsUrn

-- the same of each entry, those of pending operations too
pub record AreNamed (state : Snapshot) : Type 0 where
  pub entries : All HasUrns state.entries
  pub pending : All (λ operation. HasUrns operation.entry) state.pending

-- how many resources the state has, with the pending operations that may make one
abbrev pub resources_of : Snapshot → ℕ
resources_of state = length state.entries + length (filter (λ operation. may_make (Some (kind_word operation.kind))) state.pending)

-- a state that a checkpoint may hold: the format can tell it, each row finds what it refers to, and it is not too large
pub record IsReadable (state : Snapshot) : Type 0 where
  pub formed : IsFormed state
  pub valued : AreValued state
  pub named : AreNamed state
  pub sound : IsSound state.entries
  pub small : resources_of state ≤ most_resources

-- only such a state is read
abbrev pub ReadIsReadable : Type 0
ReadIsReadable = (bytes : List ℕ) (state : Snapshot) → reading_of bytes ≡ Ok state → IsReadable state

-- each such state is what its data reads as
abbrev pub SpelledIsRead : Type 0
SpelledIsRead = (state : Snapshot) → IsReadable state → checkpoint_read (checkpoint_data state) ≡ Ok state

-- the bytes read as the state, and as no other
pub record ReadOnlyAs (bytes : List ℕ) (state : Snapshot) : Type 0 where
  pub read : reading_of bytes ≡ Ok state
  pub alone : (other : Snapshot) → reading_of bytes ≡ Ok other → other ≡ state

-- the text of each such state reads as the state, and as no other; it is UTF-8, as that of a state in memory always is
abbrev pub TextIsRead : Type 0
TextIsRead = (state : Snapshot) → IsReadable state → IsUtf8 (checkpoint_text state) → ReadOnlyAs (checkpoint_text state) state
