-- Soundness of a state: each row finds what it refers to among the rows before it.
use Rattle.std.specs.Prelude.{◌≡◌, ◌<◌, ℕ, Bool, not, find, if◌then◌else◌, option_and_then, slice_get, take, Option, None, Some, List, [], ◌∷◌, ◌++◌}
use Rattle.std.specs.List.{list_all, list_any}
use Rattle.pl_state.specs.declared.entry.Entry.{Entry}
use Rattle.pl_state.specs.declared.fault.Missing.{Missing}
use Rattle.pl_state.specs.declared.fault.Missing.TheVariants.{Twice}
use Rattle.pl_state.specs.declared.fault.UnsoundOrMemory.{UnsoundOrMemory}
use Rattle.pl_state.specs.declared.fault.UnsoundOrMemory.TheVariants.{Unsound, OutOfMemory}
use Rattle.pl_state.specs.References.{is_among, keeps_urn, refs}

-- whether the rows before give what is wanted: for a URN of one's own that none of them keeps it, for a
-- reference that one of them meets it
abbrev pub is_met : List Entry → Missing → Bool
is_met before (Twice urn) = not (list_any (keeps_urn urn) before)
is_met before reference = is_among before reference

-- the want of one's own URN: none where a row is to be deleted
abbrev pub own_wants : Entry → List Missing
own_wants row = if row.doomed then [] else Twice row.urn ∷ []

-- all that a row wants of the rows before it, in order: that its own URN is free, and its references
abbrev pub wants : Entry → List Missing
wants row = own_wants row ++ refs row

-- the first want of a row that a test of wants does not pass
unfoldable pub first_unmet : (Missing → Bool) → Entry → Option Missing
first_unmet met row = find (λ want. not (met want)) (wants row)

-- whether each want of a row is met
abbrev pub finds_all : List Entry → Entry → Bool
finds_all before row = list_all (is_met before) (wants row)

-- what the row at a place misses first; nothing where there is no such row
unfoldable pub fault_at : List Entry → ℕ → Option Missing
fault_at rows at = option_and_then (λ row. first_unmet (is_met (take at rows)) row) (slice_get rows at)

-- no row misses anything
abbrev pub IsSound : List Entry → Type 0
IsSound rows = (at : ℕ) → fault_at rows at ≡ None

-- the first row that misses something, and what it misses first
pub record IsFirstFault (rows : List Entry) (at : ℕ) (missing : Missing) : Type 0 where
  pub here : fault_at rows at ≡ Some missing
  pub before : (earlier : ℕ) → earlier < at → fault_at rows earlier ≡ None

-- the first row that misses something
abbrev pub IsFirstFaulty : List Entry → ℕ → Type 0
IsFirstFaulty rows at = (missing : Missing) × IsFirstFault rows at missing

-- an answer tells the first fault, or that memory was wanting
abbrev pub TellsFault : List Entry → UnsoundOrMemory → Type 0
TellsFault rows (Unsound fault) = IsFirstFault rows fault.at fault.missing
TellsFault rows OutOfMemory = Unit {0}
