-- What the stamps tell.
use Rattle.std.specs.Prelude.{◌≡◌, ℕ, ◌+◌, ◌==◌, ◌<◌, ◌≤◌, ◌^◌, if◌then◌else◌, Some, List, [], ◌∷◌, ◌++◌, length, map, slice_get}
use Rattle.pl_state.specs.declared.entry.Entry.{Entry}
use Rattle.pl_state.specs.declared.pending.Pending.{Pending}
use Rattle.pl_snap.specs.declared.fresh.Fresh.{Fresh}
use Rattle.pl_snap.specs.Model.{Merged, Row, Waiting, stamps_of, waiting_of}

-- ---- at any time

-- how many of some things have a stamp
abbrev pub bearers : {X : Type 0} → (X → ℕ) → List X → ℕ → ℕ
bearers own [] stamp = 0
bearers own (x ∷ xs) stamp = (if own x == stamp then 1 else 0) + bearers own xs stamp

-- the same of all things of a merged snapshot
abbrev pub all_bearers : List Fresh → List Row → List Waiting → List Waiting → ℕ → ℕ
all_bearers fresh rows base own stamp =
    bearers (λ one. one.stamp) fresh stamp + bearers (λ row. row.stamp) rows stamp
    + bearers (λ one. one.stamp) base stamp + bearers (λ one. one.stamp) own stamp

-- what holds of a merged snapshot at any time: there are no more things than stamps that were given, the stamps stay in
-- their range, no stamp is that of two things, and none that comes later is that of any
pub record IsKept (fresh : List Fresh) (rows : List Row) (base own : List Waiting) (next : ℕ) : Type 0 where
  pub room : length fresh + length rows + length base + length own ≤ next
  pub below : next ≤ 2 ^ 62
  pub once : (stamp : ℕ) → all_bearers fresh rows base own stamp ≤ 1
  pub given : (stamp : ℕ) → next ≤ stamp → all_bearers fresh rows base own stamp ≡ 0

-- the stamps of the entries and of the pending operations
abbrev pub all_stamps : Merged → List ℕ
all_stamps merged = stamps_of merged ++ map (λ one. one.stamp) (waiting_of merged)

-- no number stands in the list at two places
abbrev pub AreDistinct : List ℕ → Type 0
AreDistinct numbers =
    (number at other : ℕ) → slice_get numbers at ≡ Some number → slice_get numbers other ≡ Some number → at ≡ other

-- each number of the list is below a number
abbrev pub AreBelow : List ℕ → ℕ → Type 0
AreBelow numbers next = (number at : ℕ) → slice_get numbers at ≡ Some number → number < next

-- ---- over a call

-- the entries, each with its stamp
abbrev pub stamped_entries : Merged → List (ℕ × Entry)
stamped_entries merged =
    map (λ one. (one.stamp, one.entry)) merged.fresh ++ map (λ row. (row.stamp, row.entry)) merged.rows

-- the pending operations, each with its stamp
abbrev pub stamped_pending : Merged → List (ℕ × Pending)
stamped_pending merged =
    map (λ one. (one.stamp, one.pending)) merged.base_pending ++ map (λ one. (one.stamp, one.pending)) merged.own_pending

-- a thing stands in a list with a stamp
abbrev pub Bears : {X : Type 0} → List (ℕ × X) → ℕ → X → Type 0
Bears things stamp x = (at : ℕ) × (slice_get things at ≡ Some (stamp, x))

-- each thing of the new list whose stamp is below a stamp stands in the old list with its own one; so what is new
-- or changed has that stamp or a later one
abbrev pub KeepsBelow : {X : Type 0} → ℕ → List (ℕ × X) → List (ℕ × X) → Type 0
KeepsBelow {X} next old new = (stamp : ℕ) (x : X) → Bears new stamp x → stamp < next → Bears old stamp x

-- what the stamps tell of a merged snapshot after another one
pub record Follows (old new : Merged) : Type 0 where
  pub stamps_do_not_fall : old.next_stamp ≤ new.next_stamp
  pub same_stamp_same_entry : KeepsBelow old.next_stamp (stamped_entries old) (stamped_entries new)
  pub same_stamp_same_pending : KeepsBelow old.next_stamp (stamped_pending old) (stamped_pending new)
