-- What each call leaves of the merged snapshot.
use Rattle.std.specs.Prelude.{ℕ, ◌+◌, ◌-◌, ◌^◌, ◌==◌, Bool, Option, List, [], ◌∷◌, ◌++◌, count_by, length}
use Rattle.pl_value.specs.Secrets.{marked}
use Rattle.pl_value.specs.declared.value.Value.{Value}
use Rattle.pl_state.specs.declared.entry.Entry.{Entry}
use Rattle.pl_state.specs.declared.pending.Pending.{Pending}
use Rattle.pl_state.specs.declared.snapshot.Snapshot.{Snapshot}
use Rattle.pl_snap.specs.declared.fresh.Fresh.{Fresh}
use Rattle.pl_snap.specs.Lists.{changed_first, without_first}
use Rattle.pl_snap.specs.Model.{Merged, entries_of, waiting_of}
use Rattle.pl_snap.specs.Rows.{claim_taken, first_rows, first_waiting, is_counted, is_row, is_waiting, replaced_row, rows_after, set_rows}

-- a state with nothing recorded yet
abbrev pub merged_of : Snapshot → Merged
merged_of base = record {
  stack = base.stack;
  fresh = [];
  rows = first_rows base.entries;
  base_pending = first_waiting (length base.entries) base.pending;
  own_pending = [];
  rest = base.rest;
  next_stamp = length base.entries + length base.pending;
}

-- no stamp above this one is given where there is a choice: 10,000 rows can be marked after it, each with a stamp
-- below 2 ^ 62
abbrev pub most_stamps : ℕ
most_stamps = 2 ^ 62 - 10000

-- ---- recording

-- an entry was recorded. There is a stamp for the entry, one for the claim, and one for each row
abbrev pub with_entry : ℕ → Entry → Option ℕ → Bool → Merged → Merged
with_entry goal entry claim marked merged = record merged {
  fresh = merged.fresh ++ record { goal = goal; stamp = merged.next_stamp; entry = entry } ∷ [];
  rows = claim_taken claim marked (merged.next_stamp + 1) (rows_after entry.urn claim (merged.next_stamp + 2) merged.rows);
  next_stamp = merged.next_stamp + 2 + length merged.rows;
}

-- whether a recorded entry is that of a goal
abbrev pub is_goal : ℕ → Fresh → Bool
is_goal goal one = one.goal == goal

-- a recorded entry with other outputs
abbrev pub with_put : ℕ → List (List ℕ × Value) → Fresh → Fresh
with_put stamp outputs one = record one { stamp = stamp; entry = record one.entry { outputs = outputs } }

-- a recorded entry with outputs that were told, those that it names kept as secrets
abbrev pub with_told : ℕ → List (List ℕ × Value) → Fresh → Fresh
with_told stamp outputs one = with_put stamp (marked one.entry.additional_secret_outputs outputs) one

-- outputs were told of a goal
abbrev pub with_outputs : ℕ → List (List ℕ × Value) → Merged → Merged
with_outputs goal outputs merged = record merged {
  fresh = changed_first (is_goal goal) (with_told merged.next_stamp outputs) merged.fresh;
  next_stamp = merged.next_stamp + 1;
}

-- ---- rows

-- a row was deleted or dropped
abbrev pub without_row : ℕ → Merged → Merged
without_row number merged = record merged { rows = without_first (is_row number) merged.rows }

-- a row's thing was deleted to be made anew
abbrev pub with_replaced : ℕ → Merged → Merged
with_replaced number merged = record merged {
  rows = changed_first (is_row number) (replaced_row merged.next_stamp) merged.rows;
  next_stamp = merged.next_stamp + 1;
}

-- the entries were set whole
abbrev pub with_rows : List Entry → Merged → Merged
with_rows entries merged = record merged {
  rows = set_rows merged.next_stamp entries;
  next_stamp = merged.next_stamp + length entries;
}

-- ---- pending operations

-- a pending operation of the state at the start was cleared
abbrev pub without_pending : ℕ → Merged → Merged
without_pending at merged = record merged { base_pending = without_first (is_waiting at) merged.base_pending }

-- an operation was begun
abbrev pub with_opened : ℕ → Pending → Merged → Merged
with_opened ticket pending merged = record merged {
  own_pending = merged.own_pending ++ record { number = ticket; stamp = merged.next_stamp; pending = pending } ∷ [];
  next_stamp = merged.next_stamp + 1;
}

-- an operation was answered
abbrev pub without_opened : ℕ → Merged → Merged
without_opened ticket merged = record merged { own_pending = without_first (is_waiting ticket) merged.own_pending }

-- ---- counts

-- the entries, and the pending operations that count beside them
abbrev pub count_of : Merged → ℕ
count_of merged = length (entries_of merged) + count_by (λ one. is_counted one.pending) (waiting_of merged)
