-- The merged snapshot as it is kept: what was recorded, what is left of the state at the start, and what is pending.
use Rattle.std.specs.Prelude.{ℕ, Option, List, ◌++◌, map}
use Rattle.pl_state.specs.declared.entry.Entry.{Entry}
use Rattle.pl_state.specs.declared.pending.Pending.{Pending}
use Rattle.pl_state.specs.declared.snapshot.Snapshot.{Snapshot}
use Rattle.pl_snap.specs.declared.fresh.Fresh.{Fresh}

-- a row that is left: its number in the state at the start, its stamp, and its entry as it stands now; entries that
-- were set whole have no number
pub record Row : Type 0 where
  pub number : Option ℕ
  pub stamp : ℕ
  pub entry : Entry

-- a pending operation: its place in the state at the start or its ticket, its stamp, and what it is
pub record Waiting : Type 0 where
  pub number : ℕ
  pub stamp : ℕ
  pub pending : Pending

-- the recorded entries in order of recording, the rows that are left in their order, the pending operations of the
-- state at the start that are still there, those of the run in order of opening, and the stamp that comes next
pub record Merged : Type 0 where
  pub stack : List ℕ
  pub fresh : List Fresh
  pub rows : List Row
  pub base_pending : List Waiting
  pub own_pending : List Waiting
  pub rest : List ℕ
  pub next_stamp : ℕ

abbrev pub entries_of : Merged → List Entry
entries_of merged = map (λ one. one.entry) merged.fresh ++ map (λ row. row.entry) merged.rows

-- the stamps of the entries
abbrev pub stamps_of : Merged → List ℕ
stamps_of merged = map (λ one. one.stamp) merged.fresh ++ map (λ row. row.stamp) merged.rows

abbrev pub waiting_of : Merged → List Waiting
waiting_of merged = merged.base_pending ++ merged.own_pending

-- the state that is kept: what was recorded before what is left
abbrev pub state_of : Merged → Snapshot
state_of merged = record {
  stack = merged.stack;
  entries = entries_of merged;
  pending = map (λ one. one.pending) (waiting_of merged);
  rest = merged.rest;
}
