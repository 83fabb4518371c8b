-- The fixed data of a run of components.
use Rattle.std.specs.Prelude.{ℕ, List, []}
use Rattle.pl_state.specs.declared.entry.Entry.{Entry}
use Rattle.pl_state.specs.declared.snapshot.Snapshot.{Snapshot}

-- the names of the run's stack and project, and the stack's name and the unread fields of the state at the start, which
-- has no entry and nothing pending
pub record Fixed : Type 0 where
  pub stack : List ℕ
  pub project : List ℕ
  pub name : List ℕ
  pub rest : List ℕ

-- the state at the start with these entries
abbrev pub state_with : Fixed → List Entry → Snapshot
state_with run entries = record { stack = run.name; entries = entries; pending = []; rest = run.rest }
