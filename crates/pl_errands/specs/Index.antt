-- What is kept of operations to look them up.
use Rattle.std.specs.Prelude.{◌≡◌, ℕ, Option, None, Some, if◌then◌else◌, List, is_some, nat_lt, option_and_then, position}
use Rattle.std.specs.List.{list_any}
use Rattle.std.specs.HashMap.{HashMap, get}
use Rattle.pl_events.specs.declared.operation.Op.{Op}
use Rattle.pl_model.specs.Tickets.{same_op}
use Rattle.pl_errands.specs.declared.key.Key.{Key}
use Rattle.pl_errands.specs.declared.row.Replied.{Replied}
use Rattle.pl_errands.specs.declared.row.Row.{Row}

-- what is kept of an operation: nothing where it was not begun, else the place of the first reply to it, if one came
abbrev pub kept_of : {S : Type 0} → HashMap Key (Option ℕ) S → Op → Option (Option ℕ)
kept_of index about = get (λ one other. same_op one.op other.op) index (record { op = about })

-- a place that lies before another one
abbrev pub only_before : ℕ → Option ℕ → Option ℕ
only_before place first = option_and_then (λ at. if nat_lt at place then Some at else None) first

-- the place of the first reply to an operation
abbrev pub place_in : List Replied → Op → Option ℕ
place_in replies about = position (λ one. same_op one.closed.op about) replies

-- the index tells which operations have rows, and the first reply to each operation
pub record AgreeIndex {S : Type 0} (index : HashMap Key (Option ℕ) S) (rows : List Row) (replies : List Replied) : Type 0 where
  pub begun : (about : Op) → is_some (kept_of index about) ≡ list_any (λ row. same_op row.errand.op about) rows
  pub first : (about : Op) → option_and_then (λ place. place) (kept_of index about) ≡ place_in replies about
