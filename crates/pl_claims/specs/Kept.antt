-- How the columns are kept.
use Rattle.std.specs.Prelude.{◌≡◌, ◌+◌, ◌≤◌, ℕ, false, List, [], ◌∷◌, Some, IfSome, length, map, reverse, slice_get}
use Rattle.std.specs.Vec.{vec_capacity}
use Rattle.pl_sound.specs.Sound.{IsSound}
use Rattle.pl_model.specs.declared.decided.Decided.{Decided}
use Rattle.pl_model.specs.Run.{rows_of}
use Rattle.pl_model.specs.Claims.{chain_of_goal, is_claimed}
use Rattle.pl_claims.specs.declared.claims.Claims.TheInside.{Inside}
use Rattle.pl_claims.specs.declared.settled.Settled.{Settled}
use Rattle.pl_claims.specs.Columns.{Kept}
use Rattle.pl_claims.specs.Marks.{AreMarked}

-- what is decided, newest first
abbrev pub decided_in : List Settled → List Decided
decided_in settled = reverse (map (λ one. one.decided) settled)

abbrev pub kept_by : Inside → Kept
kept_by inside = record {
  run = inside.base;
  decided = decided_in inside.settled.items;
  ready = inside.ready;
}

-- no decision claims a row that one before it claims
abbrev pub ClaimOnce : List Decided → Type 0
ClaimOnce [] = Unit {0}
ClaimOnce (one ∷ before) = IfSome one.claim (λ row. is_claimed before row ≡ false) × ClaimOnce before

-- the rows are sound, each decision has its chain, no row is claimed twice, the marks say the same, and there is memory
-- for the decisions
pub record IsKept (inside : Inside) : Type 0 where
  pub sound : IsSound (rows_of inside.base)
  pub chained : (goal : ℕ) (one : Settled) → slice_get inside.settled.items goal ≡ Some one → one.chain ≡ chain_of_goal inside.base one.decided
  pub once : ClaimOnce (decided_in inside.settled.items)
  pub marked : AreMarked inside.base (decided_in inside.settled.items) inside.marks.items
  pub room : length inside.settled.items + inside.ready ≤ vec_capacity inside.settled
