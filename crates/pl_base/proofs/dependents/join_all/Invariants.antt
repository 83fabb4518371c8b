use Rattle.std.proofs.Common.{◌≡◌, ℕ, option_map, slice_get, take}
use Rattle.pl_lemmas.specs.Words.{has_number}
use Rattle.pl_base.specs.Dependents.{joined_if}
use Rattle.pl_base.proofs.dependents.join_all.Given as goal

abbrev pub invariant-loop-place : goal.invariant-loop-place
invariant-loop-place l =
    (row : ℕ) → slice_get l.lists row ≡ option_map (joined_if (has_number (take l.place-index l.places) row) l.later) (slice_get l.initial.lists row)
