use Rattle.std.proofs.Common.{◌≡◌, ℕ, option_map, slice_get, length}
use Rattle.std.specs.List.{range_with_len}
use Rattle.pl_base.specs.Dependents.{dependents_among}
use Rattle.pl_base.proofs.Grouped.{Grouped}
use Rattle.pl_base.proofs.dependents.fill.Given as goal

abbrev pub invariant-loop-place : goal.invariant-loop-place
invariant-loop-place l = record {
  lists : (row : ℕ) → slice_get l.lists row
      ≡ option_map (dependents_among l.rows l.place) (slice_get (range_with_len 0 (length l.rows)) row);
  grouped : Grouped l.groups l.rows l.place;
}
