use Rattle.std.proofs.Common.{◌≡◌, ℕ, option_map, slice_get, take}
use Rattle.pl_claims.specs.Marks.{unchained_by}
use Rattle.pl_claims.proofs.mark.free_chain.Given as goal

abbrev pub invariant-loop-row : goal.invariant-loop-row
invariant-loop-row l =
    (place : ℕ) → slice_get l.marks place ≡ option_map (unchained_by l.goal (take l.row-index l.chain) place) (slice_get l.initial.marks place)
