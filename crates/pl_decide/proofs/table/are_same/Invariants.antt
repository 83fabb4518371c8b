use Rattle.std.proofs.Common.{◌≡◌, take, length}
use Rattle.pl_decide.proofs.table.are_same.Given as goal

-- the first ones of both are the same
abbrev pub invariant-loop-place : goal.invariant-loop-place
invariant-loop-place l = (length l.first ≡ length l.second) × (take l.place l.first ≡ take l.place l.second)
