use Rattle.std.proofs.Common.{◌≡◌, take, length}
use Rattle.pl_toy.proofs.replying.are_same.Given as goal

-- the first ones of both are the same
abbrev pub invariant-loop-place : goal.invariant-loop-place
invariant-loop-place l = (length l.old ≡ length l.new) × (take l.place l.old ≡ take l.place l.new)
