use Rattle.std.proofs.Common.{◌≡◌, [], take}
use Rattle.pl_refresh.proofs.Behind.{base_behind}
use Rattle.pl_refresh.proofs.pruned.pruned_base.Given as goal

-- the entries so far, and those of the rows that follow, are the entries of all rows
abbrev pub invariant-loop-place : goal.invariant-loop-place
invariant-loop-place l = record {
  left : base_behind l.base l.now l.imported l.standing l.place ≡ base_behind l.base l.now l.imported [] 0;
  passed : l.ancestry ≡ take l.place l.base;
}
