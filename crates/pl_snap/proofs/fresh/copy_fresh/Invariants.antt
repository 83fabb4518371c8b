use Rattle.std.proofs.Common.{◌≡◌, ◌++◌, map, take}
use Rattle.pl_snap.proofs.fresh.copy_fresh.Given as goal

abbrev pub invariant-loop-one : goal.invariant-loop-one
invariant-loop-one l = l.into ≡ l.fn.into ++ map (λ one. one.entry) (take l.one-index l.fresh)
