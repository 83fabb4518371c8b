use Rattle.std.proofs.Common.{◌≡◌, ◌-◌, drop, length}
use Rattle.pl_turns.proofs.settling.take_back.Given as goal

abbrev pub invariant-loop-claims : goal.invariant-loop-claims
invariant-loop-claims l = record {
  left : drop (length l.claims.decided - l.count) l.claims.decided
      ≡ drop (length l.initial.claims.decided - l.count) l.initial.claims.decided;
  run : l.claims.run ≡ l.initial.claims.run;
}

abbrev pub decreases-loop-claims : goal.decreases-loop-claims
decreases-loop-claims l = length l.claims.decided
