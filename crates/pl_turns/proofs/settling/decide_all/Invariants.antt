use Rattle.std.proofs.Common.{◌≡◌, ◌-◌, length}
use Rattle.pl_turns.specs.Next.{Extends, all_settled}
use Rattle.pl_turns.proofs.settling.decide_all.Given as goal

abbrev pub invariant-loop : goal.invariant-loop
invariant-loop l = record {
  settled : all_settled l.requests l.errands l.claims ≡ all_settled l.requests l.errands l.initial.claims;
  more : Extends l.initial.claims.decided l.claims.decided;
  run : l.claims.run ≡ l.initial.claims.run;
}

abbrev pub decreases-loop : goal.decreases-loop
decreases-loop l = length l.requests.goals - length l.claims.decided
