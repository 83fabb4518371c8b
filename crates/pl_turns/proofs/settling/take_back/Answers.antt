use Rattle.std.proofs.Common.{◌<◌, ◌-◌, ◌∙◌, drop, length, ap, arith}
use Rattle.pl_claims.specs.Columns.{Kept}
use Rattle.pl_turns.proofs.Backs.{one_less}
use Rattle.pl_turns.proofs.settling.take_back.Goals as goal

pub loop-claims-preserved : goal.loop-claims-preserved
loop-claims-preserved c =
    let less : c.args.count < length c.loop-claims.claims.decided = omega arith in
    record {
      left =
          ap (λ (kept : Kept). drop (length kept.decided - c.args.count) kept.decided) c.retract.ensures
          ∙ one_less c.loop-claims.claims.decided c.args.count less ∙ c.loop-claims.invariant.left;
      run = ap (λ (kept : Kept). kept.run) c.retract.ensures ∙ c.loop-claims.invariant.run;
    }
