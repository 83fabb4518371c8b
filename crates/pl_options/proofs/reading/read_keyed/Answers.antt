use Rattle.std.proofs.Common.{arith}
use Rattle.std.proofs.lemmas.Grind.{common_steps}
use Rattle.std.proofs.lemmas.Result.{err_from_is_err_and}
use Rattle.pl_options.specs.GoalOf.{is_urn}
use Rattle.pl_options.proofs.FirstBad.{keyed_later, keyed_refused}
use Rattle.pl_options.proofs.reading.read_keyed.Goals as goal

pub returns-in_err-urns-clause-refused : goal.returns-in_err-urns-clause-refused
returns-in_err-urns-clause-refused c =
    let p = err_from_is_err_and c.from_residual.result c.from_residual.ensures.1 in
    rw (p.1, p.2)
    (keyed_refused is_urn _ _ _ _ c.loop-pair-test.true c.pair-item.is c.loop-pair.invariant.1 c.in_err-urns.ensures.refused)

pub loop-pair-preserved : goal.loop-pair-preserved
loop-pair-preserved c =
    (grind (arith, common_steps), keyed_later is_urn _ _ _ c.loop-pair-test.true c.pair-item.is c.loop-pair.invariant.1 c.in_ok-urns.ensures.passes)
