use Rattle.std.proofs.Common.{rules}
use Rattle.pl_world.proofs.Telling.{OnErr-always, rest_from}
use Rattle.pl_show.proofs.Written.{Grew-next, GrewByPart-after_error}
use Rattle.pl_show.proofs.printing.print.Goals as goal

pub returns-in_err-count-clause-part_written : goal.returns-in_err-count-clause-part_written
returns-in_err-count-clause-part_written g c =
    let part = rw rest_from at c.in_err-count.ensures.failed_wrote_part in
    OnErr-always c.from_residual.result
    (GrewByPart-after_error c.in_err-count.field-0.0 _ _ _ _ _ c.loop-sent.invariant.within c.loop-sent.invariant.written part c.in_err-count.ensures.no_memory_wrote_nothing)

pub loop-sent-preserved : goal.loop-sent-preserved
loop-sent-preserved g c = record {
  within = search rules;
  written =
      let grew = rw rest_from at c.in_ok-count.ensures.written_grew in
      Grew-next _ _ _ c.loop-sent.sent c.in_ok-count.count _ c.loop-sent.invariant.written grew;
  faults_never_fall = search rules;
}
