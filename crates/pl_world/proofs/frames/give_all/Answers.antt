use Rattle.std.proofs.Common.{rules}
use Rattle.pl_world.proofs.Telling.{GavePart-after_error, Gave-next, Gave-piece, rest_from, OnErr-always}
use Rattle.pl_world.proofs.frames.give_all.Goals as goal

pub returns-in_err-count-clause-part_given : goal.returns-in_err-count-clause-part_given
returns-in_err-count-clause-part_given g c =
    let part = rw rest_from at c.in_err-count.ensures.failed_gave_part in
    OnErr-always c.from_residual.result
    (GavePart-after_error c.in_err-count.field-0.0 _ _ _ _ _ _ c.loop-sent.invariant.within c.loop-sent.invariant.given part c.in_err-count.ensures.no_memory_gave_nothing)

pub loop-sent-preserved : goal.loop-sent-preserved
loop-sent-preserved g c = record {
  within = search rules;
  given =
      let grew = rw rest_from at c.in_ok-count.ensures.given_grew in
      Gave-next _ _ _ c.loop-sent.sent c.in_ok-count.count _ _ c.loop-sent.invariant.given (Gave-piece _ _ _ _ grew);
  taken_stays = search rules;
  faults_never_fall = search rules;
  ends_never_fall = search rules;
}
