use Rattle.std.proofs.lemmas.Result.{on_ok_weaker, on_err_weaker}
use Rattle.pl_world.proofs.Telling.{GavePart-front, GavePart-append, Gave-append, OnErr-always}
use Rattle.pl_world.proofs.frames.write_frame.Goals as goal

pub returns-in_err-give_all-clause-part_given : goal.returns-in_err-give_all-clause-part_given
returns-in_err-give_all-clause-part_given g c =
    let part = rw c.to_be_bytes-header.ensures at c.in_err-give_all.ensures.part_given in
    OnErr-always c.from_residual.result (GavePart-front _ _ _ c.args.body.now _ part)

pub returns-clause-frame_given : goal.returns-clause-frame_given
returns-clause-frame_given g c =
    let header = rw c.to_be_bytes-header.ensures at c.in_ok-give_all.ensures.all_given in
    on_ok_weaker c.give_all-2.result (Gave-append _ _ _ _ c.args.body.now _ header) c.give_all-2.ensures.all_given

pub returns-clause-part_given : goal.returns-clause-part_given
returns-clause-part_given g c =
    let header = rw c.to_be_bytes-header.ensures at c.in_ok-give_all.ensures.all_given in
    on_err_weaker c.give_all-2.result (GavePart-append _ _ _ _ c.args.body.now _ header) c.give_all-2.ensures.part_given
