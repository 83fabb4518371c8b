use Rattle.std.proofs.Common.{◌∙◌, ap, arith}
use Rattle.std.specs.Int.{w32, from_be_bytes}
use Rattle.pl_toy_pipe.proofs.Reaching.{part_reached, whole_reached}
use Rattle.pl_toy_pipe.proofs.framing.reach_of.Goals as goal

pub returns-then-body-length : goal.returns-then-body-length
returns-then-body-length c =
    let cut = c.in-Some.ensures.cases in
    part_reached c.args.begun.now c.in-Some.header.now c.in-Some.body.now c.length_of-length.result cut.0 cut.1 c.length_of-length.ensures.spelled
    (omega (arith, c.if-length-eq0.false)) (omega (arith, c.if-length-gt-MAX_BODY.false)) c.if-body-length.true

pub returns-else-body-length : goal.returns-else-body-length
returns-else-body-length c =
    let cut = c.in-Some.ensures.cases in
    whole_reached c.args.begun.now c.in-Some.header.now c.in-Some.body.now c.length_of-length.result cut.0 cut.1 c.length_of-length.ensures.spelled
    (c.length_of-length.ensures.value ∙ ap (λ xs. from_be_bytes w32 xs) cut.0)
    (omega (arith, c.if-length-eq0.false)) (omega (arith, c.if-length-gt-MAX_BODY.false)) c.if-body-length.false c.requires
