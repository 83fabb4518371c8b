use Rattle.std.proofs.Common.{ℕ, sym, subst}
use Rattle.pl_world.specs.Counts.{Rose}
use Rattle.pl_program.specs.Told.{Ends}
use Rattle.pl_program.proofs.Going.{OverGiving, asked_gives, gave_nothing, gave_part, gave_request}
use Rattle.pl_program.proofs.Weighing.{is_left}
use Rattle.pl_program.proofs.rounds.give_request.Goals as goal

pub count-requires : goal.count-requires
count-requires g c = is_left c.args.talk.now c.args.body.now c.requires.turn

pub returns-in-Ok-give_uncovered-clause-goes : goal.returns-in-Ok-give_uncovered-clause-goes
returns-in-Ok-give_uncovered-clause-goes g c =
    gave_request c.args.talk.now c.count.new.self c.args.body.now (Rose (g.Q.Pipe.faults c.args.outgoing.now) (g.Q.Pipe.faults c.give_uncovered.new.half)) _ _
    c.requires.turn c.in-Ok.ensures c.in-Ok-give_uncovered.ensures.given

pub returns-in-Err-give_uncovered-clause-goes : goal.returns-in-Err-give_uncovered-clause-goes
returns-in-Err-give_uncovered-clause-goes g c =
    let Faulted = Rose (g.Q.Pipe.faults c.args.outgoing.now) (g.Q.Pipe.faults c.give_uncovered.new.half) in
    subst (λ (status : ℕ). OverGiving (g.Q.Pipe.given c.args.outgoing.now) (g.Q.Pipe.given c.give_uncovered.new.half) (λ given taken. Ends c.args.talk.now Faulted ⊥ given taken status))
    (sym c.trouble_status.ensures)
    (gave_part c.in-Err-give_uncovered.why c.args.talk.now c.args.body.now Faulted _ _ (asked_gives _ _ c.requires.turn)
    c.in-Err-give_uncovered.ensures.part_given c.in-Err-give_uncovered.ensures.failed_rose)

pub returns-in-Err-clause-goes : goal.returns-in-Err-clause-goes
returns-in-Err-clause-goes g c = gave_nothing c.args.talk.now _ _
