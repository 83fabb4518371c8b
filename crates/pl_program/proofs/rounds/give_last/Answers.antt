use Rattle.std.proofs.Common.{ℕ, sym, subst}
use Rattle.pl_world.specs.Counts.{Rose}
use Rattle.pl_world.specs.Frames.{frame_of}
use Rattle.pl_program.specs.Told.{Ends}
use Rattle.pl_program.proofs.Going.{OverGiving, ends_by, gave_part}
use Rattle.pl_program.proofs.rounds.give_last.Goals as goal

pub returns-in-Ok-clause-ends : goal.returns-in-Ok-clause-ends
returns-in-Ok-clause-ends g c =
    let Faulted = Rose (g.Q.Pipe.faults c.args.outgoing.now) (g.Q.Pipe.faults c.give_uncovered.new.half) in
    (frame_of c.args.body.now, c.in-Ok.ensures.given, ends_by Faulted ⊥ (λ e. absurd e) (λ e. e) c.requires.ends)

pub returns-in-Err-clause-ends : goal.returns-in-Err-clause-ends
returns-in-Err-clause-ends g c =
    let Faulted = Rose (g.Q.Pipe.faults c.args.outgoing.now) (g.Q.Pipe.faults c.give_uncovered.new.half) in
    subst (λ (status : ℕ). OverGiving (g.Q.Pipe.given c.args.outgoing.now) (g.Q.Pipe.given c.give_uncovered.new.half) (λ given taken. Ends c.args.talk.now Faulted ⊥ given taken status))
    (sym c.trouble_status.ensures)
    (gave_part c.in-Err.why c.args.talk.now c.args.body.now Faulted _ _ c.requires.gives c.in-Err.ensures.part_given c.in-Err.ensures.failed_rose)
