use Rattle.std.proofs.Common.{ℕ, List, [], sym, subst}
use Rattle.pl_world.specs.Counts.{Rose}
use Rattle.pl_world.specs.Frames.{frame_of}
use Rattle.pl_program.specs.Told.{Ends, Goes}
use Rattle.pl_program.proofs.Going.{OverTaking, took_frame, took_none}
use Rattle.pl_program.proofs.rounds.take_answer.Goals as goal

pub returns-in-Ok-clause-goes : goal.returns-in-Ok-clause-goes
returns-in-Ok-clause-goes g c =
    took_frame c.args.talk.now c.hear_body.new.talk c.hear_body.result c.in-Ok.body _ _ _ _ _ _ c.in-Ok.ensures.taken.1
    (subst (λ (body : List ℕ). Goes c.args.talk.now c.hear_body.new.talk c.hear_body.result ⊥ ⊥ [] (frame_of body)) c.as_slice.ensures c.hear_body.ensures)

pub returns-in-Err-clause-goes : goal.returns-in-Err-clause-goes
returns-in-Err-clause-goes g c =
    let Faulted = Rose (g.Q.Pipe.faults c.args.incoming.now) (g.Q.Pipe.faults c.read_frame.new.pipe) in
    let AtEnd = Rose (g.Q.Pipe.ends c.args.incoming.now) (g.Q.Pipe.ends c.read_frame.new.pipe) in
    subst (λ (status : ℕ). OverTaking (g.Q.Pipe.taken c.args.incoming.now) (g.Q.Pipe.taken c.read_frame.new.pipe) (λ given taken. Ends c.args.talk.now Faulted AtEnd given taken status))
    (sym c.frame_status.ensures)
    (took_none c.in-Err.why c.args.talk.now Faulted AtEnd _ _ _ _ c.requires c.in-Err.ensures.taken c.in-Err.ensures.fault_rose c.in-Err.ensures.end_rose)
