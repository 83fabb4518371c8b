use Rattle.std.proofs.Common.{◌∙◌, subst, arith}
use Rattle.pl_components.specs.Run.{Fixed}
use Rattle.pl_engine.specs.Journal.{run_of}
use Rattle.pl_engine.specs.Answered.{KeepsWritten}
use Rattle.pl_engine.proofs.Answering.{Adds-stops, Written-step}
use Rattle.pl_engine.proofs.Storing.{run_same}
use Rattle.pl_engine.proofs.post.post.Goals as goal

pub returns-in-Ok-clause-written : goal.returns-in-Ok-clause-written
returns-in-Ok-clause-written g c = λ h.
    let written = subst (λ (run : Fixed). KeepsWritten run c.answer_body.new.journal c.give_answer.new.journal c.args.writing.now.failed c.give_answer.new.writing.failed
    (g.Q.Pipe.faults c.args.writing.now.half) (g.Q.Pipe.faults c.give_answer.new.writing.half)
    (g.Q.Pipe.given c.args.writing.now.half) (g.Q.Pipe.given c.give_answer.new.writing.half))
    (run_same (run_of c.args.journal.now) c.answer_body.new.journal c.in-Ok.ensures.consistent) c.give_answer.ensures.written in
    written (Written-step (run_of c.args.journal.now) (g.Q.Pipe.faults c.args.writing.now.half) (g.Q.Pipe.faults c.args.writing.now.half)
    c.args.journal.now.wanted c.answer_body.new.journal.wanted c.args.writing.now.failed
    c.args.journal.now.history c.answer_body.new.journal.history (g.Q.Pipe.given c.args.writing.now.half)
    (omega arith) (λ w. c.in-Ok.ensures.wanted ∙ w) (Adds-stops _ _ c.in-Ok.ensures.stops) h)
