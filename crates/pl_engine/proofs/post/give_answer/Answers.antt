use Rattle.std.proofs.Common.{[], ◌∙◌, ap, inl, inr, drop, take, arith}
use Rattle.std.proofs.lemmas.List.{append-nil, take-append-drop}
use Rattle.pl_events.specs.declared.event.Stop.TheVariants.{HostPipeFault, NoMemory}
use Rattle.pl_world.specs.Frames.{frame_of}
use Rattle.pl_components.proofs.Waits.{due_unposted}
use Rattle.pl_engine.specs.Spelled.{host_spelling}
use Rattle.pl_engine.specs.Journal.{run_of, stopped_by}
use Rattle.pl_engine.specs.declared.journal.Journal.{Journal}
use Rattle.pl_engine.proofs.Answering.{Written-failed, Written-posted, failed_of}
use Rattle.pl_engine.proofs.Storing.{Rose-earlier, Stops-stopped_by, or_wants}
use Rattle.pl_engine.proofs.post.give_answer.Goals as goal

pub returns-in-Ok-posted-clause-written : goal.returns-in-Ok-posted-clause-written
returns-in-Ok-posted-clause-written g c = λ h.
    Written-posted (run_of c.args.journal.now) (g.Q.Pipe.faults c.args.writing.now.half) (g.Q.Pipe.faults c.give_uncovered.new.half)
    c.args.journal.now.wanted c.posted.new.self.wanted c.args.writing.now.failed c.args.n c.as_slice.result.now
    c.args.journal.now.history c.posted.new.self.history (g.Q.Pipe.given c.args.writing.now.half) (g.Q.Pipe.given c.give_uncovered.new.half)
    c.requires.unfailed c.in-Ok-posted.ensures.posted (c.as_slice.ensures ∙ c.requires.answer) c.in-Ok.ensures.given h

pub returns-in-Ok-clause-written : goal.returns-in-Ok-clause-written
returns-in-Ok-clause-written g c = λ h.
    Written-failed (run_of c.args.journal.now) (g.Q.Pipe.faults c.args.writing.now.half) (g.Q.Pipe.faults c.give_uncovered.new.half)
    c.args.journal.now.wanted c.stop.new.self.wanted c.args.writing.now.failed c.args.n c.as_slice.result.now (frame_of c.as_slice.result.now) []
    c.args.journal.now.history c.stop.new.self.history (g.Q.Pipe.given c.args.writing.now.half) (g.Q.Pipe.given c.give_uncovered.new.half)
    c.requires.unfailed
    (Stops-stopped_by NoMemory c.args.journal.now.stopped c.args.journal.now.history c.stop.new.self.history
    (c.stop.ensures.history ∙ ap (λ (j : Journal). stopped_by NoMemory j.stopped j.history) c.in-Err.ensures.unchanged))
    (c.as_slice.ensures ∙ c.requires.answer) c.requires.due
    (due_unposted (run_of c.args.journal.now) host_spelling c.args.journal.now.history c.requires.consistent.legal c.args.n c.requires.due)
    (append-nil (frame_of c.as_slice.result.now))
    (inr (or_wants c.posted.new.self.wanted c.stop.new.self.wanted c.stop.ensures.want))
    c.in-Ok.ensures.given h

pub returns-in-Err-Failed-clause-written : goal.returns-in-Err-Failed-clause-written
returns-in-Err-Failed-clause-written g c = λ h.
    let part = c.in-Err-Failed.ensures.part_given in
    Written-failed (run_of c.args.journal.now) (g.Q.Pipe.faults c.args.writing.now.half) (g.Q.Pipe.faults c.give_uncovered.new.half)
    c.args.journal.now.wanted c.stop-in-Err-Failed.new.self.wanted c.args.writing.now.failed c.args.n c.as_slice.result.now
    (take part.0 (frame_of c.as_slice.result.now)) (drop part.0 (frame_of c.as_slice.result.now))
    c.args.journal.now.history c.stop-in-Err-Failed.new.self.history (g.Q.Pipe.given c.args.writing.now.half) (g.Q.Pipe.given c.give_uncovered.new.half)
    c.requires.unfailed
    (Stops-stopped_by HostPipeFault c.args.journal.now.stopped c.args.journal.now.history c.stop-in-Err-Failed.new.self.history c.stop-in-Err-Failed.ensures.history)
    (c.as_slice.ensures ∙ c.requires.answer) c.requires.due
    (due_unposted (run_of c.args.journal.now) host_spelling c.args.journal.now.history c.requires.consistent.legal c.args.n c.requires.due)
    (take-append-drop part.0 (frame_of c.as_slice.result.now))
    (inl (Rose-earlier 0 (g.Q.Pipe.faults c.args.writing.now.half) (g.Q.Pipe.faults c.give_uncovered.new.half) (omega arith)
    (failed_of c.in-Err-Failed.field-0 _ c.in-Err-Failed.field-0-is c.in-Err-Failed.ensures.failed_rose)))
    part.2 h

pub returns-clause-written : goal.returns-clause-written
returns-clause-written g c = λ h.
    let part = c.in-Err-OutOfMemory.ensures.part_given in
    Written-failed (run_of c.args.journal.now) (g.Q.Pipe.faults c.args.writing.now.half) (g.Q.Pipe.faults c.give_uncovered.new.half)
    c.args.journal.now.wanted c.stop-in-Err-OutOfMemory.new.self.wanted c.args.writing.now.failed c.args.n c.as_slice.result.now
    (take part.0 (frame_of c.as_slice.result.now)) (drop part.0 (frame_of c.as_slice.result.now))
    c.args.journal.now.history c.stop-in-Err-OutOfMemory.new.self.history (g.Q.Pipe.given c.args.writing.now.half) (g.Q.Pipe.given c.give_uncovered.new.half)
    c.requires.unfailed
    (Stops-stopped_by NoMemory c.args.journal.now.stopped c.args.journal.now.history c.stop-in-Err-OutOfMemory.new.self.history c.stop-in-Err-OutOfMemory.ensures.history)
    (c.as_slice.ensures ∙ c.requires.answer) c.requires.due
    (due_unposted (run_of c.args.journal.now) host_spelling c.args.journal.now.history c.requires.consistent.legal c.args.n c.requires.due)
    (take-append-drop part.0 (frame_of c.as_slice.result.now))
    (inr (or_wants c.args.journal.now.wanted c.stop-in-Err-OutOfMemory.new.self.wanted c.stop-in-Err-OutOfMemory.ensures.want))
    part.2 h
