use Rattle.std.proofs.Common.{[], ◌∷◌, List, None, true, refl, sym, ◌∙◌, ap, subst, arith}
use Rattle.pl_events.specs.declared.event.Event.{Event}
use Rattle.pl_events.specs.declared.event.HostEnd.TheVariants.{NoMemory}
use Rattle.pl_components.specs.Run.{Fixed}
use Rattle.pl_engine.specs.Journal.{Consistent, end_event, run_of, told_event}
use Rattle.pl_engine.specs.Answered.{Answers, KeepsWritten}
use Rattle.pl_engine.specs.declared.journal.Journal.{Journal}
use Rattle.pl_engine.proofs.Accepting.{Adds-after, Adds-answers, AtRest-answered, IsAwaited-halted}
use Rattle.pl_engine.proofs.Answering.{Written-step}
use Rattle.pl_engine.proofs.Storing.{or_keeps, run_same}
use Rattle.pl_engine.proofs.serve.halt.Goals as goal

pub returns-then-not-writing-clause-goes : goal.returns-then-not-writing-clause-goes
returns-then-not-writing-clause-goes g c =
    AtRest-answered (run_of c.args.journal.now) c.args.n c.args.told c.args.journal.now.history (told_event c.args.n c.args.told ∷ c.args.journal.now.history) None
    c.post.new.journal c.post.new.writing.failed
    (IsAwaited-halted (run_of c.args.journal.now) c.args.n c.args.told c.args.journal.now.history
    (sym c.requires.rest.consistent.halted ∙ c.requires.halted) (c.requires.rest.answered c.if-not-writing.true) c.requires.rest.host_open)
    (subst (λ (h : List Event). Answers c.args.n c.post.new.writing.failed h c.post.new.journal.history) c.in-Ok.ensures.told c.post.ensures.answered)
    (subst (λ (r : Fixed). Consistent r c.post.new.journal) (run_same (run_of c.args.journal.now) c.tell.new.self c.in-Ok.ensures.consistent) c.post.ensures.consistent)
    c.post.ensures.failing

pub returns-then-not-writing-clause-written : goal.returns-then-not-writing-clause-written
returns-then-not-writing-clause-written g c = λ h.
    let told = Written-step (run_of c.args.journal.now) (g.Q.Pipe.faults c.args.writing.now.half) (g.Q.Pipe.faults c.args.writing.now.half)
    c.args.journal.now.wanted c.tell.new.self.wanted c.args.writing.now.failed c.args.journal.now.history c.tell.new.self.history (g.Q.Pipe.given c.args.writing.now.half)
    (omega arith) (λ w. c.in-Ok.ensures.wanted ∙ w) (told_event c.args.n c.args.told ∷ [], c.in-Ok.ensures.told, refl) h in
    subst (λ (r : Fixed). KeepsWritten r c.tell.new.self c.post.new.journal c.args.writing.now.failed c.post.new.writing.failed
    (g.Q.Pipe.faults c.args.writing.now.half) (g.Q.Pipe.faults c.post.new.writing.half) (g.Q.Pipe.given c.args.writing.now.half) (g.Q.Pipe.given c.post.new.writing.half))
    (run_same (run_of c.args.journal.now) c.tell.new.self c.in-Ok.ensures.consistent) c.post.ensures.written told

pub returns-else-not-writing-clause-written : goal.returns-else-not-writing-clause-written
returns-else-not-writing-clause-written g c =
    Written-step (run_of c.args.journal.now) (g.Q.Pipe.faults c.args.writing.now.half) (g.Q.Pipe.faults c.args.writing.now.half)
    c.args.journal.now.wanted c.tell.new.self.wanted c.args.writing.now.failed c.args.journal.now.history c.tell.new.self.history (g.Q.Pipe.given c.args.writing.now.half)
    (omega arith) (λ w. c.in-Ok.ensures.wanted ∙ w) (told_event c.args.n c.args.told ∷ [], c.in-Ok.ensures.told, refl)

pub returns-in-Err-clause-written : goal.returns-in-Err-clause-written
returns-in-Err-clause-written g c =
    Written-step (run_of c.args.journal.now) (g.Q.Pipe.faults c.args.writing.now.half) (g.Q.Pipe.faults c.args.writing.now.half)
    c.args.journal.now.wanted c.end_host.new.self.wanted c.args.writing.now.failed c.args.journal.now.history c.end_host.new.self.history (g.Q.Pipe.given c.args.writing.now.half)
    (omega arith) (λ w. or_keeps c.tell.new.self.wanted true c.end_host.new.self.wanted c.end_host.ensures.want (c.in-Err.ensures.wanted ∙ w))
    (end_event NoMemory ∷ [], c.end_host.ensures.ended ∙ ap (λ (j : Journal). end_event NoMemory ∷ j.history) c.in-Err.ensures.unchanged, refl)

pub returns-then-not-writing-clause-unsaved : goal.returns-then-not-writing-clause-unsaved
returns-then-not-writing-clause-unsaved g c =
    let adds = Adds-answers c.args.n c.post.new.writing.failed c.tell.new.self.history c.post.new.journal.history c.post.ensures.answered in
    Adds-after (told_event c.args.n c.args.told) c.args.journal.now.history c.tell.new.self.history c.post.new.journal.history refl c.in-Ok.ensures.told adds

pub returns-else-not-writing-clause-unsaved : goal.returns-else-not-writing-clause-unsaved
returns-else-not-writing-clause-unsaved g c = (told_event c.args.n c.args.told ∷ [], c.in-Ok.ensures.told, refl)

pub returns-in-Err-clause-unsaved : goal.returns-in-Err-clause-unsaved
returns-in-Err-clause-unsaved g c =
    (end_event NoMemory ∷ [], c.end_host.ensures.ended ∙ ap (λ (j : Journal). end_event NoMemory ∷ j.history) c.in-Err.ensures.unchanged, refl)
