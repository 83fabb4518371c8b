use Rattle.std.proofs.Common.{[], ◌∷◌, Some, false, not, refl, ◌∙◌, ap, arith}
use Rattle.pl_events.specs.declared.event.HostEnd.TheVariants.{Success}
use Rattle.pl_world.specs.Told.{Grew}
use Rattle.pl_engine.specs.declared.hear.Heard.{Heard}
use Rattle.pl_components.specs.Saves.{must_save}
use Rattle.pl_engine.specs.Spelled.{host_spelling}
use Rattle.pl_engine.specs.Journal.{end_event, run_of}
use Rattle.pl_engine.proofs.Accepting.{Adds-ended}
use Rattle.pl_engine.proofs.Answering.{Written-step, is_unposted}
use Rattle.pl_engine.proofs.Causing.{EndCaused-ended, EndCaused-free, EndCaused-registered}
use Rattle.pl_engine.proofs.Hearing.{EndsFit-end, EndsFit-ended, EndsFit-registered, TakenNow-ended, TakenNow-registered, TakenNow-success, spelled-heard}
use Rattle.pl_engine.proofs.Storing.{Stored-step, or_keeps}
use Rattle.pl_engine.proofs.serve.step.Goals as goal

pub take_up-requires-clause-spelled : goal.take_up-requires-clause-spelled
take_up-requires-clause-spelled g c κs within = λ n told is.
    spelled-heard c.in-Ok.field-0.body c.in-Ok.field-0.word c.in-Request.request n told c.in-Ok.ensures.heard.body c.in-Ok.ensures.heard.word
    (ap (λ (h : Heard). h.word) c.in-Ok.field-0-is ∙ c.in-Request.is) is

pub returns-in-Err-clause-taken : goal.returns-in-Err-clause-taken
returns-in-Err-clause-taken g c = λ took.
    TakenNow-ended (run_of c.args.journal.now) c.in-Err.end c.args.journal.now.history c.end_messages.new.journal.history
    (g.Q.Pipe.taken c.args.reading.now) (g.Q.Pipe.taken c.hear.new.reading)
    (g.Q.Pipe.faults c.args.reading.now) (g.Q.Pipe.faults c.hear.new.reading) (g.Q.Pipe.ends c.args.reading.now) (g.Q.Pipe.ends c.hear.new.reading)
    c.end_messages.new.journal.wanted took c.in-Err.ensures.ended c.in-Err.ensures.faulted c.in-Err.ensures.at_end c.end_messages.ensures.ended

pub returns-in-Err-clause-stored : goal.returns-in-Err-clause-stored
returns-in-Err-clause-stored g c = λ start opened below h.
    Stored-step (run_of c.args.journal.now) host_spelling _ _ c.args.journal.now.wanted c.end_messages.new.journal.wanted
    c.args.journal.now.history c.end_messages.new.journal.history c.args.journal.now.marks.items c.end_messages.new.journal.marks.items
    opened (g.S.Store.story c.args.store.now) (λ rose. rose) c.end_messages.ensures.wanted
    (Adds-ended (λ what. not (must_save what)) c.in-Err.end _ _ _ (λ e. refl) c.end_messages.ensures.ended)
    c.end_messages.ensures.marks h

pub returns-in-Err-clause-written : goal.returns-in-Err-clause-written
returns-in-Err-clause-written g c =
    Written-step (run_of c.args.journal.now) (g.Q.Pipe.faults c.args.writing.now.half) (g.Q.Pipe.faults c.args.writing.now.half)
    c.args.journal.now.wanted c.end_messages.new.journal.wanted c.args.writing.now.failed c.args.journal.now.history c.end_messages.new.journal.history (g.Q.Pipe.given c.args.writing.now.half)
    (omega arith) c.end_messages.ensures.wanted
    (Adds-ended is_unposted c.in-Err.end _ _ _ (λ e. refl) c.end_messages.ensures.ended)

pub returns-in-Success-clause-taken : goal.returns-in-Success-clause-taken
returns-in-Success-clause-taken g c = λ took.
    TakenNow-success (run_of c.args.journal.now) c.in-Ok.field-0.body c.args.journal.now.history c.end_host.new.self.history
    (g.Q.Pipe.taken c.args.reading.now) (g.Q.Pipe.taken c.hear.new.reading) (g.Q.Pipe.faults c.hear.new.reading) (g.Q.Pipe.ends c.hear.new.reading)
    c.end_host.new.self.wanted took c.in-Ok.ensures.heard.body (c.in-Ok.ensures.heard.word ∙ ap (λ w. Some w) (ap (λ (h : Heard). h.word) c.in-Ok.field-0-is ∙ c.in-Success.is)) c.in-Ok.ensures.heard.taken c.end_host.ensures.ended

pub returns-in-Success-clause-stored : goal.returns-in-Success-clause-stored
returns-in-Success-clause-stored g c = λ start opened below h.
    Stored-step (run_of c.args.journal.now) host_spelling _ _ c.args.journal.now.wanted c.end_host.new.self.wanted
    c.args.journal.now.history c.end_host.new.self.history c.args.journal.now.marks.items c.end_host.new.self.marks.items
    opened (g.S.Store.story c.args.store.now) (λ rose. rose) (or_keeps c.args.journal.now.wanted false c.end_host.new.self.wanted c.end_host.ensures.want)
    (end_event Success ∷ [], c.end_host.ensures.ended, refl) c.end_host.ensures.marks h

pub returns-in-Success-clause-written : goal.returns-in-Success-clause-written
returns-in-Success-clause-written g c =
    Written-step (run_of c.args.journal.now) (g.Q.Pipe.faults c.args.writing.now.half) (g.Q.Pipe.faults c.args.writing.now.half)
    c.args.journal.now.wanted c.end_host.new.self.wanted c.args.writing.now.failed c.args.journal.now.history c.end_host.new.self.history (g.Q.Pipe.given c.args.writing.now.half)
    (omega arith) (or_keeps c.args.journal.now.wanted false c.end_host.new.self.wanted c.end_host.ensures.want)
    (end_event Success ∷ [], c.end_host.ensures.ended, refl)

pub returns-in-Request-clause-taken : goal.returns-in-Request-clause-taken
returns-in-Request-clause-taken g c = λ took.
    TakenNow-registered c.take_up.result (run_of c.args.journal.now) c.in-Ok.field-0.body c.in-Request.request c.args.journal.now c.take_up.new.journal c.take_up.new.writing.failed
    (g.Q.Pipe.taken c.args.reading.now) (g.Q.Pipe.taken c.hear.new.reading) (g.Q.Pipe.faults c.hear.new.reading) (g.Q.Pipe.ends c.hear.new.reading)
    took c.in-Ok.ensures.heard.body
    (c.in-Ok.ensures.heard.word
    ∙ ap (λ w. Some w) (ap (λ (h : Heard). h.word) c.in-Ok.field-0-is ∙ c.in-Request.is))
    c.in-Ok.ensures.heard.taken c.take_up.ensures.did

pub returns-in-Err-clause-ends_fit : goal.returns-in-Err-clause-ends_fit
returns-in-Err-clause-ends_fit g c = λ _.
    EndsFit-ended (run_of c.args.journal.now) c.in-Err.end c.args.journal.now.history c.end_messages.new.journal.history c.end_messages.new.journal.wanted
    (Grew (g.Q.Pipe.taken c.args.reading.now) (g.Q.Pipe.taken c.hear.new.reading))
    c.requires.rest.host_open c.in-Err.ensures.ended c.end_messages.ensures.ended

pub returns-in-Success-clause-ends_fit : goal.returns-in-Success-clause-ends_fit
returns-in-Success-clause-ends_fit g c = λ _.
    EndsFit-end (run_of c.args.journal.now) Success c.args.journal.now.history c.end_host.new.self.history
    c.requires.rest.host_open c.end_host.ensures.ended tt

pub returns-in-Request-clause-ends_fit : goal.returns-in-Request-clause-ends_fit
returns-in-Request-clause-ends_fit g c =
    EndsFit-registered c.take_up.result (run_of c.args.journal.now) c.in-Ok.field-0.body c.in-Request.request
    c.args.journal.now c.take_up.new.journal c.take_up.new.writing.failed
    c.requires.rest.host_open c.in-Ok.ensures.heard.body
    (c.in-Ok.ensures.heard.word
    ∙ ap (λ w. Some w) (ap (λ (h : Heard). h.word) c.in-Ok.field-0-is ∙ c.in-Request.is))
    c.take_up.ensures.did

pub returns-in-Err-clause-end_caused : goal.returns-in-Err-clause-end_caused
returns-in-Err-clause-end_caused g c = λ _.
    EndCaused-ended c.in-Err.end c.args.journal.now.history c.end_messages.new.journal.history c.end_messages.new.journal.wanted
    (g.Q.Pipe.faults c.args.reading.now) (g.Q.Pipe.faults c.hear.new.reading) (g.Q.Pipe.ends c.args.reading.now) (g.Q.Pipe.ends c.hear.new.reading)
    c.requires.rest.host_open c.end_messages.ensures.ended c.in-Err.ensures.faulted c.in-Err.ensures.at_end

pub returns-in-Success-clause-end_caused : goal.returns-in-Success-clause-end_caused
returns-in-Success-clause-end_caused g c = λ _.
    EndCaused-free Success c.args.journal.now.history c.end_host.new.self.history
    (g.Q.Pipe.faults c.hear.new.reading) (g.Q.Pipe.ends c.hear.new.reading)
    c.requires.rest.host_open c.end_host.ensures.ended refl refl

pub returns-in-Request-clause-end_caused : goal.returns-in-Request-clause-end_caused
returns-in-Request-clause-end_caused g c =
    EndCaused-registered c.take_up.result c.in-Request.request c.in-Ok.field-0.body (run_of c.args.journal.now)
    c.args.journal.now c.take_up.new.journal c.take_up.new.writing.failed
    (g.Q.Pipe.faults c.hear.new.reading) (g.Q.Pipe.ends c.hear.new.reading)
    c.requires.rest.host_open c.take_up.ensures.did
