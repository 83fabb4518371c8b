use Rattle.std.proofs.Common.{not, refl, ap, arith, Err}
use Rattle.pl_events.specs.declared.event.HostEnd.TheVariants.{BadFrame, NoMemory}
use Rattle.pl_events.specs.declared.event.Request.TheVariants.{Register}
use Rattle.pl_components.specs.Saves.{must_save}
use Rattle.pl_engine.specs.Spelled.{host_spelling}
use Rattle.pl_engine.specs.Journal.{run_of}
use Rattle.pl_engine.proofs.Accepting.{Adds-ended, Registered-goes, Registered-refused, not_next-placeable}
use Rattle.pl_engine.proofs.Answering.{Written-step, is_unposted}
use Rattle.pl_engine.proofs.Storing.{Stored-step}
use Rattle.pl_engine.specs.declared.judge.Refusal.{Refusal}
use Rattle.pl_engine.proofs.serve.register.Goals as goal

pub returns-then-n-journal-clause-stored : goal.returns-then-n-journal-clause-stored
returns-then-n-journal-clause-stored g c = λ start opened below h.
    Stored-step (run_of c.args.journal.now) host_spelling _ _ c.args.journal.now.wanted c.end_messages.new.journal.wanted
    c.args.journal.now.history c.end_messages.new.journal.history c.args.journal.now.marks.items c.end_messages.new.journal.marks.items
    opened (g.S.Store.story c.args.store.now) (λ rose. rose) c.end_messages.ensures.wanted
    (Adds-ended (λ what. not (must_save what)) (BadFrame c.args.body) _ _ _ (λ e. refl) c.end_messages.ensures.ended)
    c.end_messages.ensures.marks h

pub returns-then-n-journal-clause-written : goal.returns-then-n-journal-clause-written
returns-then-n-journal-clause-written g c =
    Written-step (run_of c.args.journal.now) (g.Q.Pipe.faults c.args.writing.now.half) (g.Q.Pipe.faults c.args.writing.now.half)
    c.args.journal.now.wanted c.end_messages.new.journal.wanted c.args.writing.now.failed c.args.journal.now.history c.end_messages.new.journal.history (g.Q.Pipe.given c.args.writing.now.half)
    (omega arith) c.end_messages.ensures.wanted
    (Adds-ended is_unposted (BadFrame c.args.body) _ _ _ (λ e. refl) c.end_messages.ensures.ended)

pub returns-then-journal-clause-did : goal.returns-then-journal-clause-did
returns-then-journal-clause-did g c =
    Registered-goes c.halt.result c.args.n c.args.told c.args.body (run_of c.args.journal.now) c.args.journal.now c.halt.new.journal c.halt.new.writing.failed c.halt.ensures.goes

pub returns-then-journal-clause-stored : goal.returns-then-journal-clause-stored
returns-then-journal-clause-stored g c = λ start opened below h.
    Stored-step (run_of c.args.journal.now) host_spelling _ _ c.args.journal.now.wanted c.halt.new.journal.wanted
    c.args.journal.now.history c.halt.new.journal.history c.args.journal.now.marks.items c.halt.new.journal.marks.items
    opened (g.S.Store.story c.args.store.now) (λ rose. rose) c.halt.ensures.wanted c.halt.ensures.unsaved c.halt.ensures.marks h

pub returns-in-Ok-clause-did : goal.returns-in-Ok-clause-did
returns-in-Ok-clause-did g c =
    Registered-goes c.accept.result c.args.n c.args.told c.args.body (run_of c.args.journal.now) c.args.journal.now c.accept.new.journal c.accept.new.writing.failed c.accept.ensures.goes

pub returns-in-Err-NotNext-clause-did : goal.returns-in-Err-NotNext-clause-did
returns-in-Err-NotNext-clause-did g c =
    Registered-refused (Register c.args.n c.args.told) c.args.body (run_of c.args.journal.now) c.args.journal.now c.end_messages-in-Err-NotNext.new.journal c.args.writing.now.failed
    c.requires.rest c.end_messages-in-Err-NotNext.ensures.consistent c.end_messages-in-Err-NotNext.ensures.ended
    (not_next-placeable (run_of c.args.journal.now) c.args.n c.args.told c.args.journal.now c.args.writing.now.failed c.requires.rest c.if-journal.false
    (c.in-Err-NotNext.ensures.refused (ap (λ (r : Refusal). Err r) c.in-Err-NotNext.field-0-is)))

pub returns-in-Err-NotNext-clause-stored : goal.returns-in-Err-NotNext-clause-stored
returns-in-Err-NotNext-clause-stored g c = λ start opened below h.
    Stored-step (run_of c.args.journal.now) host_spelling _ _ c.args.journal.now.wanted c.end_messages-in-Err-NotNext.new.journal.wanted
    c.args.journal.now.history c.end_messages-in-Err-NotNext.new.journal.history c.args.journal.now.marks.items c.end_messages-in-Err-NotNext.new.journal.marks.items
    opened (g.S.Store.story c.args.store.now) (λ rose. rose) c.end_messages-in-Err-NotNext.ensures.wanted
    (Adds-ended (λ what. not (must_save what)) (BadFrame c.args.body) _ _ _ (λ e. refl) c.end_messages-in-Err-NotNext.ensures.ended)
    c.end_messages-in-Err-NotNext.ensures.marks h

pub returns-clause-stored : goal.returns-clause-stored
returns-clause-stored g c = λ start opened below h.
    Stored-step (run_of c.args.journal.now) host_spelling _ _ c.args.journal.now.wanted c.end_messages-in-Err-NoMemory.new.journal.wanted
    c.args.journal.now.history c.end_messages-in-Err-NoMemory.new.journal.history c.args.journal.now.marks.items c.end_messages-in-Err-NoMemory.new.journal.marks.items
    opened (g.S.Store.story c.args.store.now) (λ rose. rose) c.end_messages-in-Err-NoMemory.ensures.wanted
    (Adds-ended (λ what. not (must_save what)) NoMemory _ _ _ (λ e. refl) c.end_messages-in-Err-NoMemory.ensures.ended)
    c.end_messages-in-Err-NoMemory.ensures.marks h
