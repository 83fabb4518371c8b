use Rattle.std.proofs.Common.{not, refl, arith}
use Rattle.pl_events.specs.declared.event.HostEnd.TheVariants.{BadFrame}
use Rattle.pl_components.specs.Saves.{must_save}
use Rattle.pl_engine.specs.Spelled.{host_spelling}
use Rattle.pl_engine.specs.Journal.{run_of}
use Rattle.pl_engine.proofs.Accepting.{Adds-ended}
use Rattle.pl_engine.proofs.Answering.{Written-step, is_unposted}
use Rattle.pl_engine.proofs.Storing.{Stored-step}
use Rattle.pl_engine.proofs.serve.take_up.Goals as goal

pub register-requires-clause-spelled : goal.register-requires-clause-spelled
register-requires-clause-spelled g c κs within = c.requires.spelled c.in-Some.n c.in-Some.told c.in-Some.ensures.told

pub returns-in-None-clause-stored : goal.returns-in-None-clause-stored
returns-in-None-clause-stored g c = λ start opened below h.
    Stored-step (run_of c.args.journal.now) host_spelling _ _ c.args.journal.now.wanted c.end_messages.new.journal.wanted
    c.args.journal.now.history c.end_messages.new.journal.history c.args.journal.now.marks.items c.end_messages.new.journal.marks.items
    opened (g.S.Store.story c.args.store.now) (λ rose. rose) c.end_messages.ensures.wanted
    (Adds-ended (λ what. not (must_save what)) (BadFrame c.args.body) _ _ _ (λ e. refl) c.end_messages.ensures.ended)
    c.end_messages.ensures.marks h

pub returns-in-None-clause-written : goal.returns-in-None-clause-written
returns-in-None-clause-written g c =
    Written-step (run_of c.args.journal.now) (g.Q.Pipe.faults c.args.writing.now.half) (g.Q.Pipe.faults c.args.writing.now.half)
    c.args.journal.now.wanted c.end_messages.new.journal.wanted c.args.writing.now.failed c.args.journal.now.history c.end_messages.new.journal.history (g.Q.Pipe.given c.args.writing.now.half)
    (omega arith) c.end_messages.ensures.wanted
    (Adds-ended is_unposted (BadFrame c.args.body) _ _ _ (λ e. refl) c.end_messages.ensures.ended)
