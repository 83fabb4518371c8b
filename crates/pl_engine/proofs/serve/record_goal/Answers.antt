use Rattle.std.proofs.Common.{[], ◌∷◌, false, refl, ◌∙◌}
use Rattle.pl_events.specs.declared.event.Stop.TheVariants.{TooManyResources}
use Rattle.pl_engine.specs.Spelled.{host_spelling}
use Rattle.pl_engine.specs.Journal.{run_of, stop_event}
use Rattle.pl_engine.proofs.Storing.{Stored-step, or_keeps, stopped_by-first}
use Rattle.pl_engine.proofs.serve.record_goal.Goals as goal

pub returns-then-goal-ge-MOST_RESOURCES-clause-stored : goal.returns-then-goal-ge-MOST_RESOURCES-clause-stored
returns-then-goal-ge-MOST_RESOURCES-clause-stored g c = λ start opened below h.
    Stored-step (run_of c.args.journal.now) host_spelling _ _ c.args.journal.now.wanted c.stop.new.self.wanted
    c.args.journal.now.history c.stop.new.self.history c.args.journal.now.marks.items c.stop.new.self.marks.items
    opened (g.S.Store.story c.args.store.now)
    (λ rose. rose) (or_keeps c.args.journal.now.wanted false c.stop.new.self.wanted c.stop.ensures.want) (
      stop_event TooManyResources ∷ [],
      (c.stop.ensures.history ∙ stopped_by-first TooManyResources c.args.journal.now.stopped c.args.journal.now.history c.requires.running),
      refl,
    )
    c.stop.ensures.marks
    h
