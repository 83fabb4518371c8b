use Rattle.std.proofs.Common.{◌≡◌, ◌++◌, [], ◌∷◌, length, ℕ, List, false, refl, sym, ◌∙◌, ap, subst}
use Rattle.pl_events.specs.declared.event.Event.{Event}
use Rattle.pl_events.specs.declared.event.Stop.TheVariants.{NoMemory}
use Rattle.pl_world.specs.Counts.{Rose}
use Rattle.pl_world.specs.Told.{Grew, IsKeptOrAdded}
use Rattle.pl_engine.specs.Spelled.{host_spelling}
use Rattle.pl_engine.specs.Journal.{kept_event, run_of, stop_event}
use Rattle.pl_engine.specs.Kept.{IfFault}
use Rattle.pl_engine.specs.declared.journal.Journal.{Journal}
use Rattle.pl_engine.proofs.Storing.{Stored-step, Stored-saved, Stored-unsaved, Rose-earlier, IfFault-map, or_wants, stopped_by-first, text-host, want_of}
use Rattle.pl_engine.proofs.keep.keep.Goals as goal

pub returns-in-Ok-save-clause-stored : goal.returns-in-Ok-save-clause-stored
returns-in-Ok-save-clause-stored g c = λ start opened below h.
    let same : c.save.new.journal.history ≡ c.record.new.self.history = ap (λ (j : Journal). j.history) c.in-Ok-save.ensures.kept in
    Stored-saved (run_of c.args.journal.now) host_spelling _ _ c.args.journal.now.wanted c.save.new.journal.wanted
    c.args.journal.now.history c.save.new.journal.history c.args.goal c.args.journal.now.marks.items c.save.new.journal.marks.items
    opened (g.S.Store.story c.args.store.now) (g.S.Store.story c.save.new.store)
    (sym c.requires.consistent.stopped ∙ c.requires.running)
    (same ∙ c.in-Ok.ensures.kept)
    (c.in-Ok-save.ensures.marked
    ∙ ap (λ (ms : List ℕ). ms ++ length c.record.new.self.history ∷ []) c.in-Ok.ensures.marks
    ∙ ap (λ (past : List Event). c.args.journal.now.marks.items ++ length past ∷ []) (sym same))
    (subst (λ (text : List ℕ). Grew (g.S.Store.story c.args.store.now) (g.S.Store.story c.save.new.store) (text ∷ []))
    (text-host (run_of c.args.journal.now) c.record.new.self c.save.new.journal.history c.in-Ok.ensures.consistent same)
    c.in-Ok-save.ensures.added)
    h

pub returns-in-Err-save-clause-stored : goal.returns-in-Err-save-clause-stored
returns-in-Err-save-clause-stored g c = λ start opened below h.
    let same : c.save.new.journal.history ≡ c.record.new.self.history = ap (λ (j : Journal). j.history) c.in-Err-save.ensures.kept in
    let going : c.save.new.journal.stopped ≡ false =
    ap (λ (j : Journal). j.stopped) c.in-Err-save.ensures.kept ∙ c.in-Ok.ensures.stopped ∙ c.requires.running in
    let rose = λ (r : Rose (g.S.Store.faults c.args.store.now) (g.S.Store.faults c.save.new.store)).
    Rose-earlier start (g.S.Store.faults c.args.store.now) (g.S.Store.faults c.save.new.store) below r in
    Stored-unsaved (run_of c.args.journal.now) host_spelling _ (Rose start (g.S.Store.faults c.save.new.store)) c.args.journal.now.wanted c.stop.new.self.wanted
    c.args.journal.now.history c.stop.new.self.history c.args.goal c.in-Err-save.stop c.args.journal.now.marks.items c.stop.new.self.marks.items
    opened (g.S.Store.story c.args.store.now) (g.S.Store.story c.save.new.store)
    (sym c.requires.consistent.stopped ∙ c.requires.running)
    (c.stop.ensures.history ∙ stopped_by-first c.in-Err-save.stop c.save.new.journal.stopped c.save.new.journal.history going
    ∙ ap (λ (past : List Event). stop_event c.in-Err-save.stop ∷ past) (same ∙ c.in-Ok.ensures.kept))
    (c.stop.ensures.marks ∙ c.in-Err-save.ensures.unmarked ∙ c.in-Ok.ensures.marks)
    (IfFault-map c.in-Err-save.stop _ _ rose c.in-Err-save.ensures.fault)
    (subst (λ (text : List ℕ). IfFault c.in-Err-save.stop (IsKeptOrAdded (g.S.Store.story c.args.store.now) (g.S.Store.story c.save.new.store) text))
    (text-host (run_of c.args.journal.now) c.record.new.self (kept_event c.args.goal ∷ c.args.journal.now.history) c.in-Ok.ensures.consistent (sym c.in-Ok.ensures.kept))
    c.in-Err-save.ensures.arrived)
    c.in-Err-save.ensures.want
    (want_of c.in-Err-save.stop c.save.new.journal.wanted c.stop.new.self.wanted _ c.stop.ensures.want c.in-Err-save.ensures.fault)
    h

pub returns-in-Err-clause-stored : goal.returns-in-Err-clause-stored
returns-in-Err-clause-stored g c = λ start opened below h.
    Stored-step (run_of c.args.journal.now) host_spelling _ _ c.args.journal.now.wanted c.stop-in-Err.new.self.wanted
    c.args.journal.now.history c.stop-in-Err.new.self.history c.args.journal.now.marks.items c.stop-in-Err.new.self.marks.items
    opened (g.S.Store.story c.args.store.now)
    (λ rose. rose) (λ _. or_wants c.record.new.self.wanted c.stop-in-Err.new.self.wanted c.stop-in-Err.ensures.want) (
      stop_event NoMemory ∷ [],
      (c.stop-in-Err.ensures.history ∙ stopped_by-first NoMemory c.record.new.self.stopped c.record.new.self.history (c.in-Err.ensures.stopped ∙ c.requires.running)
          ∙ ap (λ (past : List Event). stop_event NoMemory ∷ past) c.in-Err.ensures.unchanged),
      refl,
    )
    (c.stop-in-Err.ensures.marks ∙ c.in-Err.ensures.marks)
    h
