use Rattle.std.proofs.Common.{◌≡◌, [], ◌∷◌, List, true, false, length, refl, sym, ◌∙◌, ap, subst, arith, option_map}
use Rattle.pl_events.specs.declared.event.Event.{Event}
use Rattle.pl_events.specs.declared.event.HostEnd.TheVariants.{NoMemory}
use Rattle.pl_state.specs.declared.entry.Entry.{Entry}
use Rattle.pl_world.specs.Counts.{Rose}
use Rattle.pl_components.specs.Run.{Fixed}
use Rattle.pl_components.specs.Requests.{goal_at, goals_of}
use Rattle.pl_components.specs.Entries.{entry_if, new_entries}
use Rattle.pl_components.specs.Due.{NothingDue, has_room, is_post_due, is_ready, result_of}
use Rattle.pl_engine.specs.Spelled.{host_spelling}
use Rattle.pl_engine.specs.Journal.{Consistent, end_event, run_of, told_event}
use Rattle.pl_engine.specs.Kept.{KeepsStored}
use Rattle.pl_engine.specs.Answered.{KeepsWritten, urn_of}
use Rattle.pl_engine.specs.Running.{RecordedAs}
use Rattle.pl_engine.specs.declared.journal.Journal.{Journal}
use Rattle.pl_engine.proofs.Accepting.{AtRest-answered, IsAwaited-recorded, IsFree-rest, entry-after, idle-after, moved, next-placeable, parent_stands-placeable, ready-after}
use Rattle.pl_engine.proofs.Accepting.{Adds-answers, Adds-recorded}
use Rattle.pl_engine.proofs.Answering.{Written-step}
use Rattle.pl_engine.proofs.Storing.{Stored-step, or_keeps, run_same}
use Rattle.pl_engine.proofs.serve.accept.Goals as goal

pub tell-requires-clause-next : goal.tell-requires-clause-next
tell-requires-clause-next g c =
    next-placeable (run_of c.args.journal.now) c.args.n c.args.told c.args.journal.now c.args.writing.now.failed c.requires.rest c.requires.free c.requires.above c.requires.placeable

pub record_goal-urn-requires-clause-ready : goal.record_goal-urn-requires-clause-ready
record_goal-urn-requires-clause-ready g c = λ κs within.
    moved (λ r h es. is_ready r h (length es) ≡ true) (run_of c.args.journal.now) c.tell.new.self (told_event c.args.n c.args.told ∷ c.args.journal.now.history)
    c.in-Ok.ensures.consistent c.in-Ok.ensures.told
    (ready-after (run_of c.args.journal.now) c.args.n c.args.told c.args.journal.now.history
    (IsFree-rest (run_of c.args.journal.now) c.args.journal.now c.args.writing.now.failed c.requires.rest c.requires.free)
    (parent_stands-placeable (run_of c.args.journal.now) c.args.told c.args.journal.now c.requires.rest.consistent c.requires.placeable))

pub record_goal-urn-requires-clause-entry : goal.record_goal-urn-requires-clause-entry
record_goal-urn-requires-clause-entry g c = λ κs within.
    moved (λ r h es. entry_if (goal_at (goals_of r h) (length es)) ≡ c.args.placed.entry ∷ []) (run_of c.args.journal.now) c.tell.new.self (told_event c.args.n c.args.told ∷ c.args.journal.now.history)
    c.in-Ok.ensures.consistent c.in-Ok.ensures.told
    (entry-after (run_of c.args.journal.now) c.args.n c.args.told c.args.journal.now.history
    (IsFree-rest (run_of c.args.journal.now) c.args.journal.now c.args.writing.now.failed c.requires.rest c.requires.free)
    ∙ ap (λ (e : Entry). e ∷ []) (sym c.requires.placed.entry))

pub record_goal-urn-requires-clause-idle : goal.record_goal-urn-requires-clause-idle
record_goal-urn-requires-clause-idle g c = λ κs within.
    moved (λ r h es. has_room r h ≡ false → NothingDue r h) (run_of c.args.journal.now) c.tell.new.self (told_event c.args.n c.args.told ∷ c.args.journal.now.history)
    c.in-Ok.ensures.consistent c.in-Ok.ensures.told
    (idle-after (run_of c.args.journal.now) c.args.n c.args.told c.args.journal.now.history
    (IsFree-rest (run_of c.args.journal.now) c.args.journal.now c.args.writing.now.failed c.requires.rest c.requires.free))

pub post-requires-clause-due : goal.post-requires-clause-due
post-requires-clause-due g c = λ κs within.
    let same1 = run_same (run_of c.args.journal.now) c.tell.new.self c.in-Ok.ensures.consistent in
    let consistent2 = subst (λ (r : Fixed). Consistent r c.record_goal-urn.new.journal) same1 c.record_goal-urn.ensures.consistent in
    let same2 = run_same (run_of c.args.journal.now) c.record_goal-urn.new.journal consistent2 in
    let awaited = IsAwaited-recorded (run_of c.args.journal.now) c.args.n c.args.told c.args.journal.now.history c.args.placed.urn c.record_goal-urn.result c.record_goal-urn.new.journal.history
    (IsFree-rest (run_of c.args.journal.now) c.args.journal.now c.args.writing.now.failed c.requires.rest c.requires.free)
    c.requires.placed.urn
    (subst (λ (h : List Event). RecordedAs c.args.placed.urn c.record_goal-urn.result (length (new_entries (run_of c.args.journal.now) h)) h c.record_goal-urn.new.journal.history)
    c.in-Ok.ensures.told
    (subst (λ (es : List Entry). RecordedAs c.args.placed.urn c.record_goal-urn.result (length es) c.tell.new.self.history c.record_goal-urn.new.journal.history)
    c.in-Ok.ensures.consistent.entries c.record_goal-urn.ensures.recorded)) in
    subst (λ (r : Fixed). is_post_due r c.record_goal-urn.new.journal.history c.args.n ≡ true) (sym same2) awaited.due

pub post-requires-clause-result : goal.post-requires-clause-result
post-requires-clause-result g c = λ κs within.
    let same1 = run_same (run_of c.args.journal.now) c.tell.new.self c.in-Ok.ensures.consistent in
    let consistent2 = subst (λ (r : Fixed). Consistent r c.record_goal-urn.new.journal) same1 c.record_goal-urn.ensures.consistent in
    let same2 = run_same (run_of c.args.journal.now) c.record_goal-urn.new.journal consistent2 in
    let awaited = IsAwaited-recorded (run_of c.args.journal.now) c.args.n c.args.told c.args.journal.now.history c.args.placed.urn c.record_goal-urn.result c.record_goal-urn.new.journal.history
    (IsFree-rest (run_of c.args.journal.now) c.args.journal.now c.args.writing.now.failed c.requires.rest c.requires.free)
    c.requires.placed.urn
    (subst (λ (h : List Event). RecordedAs c.args.placed.urn c.record_goal-urn.result (length (new_entries (run_of c.args.journal.now) h)) h c.record_goal-urn.new.journal.history)
    c.in-Ok.ensures.told
    (subst (λ (es : List Entry). RecordedAs c.args.placed.urn c.record_goal-urn.result (length es) c.tell.new.self.history c.record_goal-urn.new.journal.history)
    c.in-Ok.ensures.consistent.entries c.record_goal-urn.ensures.recorded)) in
    subst (λ (r : Fixed). option_map urn_of (result_of r c.record_goal-urn.new.journal.history c.args.n) ≡ c.record_goal-urn.result) (sym same2) awaited.answer

pub returns-in-Ok-clause-goes : goal.returns-in-Ok-clause-goes
returns-in-Ok-clause-goes g c =
    let same1 = run_same (run_of c.args.journal.now) c.tell.new.self c.in-Ok.ensures.consistent in
    let consistent2 = subst (λ (r : Fixed). Consistent r c.record_goal-urn.new.journal) same1 c.record_goal-urn.ensures.consistent in
    let same2 = run_same (run_of c.args.journal.now) c.record_goal-urn.new.journal consistent2 in
    AtRest-answered (run_of c.args.journal.now) c.args.n c.args.told c.args.journal.now.history c.record_goal-urn.new.journal.history c.record_goal-urn.result
    c.post.new.journal c.post.new.writing.failed
    (IsAwaited-recorded (run_of c.args.journal.now) c.args.n c.args.told c.args.journal.now.history c.args.placed.urn c.record_goal-urn.result c.record_goal-urn.new.journal.history
    (IsFree-rest (run_of c.args.journal.now) c.args.journal.now c.args.writing.now.failed c.requires.rest c.requires.free)
    c.requires.placed.urn
    (subst (λ (h : List Event). RecordedAs c.args.placed.urn c.record_goal-urn.result (length (new_entries (run_of c.args.journal.now) h)) h c.record_goal-urn.new.journal.history)
    c.in-Ok.ensures.told
    (subst (λ (es : List Entry). RecordedAs c.args.placed.urn c.record_goal-urn.result (length es) c.tell.new.self.history c.record_goal-urn.new.journal.history)
    c.in-Ok.ensures.consistent.entries c.record_goal-urn.ensures.recorded)))
    c.post.ensures.answered
    (subst (λ (r : Fixed). Consistent r c.post.new.journal) same2 c.post.ensures.consistent)
    c.post.ensures.failing

pub returns-in-Ok-clause-stored : goal.returns-in-Ok-clause-stored
returns-in-Ok-clause-stored g c = λ start opened below h.
    let told = Stored-step (run_of c.args.journal.now) host_spelling (Rose start (g.S.Store.faults c.args.store.now)) (Rose start (g.S.Store.faults c.args.store.now))
    c.args.journal.now.wanted c.tell.new.self.wanted
    c.args.journal.now.history c.tell.new.self.history c.args.journal.now.marks.items c.tell.new.self.marks.items
    opened (g.S.Store.story c.args.store.now)
    (λ rose. rose) (λ w. c.in-Ok.ensures.wanted ∙ w) (told_event c.args.n c.args.told ∷ [], c.in-Ok.ensures.told, refl) c.in-Ok.ensures.marks h in
    let kept = subst (λ (r : Fixed). KeepsStored r c.tell.new.self c.record_goal-urn.new.journal
    (g.S.Store.faults c.args.store.now) (g.S.Store.faults c.record_goal-urn.new.store) (g.S.Store.story c.args.store.now) (g.S.Store.story c.record_goal-urn.new.store))
    (run_same (run_of c.args.journal.now) c.tell.new.self c.in-Ok.ensures.consistent) c.record_goal-urn.ensures.stored start opened below told in
    Stored-step (run_of c.args.journal.now) host_spelling (Rose start (g.S.Store.faults c.record_goal-urn.new.store)) (Rose start (g.S.Store.faults c.record_goal-urn.new.store))
    c.record_goal-urn.new.journal.wanted c.post.new.journal.wanted
    c.record_goal-urn.new.journal.history c.post.new.journal.history c.record_goal-urn.new.journal.marks.items c.post.new.journal.marks.items
    opened (g.S.Store.story c.record_goal-urn.new.store)
    (λ rose. rose) c.post.ensures.wanted
    (Adds-answers c.args.n c.post.new.writing.failed c.record_goal-urn.new.journal.history c.post.new.journal.history c.post.ensures.answered)
    c.post.ensures.marks kept

pub returns-in-Ok-clause-written : goal.returns-in-Ok-clause-written
returns-in-Ok-clause-written g c = λ h.
    let same1 = run_same (run_of c.args.journal.now) c.tell.new.self c.in-Ok.ensures.consistent in
    let consistent2 = subst (λ (r : Fixed). Consistent r c.record_goal-urn.new.journal) same1 c.record_goal-urn.ensures.consistent in
    let same2 = run_same (run_of c.args.journal.now) c.record_goal-urn.new.journal consistent2 in
    let told = Written-step (run_of c.args.journal.now) (g.Q.Pipe.faults c.args.writing.now.half) (g.Q.Pipe.faults c.args.writing.now.half)
    c.args.journal.now.wanted c.tell.new.self.wanted c.args.writing.now.failed c.args.journal.now.history c.tell.new.self.history (g.Q.Pipe.given c.args.writing.now.half)
    (omega arith) (λ w. c.in-Ok.ensures.wanted ∙ w) (told_event c.args.n c.args.told ∷ [], c.in-Ok.ensures.told, refl) h in
    let kept = Written-step (run_of c.args.journal.now) (g.Q.Pipe.faults c.args.writing.now.half) (g.Q.Pipe.faults c.args.writing.now.half)
    c.tell.new.self.wanted c.record_goal-urn.new.journal.wanted c.args.writing.now.failed c.tell.new.self.history c.record_goal-urn.new.journal.history (g.Q.Pipe.given c.args.writing.now.half)
    (omega arith) c.record_goal-urn.ensures.wanted
    (Adds-recorded c.args.placed.urn c.record_goal-urn.result (length c.tell.new.self.state.entries) c.tell.new.self.history c.record_goal-urn.new.journal.history c.record_goal-urn.ensures.recorded) told in
    subst (λ (r : Fixed). KeepsWritten r c.record_goal-urn.new.journal c.post.new.journal c.args.writing.now.failed c.post.new.writing.failed
    (g.Q.Pipe.faults c.args.writing.now.half) (g.Q.Pipe.faults c.post.new.writing.half) (g.Q.Pipe.given c.args.writing.now.half) (g.Q.Pipe.given c.post.new.writing.half))
    same2 c.post.ensures.written kept

pub returns-in-Err-clause-stored : goal.returns-in-Err-clause-stored
returns-in-Err-clause-stored g c = λ start opened below h.
    Stored-step (run_of c.args.journal.now) host_spelling _ _ c.args.journal.now.wanted c.end_host.new.self.wanted
    c.args.journal.now.history c.end_host.new.self.history c.args.journal.now.marks.items c.end_host.new.self.marks.items
    opened (g.S.Store.story c.args.store.now)
    (λ rose. rose) (λ w. or_keeps c.tell.new.self.wanted true c.end_host.new.self.wanted c.end_host.ensures.want (c.in-Err.ensures.wanted ∙ w))
    (end_event NoMemory ∷ [], c.end_host.ensures.ended ∙ ap (λ (j : Journal). end_event NoMemory ∷ j.history) c.in-Err.ensures.unchanged, refl)
    (c.end_host.ensures.marks ∙ c.in-Err.ensures.marks) h
