use Rattle.std.proofs.Common.{true, false, refl, ◌∙◌, subst, arith}
use Rattle.pl_components.specs.Run.{Fixed}
use Rattle.pl_components.specs.HostLines.{EndsFit}
use Rattle.pl_engine.specs.Spelled.{host_spelling}
use Rattle.pl_model.specs.Causes.{has_stop_by, is_answer_fault, is_store_fault}
use Rattle.pl_engine.specs.Journal.{run_of}
use Rattle.pl_engine.specs.Kept.{KeepsStored}
use Rattle.pl_engine.specs.Answered.{KeepsWritten}
use Rattle.pl_engine.specs.Running.{AtRest, KeepsTaken}
use Rattle.pl_engine.proofs.Causing.{NewlyFor-then}
use Rattle.pl_engine.proofs.Storing.{run_same}
use Rattle.pl_engine.proofs.serve.serve.Goals as goal

pub returns-then-not-step-clause-taken : goal.returns-then-not-step-clause-taken
returns-then-not-step-clause-taken g c = λ took.
    subst (λ (run : Fixed). KeepsTaken false run c.loop.journal.history c.step.new.journal.history c.step.new.journal.wanted
    (g.Q.Pipe.taken c.loop.reading) (g.Q.Pipe.taken c.step.new.reading) (g.Q.Pipe.faults c.step.new.reading) (g.Q.Pipe.ends c.step.new.reading))
    (run_same (run_of c.args.journal.now) c.loop.journal c.loop.invariant.rest.consistent)
    c.if-not-step.ensures.taken (c.loop.invariant.taken took)

pub returns-then-not-step-clause-store_caused : goal.returns-then-not-step-clause-store_caused
returns-then-not-step-clause-store_caused g c =
    NewlyFor-then (has_stop_by is_store_fault c.args.journal.now.history) (has_stop_by is_store_fault c.loop.journal.history) (has_stop_by is_store_fault c.step.new.journal.history)
    (g.S.Store.faults c.args.store.now) (g.S.Store.faults c.loop.store) (g.S.Store.faults c.step.new.store)
    c.loop.invariant.faults c.if-not-step.ensures.faults_never_fall c.loop.invariant.store_caused c.if-not-step.ensures.store_caused

pub returns-then-not-step-clause-answers_caused : goal.returns-then-not-step-clause-answers_caused
returns-then-not-step-clause-answers_caused g c =
    NewlyFor-then (has_stop_by is_answer_fault c.args.journal.now.history) (has_stop_by is_answer_fault c.loop.journal.history) (has_stop_by is_answer_fault c.step.new.journal.history)
    (g.Q.Pipe.faults c.args.writing.now.half) (g.Q.Pipe.faults c.loop.writing.half) (g.Q.Pipe.faults c.step.new.writing.half)
    c.loop.invariant.half_faults c.if-not-step.ensures.half_faults_never_fall c.loop.invariant.answers_caused c.if-not-step.ensures.answers_caused

pub returns-then-not-step-clause-ends_fit : goal.returns-then-not-step-clause-ends_fit
returns-then-not-step-clause-ends_fit g c =
    subst (λ (run : Fixed). EndsFit run host_spelling c.step.new.journal.history)
    (run_same (run_of c.args.journal.now) c.loop.journal c.loop.invariant.rest.consistent)
    (c.if-not-step.ensures.ends_fit refl)

pub loop-preserved : goal.loop-preserved
loop-preserved g c =
    let same = run_same (run_of c.args.journal.now) c.loop.journal c.loop.invariant.rest.consistent in
    record {
      rest = subst (λ (run : Fixed). AtRest run c.step.new.journal c.step.new.writing.failed) same c.if-not-step.ensures.stands;
      taken = λ took.
          subst (λ (run : Fixed). KeepsTaken true run c.loop.journal.history c.step.new.journal.history c.step.new.journal.wanted
          (g.Q.Pipe.taken c.loop.reading) (g.Q.Pipe.taken c.step.new.reading) (g.Q.Pipe.faults c.step.new.reading) (g.Q.Pipe.ends c.step.new.reading))
          same c.if-not-step.ensures.taken (c.loop.invariant.taken took);
      faults = let step = c.if-not-step.ensures.faults_never_fall in let past = c.loop.invariant.faults in omega arith;
      half_faults = let step = c.if-not-step.ensures.half_faults_never_fall in let past = c.loop.invariant.half_faults in omega arith;
      given_stays = c.if-not-step.ensures.given_stays ∙ c.loop.invariant.given_stays;
      taken_stays = c.if-not-step.ensures.taken_stays ∙ c.loop.invariant.taken_stays;
      store_caused = NewlyFor-then (has_stop_by is_store_fault c.args.journal.now.history) (has_stop_by is_store_fault c.loop.journal.history) (has_stop_by is_store_fault c.step.new.journal.history)
          (g.S.Store.faults c.args.store.now) (g.S.Store.faults c.loop.store) (g.S.Store.faults c.step.new.store)
          c.loop.invariant.faults c.if-not-step.ensures.faults_never_fall c.loop.invariant.store_caused c.if-not-step.ensures.store_caused;
      answers_caused = NewlyFor-then (has_stop_by is_answer_fault c.args.journal.now.history) (has_stop_by is_answer_fault c.loop.journal.history) (has_stop_by is_answer_fault c.step.new.journal.history)
          (g.Q.Pipe.faults c.args.writing.now.half) (g.Q.Pipe.faults c.loop.writing.half) (g.Q.Pipe.faults c.step.new.writing.half)
          c.loop.invariant.half_faults c.if-not-step.ensures.half_faults_never_fall c.loop.invariant.answers_caused c.if-not-step.ensures.answers_caused;
      stored = λ start opened below h.
          subst (λ (run : Fixed). KeepsStored run c.loop.journal c.step.new.journal
          (g.S.Store.faults c.loop.store) (g.S.Store.faults c.step.new.store) (g.S.Store.story c.loop.store) (g.S.Store.story c.step.new.store))
          same c.if-not-step.ensures.stored start opened (let past = c.loop.invariant.faults in omega arith) (c.loop.invariant.stored start opened below h);
      written = λ h.
          subst (λ (run : Fixed). KeepsWritten run c.loop.journal c.step.new.journal c.loop.writing.failed c.step.new.writing.failed
          (g.Q.Pipe.faults c.loop.writing.half) (g.Q.Pipe.faults c.step.new.writing.half) (g.Q.Pipe.given c.loop.writing.half) (g.Q.Pipe.given c.step.new.writing.half))
          same c.if-not-step.ensures.written (c.loop.invariant.written h);
    }
