use Rattle.std.proofs.Common.{◌≡◌, ◌≤◌, true}
use Rattle.pl_engine.specs.Journal.{run_of}
use Rattle.pl_engine.specs.Running.{AtRest, KeepsTaken}
use Rattle.pl_engine.specs.Caused.{AnswersCaused, StoreCaused}
use Rattle.pl_engine.specs.Kept.{KeepsStored}
use Rattle.pl_engine.specs.Answered.{KeepsWritten}
use Rattle.pl_engine.proofs.serve.serve.Given as goal

-- the run is at rest, and everything stands to the history as it did when the run began
abbrev pub invariant-loop : goal.invariant-loop
invariant-loop g l = record {
  rest : AtRest (run_of l.initial.journal) l.journal l.writing.failed;
  taken : KeepsTaken true (run_of l.initial.journal) l.initial.journal.history l.journal.history l.journal.wanted
      (g.Q.Pipe.taken l.initial.reading) (g.Q.Pipe.taken l.reading) (g.Q.Pipe.faults l.reading) (g.Q.Pipe.ends l.reading);
  faults : g.S.Store.faults l.initial.store ≤ g.S.Store.faults l.store;
  half_faults : g.Q.Pipe.faults l.initial.writing.half ≤ g.Q.Pipe.faults l.writing.half;
  given_stays : g.Q.Pipe.given l.reading ≡ g.Q.Pipe.given l.initial.reading;
  taken_stays : g.Q.Pipe.taken l.writing.half ≡ g.Q.Pipe.taken l.initial.writing.half;
  store_caused : StoreCaused l.initial.journal.history l.journal.history (g.S.Store.faults l.initial.store) (g.S.Store.faults l.store);
  answers_caused : AnswersCaused l.initial.journal.history l.journal.history (g.Q.Pipe.faults l.initial.writing.half) (g.Q.Pipe.faults l.writing.half);
  stored : KeepsStored (run_of l.initial.journal) l.initial.journal l.journal
      (g.S.Store.faults l.initial.store) (g.S.Store.faults l.store) (g.S.Store.story l.initial.store) (g.S.Store.story l.store);
  written : KeepsWritten (run_of l.initial.journal) l.initial.journal l.journal l.initial.writing.failed l.writing.failed
      (g.Q.Pipe.faults l.initial.writing.half) (g.Q.Pipe.faults l.writing.half) (g.Q.Pipe.given l.initial.writing.half) (g.Q.Pipe.given l.writing.half);
}
