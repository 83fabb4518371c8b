-- What is evident of a host that was served, and of the run of the words.
use Rattle.std.proofs.Common.{◌≡◌, ℕ, Bool, false, List, [], ◌∷◌, ◌++◌, reverse, Option, Some, None, IfSome, IsSomeAnd, MatchOption, option_map, sym, ◌∙◌, ap, subst, arith}
use Rattle.pl_urn.specs.Grammar.{IsScope}
use Rattle.pl_cli.specs.declared.command.RunWords.{RunWords}
use Rattle.pl_cli.specs.Reading.{host_words}
use Rattle.pl_decide.specs.declared.outcome.Outcome.{Outcome}
use Rattle.pl_decide.specs.declared.outcome.Outcome.TheVariants.{Done, Failed, TooManyResources, BadWords, NotBuilt, BadCheckpoint, PendingOperations, StoreFault, SideFault, StartFault, PipeFault, SinkFault, ChildEnded, BadFrame, OutOfMemory}
use Rattle.pl_events.specs.declared.event.Event.{Event}
use Rattle.pl_world.specs.Counts.{Rose}
use Rattle.pl_world.specs.Told.{IsFresh, Piece}
use Rattle.pl_model.specs.Causes.{has_stop_by, is_answer_fault, is_store_fault}
use Rattle.pl_components.specs.HostLines.{EndsFit}
use Rattle.pl_components.specs.Run.{Fixed}
use Rattle.pl_engine.specs.Answered.{KeepsWritten}
use Rattle.pl_engine.specs.Caused.{AnswersCaused, EndCaused, StoreCaused}
use Rattle.pl_engine.specs.Evidence.{Evidence, Halves, IsEvident, IsServed, IsUnstarted, IsWorked, OfRun, StoreRose, Told, reading_causes, writing_causes}
use Rattle.pl_engine.specs.Headline.{IsEarly, IsFinal, IsRefused, IsRunOf, command_words, run_over}
use Rattle.pl_engine.specs.Journal.{run_of}
use Rattle.pl_engine.specs.Kept.{KeepsStored}
use Rattle.pl_engine.specs.Printed.{IsUp}
use Rattle.pl_engine.specs.Running.{KeepsTaken, Over}
use Rattle.pl_engine.specs.Spelled.{host_spelling}
use Rattle.pl_engine.specs.declared.journal.Journal.{Journal}
use Rattle.pl_engine.proofs.Ending.{HostGave-written, IsKeptUp-stored, IsLegalRun-over, IsOutcome-over, Stored-begun, Taken-begun, Written-begun}
use Rattle.pl_engine.proofs.Promising.{history_too, kept_too, lines_whole, outcome_too, start_caused}

-- ---- a host that was served

-- a run that is over, over halves that were fresh
pub served-over : (first last : Journal) (failed : Bool) (before now : Told) (used : Halves) (outcome : Outcome)
    (given given' : Option (List Piece)) (taken taken' : Option (List ℕ)) (faults faults' ends ends' : ℕ)
    → IsFresh given taken faults ends → IsFresh given' taken' faults' ends'
    → first.history ≡ [] → first.marks.items ≡ [] → Over (run_of first) last failed
    → KeepsTaken false (run_of first) first.history last.history last.wanted taken used.reading.taken used.reading.faults used.reading.ends
    → KeepsWritten (run_of first) first last false failed faults' used.writing.faults given' used.writing.given
    → KeepsStored (run_of first) first last before.store_faults now.store_faults before.story now.story
    → EndsFit (run_of first) host_spelling last.history
    → StoreCaused first.history last.history before.store_faults now.store_faults
    → AnswersCaused first.history last.history faults' used.writing.faults
    → EndCaused used.reading.faults used.reading.ends last.history
    → IsFinal last.outcome last.wanted outcome → used.reading.given ≡ given → used.writing.taken ≡ taken'
    → IsServed (run_of first) before now last.history last.marks.items last.wanted outcome used
served-over first last failed before now used outcome given given' taken taken' faults faults' ends ends' reading writing none unmarked over took gave kept fit store answers end final same_given same_taken =
    let written = gave (Written-begun (run_of first) faults' first.wanted first.history given' none writing.nothing_given) in
    let stored = kept before.store_faults before.story (omega arith)
    (Stored-begun (run_of first) (Rose before.store_faults before.store_faults) first.wanted first.history first.marks.items before.story none unmarked) in
    record {
      legal = IsLegalRun-over (run_of first) last failed used.writing.faults used.writing.given over written;
      saved = IsKeptUp-stored (run_of first) (Rose before.store_faults now.store_faults) last.wanted last.history last.marks.items before.story now.story stored;
      host_lines = record {
        took = took (Taken-begun (run_of first) first.history taken none reading.nothing_taken);
        gave = HostGave-written (run_of first) used.writing.faults last.wanted failed last.history used.writing.given written;
        ends_fit = fit;
      };
      causes = record {
        store = λ has. store (ap (λ (h : List Event). has_stop_by is_store_fault h) none) has;
        answers = λ has. subst (λ (n : ℕ). Rose n used.writing.faults) writing.no_faults (answers (ap (λ (h : List Event). has_stop_by is_answer_fault h) none) has);
        reads = end.reads;
        output = end.output;
        memory = over.consistent.wants;
      };
      outcome_is = IsOutcome-over (run_of first) (Rose before.store_faults now.store_faults) last failed outcome before.story now.story over stored final;
      one_way = record {
        reading = subst (λ (told : Option (List Piece)). IfSome told (λ pieces. pieces ≡ [])) (sym same_given) reading.nothing_given;
        writing = subst (λ (told : Option (List ℕ)). IfSome told (λ bytes. bytes ≡ [])) (sym same_taken) writing.nothing_taken;
      };
    }

-- the same of what the journal was turned into
pub served-as : (run run' : Fixed) (before now : Told) (history history' : List Event) (marks marks' : List ℕ) (wanted wanted' : Bool) (outcome : Outcome) (used : Halves)
    → run ≡ run' → history' ≡ history → marks' ≡ marks → wanted' ≡ wanted
    → IsServed run before now history marks wanted outcome used → IsServed run' before now history' marks' wanted' outcome used
served-as run run' before now history history' marks marks' wanted wanted' outcome used same is marked wants h =
    subst (λ (r : Fixed). IsServed r before now history' marks' wanted' outcome used) same
    (subst (λ (hs : List Event). IsServed run before now hs marks' wanted' outcome used) (sym is)
    (subst (λ (ms : List ℕ). IsServed run before now history ms wanted' outcome used) (sym marked)
    (subst (λ (w : Bool). IsServed run before now history marks w outcome used) (sym wants) h)))

-- what holds of the halves that there are
pub some-and : {A B : Type 0} (f : A → B) (host : Option A) (used : A) (P : B → Type 0) → host ≡ Some used → P (f used) → IsSomeAnd (option_map f host) P
some-and f host used P is h = subst (λ o. IsSomeAnd (option_map f o) P) (sym is) h

-- ---- the run of the words

-- an outcome of `up` from before its run is one of its words
refused-early : (words : List (List ℕ)) (content : Option (List (List ℕ))) (store spawner sink : Type 0) (outcome : Outcome) → IsUp words
    → IsEarly content store spawner outcome → IsRefused words content store spawner sink outcome
refused-early words content store spawner sink Done up h = absurd h
refused-early words content store spawner sink (Failed _ _) up h = h
refused-early words content store spawner sink TooManyResources up h = h
refused-early words content store spawner sink (BadWords _) up h = absurd h
refused-early words content store spawner sink NotBuilt up h = (up, h)
refused-early words content store spawner sink (BadCheckpoint _) up h = (up.accepted, h)
refused-early words content store spawner sink (PendingOperations _) up h = (up, h)
refused-early words content store spawner sink SideFault up h = h
refused-early words content store spawner sink SinkFault up h = absurd h
refused-early words content store spawner sink StoreFault up h = (up.accepted, h)
refused-early words content store spawner sink StartFault up h = (up, h)
refused-early words content store spawner sink (PipeFault _) up h = h
refused-early words content store spawner sink (ChildEnded _) up h = h
refused-early words content store spawner sink (BadFrame _ _) up h = h
refused-early words content store spawner sink OutOfMemory up h = tt

-- of a host that was started by the words' command, or of none, everything is evident
module _ (words : List (List ℕ)) (up : IsUp words) (run : RunWords) (is : run.host ≡ host_words words)
    (stack : IsScope run.stack) (project : IsScope run.project) (e : Evidence) (theirs : IsRunOf words e.base (run_over run.stack run.project e.base)) where
  of_run : (Says : Fixed → Type 0) → Says (run_over run.stack run.project e.base) → OfRun words e.base Says
  of_run Says h = (run_over run.stack run.project e.base, theirs, h)

  pub evident : (host : Option Halves)
      → MatchOption host (IsUnstarted e) (IsWorked run.stack run.project (command_words run.host run.stack run.project) e)
      → IsEvident words (record e { host = host })
  evident None h = record {
    legal = h.empty;
    saved = h.untouched;
    host_lines = tt;
    causes = tt;
    start_cause = tt;
    components = tt;
    started = h.same_starts;
    outcome_is = refused-early words e.before.story (StoreRose e) (Rose e.before.start_faults e.now.start_faults) (Rose e.before.sink_faults e.now.sink_faults) e.outcome up h.early;
    base_is = h.no_base;
    one_way = tt;
  }
  evident (Some used) h =
      let legal = h.served.legal.legal in
      record {
        legal = of_run _ (history_too (run_over run.stack run.project e.base) stack project (reverse e.events) legal used.writing.faults e.wanted h.served.legal);
        saved = of_run _ (kept_too (run_over run.stack run.project e.base) stack project (reverse e.events) legal (StoreRose e) e.wanted e.marks e.before.story e.now.story h.served.saved);
        host_lines = of_run _ (lines_whole (run_over run.stack run.project e.base) stack project (reverse e.events) legal
            (reading_causes e.wanted used) (writing_causes e.wanted used) used.reading.taken used.writing.given h.served.host_lines);
        causes = h.served.causes;
        start_cause = start_caused (run_over run.stack run.project e.base) (reverse e.events) e.before.start_faults e.now.start_faults legal;
        components = of_run _ (record { legal = h.served.legal; saved = h.served.saved; host_lines = h.served.host_lines; outcome_is = h.served.outcome_is });
        started = of_run _ (h.started ∙ ap (λ (host : List (List ℕ)). e.before.started ++ command_words host run.stack run.project ∷ []) is);
        outcome_is = of_run _ (outcome_too (run_over run.stack run.project e.base) stack project (reverse e.events) legal e.marks e.wanted e.outcome e.before.story e.now.story h.served.outcome_is);
        base_is = of_run _ h.begun;
        one_way = h.served.one_way;
      }
