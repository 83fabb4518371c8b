-- What the top call promises.
use Rattle.std.specs.Prelude.{⊤, ◌≡◌, ◌⊎◌, ◌++◌, ℕ, Bool, true, false, IfSome, List, [], ◌∷◌, Option, Some, None, codes}
use Rattle.pl_cli.specs.declared.table.OptionName.TheVariants.{Stack, Project}
use Rattle.pl_cli.specs.Place.{given_value}
use Rattle.pl_cli.specs.Reading.{bad_place, engine_words}
use Rattle.pl_decide.specs.declared.outcome.Outcome.{Outcome}
use Rattle.pl_decide.specs.declared.outcome.Outcome.TheVariants.{Done, Failed, TooManyResources, BadWords, NotBuilt, BadCheckpoint, PendingOperations, StoreFault, SideFault, StartFault, PipeFault, SinkFault, ChildEnded, BadFrame, OutOfMemory}
use Rattle.pl_events.specs.Closing.{has_host_end}
use Rattle.pl_events.specs.declared.event.Event.{Event}
use Rattle.pl_world.specs.declared.trouble.Trouble.{Trouble}
use Rattle.pl_world.specs.declared.trouble.Trouble.TheVariants as trouble
use Rattle.pl_world.specs.Counts.{Rose}
use Rattle.pl_world.specs.Told.{Piece}
use Rattle.pl_state.specs.declared.snapshot.Snapshot.{Snapshot}
use Rattle.pl_components.specs.Run.{Fixed}
use Rattle.pl_components.specs.Problems.{least_outcome}
use Rattle.pl_components.specs.Requests.{waiting_of}
use Rattle.pl_components.specs.Entries.{state_of}
use Rattle.pl_components.specs.Due.{IsQuiet}
use Rattle.pl_components.specs.Legal.{IsLegal}
use Rattle.pl_components.specs.Fulfilment.{Fulfils}
use Rattle.pl_engine.specs.Spelled.{host_spelling}
use Rattle.pl_engine.specs.Content.{IsBad, IsOther, MayBegin}
use Rattle.pl_engine.specs.Printed.{IsState, IsUp, MayRead}
use Rattle.pl_engine.specs.Stored.{IsComplete}

-- the state in the record of a call that ended before its run: nothing at all
abbrev pub no_state : Snapshot
no_state = record { stack = []; entries = []; pending = []; rest = [] }

-- the host's halves go one way each: nothing was given on the reading half, and nothing taken from the writing half
pub record IsOneWay (given : Option (List Piece)) (taken : Option (List ℕ)) : Type 0 where
  pub reading : IfSome given (λ pieces. pieces ≡ [])
  pub writing : IfSome taken (λ bytes. bytes ≡ [])

-- the status of an outcome
abbrev pub status_code : Outcome → ℕ
status_code Done = 0
status_code (Failed _ _) = 1
status_code TooManyResources = 1
status_code (BadWords _) = 2
status_code NotBuilt = 3
status_code (BadCheckpoint _) = 3
status_code (PendingOperations _) = 4
status_code StoreFault = 5
status_code SideFault = 5
status_code StartFault = 5
status_code (PipeFault _) = 5
status_code SinkFault = 5
status_code (ChildEnded _) = 6
status_code (BadFrame _ _) = 6
status_code OutOfMemory = 7

-- the host's command
abbrev pub command_words : List (List ℕ) → List ℕ → List ℕ → List (List ℕ)
command_words host stack project =
    host ++ codes "--stack" ∷ stack ∷ codes "--project" ∷ project ∷ []

-- a run of a stack and a project that begins with this state
abbrev pub run_over : List ℕ → List ℕ → Snapshot → Fixed
run_over stack project base = record { stack = stack; project = project; name = base.stack; rest = base.rest }

-- the run's data are those of the words and of the state at the start
pub record IsRunOf (words : List (List ℕ)) (base : Snapshot) (run : Fixed) : Type 0 where
  pub accepted : bad_place words ≡ None
  pub stack : given_value Stack (engine_words words) ≡ Some run.stack
  pub project : given_value Project (engine_words words) ≡ Some run.project
  pub name : run.name ≡ base.stack
  pub rest : run.rest ≡ base.rest

-- the outcome of a run: the least problem's, or else want of memory where it was wanted, or else success
abbrev pub IsFinal : Option Outcome → Bool → Outcome → Type 0
IsFinal (Some least) wanted outcome = outcome ≡ least
IsFinal None true outcome = outcome ≡ OutOfMemory
IsFinal None false outcome = outcome ≡ Done

-- the history of a run: it is legal, the host has ended, and every request is answered unless the
-- writing half's count rose or memory was wanted
pub record IsLegalRun (run : Fixed) (history : List Event) (faults : ℕ) (wanted : Bool) : Type 0 where
  pub legal : IsLegal run host_spelling history
  pub ended : has_host_end history ≡ true
  pub answered : (waiting_of run history ≡ []) ⊎ (Rose 0 faults ⊎ (wanted ≡ true))

-- what `Done` means: the host was taken up to its word of success, nothing is due or over the limit, every
-- event that must be saved has its mark and the last save is of this state, which has the entry of each
-- goal and no other
pub record IsDone (run : Fixed) (history : List Event) (marks : List ℕ) (before now : Option (List (List ℕ))) : Type 0 where
  pub quiet : IsQuiet run history
  pub complete : IsComplete run host_spelling history marks before now
  pub fulfils : Fulfils run (state_of run history) history

-- the outcome of a run, and what success means
pub record IsOutcome (run : Fixed) (history : List Event) (marks : List ℕ) (wanted : Bool) (outcome : Outcome)
    (before now : Option (List (List ℕ))) : Type 0 where
  pub least : IsFinal (least_outcome history) wanted outcome
  pub done : outcome ≡ Done → IsDone run history marks before now

-- nothing was marked, and the story is as it was
pub record IsUntouched (lengths : List ℕ) (before now : Option (List (List ℕ))) : Type 0 where
  pub marks : lengths ≡ []
  pub story : now ≡ before

-- an outcome of accepted words from before the run, each by its cause: `content` is what the store told at
-- the start, `store` and `spawner` say that these counts rose
abbrev pub IsEarly : Option (List (List ℕ)) → Type 0 → Type 0 → Outcome → Type 0
IsEarly content store spawner Done = ⊥
IsEarly content store spawner (Failed _ _) = ⊥
IsEarly content store spawner TooManyResources = ⊥
IsEarly content store spawner (BadWords place) = ⊥
IsEarly content store spawner NotBuilt = IsOther content NotBuilt
IsEarly content store spawner (BadCheckpoint why) = IsBad content why
IsEarly content store spawner (PendingOperations number) = IsOther content (PendingOperations number)
IsEarly content store spawner StoreFault = store
IsEarly content store spawner SideFault = ⊥
IsEarly content store spawner StartFault = MayBegin content × spawner
IsEarly content store spawner (PipeFault _) = ⊥
IsEarly content store spawner SinkFault = ⊥
IsEarly content store spawner (ChildEnded _) = ⊥
IsEarly content store spawner (BadFrame _ _) = ⊥
IsEarly content store spawner OutOfMemory = ⊤

-- an outcome of a store over which no run may begin: its content says why, or its count rose, or memory was wanted
abbrev pub IsUnread : Option (List (List ℕ)) → Type 0 → Outcome → Type 0
IsUnread content store outcome = IsEarly content store ⊥ outcome

-- an outcome from before the run, or of a command that makes no run: the words are refused at their place, or they are
-- accepted and the outcome has its cause by the command
abbrev pub IsRefused : List (List ℕ) → Option (List (List ℕ)) → Type 0 → Type 0 → Type 0 → Outcome → Type 0
IsRefused words content store spawner sink Done = IsState words × MayRead content
IsRefused words content store spawner sink (Failed _ _) = ⊥
IsRefused words content store spawner sink TooManyResources = ⊥
IsRefused words content store spawner sink (BadWords place) = bad_place words ≡ Some place
IsRefused words content store spawner sink NotBuilt = IsUp words × IsEarly content store spawner NotBuilt
IsRefused words content store spawner sink (BadCheckpoint why) = (bad_place words ≡ None) × IsBad content why
IsRefused words content store spawner sink (PendingOperations number) = IsUp words × IsEarly content store spawner (PendingOperations number)
IsRefused words content store spawner sink StoreFault = (bad_place words ≡ None) × store
IsRefused words content store spawner sink SideFault = ⊥
IsRefused words content store spawner sink StartFault = IsUp words × IsEarly content store spawner StartFault
IsRefused words content store spawner sink (PipeFault _) = ⊥
IsRefused words content store spawner sink SinkFault = IsState words × MayRead content × sink
IsRefused words content store spawner sink (ChildEnded _) = ⊥
IsRefused words content store spawner sink (BadFrame _ _) = ⊥
IsRefused words content store spawner sink OutOfMemory = ⊤

-- an outcome of words that need no host: they are refused at their place, or they are of `state` and the outcome has its
-- cause
abbrev pub IsOfState : List (List ℕ) → Option (List (List ℕ)) → Type 0 → Type 0 → Outcome → Type 0
IsOfState words content store sink Done = IsState words × MayRead content
IsOfState words content store sink (BadWords place) = bad_place words ≡ Some place
IsOfState words content store sink (BadCheckpoint why) = IsState words × IsBad content why
IsOfState words content store sink StoreFault = IsState words × store
IsOfState words content store sink SinkFault = IsState words × MayRead content × sink
IsOfState words content store sink OutOfMemory = ⊤
IsOfState words content store sink (Failed _ _) = ⊥
IsOfState words content store sink TooManyResources = ⊥
IsOfState words content store sink NotBuilt = ⊥
IsOfState words content store sink (PendingOperations _) = ⊥
IsOfState words content store sink SideFault = ⊥
IsOfState words content store sink StartFault = ⊥
IsOfState words content store sink (PipeFault _) = ⊥
IsOfState words content store sink (ChildEnded _) = ⊥
IsOfState words content store sink (BadFrame _ _) = ⊥

-- the outcome of a host that was not started
abbrev pub start_outcome_of : Trouble → Outcome
start_outcome_of trouble.Failed = StartFault
start_outcome_of trouble.OutOfMemory = OutOfMemory
