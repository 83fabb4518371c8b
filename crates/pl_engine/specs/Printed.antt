-- What `state` prints, and when.
use Rattle.std.specs.Prelude.{◌≡◌, ◌⊎◌, ℕ, Bool, true, if◌then◌else◌, List, [], Option, Some, None}
use Rattle.pl_cli.specs.Reading.{bad_place, command_of, engine_words, spells_state, work_given}
use Rattle.pl_cli.specs.declared.table.CommandName.TheVariants as command
use Rattle.pl_cli.specs.declared.table.StateWork.{StateWork}
use Rattle.pl_cli.specs.declared.table.StateWork.TheVariants as work
use Rattle.pl_decide.specs.declared.outcome.Outcome.{Outcome}
use Rattle.pl_decide.specs.declared.outcome.Outcome.TheVariants.{Done, Failed, TooManyResources, BadWords, NotBuilt, BadCheckpoint, PendingOperations, StoreFault, SideFault, StartFault, PipeFault, SinkFault, ChildEnded, BadFrame, OutOfMemory}
use Rattle.pl_show.specs.Line.{resource_lines, sound_line}
use Rattle.pl_show.specs.StopLine.{stopped_line}
use Rattle.pl_state.specs.Component.{bare_state}
use Rattle.pl_state.specs.declared.snapshot.Snapshot.{Snapshot}
use Rattle.pl_world.specs.Told.{Grew, GrewByPart}
use Rattle.pl_engine.specs.Content.{IsBad, ReadsAs}

-- the words are accepted and spell this command
pub record IsState (words : List (List ℕ)) : Type 0 where
  pub accepted : bad_place words ≡ None
  pub command : command_of words ≡ Some command.State

pub record IsUp (words : List (List ℕ)) : Type 0 where
  pub accepted : bad_place words ≡ None
  pub command : command_of words ≡ Some command.Up

-- the store's content is a state, or there is none
abbrev pub MayRead : Option (List (List ℕ)) → Type 0
MayRead story = (found : Option Snapshot) × ReadsAs story found

-- a store without a content has no resources
abbrev pub state_or_none : Option Snapshot → Snapshot
state_or_none None = bare_state [] []
state_or_none (Some state) = state

-- what a work of `state` prints over a state
abbrev pub lines_of : StateWork → Snapshot → List ℕ
lines_of work.List state = resource_lines state.entries
lines_of work.Check state = sound_line state

-- the lines of the words' work over what the store's content reads as
pub record AreLines (words : List (List ℕ)) (story : Option (List (List ℕ))) (lines : List ℕ) : Type 0 where
  pub found : Option Snapshot
  pub work : StateWork
  pub reads : ReadsAs story found
  pub given : work_given (engine_words words) ≡ Some work
  pub are : lines ≡ lines_of work (state_or_none found)

-- all of the text was written, or a part of it where the sink's count rose or memory was wanted
abbrev pub IsShown : Type 0 → Bool → Option (List ℕ) → Option (List ℕ) → List ℕ → Type 0
IsShown rose wanted before now text =
    Grew before now text ⊎ ((rose ⊎ (wanted ≡ true)) × GrewByPart before now text)

-- the line of what stopped a command; want of memory has none
abbrev pub told_line : Outcome → List ℕ
told_line OutOfMemory = []
told_line outcome = stopped_line outcome

-- what stopped a command is told in a line where the first word is `state`
abbrev pub stop_lines : List (List ℕ) → Outcome → List ℕ
stop_lines words outcome =
    if spells_state words then stopped_line outcome else []

-- what was printed, by the outcome: the lines of the work, a part of them after a fault of the sink or want of memory, or
-- the line of what stopped the command
abbrev pub IsPrinted : List (List ℕ) → Option (List (List ℕ)) → Type 0 → Bool → Option (List ℕ) → Option (List ℕ) → Outcome → Type 0
IsPrinted words story rose wanted before now Done = (lines : List ℕ) × AreLines words story lines × Grew before now lines
IsPrinted words story rose wanted before now SinkFault = (lines : List ℕ) × AreLines words story lines × GrewByPart before now lines
IsPrinted words story rose wanted before now OutOfMemory =
    (now ≡ before) ⊎ ((lines : List ℕ) × AreLines words story lines × GrewByPart before now lines)
IsPrinted words story rose wanted before now (BadWords place) = IsShown rose wanted before now (stop_lines words (BadWords place))
IsPrinted words story rose wanted before now (BadCheckpoint why) = IsShown rose wanted before now (stop_lines words (BadCheckpoint why))
IsPrinted words story rose wanted before now StoreFault = IsShown rose wanted before now (stop_lines words StoreFault)
IsPrinted words story rose wanted before now (Failed _ _) = ⊥
IsPrinted words story rose wanted before now TooManyResources = ⊥
IsPrinted words story rose wanted before now NotBuilt = ⊥
IsPrinted words story rose wanted before now (PendingOperations _) = ⊥
IsPrinted words story rose wanted before now SideFault = ⊥
IsPrinted words story rose wanted before now StartFault = ⊥
IsPrinted words story rose wanted before now (PipeFault _) = ⊥
IsPrinted words story rose wanted before now (ChildEnded _) = ⊥
IsPrinted words story rose wanted before now (BadFrame _ _) = ⊥

-- what came of a work of `state`, and what was printed of it: `store` and `sink` say that these counts rose
abbrev pub IsStateServed : StateWork → Option (List (List ℕ)) → Type 0 → Type 0 → Bool → Option (List ℕ) → Option (List ℕ) → Outcome → Type 0
IsStateServed work story store sink wanted before now Done =
    (found : Option Snapshot) × ReadsAs story found × Grew before now (lines_of work (state_or_none found))
IsStateServed work story store sink wanted before now SinkFault =
    (found : Option Snapshot) × ReadsAs story found × GrewByPart before now (lines_of work (state_or_none found)) × sink
IsStateServed work story store sink wanted before now OutOfMemory =
    (now ≡ before) ⊎ ((found : Option Snapshot) × ReadsAs story found × GrewByPart before now (lines_of work (state_or_none found)))
IsStateServed work story store sink wanted before now (BadCheckpoint why) =
    IsBad story why × IsShown sink wanted before now (stopped_line (BadCheckpoint why))
IsStateServed work story store sink wanted before now StoreFault = store × IsShown sink wanted before now (stopped_line StoreFault)
IsStateServed work story store sink wanted before now (BadWords _) = ⊥
IsStateServed work story store sink wanted before now (Failed _ _) = ⊥
IsStateServed work story store sink wanted before now TooManyResources = ⊥
IsStateServed work story store sink wanted before now NotBuilt = ⊥
IsStateServed work story store sink wanted before now (PendingOperations _) = ⊥
IsStateServed work story store sink wanted before now SideFault = ⊥
IsStateServed work story store sink wanted before now StartFault = ⊥
IsStateServed work story store sink wanted before now (PipeFault _) = ⊥
IsStateServed work story store sink wanted before now (ChildEnded _) = ⊥
IsStateServed work story store sink wanted before now (BadFrame _ _) = ⊥

-- what came of lines that were to be printed over what was read
abbrev pub IsListed : Type 0 → List ℕ → Option (List ℕ) → Option (List ℕ) → Outcome → Type 0
IsListed sink lines before now Done = Grew before now lines
IsListed sink lines before now SinkFault = GrewByPart before now lines × sink
IsListed sink lines before now OutOfMemory = (now ≡ before) ⊎ GrewByPart before now lines
IsListed sink lines before now (BadWords _) = ⊥
IsListed sink lines before now (BadCheckpoint _) = ⊥
IsListed sink lines before now StoreFault = ⊥
IsListed sink lines before now (Failed _ _) = ⊥
IsListed sink lines before now TooManyResources = ⊥
IsListed sink lines before now NotBuilt = ⊥
IsListed sink lines before now (PendingOperations _) = ⊥
IsListed sink lines before now SideFault = ⊥
IsListed sink lines before now StartFault = ⊥
IsListed sink lines before now (PipeFault _) = ⊥
IsListed sink lines before now (ChildEnded _) = ⊥
IsListed sink lines before now (BadFrame _ _) = ⊥
