-- The line of what stopped a command.
use Rattle.std.specs.Prelude.{ℕ, List, [], ◌∷◌, ◌++◌, codes, decimal}
use Rattle.pl_value.specs.declared.json.JsonFault.{JsonFault}
use Rattle.pl_value.specs.declared.json.JsonFault.TheVariants as fault
use Rattle.pl_json.specs.Faults.{path_of}
use Rattle.pl_state.specs.declared.fault.BadCheckpoint.{BadCheckpoint}
use Rattle.pl_state.specs.declared.fault.BadCheckpoint.TheVariants as bad
use Rattle.pl_decide.specs.declared.outcome.Outcome.{Outcome}
use Rattle.pl_decide.specs.declared.outcome.Outcome.TheVariants.{Done, Failed, TooManyResources, BadWords, NotBuilt, BadCheckpoint as Bad, PendingOperations, StoreFault, SideFault, StartFault, PipeFault, SinkFault, ChildEnded, BadFrame, OutOfMemory}
use Rattle.pl_show.specs.Line.{line}

-- a word with a blank before it; nothing for an empty one
abbrev pub spaced : List ℕ → List ℕ
spaced [] = []
spaced (byte ∷ more) = 32 ∷ byte ∷ more

-- the name of a fault of a value
abbrev pub fault_name : JsonFault → List ℕ
fault_name (fault.NotWhole _) = codes "NotWhole"
fault_name (fault.SecretSealed _) = codes "SecretSealed"
fault_name (fault.BadSecret _) = codes "BadSecret"
fault_name (fault.TooDeep _) = codes "TooDeep"
fault_name fault.OutOfMemory = codes "OutOfMemory"

-- the name of the reason why bytes are no checkpoint; for a bad value that of its fault
abbrev pub reason_name : BadCheckpoint → List ℕ
reason_name bad.NotJson = codes "NotJson"
reason_name (bad.NotVersion3 _) = codes "NotVersion3"
reason_name (bad.MissingField _) = codes "MissingField"
reason_name (bad.WrongKind _) = codes "WrongKind"
reason_name (bad.BadUrn _) = codes "BadUrn"
reason_name (bad.BadValue why) = fault_name why
reason_name (bad.TooMany _) = codes "TooMany"
reason_name (bad.Unsound _) = codes "Unsound"

-- the path of the faulty place; empty where the reason has none
abbrev pub reason_path : BadCheckpoint → List ℕ
reason_path bad.NotJson = []
reason_path (bad.NotVersion3 _) = []
reason_path (bad.MissingField path) = path
reason_path (bad.WrongKind path) = path
reason_path (bad.BadUrn path) = path
reason_path (bad.BadValue why) = path_of why
reason_path (bad.TooMany _) = []
reason_path (bad.Unsound _) = []

-- the name of an outcome
abbrev pub outcome_name : Outcome → List ℕ
outcome_name Done = codes "Done"
outcome_name (Failed _ _) = codes "Failed"
outcome_name TooManyResources = codes "TooManyResources"
outcome_name (BadWords _) = codes "BadWords"
outcome_name NotBuilt = codes "NotBuilt"
outcome_name (Bad _) = codes "BadCheckpoint"
outcome_name (PendingOperations _) = codes "PendingOperations"
outcome_name StoreFault = codes "StoreFault"
outcome_name SideFault = codes "SideFault"
outcome_name StartFault = codes "StartFault"
outcome_name (PipeFault _) = codes "PipeFault"
outcome_name SinkFault = codes "SinkFault"
outcome_name (ChildEnded _) = codes "ChildEnded"
outcome_name (BadFrame _ _) = codes "BadFrame"
outcome_name OutOfMemory = codes "OutOfMemory"

-- what is told of an outcome behind its name: the place of bad words, the number of pending operations, or why bytes
-- are no checkpoint
abbrev pub detail : Outcome → List ℕ
detail (BadWords place) = decimal place
detail (PendingOperations number) = decimal number
detail (Bad why) = reason_name why ++ spaced (reason_path why)
detail _ = []

-- the line of what stopped a command, which has no problem of a history
abbrev pub stopped_line : Outcome → List ℕ
stopped_line outcome = line (codes "stopped: " ++ outcome_name outcome ++ spaced (detail outcome))
