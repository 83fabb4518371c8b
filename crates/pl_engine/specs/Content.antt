-- What the store's content reads as, and the state that a run begins with.
use Rattle.std.specs.Prelude.{⊤, ◌≡◌, ◌<◌, ℕ, List, [], length, slice_get, ◌-◌, Option, Some, None, option_map, Result, Ok, Err, IfSome}
use Rattle.pl_state.specs.Component.{bare_state}
use Rattle.pl_state.specs.declared.fault.BadCheckpoint.{BadCheckpoint}
use Rattle.pl_state.specs.declared.snapshot.Snapshot.{Snapshot}
use Rattle.pl_checkpoint_text.specs.Read.{reading_of}
use Rattle.pl_decide.specs.declared.outcome.Outcome.{Outcome}
use Rattle.pl_decide.specs.declared.outcome.Outcome.TheVariants.{Done, Failed, TooManyResources, BadWords, NotBuilt, BadCheckpoint as Bad, PendingOperations, StoreFault, SideFault, StartFault, PipeFault, SinkFault, ChildEnded, BadFrame, OutOfMemory}

-- the last text of a story, which is the store's content; none for one that is empty
abbrev pub content_of : List (List ℕ) → Option (List ℕ)
content_of texts = slice_get texts (length texts - 1)

-- what the content reads as: a state, or why it is none; nothing where there is no content
abbrev pub content_read : List (List ℕ) → Option (Result Snapshot BadCheckpoint)
content_read texts = option_map reading_of (content_of texts)

-- where the store tells its story, its content reads as this state; there is none where there is no content
abbrev pub ReadsAs : Option (List (List ℕ)) → Option Snapshot → Type 0
ReadsAs story found = IfSome story (λ texts. content_read texts ≡ option_map Ok found)

-- where the store tells its story, it has a content that is no state for this reason
abbrev pub IsBad : Option (List (List ℕ)) → BadCheckpoint → Type 0
IsBad story why = IfSome story (λ texts. content_read texts ≡ Some (Err why))

-- the state has no entry and nothing pending
abbrev pub HasNothing : Snapshot → Type 0
HasNothing state = state ≡ record state { entries = []; pending = [] }

-- the state that a run of this stack begins with: the one that was read, which has no entry and nothing pending; where
-- there was no content, that of a stack that has nothing yet
abbrev pub IsBaseFor : List ℕ → Option Snapshot → Snapshot → Type 0
IsBaseFor stack None base = base ≡ bare_state stack []
IsBaseFor stack (Some state) base = (base ≡ state) × HasNothing state

-- the state is what a run of this stack begins with over such a store
abbrev pub IsBegun : Option (List (List ℕ)) → List ℕ → Snapshot → Type 0
IsBegun story stack base = (found : Option Snapshot) × ReadsAs story found × IsBaseFor stack found base

-- a run may begin over the store: its content is a state without entries and pending operations, or there is none
abbrev pub MayBegin : Option (List (List ℕ)) → Type 0
MayBegin story = (found : Option Snapshot) × ReadsAs story found × IfSome found HasNothing

-- why no run may begin with a state that was read: it has pending operations, or else entries
abbrev pub IsUnserved : Snapshot → Outcome → Type 0
IsUnserved state (PendingOperations number) = (length state.pending ≡ number) × (0 < number)
IsUnserved state NotBuilt = (length state.pending ≡ 0) × (0 < length state.entries)
IsUnserved state Done = ⊥
IsUnserved state (Failed _ _) = ⊥
IsUnserved state TooManyResources = ⊥
IsUnserved state (BadWords _) = ⊥
IsUnserved state (Bad _) = ⊥
IsUnserved state StoreFault = ⊥
IsUnserved state SideFault = ⊥
IsUnserved state StartFault = ⊥
IsUnserved state (PipeFault _) = ⊥
IsUnserved state SinkFault = ⊥
IsUnserved state (ChildEnded _) = ⊥
IsUnserved state (BadFrame _ _) = ⊥
IsUnserved state OutOfMemory = ⊥

-- the store's content reads as a state with which no run may begin, for this outcome's reason
abbrev pub IsOther : Option (List (List ℕ)) → Outcome → Type 0
IsOther story outcome = (state : Snapshot) × ReadsAs story (Some state) × IsUnserved state outcome

-- what was read is no state for this reason, or the store's count rose, or memory was wanted
abbrev pub IsUnreadable : (BadCheckpoint → Type 0) → Type 0 → Outcome → Type 0
IsUnreadable bad store (Bad why) = bad why
IsUnreadable bad store StoreFault = store
IsUnreadable bad store OutOfMemory = ⊤
IsUnreadable bad store Done = ⊥
IsUnreadable bad store (Failed _ _) = ⊥
IsUnreadable bad store TooManyResources = ⊥
IsUnreadable bad store (BadWords _) = ⊥
IsUnreadable bad store NotBuilt = ⊥
IsUnreadable bad store (PendingOperations _) = ⊥
IsUnreadable bad store SideFault = ⊥
IsUnreadable bad store StartFault = ⊥
IsUnreadable bad store (PipeFault _) = ⊥
IsUnreadable bad store SinkFault = ⊥
IsUnreadable bad store (ChildEnded _) = ⊥
IsUnreadable bad store (BadFrame _ _) = ⊥
