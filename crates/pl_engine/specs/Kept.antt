-- What a keep does to the history and to the store.
use Rattle.std.specs.Prelude.{⊤, ◌≡◌, ◌⊎◌, ◌≤◌, ℕ, Bool, true, false, List, ◌∷◌, Option}
use Rattle.pl_events.specs.declared.event.Event.{Event}
use Rattle.pl_events.specs.declared.event.Stop.{Stop}
use Rattle.pl_events.specs.declared.event.Stop.TheVariants.{StoreFault, NoMemory}
use Rattle.pl_world.specs.Counts.{Rose}
use Rattle.pl_components.specs.Run.{Fixed}
use Rattle.pl_engine.specs.Spelled.{host_spelling}
use Rattle.pl_engine.specs.Journal.{kept_event, stop_event}
use Rattle.pl_engine.specs.Stored.{Stored}
use Rattle.pl_engine.specs.declared.journal.Journal.{Journal}

-- a fact for the case that the store failed; a save ends so or for want of memory
abbrev pub IfFault : Stop → Type 0 → Type 0
IfFault StoreFault P = P
IfFault NoMemory P = ⊤
IfFault _ P = ⊥

-- a fact for the case that memory was wanted
abbrev pub IfWant : Stop → Type 0 → Type 0
IfWant StoreFault P = ⊤
IfWant NoMemory P = P
IfWant _ P = ⊥

-- the keep is in the history, with a stop after it where its save failed
abbrev pub KeptIn : ℕ → List Event → List Event → Type 0
KeptIn goal old new =
    (new ≡ kept_event goal ∷ old) ⊎ ((stop : Stop) × (new ≡ stop_event stop ∷ kept_event goal ∷ old))

-- the entry was recorded, or a stop stands in place of its keep
abbrev pub Recorded : Bool → ℕ → List Event → List Event → Type 0
Recorded true goal old new = KeptIn goal old new
Recorded false goal old new = new ≡ stop_event NoMemory ∷ old

-- however the store stood to the history since the run's start, it stands so again
abbrev pub KeepsStored : Fixed → Journal → Journal → ℕ → ℕ → Option (List (List ℕ)) → Option (List (List ℕ)) → Type 0
KeepsStored run old new faults faults' story story' =
    (start : ℕ) (opened : Option (List (List ℕ))) → start ≤ faults
    → Stored run host_spelling (Rose start faults) old.wanted old.history old.marks.items opened story
    → Stored run host_spelling (Rose start faults') new.wanted new.history new.marks.items opened story'
