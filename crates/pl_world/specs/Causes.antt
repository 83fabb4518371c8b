use Rattle.std.specs.Prelude.{⊤, Result, Ok, Err}
use Rattle.pl_world.specs.declared.trouble.Trouble.{Trouble}
use Rattle.pl_world.specs.declared.trouble.Trouble.TheVariants.{Failed, OutOfMemory}

-- a fact for the case that the outside failed
abbrev pub OnFailed : {T : Type 0} → Result T Trouble → Type 0 → Type 0
OnFailed (Ok _) P = ⊤
OnFailed (Err Failed) P = P
OnFailed (Err OutOfMemory) P = ⊤

-- a fact for the case that no memory was found
abbrev pub OnNoMemory : {T : Type 0} → Result T Trouble → Type 0 → Type 0
OnNoMemory (Ok _) P = ⊤
OnNoMemory (Err Failed) P = ⊤
OnNoMemory (Err OutOfMemory) P = P
