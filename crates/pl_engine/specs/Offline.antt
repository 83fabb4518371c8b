-- What came of the words where no host is started for them.
use Rattle.std.specs.Prelude.{⊤}
use Rattle.pl_engine.specs.declared.world.OfflineAnswer.{OfflineAnswer}
use Rattle.pl_engine.specs.declared.world.OfflineAnswer.TheVariants.{Served, NotOffline}

-- what holds of what was served
abbrev pub IfServed : {F W : Type 0} → (F → Type 0) → OfflineAnswer F W → Type 0
IfServed P (Served finished) = P finished
IfServed P (NotOffline _) = ⊤

-- what holds of a world that was handed back
abbrev pub IfNotOffline : {F W : Type 0} → (W → Type 0) → OfflineAnswer F W → Type 0
IfNotOffline P (Served _) = ⊤
IfNotOffline P (NotOffline world) = P world
