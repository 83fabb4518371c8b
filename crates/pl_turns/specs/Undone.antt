-- Decisions that are taken back.
use Rattle.std.specs.Prelude.{◌≡◌, ◌-◌, List, drop, length}
use Rattle.pl_model.specs.declared.decided.Decided.{Decided}
use Rattle.pl_turns.specs.Next.{Extends}

-- without the newer decisions, down to the count of the older ones, the older ones are left
abbrev pub IsUndone : Type 0
IsUndone = (older newer : List Decided) → Extends older newer → drop (length newer - length older) newer ≡ older
