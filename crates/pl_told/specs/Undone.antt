-- A change that is taken back.
use Rattle.std.specs.Prelude.{◌≡◌}
use Rattle.pl_told.specs.Column.{Change, Kept, prepared, retracted, with_change}

-- after a change and its retraction everything is as it was when it was prepared
abbrev pub IsUndone : Type 0
IsUndone = (change : Change) (kept : Kept) → retracted (with_change change (prepared kept)) ≡ prepared kept
