-- Goals that are recorded, and what is decided of them.
use Rattle.std.specs.Prelude.{◌≡◌, ℕ, true}
use Rattle.pl_model.specs.Known.{Known, is_decided, is_recorded}

-- something is decided of each goal that is recorded
abbrev pub AreDecided : Known → Type 0
AreDecided known = (goal : ℕ) → is_recorded known goal ≡ true → is_decided known goal ≡ true
