-- How deep values may be.
use Rattle.std.specs.Prelude.{ℕ}

-- the most lists, objects and secrets that may stand in each other
abbrev pub most_levels : ℕ
most_levels = 64
