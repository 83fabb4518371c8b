-- The least of numbers.
use Rattle.std.specs.Prelude.{ℕ, if◌then◌else◌, nat_lt, Option, None, Some}

-- the least of two numbers that may be missing
abbrev pub least : Option ℕ → Option ℕ → Option ℕ
least None other = other
least (Some one) None = Some one
least (Some one) (Some other) = if nat_lt other one then Some other else Some one
