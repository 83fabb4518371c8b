-- A goal that is made.
use Rattle.std.specs.Prelude.{◌≡◌, string_bytes}
use Rattle.pl_options.specs.Refused.{HasPaths}
use Rattle.pl_told.specs.declared.change.Made.TheInside.{Inside}

-- it is found by its URN, and its paths can be read
pub record IsMade (inside : Inside) : Type 0 where
  pub key : string_bytes inside.key ≡ inside.goal.urn
  pub paths : HasPaths inside.goal
