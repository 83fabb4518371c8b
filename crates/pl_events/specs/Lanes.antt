-- What is seen of the lanes where work is chosen.
use Rattle.std.specs.Prelude.{ℕ, Bool, Option}
use Rattle.pl_events.specs.declared.operation.Source.{Source}

-- what a table of lanes tells: the free lane of a source, whether a source may have one more lane, and whether the
-- host's writing half is at home
pub record LanesTold : Type 0 where
  pub free : Source → Option ℕ
  pub may_start : Source → Bool
  pub half_home : Bool
