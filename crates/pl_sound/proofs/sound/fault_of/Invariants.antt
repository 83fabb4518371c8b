use Rattle.std.proofs.Common.{◌≡◌, ℕ, ◌<◌, None}
use Rattle.pl_sound.specs.Sound.{fault_at}
use Rattle.pl_sound.proofs.sound.fault_of.Given as goal

abbrev pub invariant-loop-at : goal.invariant-loop-at
invariant-loop-at l = (k : ℕ) → k < l.at → fault_at l.rows k ≡ None
