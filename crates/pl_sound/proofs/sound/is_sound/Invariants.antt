use Rattle.std.proofs.Common.{◌≡◌, ℕ, ◌<◌, None, take}
use Rattle.pl_state.specs.declared.fault.Missing.{Missing}
use Rattle.pl_sound.specs.Seen.{gives}
use Rattle.pl_sound.specs.Sound.{fault_at, is_met}
use Rattle.pl_sound.proofs.sound.is_sound.Given as goal

abbrev pub invariant-loop-at : goal.invariant-loop-at
invariant-loop-at l = record {
  same : (want : Missing) → gives l.seen want ≡ is_met (take l.at l.rows) want;
  sound : (k : ℕ) → k < l.at → fault_at l.rows k ≡ None;
}
