use Rattle.std.proofs.Common.{◌≡◌, ◌<◌, ℕ, false}
use Rattle.pl_due.specs.Now.{configures_now}
use Rattle.pl_due.proofs.seen.Seen.first_config.Given as goal

abbrev pub invariant-loop-number : goal.invariant-loop-number
invariant-loop-number l = (k : ℕ) → k < l.number → configures_now l.self l.wanting k ≡ false
