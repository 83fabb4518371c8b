use Rattle.std.proofs.Common.{◌≡◌, ℕ, take}
use Rattle.pl_chain.specs.Claimed.{has_number, is_in}
use Rattle.pl_chain.proofs.claimed.set_of.Given as goal

abbrev pub invariant-loop-row : goal.invariant-loop-row
invariant-loop-row l = (number : ℕ) → has_number l.set number ≡ is_in (take l.row-index l.row-items) number
