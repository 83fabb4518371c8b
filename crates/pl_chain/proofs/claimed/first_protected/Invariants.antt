use Rattle.std.proofs.Common.{◌≡◌, None, take}
use Rattle.pl_state.specs.Chain.{first_protected, rows_at}
use Rattle.pl_chain.specs.Claimed.{has_number}
use Rattle.pl_chain.proofs.claimed.first_protected.Given as goal

abbrev pub invariant-loop-place : goal.invariant-loop-place
invariant-loop-place l = first_protected (has_number l.claimed) (rows_at l.rows (take l.place-index l.places)) ≡ None
