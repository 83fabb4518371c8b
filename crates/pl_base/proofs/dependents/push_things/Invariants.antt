use Rattle.std.proofs.Common.{◌≡◌, ◌++◌, filter, take}
use Rattle.pl_base.specs.Dependents.{has_id}
use Rattle.pl_base.proofs.dependents.push_things.Given as goal

abbrev pub invariant-loop-place : goal.invariant-loop-place
invariant-loop-place l = l.met.items ≡ l.initial.met.items ++ filter (has_id l.rows l.id) (take l.place-index l.places)
