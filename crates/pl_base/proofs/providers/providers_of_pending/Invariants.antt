use Rattle.std.proofs.Common.{◌≡◌, map, take}
use Rattle.pl_base.specs.Index.{provider_in}
use Rattle.pl_base.proofs.providers.providers_of_pending.Given as goal

abbrev pub invariant-loop-one : goal.invariant-loop-one
invariant-loop-one l = l.providers.items ≡ map (λ one. provider_in l.things one.entry.provider) (take l.one-index l.pending)
