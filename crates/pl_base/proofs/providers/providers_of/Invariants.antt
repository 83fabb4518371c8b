use Rattle.std.proofs.Common.{◌≡◌, map, take}
use Rattle.std.specs.List.{range_with_len}
use Rattle.pl_state.specs.Chain.{provider_row_of}
use Rattle.pl_base.specs.Index.{LeadsToThings}
use Rattle.pl_base.proofs.providers.providers_of.Given as goal

abbrev pub invariant-loop-place : goal.invariant-loop-place
invariant-loop-place l = record {
  leads : LeadsToThings l.things (take l.place l.rows);
  told : l.providers.items ≡ map (provider_row_of l.rows) (range_with_len 0 l.place);
}
