use Rattle.std.proofs.Common.{◌≡◌, map, take}
use Rattle.std.specs.List.{range_with_len}
use Rattle.pl_state.specs.Chain.{deleter_row_of}
use Rattle.pl_base.specs.Index.{LeadsToRows}
use Rattle.pl_base.proofs.deleters.deleters_of.Given as goal

abbrev pub invariant-loop-place : goal.invariant-loop-place
invariant-loop-place l = record {
  leads : LeadsToRows l.places (take l.place l.rows);
  told : l.deleters.items ≡ map (deleter_row_of l.rows) (range_with_len 0 l.place);
}
