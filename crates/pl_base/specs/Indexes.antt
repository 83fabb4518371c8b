-- What is looked up in a state.
use Rattle.std.specs.Prelude.{◌≡◌, map}
use Rattle.pl_state.specs.Chain.{deleter_row_of, last_provider, provider_row_of}
use Rattle.pl_state.specs.declared.snapshot.Snapshot.{Snapshot}
use Rattle.pl_base.specs.declared.indexes.Indexes.{Indexes}
use Rattle.pl_base.specs.Dependents.{dependents_of}
use Rattle.pl_base.specs.Index.{LeadsToKeepers}
use Rattle.pl_base.specs.Rows.{of_rows}

-- the indexes of a state say what the definitions say of it
pub record AreIndexes (base : Snapshot) (indexes : Indexes) : Type 0 where
  pub keepers : LeadsToKeepers indexes.keepers base.entries
  pub providers : indexes.providers.rows.items ≡ of_rows (provider_row_of base.entries) base.entries
  pub pending : indexes.providers.pending.items ≡ map (λ one. last_provider one.entry.provider base.entries) base.pending
  pub deleters : indexes.deleters.items ≡ of_rows (deleter_row_of base.entries) base.entries
  pub dependents : indexes.dependents.items ≡ of_rows (dependents_of base.entries) base.entries
