-- Values with what is known of each, level by level.
use Rattle.std.proofs.Common.{ℕ, List, map}
use Rattle.pl_value.specs.declared.value.Value.{Value}
use Rattle.pl_value.specs.declared.value.Value.TheOpen.{Value-F}
use Rattle.pl_value.specs.declared.value.Value.TheFolds.{map-Value}

-- a value that has a property
abbrev pub Having : (Value → Type 0) → Type 0
Having P = (one : Value) × P one

abbrev pub opened : {P : Value → Type 0} → Value-F (Having P) → Value-F Value
opened {P} y = map-Value (Having P) Value (λ e. e.0) y

abbrev pub values_of : {P : Value → Type 0} → List (Having P) → List Value
values_of {P} kept = map (λ (e : Having P). e.0) kept

abbrev pub pairs_of : {P : Value → Type 0} → List (List ℕ × Having P) → List (List ℕ × Value)
pairs_of kept = map (λ field. (field.0, field.1.0)) kept
