-- Rows that the cases of src/vectors.rt speak of.
use Rattle.std.specs.Prelude.{ℕ, true, None, Some, List, [], ◌∷◌, codes}
use Rattle.pl_value.specs.declared.value.Value.{Value}
use Rattle.pl_value.specs.declared.value.Value.TheVariants as value
use Rattle.pl_state.specs.declared.entry.Entry.{Entry}
use Rattle.pl_state.specs.Component.{bare_entry, component_entry}

-- a stack
abbrev pub stack_row : Entry
stack_row = component_entry (codes "S") (codes "pulumi:pulumi:Stack") None

-- a provider
abbrev pub provider_row : Entry
provider_row = record (bare_entry (codes "P") true (codes "pulumi:providers:toy") None) { id = Some (codes "u-1") }

-- a thing below another row
abbrev pub thing_row : List ℕ → List ℕ → Entry
thing_row urn parent = record (bare_entry urn true (codes "toy:index:Thing") (Some parent)) {
  id = Some (codes "x");
  provider = Some (record { urn = codes "P"; id = codes "u-1" });
}

-- a thing below the stack
abbrev pub a_row : Entry
a_row = thing_row (codes "a") (codes "S")

-- a thing below that one, on which it depends
abbrev pub b_row : Entry
b_row = record (thing_row (codes "b") (codes "a")) {
  dependencies = codes "S" ∷ codes "a" ∷ [];
  property_dependencies = (codes "k", codes "a" ∷ []) ∷ (codes "l", codes "S" ∷ codes "a" ∷ []) ∷ [];
}

-- the same with no other dependency
abbrev pub simple_b_row : Entry
simple_b_row = record (thing_row (codes "b") (codes "a")) { dependencies = codes "a" ∷ [] }

-- what is left of the former without the other one
abbrev pub lonely_b_row : Entry
lonely_b_row = record (thing_row (codes "b") (codes "S")) {
  dependencies = codes "S" ∷ [];
  property_dependencies = (codes "k", []) ∷ (codes "l", codes "S" ∷ []) ∷ [];
}

-- what it is without any row
abbrev pub bare_b_row : Entry
bare_b_row = record b_row {
  parent = None;
  provider = None;
  dependencies = [];
  property_dependencies = (codes "k", []) ∷ (codes "l", []) ∷ [];
}

-- a thing below the second one
abbrev pub c_row : Entry
c_row = thing_row (codes "c") (codes "b")

-- all of them
abbrev pub base_rows : List Entry
base_rows = stack_row ∷ provider_row ∷ a_row ∷ b_row ∷ c_row ∷ []

-- a thing below the stack that is deleted with the first one
abbrev pub d_row : Entry
d_row = record (thing_row (codes "d") (codes "S")) { deleted_with = Some (codes "a") }

-- a thing of the same URN that is imported, below one that is gone
abbrev pub imported_a_row : Entry
imported_a_row = record (thing_row (codes "a") (codes "b")) { id = Some (codes "y") }

-- fields with one key
abbrev pub one_output : List (List ℕ × Value)
one_output = (codes "k", value.Null) ∷ []
