-- Rows that the cases of src/vectors.rt speak of: a stack, two providers of one URN, and three things, of
-- which the second depends on the first and the third has the second as its parent.
use Rattle.std.specs.Prelude.{ℕ, true, None, Some, List, [], ◌∷◌, ◌++◌, codes}
use Rattle.pl_state.specs.declared.entry.Entry.{Entry}
use Rattle.pl_state.specs.Component.{bare_entry, component_entry}

-- the stack's URN
abbrev pub stack_urn : List ℕ
stack_urn = codes "urn:pulumi:dev::web::pulumi:pulumi:Stack::web-dev"

-- the providers' URN
abbrev pub provider_urn : List ℕ
provider_urn = codes "urn:pulumi:dev::web::pulumi:providers:toy::default_1_2_0"

-- the URN of a thing with a name
abbrev pub thing_urn : List ℕ → List ℕ
thing_urn name = codes "urn:pulumi:dev::web::toy:index:Thing::" ++ name

-- the stack
abbrev pub stack_row : Entry
stack_row = component_entry stack_urn (codes "pulumi:pulumi:Stack") None

-- a provider with an id
abbrev pub provider_row : List ℕ → Entry
provider_row id = record (bare_entry provider_urn true (codes "pulumi:providers:toy") None) { id = Some id }

-- a thing with a name, which is its id too
abbrev pub thing_row : List ℕ → Entry
thing_row name = record (bare_entry (thing_urn name) true (codes "toy:index:Thing") (Some stack_urn)) {
  id = Some name;
  provider = Some (record { urn = provider_urn; id = codes "u-1" });
}

-- the thing that depends on the first
abbrev pub second_thing : Entry
second_thing = record (thing_row (codes "b")) { dependencies = thing_urn (codes "a") ∷ []; provider = None }

-- the thing below the second
abbrev pub third_thing : Entry
third_thing = record (thing_row (codes "c")) { parent = Some (thing_urn (codes "b")); provider = None }

-- all of them
abbrev pub example_rows : List Entry
example_rows =
    stack_row ∷ provider_row (codes "u-1") ∷ provider_row (codes "u-2") ∷ thing_row (codes "a") ∷ second_thing ∷ third_thing
    ∷ []
