-- Goals, rows, diffs and limits that the cases of src/vectors.rt speak of.
use Rattle.std.specs.Prelude.{ℕ, Bool, true, false, Option, None, Some, List, [], ◌∷◌, codes}
use Rattle.pl_value.specs.declared.value.Value.{Value}
use Rattle.pl_value.specs.declared.value.Value.TheVariants as value
use Rattle.pl_state.specs.Component.{plain_goal}
use Rattle.pl_decide.specs.Rows.{provider_urn, second_thing, thing_row, thing_urn}
use Rattle.pl_state.specs.declared.entry.Entry.{Entry}
use Rattle.pl_state.specs.declared.goal.Changes.TheVariants.{NoChange, SomeChange, NotKnown}
use Rattle.pl_state.specs.declared.goal.Diffed.{Diffed}
use Rattle.pl_state.specs.declared.goal.Goal.{Goal}
use Rattle.pl_decide.specs.declared.limits.Limits.{Limits}

-- the URN of the thing
abbrev pub a_urn : List ℕ
a_urn = thing_urn (codes "a")

-- a thing that has a provider
abbrev pub thing_goal : Goal
thing_goal = record (plain_goal a_urn (codes "toy:index:Thing") None) { custom = true }

-- the same, to be read
abbrev pub reading_goal : Goal
reading_goal = record thing_goal { read_id = Some (codes "a") }

-- the same, to be taken over by its id
abbrev pub importing_goal : List ℕ → Goal
importing_goal id = record thing_goal { import_id = Some id }

-- the same, not to be deleted before its successor is made
abbrev pub stubborn_goal : Goal
stubborn_goal = record thing_goal { delete_before_replace = Some false }

-- a component
abbrev pub component_goal : Goal
component_goal = plain_goal (codes "urn:pulumi:dev::web::my:index:Site::a") (codes "my:index:Site") None

-- a provider, which is not read whatever is asked
abbrev pub provider_goal : Goal
provider_goal = record (plain_goal provider_urn (codes "pulumi:providers:toy") None) { custom = true; read_id = Some (codes "a") }

-- the row of the thing, whose id is `a`
abbrev pub thing_kin : Entry
thing_kin = thing_row (codes "a")

-- the same, only read
abbrev pub external_kin : Entry
external_kin = record thing_kin { external = true }

-- the same, deleted to be made anew, and protected
abbrev pub pending_kin : Entry
pending_kin = record thing_kin { pending_replacement = true; protect = true }

-- the same, protected
abbrev pub protected_kin : Entry
protected_kin = record thing_kin { protect = true }

-- the same, whose creation came to an error
abbrev pub half_made_kin : Entry
half_made_kin = record thing_kin { init_errors = codes "late" ∷ [] }

-- the same, not custom
abbrev pub component_kin : Entry
component_kin = record thing_kin { custom = false }

-- inputs that no row of these has
abbrev pub one_input : List (List ℕ × Value)
one_input = (codes "k", value.Null) ∷ []

-- no change; what else stands in it is not looked at
abbrev pub no_change : Option Diffed
no_change = Some (record { changes = NoChange; replaces = codes "k" ∷ []; delete_before_replace = true })

-- nothing that is known
abbrev pub not_known : Option Diffed
not_known = Some (record { changes = NotKnown; replaces = []; delete_before_replace = false })

-- a change that asks for no replacement
abbrev pub some_change : Option Diffed
some_change = Some (record { changes = SomeChange; replaces = []; delete_before_replace = false })

-- a change that asks for a replacement, and for the deletion of the old thing first or last
abbrev pub replacing_change : Bool → Option Diffed
replacing_change deletes = Some (record { changes = SomeChange; replaces = codes "k" ∷ []; delete_before_replace = deletes })

-- everything may be done
abbrev pub no_limits : Limits
no_limits = record { only = None; plan = None }

-- only another thing may be changed
abbrev pub other_target : Limits
other_target = record { only = Some (thing_urn (codes "b") ∷ []); plan = None }

-- the thing may be created anew, and nothing else may be done
abbrev pub small_plan : Limits
small_plan = record { only = None; plan = Some ((a_urn, codes "create-replacement") ∷ (a_urn, codes "delete-replaced") ∷ []) }

-- the thing may be made anew, and its old one may not go
abbrev pub creating_plan : Limits
creating_plan = record { only = None; plan = Some ((a_urn, codes "create-replacement") ∷ []) }

-- the chain of the thing: the one that depends on it
abbrev pub small_chain : List (ℕ × Entry)
small_chain = (4, second_thing) ∷ []

-- the same, protected
abbrev pub protected_chain : List (ℕ × Entry)
protected_chain = (4, record second_thing { protect = true }) ∷ []

-- no goal claims a row
abbrev pub no_claims : ℕ → Bool
no_claims place = false

-- a goal claims each row
abbrev pub all_claims : ℕ → Bool
all_claims place = true
