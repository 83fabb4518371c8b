-- What kind of thing a row or a goal is.
use Rattle.std.specs.Prelude.{ℕ, Bool, not, ◌&&◌, ◌||◌, ◌==◌, if◌then◌else◌, is_some, Option, None, Some, List, codes}
use Rattle.std.specs.List.{starts_with}
use Rattle.std.specs.Str.{bytes_eq}
use Rattle.pl_urn.specs.Grammar.{is_provider_type, own_type_of, name_of}
use Rattle.pl_state.specs.declared.entry.Entry.{Entry}
use Rattle.pl_state.specs.declared.goal.Goal.{Goal}

-- whether a URN is that of a provider: by its own type, whatever else is said of it
abbrev pub is_of_provider : List ℕ → Bool
is_of_provider urn = is_provider_type (own_type_of urn)

-- the name of a default provider without a version
abbrev pub default_text : List ℕ
default_text = codes "default"

-- what such a name begins with where there is a version
abbrev pub default_prefix : List ℕ
default_prefix = codes "default_"

-- whether a name is that of a default provider
abbrev pub is_default_name : List ℕ → Bool
is_default_name name = bytes_eq name default_text || starts_with (λ a b. a == b) name default_prefix

-- whether a URN is that of a default provider
abbrev pub is_of_default : List ℕ → Bool
is_of_default urn = is_of_provider urn && is_default_name (name_of urn)

-- whether a goal is a provider
abbrev pub is_provider_goal : Goal → Bool
is_provider_goal goal = is_of_provider goal.urn

-- whether a row is a provider
abbrev pub is_provider_row : Entry → Bool
is_provider_row row = is_of_provider row.urn

-- a component is neither custom nor a provider
abbrev pub is_component : Goal → Bool
is_component goal = not goal.custom && not (is_provider_goal goal)

-- the same of a row
abbrev pub is_component_row : Entry → Bool
is_component_row row = not row.custom && not (is_provider_row row)

-- what has a provider: it is custom and is no provider itself
abbrev pub is_provided : Goal → Bool
is_provided goal = goal.custom && not (is_provider_goal goal)

-- the same of a row
abbrev pub is_provided_row : Entry → Bool
is_provided_row row = row.custom && not (is_provider_row row)

-- whether the thing of a goal is only read; a component and a provider never are
abbrev pub is_reading_goal : Goal → Bool
is_reading_goal goal = is_provided goal && is_some goal.read_id

-- whether a goal takes a thing over by its id; a component and a provider never do
abbrev pub is_importing_goal : Goal → Bool
is_importing_goal goal = is_provided goal && is_some goal.import_id

-- whether a row stands for a managed thing: one that is not only read, and is not deleted to be made anew
abbrev pub is_managed : Entry → Bool
is_managed row = not (row.external || row.pending_replacement)

-- a claim, where its thing is managed
abbrev pub kin_of : Option Entry → Option Entry
kin_of None = None
kin_of (Some claim) = if is_managed claim then Some claim else None
