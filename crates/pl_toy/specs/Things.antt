-- What stands on a shelf, and what its calls make of it.
use Rattle.std.specs.Prelude.{◌≡◌, ◌⊎◌, ℕ, List, Option, Some, None, is_none, option_map, if◌then◌else◌, bytes_eq}
use Rattle.pl_value.specs.Keys.{value_at}

-- the things on a shelf: the bytes under each id, if there are some
abbrev pub Things : Type 0
Things = List ℕ → Option (List ℕ)

-- nothing is there
abbrev pub no_things : Things
no_things id = None

-- the things that pairs of an id and its bytes tell
abbrev pub held_by : List (List ℕ × List ℕ) → Things
held_by pairs = λ id. value_at id pairs

-- with these bytes under the id; all others stay
abbrev pub with_thing : List ℕ → List ℕ → Things → Things
with_thing id bytes held other = if bytes_eq id other then Some bytes else held other

-- with these bytes under the id, unless something is there already
abbrev pub with_new : List ℕ → List ℕ → Things → Things
with_new id bytes held = if is_none (held id) then with_thing id bytes held else held

-- with nothing under the id; all others stay
abbrev pub without_thing : List ℕ → Things → Things
without_thing id held other = if bytes_eq id other then None else held other

-- what is told of the things changed so; what is not told stays untold
abbrev pub Became : (Things → Things) → Option Things → Option Things → Type 0
Became change before now = now ≡ option_map change before

-- the things are as before, or they changed so
abbrev pub IsKeptOrBecame : (Things → Things) → Option Things → Option Things → Type 0
IsKeptOrBecame change before now = (now ≡ before) ⊎ Became change before now
