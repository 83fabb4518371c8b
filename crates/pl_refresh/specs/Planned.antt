-- The outputs that a preview plans.
use Rattle.std.specs.Prelude.{ℕ, if◌then◌else◌, List, [], ◌∷◌, bytes_eq}
use Rattle.std.specs.List.{fold}
use Rattle.pl_value.specs.Keys.{is_below}
use Rattle.pl_value.specs.declared.value.Value.{Value}

-- the pairs with one put in at the place of its key, in place of one of the same key
abbrev pub put_in : List (List ℕ × Value) → List ℕ × Value → List (List ℕ × Value)
put_in [] pair = pair ∷ []
put_in (first ∷ others) pair =
    if is_below first.0 pair.0 then first ∷ put_in others pair
    else (if bytes_eq first.0 pair.0 then pair ∷ others else pair ∷ first ∷ others)

-- the old outputs of what is to be updated with the checked inputs put over them
abbrev pub planned_outputs : List (List ℕ × Value) → List (List ℕ × Value) → List (List ℕ × Value)
planned_outputs old checked = fold put_in old checked
