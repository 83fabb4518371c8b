-- Words on lists: the first element of a kind, and two lists side by side.
use Rattle.std.specs.Prelude.{ℕ, Bool, if◌then◌else◌, None, Some, List, [], ◌∷◌, slice_get, slice_set}

-- a list without its first element that passes a test
abbrev pub without_first : {X : Type 0} → (X → Bool) → List X → List X
without_first test [] = []
without_first test (x ∷ xs) = if test x then xs else x ∷ without_first test xs

-- a list with its first element that passes a test changed
abbrev pub changed_first : {X : Type 0} → (X → Bool) → (X → X) → List X → List X
changed_first test change [] = []
changed_first test change (x ∷ xs) = if test x then change x ∷ xs else x ∷ changed_first test change xs

-- a list with the element at a place changed, if there is one
abbrev pub changed_at : {X : Type 0} → (X → X) → ℕ → List X → List X
changed_at change place xs = elim (slice_get xs place) [
  | None ↦ xs
  | Some x ↦ slice_set xs place (change x)
]

-- what is made of two lists side by side, as far as both go
abbrev pub zip_by : {X Y Z : Type 0} → (X → Y → Z) → List X → List Y → List Z
zip_by f [] ys = []
zip_by f (x ∷ xs) [] = []
zip_by f (x ∷ xs) (y ∷ ys) = f x y ∷ zip_by f xs ys
