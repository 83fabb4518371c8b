-- The words of definitions over options and lists of anything.
use Rattle.std.specs.Prelude.{◌≡◌, ◌==◌, ℕ, Bool, true, false, if◌then◌else◌, Option, None, Some, List, [], ◌∷◌, ◌++◌, length, slice_get}
use Rattle.std.specs.List.{list_any}
use Rattle.std.specs.Option.{option_or}

-- ---- what may be there

-- whether something is there and passes the test
abbrev pub some_passes : {X : Type 0} → (X → Bool) → Option X → Bool
some_passes test None = false
some_passes test (Some x) = test x

-- whether what is there, if anything is, passes the test
abbrev pub none_or : {X : Type 0} → (X → Bool) → Option X → Bool
none_or test None = true
none_or test (Some x) = test x

-- what is there, where a condition holds
abbrev pub only_if : {X : Type 0} → Bool → Option X → Option X
only_if true x = x
only_if false x = None

-- what may be missing, as a list
abbrev pub option_list : {X : Type 0} → Option X → List X
option_list None = []
option_list (Some x) = x ∷ []

-- whether the number is there and is this one
abbrev pub is_row : Option ℕ → ℕ → Bool
is_row None row = false
is_row (Some own) row = own == row

-- ---- lists

-- whether nothing is in a list
abbrev pub has_none : {X : Type 0} → List X → Bool
has_none [] = true
has_none (_ ∷ _) = false

abbrev pub first_in : {X : Type 0} → List X → Option X
first_in xs = slice_get xs 0

-- the first thing that is found for one of the list
abbrev pub first_some : {X Y : Type 0} → (X → Option Y) → List X → Option Y
first_some found [] = None
first_some found (x ∷ others) = option_or (found x) (first_some found others)

-- whether a number is one of the list
abbrev pub has_number : List ℕ → ℕ → Bool
has_number numbers number = list_any (λ other. other == number) numbers

-- ---- lists that stand newest first, in which the number of each is the count of those before it

-- the one of a number
abbrev pub numbered : {X : Type 0} → List X → ℕ → Option X
numbered [] number = None
numbered (newest ∷ earlier) number = if length earlier == number then Some newest else numbered earlier number

-- the number of the newest one that passes a test
abbrev pub number_where : {X : Type 0} → (X → Bool) → List X → Option ℕ
number_where test [] = None
number_where test (newest ∷ earlier) = if test newest then Some (length earlier) else number_where test earlier
