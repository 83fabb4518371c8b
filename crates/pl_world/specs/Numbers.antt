use Rattle.std.specs.Prelude.{ℕ, ◌-◌, ◌^◌, nat_lt, suc, zero, List, [], ◌∷◌, ◌++◌, Option, Some, None, if◌then◌else◌}

-- the numbers from 1 to n
abbrev pub numbers_to : ℕ → List ℕ
numbers_to zero = []
numbers_to (suc n) = numbers_to n ++ (suc n ∷ [])

-- the draws of one who counts, told until the count is at the end of 128 bits
abbrev pub drawn_up_to : ℕ → Option (List ℕ)
drawn_up_to count = if nat_lt count (2 ^ 128 - 1) then Some (numbers_to count) else None
