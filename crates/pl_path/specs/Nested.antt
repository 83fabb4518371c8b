-- Values of a given depth.
use Rattle.std.specs.Prelude.{ℕ, zero, suc, [], ◌∷◌}
use Rattle.pl_value.specs.declared.value.Value.{Value}
use Rattle.pl_value.specs.declared.value.Value.TheVariants as value

-- as many lists in each other, with nothing in the innermost but a null
abbrev pub nested : ℕ → Value
nested zero = value.Null
nested (suc depth) = value.List (nested depth ∷ [])
