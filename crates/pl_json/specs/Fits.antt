-- Which values have no whole number but those of 64 bits with a sign.
use Rattle.std.specs.Prelude.{ℕ, ℤ, List, pos, negsuc, ◌^◌, Bool, true, nat_lt, IsTrue}
use Rattle.std.specs.List.{list_all}
use Rattle.pl_value.specs.declared.value.Value.{Value}
use Rattle.pl_value.specs.declared.value.Value.TheOpen.{Value-F}
use Rattle.pl_value.specs.declared.value.Value.TheFolds.{fold-Value}

-- the number is from -2^63 to 2^63 - 1
abbrev pub fits : ℤ → Bool
fits (pos n) = nat_lt n (2 ^ 63)
fits (negsuc n) = nat_lt n (2 ^ 63)

-- one level, with whether each value inside has such numbers alone
abbrev pub wholes_fit_level : Value-F Bool → Bool
wholes_fit_level Value-F.Null = true
wholes_fit_level (Value-F.Flag flag) = true
wholes_fit_level (Value-F.Whole whole) = fits whole
wholes_fit_level (Value-F.Text text) = true
wholes_fit_level (Value-F.List values) = list_all (λ value. value) values
wholes_fit_level (Value-F.Object fields) = list_all (λ field. field.1) fields
wholes_fit_level (Value-F.Secret inner) = inner
wholes_fit_level Value-F.Unknown = true

-- whether each whole number in the value fits
abbrev pub wholes_fit : Value → Bool
wholes_fit = fold-Value Bool wholes_fit_level

-- each whole number in the value fits
abbrev pub WholesFit : Value → Type 0
WholesFit value = IsTrue (wholes_fit value)

-- the same of the fields of an object
abbrev pub FieldsFit : List (List ℕ × Value) → Type 0
FieldsFit fields = IsTrue (list_all (λ field. wholes_fit field.1) fields)
