-- What may be there: where it is, where it is not, and what is made of it.
use Rattle.std.proofs.Common.{◌≡◌, ℕ, ◌==◌, Bool, true, false, cond, List, [], ◌∷◌, Option, Some, None, is_some, is_none, option_map, option_and_then, refl, ap}
use Rattle.std.proofs.lemmas.Option.{same_Some}
use Rattle.std.specs.Option.{option_or}
use Rattle.pl_lemmas.specs.Words.{is_row, only_if, option_list, some_passes}
use Rattle.pl_lemmas.proofs.Numbers.{equal_numbers}

-- ---- tests

pub some_there : {X : Type 0} (o : Option X) → is_some o ≡ true → (x : X) × (o ≡ Some x)
some_there (Some x) is = (x, refl)
some_there None is = absurd (let e : false ≡ true = is in cc)

pub some_not_none : {X : Type 0} (o : Option X) → is_none o ≡ false → (x : X) × (o ≡ Some x)
some_not_none (Some x) is = (x, refl)
some_not_none None is = absurd (let e : true ≡ false = is in cc)

pub none_is : {X : Type 0} (o : Option X) → is_none o ≡ true → o ≡ None
none_is None is = refl
none_is (Some x) is = absurd (let e : false ≡ true = is in cc)

-- what passes is there
pub passing : {X : Type 0} (test : X → Bool) (o : Option X) → some_passes test o ≡ true → (x : X) × (o ≡ Some x) × (test x ≡ true)
passing test None h = absurd (let e : false ≡ true = h in cc)
passing test (Some x) h = (x, refl, h)

pub only_some : {X : Type 0} (b : Bool) (o : Option X) (x : X) → only_if b o ≡ Some x → o ≡ Some x
only_some true o x h = h
only_some false o x h = absurd (let e : None ≡ Some x = h in cc)

pub row_is : (o : Option ℕ) (row : ℕ) → is_row o row ≡ true → o ≡ Some row
row_is None row h = absurd (let e : false ≡ true = h in cc)
row_is (Some own) row h = ap (λ (n : ℕ). Some n) (equal_numbers own row h)

pub list_none : {X : Type 0} (o : Option X) → option_list o ≡ [] → o ≡ None
list_none None h = refl
list_none (Some x) h = absurd (let e : x ∷ [] ≡ [] = h in cc)

-- ---- one or the other

pub or_none : {X : Type 0} (o : Option X) → option_or o None ≡ o
or_none None = refl
or_none (Some x) = refl

-- what neither of two gives
pub neither : {X : Type 0} (one other : Option X) → option_or one other ≡ None → (one ≡ None) × (other ≡ None)
neither None other h = (refl, h)
neither (Some x) other h = absurd (let e : Some x ≡ None = h in cc)

-- ---- what is made of it

pub mapped_or : {X Y : Type 0} (f : X → Y) (a b : Option X) → option_map f (option_or a b) ≡ option_or (option_map f a) (option_map f b)
mapped_or f None b = refl
mapped_or f (Some x) b = refl

pub mapped_none : {X Y : Type 0} (f : X → Y) (o : Option X) → option_map f o ≡ None → o ≡ None
mapped_none f None h = refl
mapped_none f (Some x) h = absurd (let e : Some (f x) ≡ None = h in cc)

-- what is mapped was there
pub mapped_some : {X Y : Type 0} (f : X → Y) (o : Option X) (y : Y) → option_map f o ≡ Some y → (x : X) × (o ≡ Some x) × (f x ≡ y)
mapped_some f (Some x) y h = (x, refl, same_Some (f x) y h)
mapped_some f None y h = absurd (let e : None ≡ Some y = h in cc)

-- what comes of something came of what is there
pub then_some : {X Y : Type 0} (f : X → Option Y) (o : Option X) (y : Y) → option_and_then f o ≡ Some y → (x : X) × (o ≡ Some x) × (f x ≡ Some y)
then_some f (Some x) y h = (x, refl, h)
then_some f None y h = absurd (let e : None ≡ Some y = h in cc)
