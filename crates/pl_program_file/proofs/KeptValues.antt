-- What is filled is a value of a property, and an object that was no secret stays none.
use Rattle.std.proofs.Common.{◌≡◌, ℕ, zero, suc, ◌<◌, ◌-◌, Bool, true, false, not, ◌&&◌, ◌||◌, cond, nat_le, bytes_eq, List, [], ◌∷◌, take, length, get_or, Option, Some, None, Result, Ok, Err, option_and_then, refl, sym, ap, subst, ◌∙◌, arith}
use Rattle.std.proofs.lemmas.Bool.{and_parts, and_from}
use Rattle.std.proofs.lemmas.List.Folds.{list_all-map}
use Rattle.std.proofs.lemmas.Slice.Eq.{bytes_eq-Decides}
use Rattle.std.specs.List.{list_all}
use Rattle.pl_value.proofs.FieldParts.{Pairs}
use Rattle.pl_value.specs.Inside.{depth}
use Rattle.pl_value.specs.IsValue.{is_unmarked, may_stand_under, each_may_stand}
use Rattle.pl_value.specs.Keys.{are_all_below, are_rising, is_below, keys_of}
use Rattle.pl_value.specs.Marks.{secret_key}
use Rattle.pl_value.specs.declared.value.Value.{Value, roll-Value, out-Value, roll-out-Value}
use Rattle.pl_value.specs.declared.value.Value.TheOpen.{Value-F}
use Rattle.pl_value.specs.declared.value.Value.TheVariants as value
use Rattle.pl_program_file.proofs.Levels.{filled-Text, filled-Unknown}
use Rattle.pl_program_file.specs.Filled.{Reference, filled, fits, fitting, if_fits, or_missing, text_or_referred, under, value_of, known_at}
use Rattle.pl_program_file.specs.Reference.{reference_in}
use Rattle.pl_program_file.specs.declared.fault.Unfilled.{Unfilled}
use Rattle.pl_program_file.specs.declared.filling.Place.{Place}
use Rattle.pl_program_file.specs.declared.known.Known.{Known}

-- ---- keys

list_all-get_or : {X : Type 0} (p : X → Bool) (xs : List X) (i : ℕ) (d : X) → list_all p xs ≡ true → i < length xs → p (get_or xs i d) ≡ true
list_all-get_or p [] i d all here = absurd (omega arith)
list_all-get_or p (x ∷ xs) zero d all here = (and_parts (p x) (list_all p xs) all).0
list_all-get_or p (x ∷ xs) (suc i) d all here = list_all-get_or p xs i d (and_parts (p x) (list_all p xs) all).1 (omega arith)

keys_below : (fields : Pairs) (i : ℕ) (d : List ℕ × Value) → are_rising (keys_of fields) ≡ true → i < length fields
    → list_all (λ key. is_below key (get_or fields i d).0) (keys_of (take i fields)) ≡ true
keys_below [] i d rising here = absurd (omega arith)
keys_below (field ∷ more) zero d rising here = refl
keys_below (field ∷ more) (suc i) d rising here =
    let parts = and_parts (list_all (is_below field.0) (keys_of more)) (are_rising (keys_of more)) rising in
    and_from _ _
    (list_all-get_or (λ (other : List ℕ × Value). is_below field.0 other.0) more i d
    (sym (list_all-map (is_below field.0) (λ (other : List ℕ × Value). other.0) more) ∙ parts.0) (omega arith))
    (keys_below more i d parts.1 (omega arith))

-- the next key is above those of the fields that were filled
pub next_above : (made fields : Pairs) (i : ℕ) (d : List ℕ × Value) → are_rising (keys_of fields) ≡ true → i < length fields
    → keys_of made ≡ keys_of (take i fields) → are_all_below made (get_or fields i d).0 ≡ true
next_above made fields i d rising here same =
    sym (list_all-map (λ key. is_below key (get_or fields i d).0) (λ (field : List ℕ × Value). field.0) made)
    ∙ ap (list_all (λ key. is_below key (get_or fields i d).0)) same ∙ keys_below fields i d rising here

-- ---- the secret's key

unmarked_there : (one : Value) → may_stand_under secret_key one ≡ true → is_unmarked one ≡ true
unmarked_there one may =
    let same : bytes_eq secret_key secret_key ≡ true = (bytes_eq-Decides secret_key secret_key).1 refl in
    sym (ap (λ b. not b || is_unmarked one) same) ∙ may

fits_unmarked : (marked : Bool) (deep : Bool) (one : Value) → marked ≡ true → (deep && (not marked || may_stand_under secret_key one)) ≡ true → is_unmarked one ≡ true
fits_unmarked true deep one is fit = unmarked_there one (and_parts deep (may_stand_under secret_key one) fit).1
fits_unmarked false deep one is fit = cc

module _ (known : List Known) (preview : Bool) (place : Place) (marked : place.marked ≡ true) where
  if_fits_unmarked : (found : Value) (test : Bool) (made : Value) (reference : Reference) → (test ≡ true → is_unmarked found ≡ true)
      → or_missing preview reference (cond test (Some found) None) ≡ Ok made → is_unmarked made ≡ true
  if_fits_unmarked found true made reference unmarked is = let same : found ≡ made = cc in sym (ap is_unmarked same) ∙ unmarked refl
  if_fits_unmarked found false made reference unmarked is = none_unmarked preview is
    where
      none_unmarked : (p : Bool) → or_missing p reference None ≡ Ok made → is_unmarked made ≡ true
      none_unmarked true e = let same : value.Unknown ≡ made = cc in sym (ap is_unmarked same)
      none_unmarked false e = cc

  referred_unmarked : (reference : Reference) (row : Option Value) (made : Value)
      → or_missing preview reference (option_and_then (if_fits place) row) ≡ Ok made → is_unmarked made ≡ true
  referred_unmarked reference (Some found) made is =
      if_fits_unmarked found (fits place found) made reference (λ fit. fits_unmarked place.marked (nat_le (depth found) place.levels) found marked fit) is
  referred_unmarked reference None made is = if_fits_unmarked value.Unknown false made reference (λ never. refl) is

  abbrev StaysUnmarked : Value → Type 0
  StaysUnmarked one = is_unmarked one ≡ true → (made : Value) → filled known preview one place ≡ Ok made → is_unmarked made ≡ true

  text_unmarked : (text : List ℕ) (told : Option Reference) (made : Value) → is_unmarked (value.Text text) ≡ true
      → text_or_referred known preview place text told ≡ Ok made → is_unmarked made ≡ true
  text_unmarked text None made plain is = let same : value.Text text ≡ made = cc in sym (ap is_unmarked same) ∙ plain
  text_unmarked text (Some reference) made plain is = referred_unmarked reference (option_and_then (value_of reference.1) (known_at reference.0 known)) made is

  unmarked_level : (x : Value-F Value) → StaysUnmarked (roll-Value x)
  unmarked_level Value-F.Null = subst StaysUnmarked (sym value.rolls-Null) (λ h made is. cc)
  unmarked_level (Value-F.Flag flag) = subst StaysUnmarked (sym (value.rolls-Flag flag)) (λ h made is. cc)
  unmarked_level (Value-F.Whole number) = subst StaysUnmarked (sym (value.rolls-Whole number)) (λ h made is. cc)
  unmarked_level (Value-F.Text text) =
      subst StaysUnmarked (sym (value.rolls-Text text))
      (λ h made is. text_unmarked text (reference_in text) made h (sym (filled-Text known preview text place) ∙ is))
  unmarked_level (Value-F.List values) = subst StaysUnmarked (sym (value.rolls-List values)) (λ h made is. cc)
  unmarked_level (Value-F.Object fields) = subst StaysUnmarked (sym (value.rolls-Object fields)) (λ h made is. cc)
  unmarked_level (Value-F.Secret inner) = subst StaysUnmarked (sym (value.rolls-Secret inner)) (λ h made is. cc)
  unmarked_level Value-F.Unknown =
      subst StaysUnmarked (sym value.rolls-Unknown)
      (λ h made is. let told : ◌≡◌ {A = Result Value Unfilled} (Ok value.Unknown) (Ok made) = sym (filled-Unknown known preview place) ∙ is in
      let same : value.Unknown ≡ made = cc in sym (ap is_unmarked same))

  pub filled_unmarked : (one : Value) → is_unmarked one ≡ true → (made : Value) → filled known preview one place ≡ Ok made → is_unmarked made ≡ true
  filled_unmarked one = subst StaysUnmarked (roll-out-Value one) (unmarked_level (out-Value one))

-- what may stand under a key may stand there filled
may_stand_filled : (known : List Known) (preview : Bool) (levels : ℕ) (key : List ℕ) (one made : Value) → may_stand_under key one ≡ true
    → filled known preview one (under key levels) ≡ Ok made → may_stand_under key made ≡ true
may_stand_filled known preview levels key one made may is = by_case (bytes_eq key secret_key) refl may
  where
    by_case : (t : Bool) → bytes_eq key secret_key ≡ t → (not t || is_unmarked one) ≡ true → (not t || is_unmarked made) ≡ true
    by_case false other plain = refl
    by_case true same plain = filled_unmarked known preview (under key levels) same one plain made is

-- the next field may stand where it does
pub next_unmarked : (known : List Known) (preview : Bool) (levels : ℕ) (fields : Pairs) (i : ℕ) (d : List ℕ × Value) (made : Value)
    → each_may_stand fields ≡ true → i < length fields → filled known preview (get_or fields i d).1 (under (get_or fields i d).0 levels) ≡ Ok made
    → may_stand_under (get_or fields i d).0 made ≡ true
next_unmarked known preview levels fields i d made all here is =
    may_stand_filled known preview levels (get_or fields i d).0 (get_or fields i d).1 made
    (list_all-get_or (λ (field : List ℕ × Value). may_stand_under field.0 field.1) fields i d all here) is
