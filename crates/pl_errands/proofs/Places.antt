-- Elements that are numbered by their places: what is found by a number is found by its place.
use Rattle.std.proofs.Common.{◌≡◌, ◌<◌, ◌+◌, ℕ, zero, suc, Bool, true, false, ◌==◌, ◌&&◌, ◌||◌, cond, List, [], ◌∷◌, length, reverse, Option, Some, None, refl, sym, ap, ◌∙◌, arith}
use Rattle.std.proofs.lemmas.Bool.Decides.{nat_tests}
use Rattle.std.proofs.lemmas.Iterator.Adapters.{position_from-zero}
use Rattle.std.proofs.lemmas.List.Folds.{find-append}
use Rattle.std.proofs.lemmas.List.Sums.{sum_by-cons}
use Rattle.std.specs.List.{count_by, filter, find, list_any, position, position_from, range_with_len, slice_get}
use Rattle.std.specs.Option.{option_or}
use Rattle.std.proofs.Math.Bool.{or-false, and-false, and-true}
use Rattle.pl_lemmas.proofs.Options.{or_none}
use Rattle.pl_lemmas.proofs.Numbers.{found_next, counted_next}
use Rattle.pl_lemmas.specs.Words.{some_passes}
use Rattle.pl_errands.proofs.Lists.{Each, any-filter, reverse-cons}

module _ {X : Type 0} (number : X → ℕ) where
  -- the elements are numbered from a start on
  abbrev From : ℕ → List X → Type 0
  From start xs = Each xs (λ place x. number x ≡ start + place)

  from-tail : (start : ℕ) (x : X) (xs : List X) → From start (x ∷ xs) → From (start + 1) xs
  from-tail start x xs h place y is = h (suc place) y is ∙ omega arith

  find_below : (xs : List X) (start t : ℕ) → t < start → From start xs → find (λ x. number x == t) (reverse xs) ≡ None
  find_below [] start t less h = refl
  find_below (x ∷ xs) start t less h =
      let more : t < start + 1 = omega arith in
      let here : number x ≡ start + 0 = h 0 x refl in
      let other : (number x == t) ≡ false = grind (arith, nat_tests) in
      ap (find (λ y. number y == t)) (reverse-cons x xs)
      ∙ find-append (λ y. number y == t) (reverse xs) (x ∷ [])
      ∙ ap (λ (o : Option X). option_or o (cond (number x == t) (Some x) None)) (find_below xs (start + 1) t more (from-tail start x xs h))
      ∙ ap (λ (b : Bool). cond b (Some x) None) other

  find_from : (xs : List X) (start k : ℕ) → From start xs → find (λ x. number x == start + k) (reverse xs) ≡ slice_get xs k
  find_from [] start k h = refl
  find_from (x ∷ xs) start zero h =
      let less : start + 0 < start + 1 = omega arith in
      let here : number x ≡ start + 0 = h 0 x refl in
      let same : (number x == start + 0) ≡ true = grind (arith, nat_tests) in
      ap (find (λ y. number y == start + 0)) (reverse-cons x xs)
      ∙ find-append (λ y. number y == start + 0) (reverse xs) (x ∷ [])
      ∙ ap (λ (o : Option X). option_or o (cond (number x == start + 0) (Some x) None)) (find_below xs (start + 1) (start + 0) less (from-tail start x xs h))
      ∙ ap (λ (b : Bool). cond b (Some x) None) same
  find_from (x ∷ xs) start (suc k) h =
      let here : number x ≡ start + 0 = h 0 x refl in
      let other : (number x == start + suc k) ≡ false = grind (arith, nat_tests) in
      let next : start + suc k ≡ start + 1 + k = omega arith in
      ap (find (λ y. number y == start + suc k)) (reverse-cons x xs)
      ∙ find-append (λ y. number y == start + suc k) (reverse xs) (x ∷ [])
      ∙ ap (λ (b : Bool). option_or (find (λ y. number y == start + suc k) (reverse xs)) (cond b (Some x) None)) other
      ∙ or_none (find (λ y. number y == start + suc k) (reverse xs))
      ∙ ap (λ (n : ℕ). find (λ y. number y == n) (reverse xs)) next
      ∙ find_from xs (start + 1) k (from-tail start x xs h)

  any_below : (p : X → Bool) (xs : List X) (start t : ℕ) → t < start → From start xs → list_any (λ x. p x && (number x == t)) xs ≡ false
  any_below p [] start t less h = refl
  any_below p (x ∷ xs) start t less h =
      let more : t < start + 1 = omega arith in
      let here : number x ≡ start + 0 = h 0 x refl in
      let other : (number x == t) ≡ false = grind (arith, nat_tests) in
      ap (λ (b : Bool). (p x && b) || list_any (λ y. p y && (number y == t)) xs) other
      ∙ ap (λ (b : Bool). b || list_any (λ y. p y && (number y == t)) xs) (and-false (p x))
      ∙ any_below p xs (start + 1) t more (from-tail start x xs h)

  any_from : (p : X → Bool) (xs : List X) (start k : ℕ) → From start xs → list_any (λ x. p x && (number x == start + k)) xs ≡ some_passes p (slice_get xs k)
  any_from p [] start k h = refl
  any_from p (x ∷ xs) start zero h =
      let less : start + 0 < start + 1 = omega arith in
      let here : number x ≡ start + 0 = h 0 x refl in
      let same : (number x == start + 0) ≡ true = grind (arith, nat_tests) in
      ap (λ (b : Bool). (p x && b) || list_any (λ y. p y && (number y == start + 0)) xs) same
      ∙ ap (λ (b : Bool). (p x && true) || b) (any_below p xs (start + 1) (start + 0) less (from-tail start x xs h))
      ∙ or-false (p x && true)
      ∙ and-true (p x)
  any_from p (x ∷ xs) start (suc k) h =
      let here : number x ≡ start + 0 = h 0 x refl in
      let other : (number x == start + suc k) ≡ false = grind (arith, nat_tests) in
      let next : start + suc k ≡ start + 1 + k = omega arith in
      ap (λ (b : Bool). (p x && b) || list_any (λ y. p y && (number y == start + suc k)) xs) other
      ∙ ap (λ (b : Bool). b || list_any (λ y. p y && (number y == start + suc k)) xs) (and-false (p x))
      ∙ ap (λ (n : ℕ). list_any (λ y. p y && (number y == n)) xs) next
      ∙ any_from p xs (start + 1) k (from-tail start x xs h)

  abbrev pub Numbered : List X → Type 0
  Numbered xs = Each xs (λ place x. number x ≡ place)

  numbered_from : (xs : List X) → Numbered xs → From 0 xs
  numbered_from xs h place x is = h place x is ∙ omega arith

  -- what has a number is what stands at that place
  pub find_numbered : (xs : List X) (k : ℕ) → Numbered xs → find (λ x. number x == k) (reverse xs) ≡ slice_get xs k
  find_numbered xs k h =
      let same : k ≡ 0 + k = omega arith in
      ap (λ (n : ℕ). find (λ x. number x == n) (reverse xs)) same ∙ find_from xs 0 k (numbered_from xs h)

  pub any_numbered : (p : X → Bool) (xs : List X) (k : ℕ) → Numbered xs → list_any (λ x. p x && (number x == k)) xs ≡ some_passes p (slice_get xs k)
  any_numbered p xs k h =
      let same : k ≡ 0 + k = omega arith in
      ap (λ (n : ℕ). list_any (λ x. p x && (number x == n)) xs) same ∙ any_from p xs 0 k (numbered_from xs h)

-- ---- tests on numbers and on the elements at these places

module _ {X : Type 0} where
  abbrev Tells : (ℕ → Bool) → (X → Bool) → ℕ → List X → Type 0
  Tells test passes start xs = Each xs (λ place x. test (start + place) ≡ passes x)

  tells-here : (test : ℕ → Bool) (passes : X → Bool) (start : ℕ) (x : X) (xs : List X) → Tells test passes start (x ∷ xs) → test start ≡ passes x
  tells-here test passes start x xs h = ap test (omega arith) ∙ h 0 x refl

  tells-tail : (test : ℕ → Bool) (passes : X → Bool) (start : ℕ) (x : X) (xs : List X) → Tells test passes start (x ∷ xs) → Tells test passes (start + 1) xs
  tells-tail test passes start x xs h place y is = ap test (omega arith) ∙ h (suc place) y is

  first_from : (test among : ℕ → Bool) (passes : X → Bool) (start : ℕ) (xs : List X) → Tells (λ k. among k && test k) passes start xs
      → find test (filter among (range_with_len start (length xs))) ≡ position_from passes start xs
  first_from test among passes start [] h = refl
  first_from test among passes start (x ∷ xs) h =
      let later = filter among (range_with_len (start + 1) (length xs)) in
      let rest = first_from test among passes (start + 1) xs (tells-tail (λ k. among k && test k) passes start x xs h) in
      let here = tells-here (λ k. among k && test k) passes start x xs h in
      found_next (among start) (test start) start test later (position_from passes (start + 1) xs) refl rest
      ∙ ap (λ (b : Bool). cond b (Some start) (position_from passes (start + 1) xs)) here

  -- the first number that passes is the first place
  pub first_place : (test among : ℕ → Bool) (passes : X → Bool) (xs : List X) → Each xs (λ place x. (among place && test place) ≡ passes x)
      → find test (filter among (range_with_len 0 (length xs))) ≡ position passes xs
  first_place test among passes xs h =
      first_from test among passes 0 xs (λ place x is. ap (λ (n : ℕ). among n && test n) (omega arith) ∙ h place x is)
      ∙ sym (position_from-zero passes xs)

  any_of_from : (test : ℕ → Bool) (passes : X → Bool) (start : ℕ) (xs : List X) → Tells test passes start xs
      → list_any test (range_with_len start (length xs)) ≡ list_any passes xs
  any_of_from test passes start [] h = refl
  any_of_from test passes start (x ∷ xs) h =
      ap (λ (b : Bool). b || list_any test (range_with_len (start + 1) (length xs))) (tells-here test passes start x xs h)
      ∙ ap (λ (b : Bool). passes x || b) (any_of_from test passes (start + 1) xs (tells-tail test passes start x xs h))

  -- a number among them passes where an element does
  pub any_place : (test among : ℕ → Bool) (passes : X → Bool) (xs : List X) → Each xs (λ place x. (among place && test place) ≡ passes x)
      → list_any test (filter among (range_with_len 0 (length xs))) ≡ list_any passes xs
  any_place test among passes xs h =
      any-filter test among (range_with_len 0 (length xs))
      ∙ any_of_from (λ k. among k && test k) passes 0 xs (λ place x is. ap (λ (n : ℕ). among n && test n) (omega arith) ∙ h place x is)

  count_from : (among : ℕ → Bool) (passes : X → Bool) (start : ℕ) (xs : List X) → Tells among passes start xs
      → length (filter among (range_with_len start (length xs))) ≡ count_by passes xs
  count_from among passes start [] h = refl
  count_from among passes start (x ∷ xs) h =
      let later = filter among (range_with_len (start + 1) (length xs)) in
      let rest = count_from among passes (start + 1) xs (tells-tail among passes start x xs h) in
      counted_next (among start) start later (count_by passes xs) rest
      ∙ ap (λ (b : Bool). cond b 1 0 + count_by passes xs) (tells-here among passes start x xs h)
      ∙ sym (sum_by-cons (λ y. cond (passes y) 1 0) x xs)

  -- there are as many numbers as elements that pass
  pub count_places : (among : ℕ → Bool) (passes : X → Bool) (xs : List X) → Each xs (λ place x. among place ≡ passes x)
      → length (filter among (range_with_len 0 (length xs))) ≡ count_by passes xs
  count_places among passes xs h =
      count_from among passes 0 xs (λ place x is. ap among (omega arith) ∙ h place x is)
