-- Lists that are reversed, mapped, pushed to or written to, and what is found, counted or tested in them.
use Rattle.std.proofs.Common.{◌≡◌, ◌+◌, ℕ, zero, suc, Bool, true, false, ◌==◌, ◌&&◌, ◌||◌, cond, max, List, [], ◌∷◌, ◌++◌, length, map, reverse, Option, Some, None, option_map, refl, sym, ap, subst, ◌∙◌, arith}
use Rattle.std.proofs.lemmas.Bool.Decides.{nat_tests}
use Rattle.std.proofs.lemmas.List.{reverse-append}
use Rattle.std.proofs.lemmas.List.Folds.{list_any-append}
use Rattle.std.proofs.lemmas.List.Sums.{sum_by-append, sum_by-cons}
use Rattle.std.specs.Bool.{nat_eq}
use Rattle.std.specs.List.{AllByRecursion, count_by, filter, find, list_any, slice_get, slice_set, sum_by}
use Rattle.std.specs.Option.{option_or}
use Rattle.std.proofs.Math.Bool.{or-false, or_comm}
use Rattle.std.proofs.lemmas.Option.{same_Some}
use Rattle.pl_lemmas.proofs.Numbers.{turned_number}
use Rattle.pl_lemmas.proofs.Truth.{neither_left, neither_right, or_either}
use Rattle.pl_value.specs.Inside.{greatest}
use Rattle.pl_lemmas.specs.Words.{has_number, some_passes}

zero_suc : (k : ℕ) → (0 == suc k) ≡ false
zero_suc k = grind (arith, nat_tests)

suc_zero : (k : ℕ) → (suc k == 0) ≡ false
suc_zero k = grind (arith, nat_tests)

-- ---- the other way round

pub reverse-cons : {X : Type 0} (x : X) (xs : List X) → reverse (x ∷ xs) ≡ reverse xs ++ x ∷ []
reverse-cons x xs = reverse-append (x ∷ []) xs

pub sum-reverse : {X : Type 0} (f : X → ℕ) (xs : List X) → sum_by f (reverse xs) ≡ sum_by f xs
sum-reverse f [] = refl
sum-reverse f (x ∷ xs) =
    let one : sum_by f (x ∷ []) ≡ f x + sum_by f [] = sum_by-cons f x [] in
    let more : sum_by f (x ∷ xs) ≡ f x + sum_by f xs = sum_by-cons f x xs in
    let rest : sum_by f (reverse xs) ≡ sum_by f xs = sum-reverse f xs in
    let none : sum_by f [] ≡ 0 = refl in
    ap (sum_by f) (reverse-cons x xs)
    ∙ sum_by-append f (reverse xs) (x ∷ [])
    ∙ omega arith

pub greatest-push : {X : Type 0} (f : X → ℕ) (xs : List X) (y : X) → greatest (map f (xs ++ y ∷ [])) ≡ max (f y) (greatest (map f xs))
greatest-push f [] y = refl
greatest-push f (x ∷ xs) y =
    let rest = greatest-push f xs y in
    ap (max (f x)) rest ∙ turned (f x) (f y) (greatest (map f xs))
  where
    turned : (a b c : ℕ) → max a (max b c) ≡ max b (max a c)
    turned a b c = grind arith

pub greatest-reverse : {X : Type 0} (f : X → ℕ) (xs : List X) → greatest (map f (reverse xs)) ≡ greatest (map f xs)
greatest-reverse f [] = refl
greatest-reverse f (x ∷ xs) =
    ap (λ ys. greatest (map f ys)) (reverse-cons x xs) ∙ greatest-push f (reverse xs) x
    ∙ ap (max (f x)) (greatest-reverse f xs)

-- ---- mapped

find_next : {X Y : Type 0} (f : X → Y) (b : Bool) (x : X) (o : Option Y) (last : Option X) → o ≡ option_map f last
    → cond b (Some (f x)) o ≡ option_map f (cond b (Some x) last)
find_next f true x o last e = refl
find_next f false x o last e = e

pub find-map : {X Y : Type 0} (p : Y → Bool) (f : X → Y) (xs : List X) → find p (map f xs) ≡ option_map f (find (λ x. p (f x)) xs)
find-map p f [] = refl
find-map p f (x ∷ xs) = find_next f (p (f x)) x (find p (map f xs)) (find (λ y. p (f y)) xs) (find-map p f xs)

filter_next : {X Y : Type 0} (f : X → Y) (b : Bool) (x : X) (ys : List Y) (xs : List X) → ys ≡ map f xs
    → cond b (f x ∷ ys) ys ≡ map f (cond b (x ∷ xs) xs)
filter_next {Y = Y} f true x ys xs e = ap (λ (l : List Y). f x ∷ l) e
filter_next f false x ys xs e = e

pub filter-map : {X Y : Type 0} (p : Y → Bool) (f : X → Y) (xs : List X) → filter p (map f xs) ≡ map f (filter (λ x. p (f x)) xs)
filter-map p f [] = refl
filter-map p f (x ∷ xs) = filter_next f (p (f x)) x (filter p (map f xs)) (filter (λ y. p (f y)) xs) (filter-map p f xs)

pub map-length : {X Y : Type 0} (f : X → Y) (xs : List X) → length (map f xs) ≡ length xs
map-length f [] = refl
map-length f (x ∷ xs) = ap suc (map-length f xs)

-- a list that is mapped and read the other way round
pub map-reversed : {X Y : Type 0} (f : X → Y) (xs : List X) → map f (reverse xs) ≡ reverse (map f xs)
map-reversed f [] = refl
map-reversed {X = X} {Y = Y} f (x ∷ xs) =
    ap (map f) (reverse-append (x ∷ []) xs) ∙ mapped (reverse xs) ∙ ap (λ (ys : List Y). ys ++ f x ∷ []) (map-reversed f xs)
    ∙ sym (reverse-append (f x ∷ []) (map f xs))
  where
    mapped : (ys : List X) → map f (ys ++ x ∷ []) ≡ map f ys ++ f x ∷ []
    mapped [] = refl
    mapped (y ∷ ys) = ap (λ (zs : List Y). f y ∷ zs) (mapped ys)

-- ---- filtered

any_next : (q p r rest : Bool) → rest ≡ r → (cond q (p || rest) rest) ≡ ((q && p) || r)
any_next true p r rest e = ap (λ (b : Bool). p || b) e
any_next false p r rest e = e

any_cond : {X : Type 0} (p : X → Bool) (q : Bool) (x : X) (xs : List X) → list_any p (cond q (x ∷ xs) xs) ≡ cond q (p x || list_any p xs) (list_any p xs)
any_cond p true x xs = refl
any_cond p false x xs = refl

pub any-filter : {X : Type 0} (p q : X → Bool) (xs : List X) → list_any p (filter q xs) ≡ list_any (λ x. q x && p x) xs
any-filter p q [] = refl
any-filter p q (x ∷ xs) =
    any_cond p (q x) x (filter q xs)
    ∙ any_next (q x) (p x) (list_any (λ y. q y && p y) xs) (list_any p (filter q xs)) (any-filter p q xs)

-- ---- the same at each place

-- something holds of each element with its place
abbrev pub Each : {X : Type 0} → List X → (ℕ → X → Type 0) → Type 0
Each {X} xs P = (place : ℕ) (x : X) → slice_get xs place ≡ Some x → P place x

pub each-tail : {X : Type 0} (x : X) (xs : List X) (P : ℕ → X → Type 0) → Each (x ∷ xs) P → Each xs (λ place. P (suc place))
each-tail x xs P h place y is = h (suc place) y is

pub any-same : {X : Type 0} (p q : X → Bool) (xs : List X) → Each xs (λ place x. p x ≡ q x) → list_any p xs ≡ list_any q xs
any-same p q [] h = refl
any-same p q (x ∷ xs) h =
    ap (λ (b : Bool). b || list_any p xs) (h 0 x refl)
    ∙ ap (λ (b : Bool). q x || b) (any-same p q xs (each-tail x xs (λ place y. p y ≡ q y) h))

pub count-same : {X : Type 0} (p q : X → Bool) (xs : List X) → Each xs (λ place x. p x ≡ q x) → count_by p xs ≡ count_by q xs
count-same p q [] h = refl
count-same p q (x ∷ xs) h =
    let rest = count-same p q xs (each-tail x xs (λ place y. p y ≡ q y) h) in
    sum_by-cons (λ y. cond (p y) 1 0) x xs
    ∙ ap (λ (b : Bool). cond b 1 0 + count_by p xs) (h 0 x refl)
    ∙ ap (λ (n : ℕ). cond (q x) 1 0 + n) rest
    ∙ sym (sum_by-cons (λ y. cond (q y) 1 0) x xs)

pub each-push : {X : Type 0} (xs : List X) (y : X) (P : ℕ → X → Type 0) → Each xs P → P (length xs) y → Each (xs ++ y ∷ []) P
each-push [] y P h here zero x is = subst (P 0) (same_Some y x is) here
each-push [] y P h here (suc place) x is = absurd (let e : None ≡ Some x = is in cc)
each-push (z ∷ xs) y P h here zero x is = h 0 x is
each-push (z ∷ xs) y P h here (suc place) x is =
    each-push xs y (λ at. P (suc at)) (each-tail z xs P h) here place x is

pub each-set : {X : Type 0} (xs : List X) (t : ℕ) (y : X) (P : ℕ → X → Type 0) → Each xs P → P t y → Each (slice_set xs t y) P
each-set [] t y P h here place x is = absurd (let e : None ≡ Some x = is in cc)
each-set (z ∷ xs) zero y P h here zero x is = subst (P 0) (same_Some y x is) here
each-set (z ∷ xs) zero y P h here (suc place) x is = h (suc place) x is
each-set (z ∷ xs) (suc t) y P h here zero x is = h 0 x is
each-set (z ∷ xs) (suc t) y P h here (suc place) x is =
    each-set xs t y (λ at. P (suc at)) (each-tail z xs P h) here place x is

-- ---- numbers that stand once

-- a number that is not there is apart from each
pub apart_from : (n : ℕ) (numbers : List ℕ) → has_number numbers n ≡ false → AllByRecursion (λ other. nat_eq n other ≡ false) numbers
apart_from n [] none = tt
apart_from n (other ∷ numbers) none = (
  turned_number n other ∙ neither_left (other == n) (has_number numbers n) none,
  apart_from n numbers (neither_right (other == n) (has_number numbers n) none),
)

-- a number that is apart from each is not there
pub none_apart : (n : ℕ) (numbers : List ℕ) → AllByRecursion (λ other. nat_eq n other ≡ false) numbers → has_number numbers n ≡ false
none_apart n [] apart = refl
none_apart n (other ∷ numbers) apart =
    λ i. (sym (turned_number n other) ∙ apart.0) i || none_apart n numbers apart.1 i

-- ---- one more element

pub get-push : {X : Type 0} (xs : List X) (y : X) (k : ℕ) → slice_get (xs ++ y ∷ []) k ≡ option_or (slice_get xs k) (cond (length xs == k) (Some y) None)
get-push [] y zero = refl
get-push {X = X} [] y (suc k) = ap (λ (b : Bool). cond b (Some y) None) (sym (zero_suc k))
get-push (x ∷ xs) y zero = refl
get-push {X = X} (x ∷ xs) y (suc k) =
    let same : (suc (length xs) == suc k) ≡ (length xs == k) = grind (arith, nat_tests) in
    get-push xs y k ∙ ap (λ (b : Bool). option_or (slice_get xs k) (cond b (Some y) None)) (sym same)

pub passes-push : {X : Type 0} (p : X → Bool) (xs : List X) (y : X) (k : ℕ) → p y ≡ false → some_passes p (slice_get (xs ++ y ∷ []) k) ≡ some_passes p (slice_get xs k)
passes-push p [] y zero fails = fails
passes-push p [] y (suc k) fails = refl
passes-push p (x ∷ xs) y zero fails = refl
passes-push p (x ∷ xs) y (suc k) fails = passes-push p xs y k fails

-- ---- one element written

pub set-length : {X : Type 0} (xs : List X) (t : ℕ) (y : X) → length (slice_set xs t y) ≡ length xs
set-length [] t y = refl
set-length (x ∷ xs) zero y = refl
set-length (x ∷ xs) (suc t) y = ap suc (set-length xs t y)

pub map-set_same : {X Y : Type 0} (f : X → Y) (xs : List X) (t : ℕ) (was y : X) → slice_get xs t ≡ Some was → f y ≡ f was → map f (slice_set xs t y) ≡ map f xs
map-set_same f [] t was y is e = refl
map-set_same {X = X} {Y = Y} f (x ∷ xs) zero was y is e = ap (λ (z : Y). z ∷ map f xs) (e ∙ ap f (sym (same_Some x was is)))
map-set_same {Y = Y} f (x ∷ xs) (suc t) was y is e = ap (λ (zs : List Y). f x ∷ zs) (map-set_same f xs t was y is e)

pub get-set_same : {X Y : Type 0} (f : X → Y) (xs : List X) (t : ℕ) (was y : X) → slice_get xs t ≡ Some was → f y ≡ f was → (k : ℕ) → option_map f (slice_get (slice_set xs t y) k) ≡ option_map f (slice_get xs k)
get-set_same f [] t was y is e k = refl
get-set_same {Y = Y} f (x ∷ xs) zero was y is e zero = ap (λ (z : Y). Some z) (e ∙ ap f (sym (same_Some x was is)))
get-set_same f (x ∷ xs) zero was y is e (suc k) = refl
get-set_same f (x ∷ xs) (suc t) was y is e zero = refl
get-set_same f (x ∷ xs) (suc t) was y is e (suc k) = get-set_same f xs t was y is e k

-- what an element passes after it was written: b, or what it passed before
pub passes-set : {X : Type 0} (p : X → Bool) (b : Bool) (xs : List X) (t : ℕ) (was y : X) → slice_get xs t ≡ Some was → p y ≡ (b || p was) → (k : ℕ) → some_passes p (slice_get (slice_set xs t y) k) ≡ (((t == k) && b) || some_passes p (slice_get xs k))
passes-set p b [] t was y is e k = absurd (let fails : None ≡ Some was = is in cc)
passes-set p b (x ∷ xs) zero was y is e zero = e ∙ ap (λ z. b || p z) (sym (same_Some x was is))
passes-set p b (x ∷ xs) zero was y is e (suc k) =
    ap (λ (c : Bool). (c && b) || some_passes p (slice_get xs k)) (sym (zero_suc k))
passes-set p b (x ∷ xs) (suc t) was y is e zero = ap (λ (c : Bool). (c && b) || p x) (sym (suc_zero t))
passes-set p b (x ∷ xs) (suc t) was y is e (suc k) =
    let same : (suc t == suc k) ≡ (t == k) = grind (arith, nat_tests) in
    passes-set p b xs t was y is e k ∙ ap (λ (c : Bool). (c && b) || some_passes p (slice_get xs k)) (sym same)

pub any-set : {X : Type 0} (q : X → Bool) (xs : List X) (t : ℕ) (was y : X) → slice_get xs t ≡ Some was → q was ≡ false → list_any q (slice_set xs t y) ≡ (q y || list_any q xs)
any-set q [] t was y is fails = absurd (let none : None ≡ Some was = is in cc)
any-set q (x ∷ xs) zero was y is fails =
    ap (λ (b : Bool). q y || (b || list_any q xs)) (sym (ap q (same_Some x was is) ∙ fails))
any-set q (x ∷ xs) (suc t) was y is fails =
    ap (λ (b : Bool). q x || b) (any-set q xs t was y is fails)
    ∙ or_either (q x) (q y) (list_any q xs)
    ∙ ap (λ (b : Bool). b || list_any q xs) (or_comm (q x) (q y))
    ∙ sym (or_either (q y) (q x) (list_any q xs))

-- an element that passes is found
pub any-found : {X : Type 0} (q : X → Bool) (xs : List X) (t : ℕ) (x : X) → slice_get xs t ≡ Some x → q x ≡ true → (y : X) × (find q xs ≡ Some y)
any-found q [] t x is holds = absurd (let none : None ≡ Some x = is in cc)
any-found q (z ∷ xs) zero x is holds = (z, ap (λ (b : Bool). cond b (Some z) (find q xs)) (ap q (same_Some z x is) ∙ holds))
any-found {X = X} q (z ∷ xs) (suc t) x is holds = by (q z) (any-found q xs t x is holds)
  where
    by : (b : Bool) → ((y : X) × (find q xs ≡ Some y)) → (y : X) × (cond b (Some z) (find q xs) ≡ Some y)
    by true found = (z, refl)
    by false found = found

pub get-set : {X : Type 0} (xs : List X) (t : ℕ) (was y : X) → slice_get xs t ≡ Some was → (k : ℕ) → slice_get (slice_set xs t y) k ≡ cond (t == k) (Some y) (slice_get xs k)
get-set [] t was y is k = absurd (let none : None ≡ Some was = is in cc)
get-set (x ∷ xs) zero was y is zero = refl
get-set {X = X} (x ∷ xs) zero was y is (suc k) = ap (λ (b : Bool). cond b (Some y) (slice_get xs k)) (sym (zero_suc k))
get-set {X = X} (x ∷ xs) (suc t) was y is zero = ap (λ (b : Bool). cond b (Some y) (Some x)) (sym (suc_zero t))
get-set {X = X} (x ∷ xs) (suc t) was y is (suc k) =
    let same : (suc t == suc k) ≡ (t == k) = grind (arith, nat_tests) in
    get-set xs t was y is k ∙ ap (λ (b : Bool). cond b (Some y) (slice_get xs k)) (sym same)

pub option_map-option_or : {X Y : Type 0} (f : X → Y) (o : Option X) (b : Bool) (x : X) → option_map f (option_or o (cond b (Some x) None)) ≡ option_or (option_map f o) (cond b (Some (f x)) None)
option_map-option_or f (Some y) b x = refl
option_map-option_or f None true x = refl
option_map-option_or f None false x = refl

pub any-push : {X : Type 0} (q : X → Bool) (xs : List X) (y : X) → q y ≡ false → list_any q (xs ++ y ∷ []) ≡ list_any q xs
any-push q xs y fails =
    list_any-append q xs (y ∷ [])
    ∙ ap (λ (b : Bool). list_any q xs || (b || false)) fails
    ∙ or-false (list_any q xs)
