-- Lists of words seen as lists of their bytes, cut at the first word that passes a test.
use Rattle.std.proofs.Common.{◌≡◌, ℕ, ◌+◌, ◌-◌, ◌≤◌, Bool, true, false, cond, not, nat_lt, List, [], ◌∷◌, Some, None, length, map, position, take, drop, refl, ap, sym, arith}
use Rattle.std.specs.List.{after_first, before_first, position_or_len, prefix_len}
use Rattle.std.proofs.lemmas.Bool.{ltb-false}
use Rattle.std.proofs.lemmas.List.{drop-map, length-map, take-map, take_rest}
use Rattle.std.proofs.lemmas.List.Sums.{prefix_len-le-length}
use Rattle.std.proofs.Math.ListN.{drop_of_length-le}
use Rattle.std.proofs.Math.Seq.{take-length}

-- as many images pass from the front on as there are elements whose image passes
prefix_len-map : {X Y : Type 0} (p : Y → Bool) (f : X → Y) → (xs : List X) → prefix_len p (map f xs) ≡ prefix_len (λ x. p (f x)) xs
prefix_len-map p f [] = refl
prefix_len-map p f (x ∷ xs) = ap (λ n. cond (p (f x)) (1 + n) 0) (prefix_len-map p f xs)

-- the first image that passes stands where the first element does whose image passes
position_or_len-map : {X Y : Type 0} (p : Y → Bool) (f : X → Y) → (xs : List X) → position_or_len p (map f xs) ≡ position_or_len (λ x. p (f x)) xs
position_or_len-map p f xs = prefix_len-map (λ y. not (p y)) f xs

-- the same for `position`
pub position-map : {X Y : Type 0} (p : Y → Bool) (f : X → Y) → (xs : List X) → position p (map f xs) ≡ position (λ x. p (f x)) xs
position-map p f xs = rw (position_or_len-map p f xs, length-map)

found_at : (test : Bool) (n place : ℕ) → Some place ≡ cond test (Some n) None → place ≡ n
found_at true n place h = cc
found_at false n place h = cc

not_found : (test : Bool) (n : ℕ) → None ≡ cond test (Some n) None → test ≡ false
not_found true n h = cc
not_found false n h = refl

-- where a first element was found, the images before it are those before the first image
pub take-before_first : {X Y : Type 0} (p : Y → Bool) (f : X → Y) → (xs : List X) (place : ℕ) → Some place ≡ position (λ x. p (f x)) xs → map f (take place xs) ≡ before_first p (map f xs)
take-before_first p f xs place h =
    let e : place ≡ position_or_len (λ x. p (f x)) xs = found_at _ _ place h in
    rw (e, position_or_len-map p f xs, take-map)

-- and those behind it are those behind the first image
pub drop-after_first : {X Y : Type 0} (p : Y → Bool) (f : X → Y) → (xs : List X) (place : ℕ) → Some place ≡ position (λ x. p (f x)) xs → map f (take (length xs - (place + 1)) (drop (place + 1) xs)) ≡ after_first p (map f xs)
drop-after_first p f xs place h =
    let e : place ≡ position_or_len (λ x. p (f x)) xs = found_at _ _ place h in
    rw (take_rest xs (place + 1), e, position_or_len-map p f xs, drop-map)

none_passes : {X Y : Type 0} (p : Y → Bool) (f : X → Y) → (xs : List X) → None ≡ position (λ x. p (f x)) xs → position_or_len p (map f xs) ≡ length (map f xs)
none_passes p f xs h =
    let most : position_or_len p (map f xs) ≤ length (map f xs) = prefix_len-le-length _ (map f xs) in
    let test : nat_lt (position_or_len (λ x. p (f x)) xs) (length xs) ≡ false = not_found _ _ h in
    let least : length xs ≤ position_or_len (λ x. p (f x)) xs = ltb-false _ _ test in
    omega (arith, position_or_len-map p f xs, length-map xs f)

-- where no element was found, all images stand before the first image
pub all-before_first : {X Y : Type 0} (p : Y → Bool) (f : X → Y) → (xs : List X) → None ≡ position (λ x. p (f x)) xs → map f xs ≡ before_first p (map f xs)
all-before_first p f xs h = rw (none_passes p f xs h) (sym (take-length (map f xs)))

-- and none behind it
pub none-after_first : {X Y : Type 0} (p : Y → Bool) (f : X → Y) → (xs : List X) → None ≡ position (λ x. p (f x)) xs → [] ≡ after_first p (map f xs)
none-after_first p f xs h =
    let end : length (map f xs) ≤ position_or_len p (map f xs) + 1 = omega (arith, none_passes p f xs h) in
    sym (drop_of_length-le (map f xs) end)

pub ruleset slice_rules = (length-map, take-map)
