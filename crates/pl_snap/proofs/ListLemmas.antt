-- Lists side by side, and the first element of a kind.
use Rattle.std.proofs.Common.{◌≡◌, ℕ, zero, suc, ◌+◌, ◌<◌, Bool, true, false, cond, Option, None, Some, option_and_then, option_map, List, [], ◌∷◌, ◌++◌, length, map, find, refl, ap, sym, subst, ◌∙◌, arith}
use Rattle.std.specs.Prelude.{position, slice_get, slice_set, remove}
use Rattle.std.specs.List.{position_from}
use Rattle.std.specs.Option.{option_or}
use Rattle.std.proofs.lemmas.Iterator.Adapters.{position_from-zero}
use Rattle.pl_snap.specs.Lists.{changed_at, changed_first, without_first, zip_by}

-- the place of the first element that passes a test
abbrev pub place : {X : Type 0} → (X → Bool) → List X → Option ℕ
place test [] = None
place test (x ∷ xs) = cond (test x) (Some 0) (option_map suc (place test xs))

shifted : (start : ℕ) (later : Option ℕ) → option_map (λ k. start + 1 + k) later ≡ option_map (λ k. start + k) (option_map suc later)
shifted start None = refl
shifted start (Some k) = ap Some (omega arith)

place_step : (b : Bool) (start : ℕ) (first later : Option ℕ) → first ≡ option_map (λ k. start + 1 + k) later → cond b (Some start) first ≡ option_map (λ k. start + k) (cond b (Some 0) (option_map suc later))
place_step true start first later e = ap Some (omega arith)
place_step false start first later e = e ∙ shifted start later

place_from : {X : Type 0} (test : X → Bool) (start : ℕ) (xs : List X) → position_from test start xs ≡ option_map (λ k. start + k) (place test xs)
place_from test start [] = refl
place_from test start (x ∷ xs) = place_step (test x) start (position_from test (start + 1) xs) (place test xs) (place_from test (start + 1) xs)

unshifted : (found : Option ℕ) → option_map (λ k. 0 + k) found ≡ found
unshifted None = refl
unshifted (Some k) = ap Some (omega arith)

-- std's place and this one
pub position-place : {X : Type 0} (test : X → Bool) (xs : List X) → position test xs ≡ place test xs
position-place test xs = position_from-zero test xs ∙ place_from test 0 xs ∙ unshifted (place test xs)

-- ---- nothing passes

without-none_step : {X : Type 0} (test : X → Bool) (b : Bool) (x : X) (xs : List X) → cond b (Some x) (find test xs) ≡ None → (find test xs ≡ None → without_first test xs ≡ xs) → cond b xs (x ∷ without_first test xs) ≡ x ∷ xs
without-none_step test true x xs e rest = absurd (cc)
without-none_step test false x xs e rest = ap (λ ys. x ∷ ys) (rest e)

pub without-none : {X : Type 0} (test : X → Bool) (xs : List X) → find test xs ≡ None → without_first test xs ≡ xs
without-none test [] e = refl
without-none test (x ∷ xs) e = without-none_step test (test x) x xs e (without-none test xs)

changed-none_step : {X : Type 0} (test : X → Bool) (change : X → X) (b : Bool) (x : X) (xs : List X) → cond b (Some x) (find test xs) ≡ None → (find test xs ≡ None → changed_first test change xs ≡ xs) → cond b (change x ∷ xs) (x ∷ changed_first test change xs) ≡ x ∷ xs
changed-none_step test change true x xs e rest = absurd (cc)
changed-none_step test change false x xs e rest = ap (λ ys. x ∷ ys) (rest e)

pub changed-none : {X : Type 0} (test : X → Bool) (change : X → X) (xs : List X) → find test xs ≡ None → changed_first test change xs ≡ xs
changed-none test change [] e = refl
changed-none test change (x ∷ xs) e = changed-none_step test change (test x) x xs e (changed-none test change xs)

-- ---- two lists side by side

pub length-zip : {X Y Z : Type 0} (f : X → Y → Z) (xs : List X) (ys : List Y) → length xs ≡ length ys → length (zip_by f xs ys) ≡ length ys
length-zip f [] [] e = refl
length-zip f [] (y ∷ ys) e = absurd (omega arith)
length-zip f (x ∷ xs) [] e = absurd (omega arith)
length-zip f (x ∷ xs) (y ∷ ys) e = ap suc (length-zip f xs ys (omega arith))

-- what depends on the second list alone
pub map_second : {X Y Z W : Type 0} (f : X → Y → Z) (g : Z → W) (v : Y → W) → ((x : X) (y : Y) → g (f x y) ≡ v y) → (xs : List X) (ys : List Y) → length xs ≡ length ys → map g (zip_by f xs ys) ≡ map v ys
map_second f g v h [] [] e = refl
map_second f g v h [] (y ∷ ys) e = absurd (omega arith)
map_second f g v h (x ∷ xs) [] e = absurd (omega arith)
map_second f g v h (x ∷ xs) (y ∷ ys) e = λ i. h x y i ∷ map_second f g v h xs ys (omega arith) i

-- what depends on the first list alone
pub map_first : {X Y Z W : Type 0} (f : X → Y → Z) (g : Z → W) (u : X → W) → ((x : X) (y : Y) → g (f x y) ≡ u x) → (xs : List X) (ys : List Y) → length xs ≡ length ys → map g (zip_by f xs ys) ≡ map u xs
map_first f g u h [] [] e = refl
map_first f g u h [] (y ∷ ys) e = absurd (omega arith)
map_first f g u h (x ∷ xs) [] e = absurd (omega arith)
map_first f g u h (x ∷ xs) (y ∷ ys) e = λ i. h x y i ∷ map_first f g u h xs ys (omega arith) i

pub get_map : {X Y : Type 0} (g : X → Y) (xs : List X) (k : ℕ) → option_map g (slice_get xs k) ≡ slice_get (map g xs) k
get_map g [] k = refl
get_map g (x ∷ xs) zero = refl
get_map g (x ∷ xs) (suc k) = get_map g xs k

pub zip-append : {X Y Z : Type 0} (f : X → Y → Z) (xs : List X) (ys : List Y) (x : X) (y : Y) → length xs ≡ length ys → zip_by f (xs ++ x ∷ []) (ys ++ y ∷ []) ≡ zip_by f xs ys ++ f x y ∷ []
zip-append f [] [] x y e = refl
zip-append f [] (b ∷ ys) x y e = absurd (omega arith)
zip-append f (a ∷ xs) [] x y e = absurd (omega arith)
zip-append f (a ∷ xs) (b ∷ ys) x y e = ap (λ zs. f a b ∷ zs) (zip-append f xs ys x y (omega arith))

-- ---- the first element of a kind, where the first list tells the kind

place_within_step : (b : Bool) (later : Option ℕ) (k n : ℕ) → cond b (Some 0) (option_map suc later) ≡ Some k → ((j : ℕ) → later ≡ Some j → j < n) → k < suc n
place_within_step true later k n e rest = let z : k ≡ 0 = cc in omega arith
place_within_step false None k n e rest = absurd (cc)
place_within_step false (Some j) k n e rest = let z : k ≡ suc j = cc in omega (arith, rest j refl)

pub place_within : {X : Type 0} (test : X → Bool) (xs : List X) (k : ℕ) → place test xs ≡ Some k → k < length xs
place_within test [] k e = absurd (cc)
place_within test (x ∷ xs) k e = place_within_step (test x) (place test xs) k (length xs) e (place_within test xs)

module _ {X Y Z : Type 0} (f : X → Y → Z) (p : Z → Bool) (q : X → Bool) (told : (x : X) (y : Y) → p (f x y) ≡ q x) where
  missing_step : (b : Bool) (z : Z) (zs : List Z) (later : Option ℕ) → p z ≡ b → cond b (Some 0) (option_map suc later) ≡ None → (later ≡ None → find p zs ≡ None) → cond (p z) (Some z) (find p zs) ≡ None
  missing_step true z zs later is e rest = absurd (cc)
  missing_step false z zs None is e rest = ap (λ b. cond b (Some z) (find p zs)) is ∙ rest refl
  missing_step false z zs (Some k) is e rest = absurd (cc)

  pub missing_zip : (xs : List X) (ys : List Y) → place q xs ≡ None → find p (zip_by f xs ys) ≡ None
  missing_zip [] ys e = refl
  missing_zip (x ∷ xs) [] e = refl
  missing_zip (x ∷ xs) (y ∷ ys) e = missing_step (q x) (f x y) (zip_by f xs ys) (place q xs) (told x y) e (missing_zip xs ys)

  removed_step : (b : Bool) (x : X) (y : Y) (xs : List X) (ys : List Y) (later : Option ℕ) (k : ℕ) → p (f x y) ≡ b → cond b (Some 0) (option_map suc later) ≡ Some k → ((j : ℕ) → later ≡ Some j → zip_by f (remove xs j) (remove ys j) ≡ without_first p (zip_by f xs ys)) → zip_by f (remove (x ∷ xs) k) (remove (y ∷ ys) k) ≡ without_first p (f x y ∷ zip_by f xs ys)
  removed_step true x y xs ys later k is e rest =
      let z : k ≡ 0 = cc in
      ap (λ n. zip_by f (remove (x ∷ xs) n) (remove (y ∷ ys) n)) z
      ∙ sym (ap (λ b. cond b (zip_by f xs ys) (f x y ∷ without_first p (zip_by f xs ys))) is)
  removed_step false x y xs ys None k is e rest = absurd (cc)
  removed_step false x y xs ys (Some j) k is e rest =
      let z : k ≡ suc j = cc in
      ap (λ n. zip_by f (remove (x ∷ xs) n) (remove (y ∷ ys) n)) z
      ∙ ap (λ zs. f x y ∷ zs) (rest j refl)
      ∙ sym (ap (λ b. cond b (zip_by f xs ys) (f x y ∷ without_first p (zip_by f xs ys))) is)

  pub removed_zip : (xs : List X) (ys : List Y) (k : ℕ) → length xs ≡ length ys → place q xs ≡ Some k → zip_by f (remove xs k) (remove ys k) ≡ without_first p (zip_by f xs ys)
  removed_zip [] ys k e found = absurd (cc)
  removed_zip (x ∷ xs) [] k e found = absurd (omega arith)
  removed_zip (x ∷ xs) (y ∷ ys) k e found =
      removed_step (q x) x y xs ys (place q xs) k (told x y) found (λ j h. removed_zip xs ys j (omega arith) h)

  found_step : {W : Type 0} (g : Z → W) (v : Y → W) (b : Bool) (x : X) (y : Y) (ys : List Y) (zs : List Z) (later : Option ℕ) (k : ℕ) → g (f x y) ≡ v y → p (f x y) ≡ b → cond b (Some 0) (option_map suc later) ≡ Some k → ((j : ℕ) → later ≡ Some j → option_map g (find p zs) ≡ option_map v (slice_get ys j)) → option_map g (cond (p (f x y)) (Some (f x y)) (find p zs)) ≡ option_map v (slice_get (y ∷ ys) k)
  found_step g v true x y ys zs later k second is e rest =
      let z : k ≡ 0 = cc in
      ap (λ b. option_map g (cond b (Some (f x y)) (find p zs))) is ∙ ap Some second ∙ sym (ap (λ n. option_map v (slice_get (y ∷ ys) n)) z)
  found_step g v false x y ys zs None k second is e rest = absurd (cc)
  found_step g v false x y ys zs (Some j) k second is e rest =
      let z : k ≡ suc j = cc in
      ap (λ b. option_map g (cond b (Some (f x y)) (find p zs))) is ∙ rest j refl ∙ sym (ap (λ n. option_map v (slice_get (y ∷ ys) n)) z)

  pub found_zip : {W : Type 0} (g : Z → W) (v : Y → W) → ((x : X) (y : Y) → g (f x y) ≡ v y) → (xs : List X) (ys : List Y) (k : ℕ) → length xs ≡ length ys → place q xs ≡ Some k → option_map g (find p (zip_by f xs ys)) ≡ option_map v (slice_get ys k)
  found_zip g v second [] ys k e found = absurd (cc)
  found_zip g v second (x ∷ xs) [] k e found = absurd (omega arith)
  found_zip g v second (x ∷ xs) (y ∷ ys) k e found =
      found_step g v (q x) x y ys (zip_by f xs ys) (place q xs) k (second x y) (told x y) found (λ j h. found_zip g v second xs ys j (omega arith) h)

abbrev changed_with : {X : Type 0} → (X → X) → ℕ → List X → Option X → List X
changed_with change k xs None = xs
changed_with change k xs (Some x) = slice_set xs k (change x)

changed_with-suc : {X : Type 0} (change : X → X) (j : ℕ) (x : X) (xs : List X) (here : Option X) → changed_with change (suc j) (x ∷ xs) here ≡ x ∷ changed_with change j xs here
changed_with-suc change j x xs None = refl
changed_with-suc change j x xs (Some y) = refl

changed_at-with : {X : Type 0} (change : X → X) (k : ℕ) (xs : List X) (here : Option X) → slice_get xs k ≡ here → changed_at change k xs ≡ changed_with change k xs here
changed_at-with change k xs None is = subst (λ (o : Option _). (elim o [ None ↦ xs | Some x ↦ slice_set xs k (change x) ]) ≡ xs) (sym is) refl
changed_at-with change k xs (Some y) is = subst (λ (o : Option _). (elim o [ None ↦ xs | Some x ↦ slice_set xs k (change x) ]) ≡ slice_set xs k (change y)) (sym is) refl

pub changed_at-suc : {X : Type 0} (change : X → X) (j : ℕ) (x : X) (xs : List X) → changed_at change (suc j) (x ∷ xs) ≡ x ∷ changed_at change j xs
changed_at-suc change j x xs =
    changed_at-with change (suc j) (x ∷ xs) (slice_get xs j) refl
    ∙ changed_with-suc change j x xs (slice_get xs j)
    ∙ ap (λ ys. x ∷ ys) (sym (changed_at-with change j xs (slice_get xs j) refl))

pub length-changed_at : {X : Type 0} (change : X → X) (j : ℕ) (xs : List X) → length (changed_at change j xs) ≡ length xs
length-changed_at change j [] = refl
length-changed_at change zero (x ∷ xs) = refl
length-changed_at change (suc j) (x ∷ xs) = ap length (changed_at-suc change j x xs) ∙ ap suc (length-changed_at change j xs)

module _ {X Y Z : Type 0} (f : X → Y → Z) (p : Z → Bool) (q : X → Bool) (u : X → X) (v : Y → Y) (c : Z → Z) (told : (x : X) (y : Y) → p (f x y) ≡ q x) (both : (x : X) (y : Y) → f (u x) (v y) ≡ c (f x y)) where
  changed_step : (b : Bool) (x : X) (y : Y) (xs : List X) (ys : List Y) (later : Option ℕ) (k : ℕ) → p (f x y) ≡ b → cond b (Some 0) (option_map suc later) ≡ Some k → ((j : ℕ) → later ≡ Some j → zip_by f (changed_at u j xs) (changed_at v j ys) ≡ changed_first p c (zip_by f xs ys)) → zip_by f (changed_at u k (x ∷ xs)) (changed_at v k (y ∷ ys)) ≡ changed_first p c (f x y ∷ zip_by f xs ys)
  changed_step true x y xs ys later k is e rest =
      let z : k ≡ 0 = cc in
      ap (λ n. zip_by f (changed_at u n (x ∷ xs)) (changed_at v n (y ∷ ys))) z
      ∙ ap (λ w. w ∷ zip_by f xs ys) (both x y)
      ∙ sym (ap (λ b. cond b (c (f x y) ∷ zip_by f xs ys) (f x y ∷ changed_first p c (zip_by f xs ys))) is)
  changed_step false x y xs ys None k is e rest = absurd (cc)
  changed_step false x y xs ys (Some j) k is e rest =
      let z : k ≡ suc j = cc in
      ap (λ n. zip_by f (changed_at u n (x ∷ xs)) (changed_at v n (y ∷ ys))) z
      ∙ (λ i. zip_by f (changed_at-suc u j x xs i) (changed_at-suc v j y ys i))
      ∙ ap (λ zs. f x y ∷ zs) (rest j refl)
      ∙ sym (ap (λ b. cond b (c (f x y) ∷ zip_by f xs ys) (f x y ∷ changed_first p c (zip_by f xs ys))) is)

  pub changed_zip : (xs : List X) (ys : List Y) (k : ℕ) → length xs ≡ length ys → place q xs ≡ Some k → zip_by f (changed_at u k xs) (changed_at v k ys) ≡ changed_first p c (zip_by f xs ys)
  changed_zip [] ys k e found = absurd (cc)
  changed_zip (x ∷ xs) [] k e found = absurd (omega arith)
  changed_zip (x ∷ xs) (y ∷ ys) k e found =
      changed_step (q x) x y xs ys (place q xs) k (told x y) found (λ j h. changed_zip xs ys j (omega arith) h)

-- ---- the first element of a kind, in one list

find-none_step : {X : Type 0} (p : X → Bool) (b : Bool) (later : Option ℕ) (x : X) (xs : List X) → cond b (Some 0) (option_map suc later) ≡ None → (later ≡ None → find p xs ≡ None) → cond b (Some x) (find p xs) ≡ None
find-none_step p true later x xs e rest = absurd (cc)
find-none_step p false None x xs e rest = rest refl
find-none_step p false (Some k) x xs e rest = absurd (cc)

pub find-none : {X : Type 0} (p : X → Bool) (xs : List X) → place p xs ≡ None → find p xs ≡ None
find-none p [] e = refl
find-none p (x ∷ xs) e = find-none_step p (p x) (place p xs) x xs e (find-none p xs)

placed_step : {X : Type 0} (p : X → Bool) (u c : X → X) (b : Bool) (x : X) (xs : List X) (later : Option ℕ) (k : ℕ) → cond b (Some 0) (option_map suc later) ≡ Some k → ((y : X) → slice_get (x ∷ xs) k ≡ Some y → u y ≡ c y) → ((j : ℕ) → later ≡ Some j → ((y : X) → slice_get xs j ≡ Some y → u y ≡ c y) → changed_at u j xs ≡ changed_first p c xs) → changed_at u k (x ∷ xs) ≡ cond b (c x ∷ xs) (x ∷ changed_first p c xs)
placed_step p u c true x xs later k e same rest =
    let z : k ≡ 0 = cc in
    ap (λ n. changed_at u n (x ∷ xs)) z ∙ ap (λ y. y ∷ xs) (same x (ap (slice_get (x ∷ xs)) z))
placed_step p u c false x xs None k e same rest = absurd (cc)
placed_step p u c false x xs (Some j) k e same rest =
    let z : k ≡ suc j = cc in
    ap (λ n. changed_at u n (x ∷ xs)) z ∙ changed_at-suc u j x xs
    ∙ ap (λ ys. x ∷ ys) (rest j refl (λ y h. same y (ap (slice_get (x ∷ xs)) z ∙ h)))

-- a change at the first place of a kind, told by the element that stands there
pub changed_place : {X : Type 0} (p : X → Bool) (u c : X → X) (xs : List X) (k : ℕ) → place p xs ≡ Some k → ((y : X) → slice_get xs k ≡ Some y → u y ≡ c y) → changed_at u k xs ≡ changed_first p c xs
changed_place p u c [] k e same = absurd (cc)
changed_place p u c (x ∷ xs) k e same = placed_step p u c (p x) x xs (place p xs) k e same (λ j h. changed_place p u c xs j h)

-- ---- the first place, with one element more or one changed

more_step : (p : Option ℕ) (t : Bool) (n : ℕ) → option_map suc (option_or p (cond t (Some n) None)) ≡ option_or (option_map suc p) (cond t (Some (suc n)) None)
more_step (Some k) t n = refl
more_step None true n = refl
more_step None false n = refl

place_more : (b t : Bool) (n : ℕ) (p more : Option ℕ) → more ≡ option_or p (cond t (Some n) None) → cond b (Some 0) (option_map suc more) ≡ option_or (cond b (Some 0) (option_map suc p)) (cond t (Some (suc n)) None)
place_more true t n p more e = refl
place_more false t n p more e = ap (option_map suc) e ∙ more_step p t n

place-push : {X : Type 0} (test : X → Bool) (xs : List X) (y : X) → place test (xs ++ y ∷ []) ≡ option_or (place test xs) (cond (test y) (Some (length xs)) None)
place-push test [] y = refl
place-push test (x ∷ xs) y = place_more (test x) (test y) (length xs) (place test xs) (place test (xs ++ y ∷ [])) (place-push test xs y)

pub position-push : {X : Type 0} (test : X → Bool) (xs : List X) (y : X) → position test (xs ++ y ∷ []) ≡ option_or (position test xs) (cond (test y) (Some (length xs)) None)
position-push test xs y =
    position-place test (xs ++ y ∷ []) ∙ place-push test xs y
    ∙ ap (λ (o : Option ℕ). option_or o (cond (test y) (Some (length xs)) None)) (sym (position-place test xs))

place-changed : {X : Type 0} (test : X → Bool) (change : X → X) → ((x : X) → test (change x) ≡ test x) → (xs : List X) (k : ℕ) → place test (changed_at change k xs) ≡ place test xs
place-changed test change same [] k = refl
place-changed test change same (x ∷ xs) zero = ap (λ (b : Bool). cond b (Some 0) (option_map suc (place test xs))) (same x)
place-changed test change same (x ∷ xs) (suc k) =
    ap (place test) (changed_at-suc change k x xs)
    ∙ ap (λ (o : Option ℕ). cond (test x) (Some 0) (option_map suc o)) (place-changed test change same xs k)

-- a change that leaves what passes leaves the first place
pub position-changed : {X : Type 0} (test : X → Bool) (change : X → X) → ((x : X) → test (change x) ≡ test x) → (xs : List X) (k : ℕ) → position test (changed_at change k xs) ≡ position test xs
position-changed test change same xs k =
    position-place test (changed_at change k xs) ∙ place-changed test change same xs k ∙ sym (position-place test xs)

find-place : {X : Type 0} (p : X → Bool) (xs : List X) → find p xs ≡ option_and_then (slice_get xs) (place p xs)
find-place p [] = refl
find-place {X = X} p (x ∷ xs) = by (p x) (place p xs) (find-place p xs)
  where
    by : (b : Bool) (later : Option ℕ) → find p xs ≡ option_and_then (slice_get xs) later
        → cond b (Some x) (find p xs) ≡ option_and_then (slice_get (x ∷ xs)) (cond b (Some 0) (option_map suc later))
    by true later rest = refl
    by false None rest = rest
    by false (Some k) rest = rest

-- the first that passes is that of the first place that does
pub find-position : {X : Type 0} (p : X → Bool) (xs : List X) → find p xs ≡ option_and_then (slice_get xs) (position p xs)
find-position p xs = find-place p xs ∙ ap (option_and_then (slice_get xs)) (sym (position-place p xs))
