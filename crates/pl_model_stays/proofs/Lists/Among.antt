-- What is among a list.
use Rattle.std.proofs.Common.{◌≡◌, ◌==◌, Bool, true, false, not, ◌||◌, cond, List, [], ◌∷◌, filter, find, length, Some, None, is_some, refl, sym, ◌∙◌, ap, subst, inl, inr, ◌⊎◌, arith, slice_get, if◌then◌else◌}
use Rattle.std.specs.List.{list_any}
use Rattle.std.proofs.Math.Bool.{or-true}
use Rattle.std.proofs.lemmas.Option.{same_Some}
use Rattle.pl_lemmas.proofs.Numbers.{equal_numbers}
use Rattle.pl_lemmas.proofs.Each.{IsAmong}

-- where some pass, one that passes is among them
pub any_found : {X : Type 0} (test : X → Bool) (xs : List X) → list_any test xs ≡ true → (x : X) × IsAmong x xs × (test x ≡ true)
any_found test [] h = absurd (let e : false ≡ true = h in cc)
any_found {X = X} test (y ∷ ys) h = by (test y) refl (any_found test ys) h
  where
    by : (b : Bool) → test y ≡ b → (list_any test ys ≡ true → (x : X) × IsAmong x ys × (test x ≡ true))
        → (b || list_any test ys) ≡ true → (x : X) × IsAmong x (y ∷ ys) × (test x ≡ true)
    by true is rest h = (y, inl refl, is)
    by false is rest h = let one = rest h in (one.0, inr one.1, one.2)

-- where one among them passes, some do
pub any_among : {X : Type 0} (test : X → Bool) (xs : List X) (x : X) → IsAmong x xs → test x ≡ true → list_any test xs ≡ true
any_among test [] x there h = absurd there
any_among {X = X} test (y ∷ ys) x (inl same) h =
    ap (λ (b : Bool). b || list_any test ys) (ap (λ (z : X). test z) (sym same) ∙ h)
any_among test (y ∷ ys) x (inr there) h = ap (λ (b : Bool). test y || b) (any_among test ys x there h) ∙ or-true (test y)

-- where none passes, not any does
pub any_none : {X : Type 0} (test : X → Bool) (xs : List X) → ((x : X) → IsAmong x xs → test x ≡ false) → list_any test xs ≡ false
any_none test [] never = refl
any_none test (x ∷ xs) never = rw (never x (inl refl)) (any_none test xs (λ y there. never y (inr there)))

-- what is found is among them and passes
pub find_among : {X : Type 0} (test : X → Bool) (xs : List X) (x : X) → find test xs ≡ Some x → IsAmong x xs × (test x ≡ true)
find_among test [] x h = absurd (let e : None ≡ Some x = h in cc)
find_among {X = X} test (y ∷ ys) x h = by (test y) refl (find_among test ys x) h
  where
    by : (b : Bool) → test y ≡ b → (find test ys ≡ Some x → IsAmong x ys × (test x ≡ true))
        → cond b (Some y) (find test ys) ≡ Some x → IsAmong x (y ∷ ys) × (test x ≡ true)
    by true is rest h =
        let same : y ≡ x = same_Some y x h in
        (inl (sym same), subst (λ (z : X). test z ≡ true) same is)
    by false is rest h = let one = rest h in (inr one.0, one.1)

-- none of a list passes where its filter leaves nothing
pub filter_none : {X : Type 0} (test : X → Bool) (xs : List X) (x : X) → filter test xs ≡ [] → IsAmong x xs → test x ≡ false
filter_none test [] x h there = absurd there
filter_none {X = X} test (y ∷ ys) x h there = by (test y) refl (filter_none test ys x) h there
  where
    by : (b : Bool) → test y ≡ b → (filter test ys ≡ [] → IsAmong x ys → test x ≡ false)
        → (if b then y ∷ filter test ys else filter test ys) ≡ [] → (x ≡ y) ⊎ IsAmong x ys → test x ≡ false
    by true is rest h there = absurd (let e : y ∷ filter test ys ≡ [] = h in cc)
    by false is rest h (inl same) = ap (λ (z : X). test z) same ∙ is
    by false is rest h (inr there) = rest h there

-- what is denied falsely is so
pub not_false : (a : Bool) → not a ≡ false → a ≡ true
not_false true h = refl
not_false false h = absurd (let e : true ≡ false = h in cc)

-- a list that has no length is empty
pub no_length : {X : Type 0} (xs : List X) → not (length xs == 0) ≡ false → xs ≡ []
no_length [] h = refl
no_length (x ∷ xs) h =
    absurd (let e : length (x ∷ xs) ≡ 0 = equal_numbers (length (x ∷ xs)) 0 (not_false (length (x ∷ xs) == 0) h) in omega arith)

-- a list without a first is empty
pub none_first : {X : Type 0} (xs : List X) → is_some (slice_get xs 0) ≡ false → xs ≡ []
none_first [] h = refl
none_first (x ∷ xs) h = absurd (let e : true ≡ false = h in cc)
