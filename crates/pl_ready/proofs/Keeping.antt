-- In a sound state the row that keeps a URN is the only one that does.
use Rattle.std.proofs.Common.{◌≡◌, ◌+◌, ℕ, zero, suc, Bool, true, false, cond, List, [], ◌∷◌, Some, None, option_map, refl, sym, ap, ◌∙◌, arith}
use Rattle.std.proofs.lemmas.Option.{same_Some}
use Rattle.std.specs.List.{enumerate_from, find, slice_get}
use Rattle.pl_base.specs.Keeper.{keeper_in}
use Rattle.pl_claims.proofs.Lists.{Once}
use Rattle.pl_claims.proofs.Sound.{kept_once}
use Rattle.pl_errands.proofs.Looking.{any_there}
use Rattle.pl_lemmas.proofs.Options.{mapped_some}
use Rattle.pl_model_stays.proofs.Goals.Claiming.{found_at}
use Rattle.pl_sound.specs.Sound.{IsSound}
use Rattle.pl_state.specs.References.{keeps_urn}
use Rattle.pl_state.specs.declared.entry.Entry.{Entry}

-- what passes a test that is passed once is found at its place
found_alone : {X : Type 0} (test : X → Bool) (from : ℕ) (xs : List X) (place : ℕ) (x : X) → Once test xs
    → slice_get xs place ≡ Some x → test x ≡ true
    → option_map (λ (one : ℕ × X). one.0) (find (λ (one : ℕ × X). test one.1) (enumerate_from from xs)) ≡ Some (from + place)
found_alone test from [] place x once is passes = absurd (let none : None ≡ Some x = is in cc)
found_alone {X = X} test from (first ∷ xs) zero x once is passes =
    let here : from ≡ from + 0 = omega arith in
    ap (λ (b : Bool). option_map (λ (one : ℕ × X). one.0)
    (cond b (Some (from, first)) (find (λ (one : ℕ × X). test one.1) (enumerate_from (from + 1) xs))))
    (ap test (same_Some first x is) ∙ passes)
    ∙ ap (λ (n : ℕ). Some n) here
found_alone {X = X} test from (first ∷ xs) (suc place) x once is passes =
    by (test first) refl (found_alone test (from + 1) xs place x once.1 is passes)
  where
    by : (b : Bool) → test first ≡ b
        → option_map (λ (one : ℕ × X). one.0) (find (λ (one : ℕ × X). test one.1) (enumerate_from (from + 1) xs)) ≡ Some (from + 1 + place)
        → option_map (λ (one : ℕ × X). one.0)
        (cond b (Some (from, first)) (find (λ (one : ℕ × X). test one.1) (enumerate_from (from + 1) xs))) ≡ Some (from + suc place)
    by true here rest = absurd (let e : true ≡ false = sym (any_there test xs place x is passes) ∙ once.0 here in cc)
    by false here rest = let later : from + 1 + place ≡ from + suc place = omega arith in rest ∙ ap (λ (n : ℕ). Some n) later

-- a row that keeps a URN is its keeper
pub keeper_is : (rows : List Entry) (urn : List ℕ) (row : ℕ) (entry : Entry) → IsSound rows → slice_get rows row ≡ Some entry
    → keeps_urn urn entry ≡ true → keeper_in rows urn ≡ Some row
keeper_is rows urn row entry sound at keeps =
    let here : 0 + row ≡ row = omega arith in
    found_alone (keeps_urn urn) 0 rows row entry (kept_once rows urn sound) at keeps ∙ ap (λ (n : ℕ). Some n) here

-- the keeper of a URN is a row that keeps it
pub keeper_keeps : (rows : List Entry) (urn : List ℕ) (row : ℕ) → keeper_in rows urn ≡ Some row
    → (entry : Entry) × (slice_get rows row ≡ Some entry) × (keeps_urn urn entry ≡ true)
keeper_keeps rows urn row is =
    let found = mapped_some (λ (one : ℕ × Entry). one.0)
    (find (λ (one : ℕ × Entry). keeps_urn urn one.1) (enumerate_from 0 rows)) row is in
    let place = found_at (λ (one : ℕ × Entry). keeps_urn urn one.1) 0 rows found.0 found.1 in
    let number : found.0.0 ≡ row = found.2 in
    let far : found.0.0 ≡ 0 + place.0 = place.2 in
    let same : place.0 ≡ row = omega arith in
    (found.0.1, ap (slice_get rows) (sym same) ∙ place.3, place.1)
