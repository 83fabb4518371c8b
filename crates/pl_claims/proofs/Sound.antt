-- In a sound state no two rows keep one URN.
use Rattle.std.proofs.Common.{◌≡◌, ◌<◌, ℕ, zero, suc, Bool, true, false, not, ◌||◌, cond, if◌then◌else◌, List, [], ◌∷◌, ◌++◌, take, Option, Some, None, option_and_then, refl, sym, ap, subst, ◌∙◌, arith}
use Rattle.std.proofs.Math.Bool.{or-true}
use Rattle.std.specs.List.{find, list_any, slice_get}
use Rattle.pl_lemmas.proofs.Lists.{same_bytes}
use Rattle.pl_lemmas.proofs.Truth.{and_left, and_right}
use Rattle.pl_state.specs.declared.entry.Entry.{Entry}
use Rattle.pl_state.specs.declared.fault.Missing.TheVariants.{Twice}
use Rattle.pl_state.specs.References.{has_urn, keeps_urn, refs}
use Rattle.pl_sound.specs.Sound.{IsSound, fault_at, first_unmet, is_met}
use Rattle.pl_claims.proofs.Lists.{Once}

-- ---- what a row that is to stay wants first

first_met : (before : List Entry) (row : Entry) → row.doomed ≡ false → first_unmet (is_met before) row ≡ None
    → list_any (keeps_urn row.urn) before ≡ false
unfolding first_unmet
first_met before row stays none =
    by (list_any (keeps_urn row.urn) before)
    (subst (λ (b : Bool). find (λ want. not (is_met before want)) ((if b then [] else Twice row.urn ∷ []) ++ refs row) ≡ None) stays none)
  where
    by : (b : Bool) → cond (not (not b)) (Some (Twice row.urn)) (find (λ want. not (is_met before want)) (refs row)) ≡ None → b ≡ false
    by true h = absurd (let e : Some (Twice row.urn) ≡ None = h in cc)
    by false h = refl

kept_alone : (rows : List Entry) (at : ℕ) (row : Entry) → IsSound rows → slice_get rows at ≡ Some row → row.doomed ≡ false
    → list_any (keeps_urn row.urn) (take at rows) ≡ false
unfolding fault_at
kept_alone rows at row sound is stays =
    first_met (take at rows) row stays
    (subst (λ (found : Option Entry). option_and_then (λ (one : Entry). first_unmet (is_met (take at rows)) one) found ≡ None) is (sound at))

-- ---- two rows

any_before : (test : Entry → Bool) (rows : List Entry) (i j : ℕ) (row : Entry) → i < j → slice_get rows i ≡ Some row → test row ≡ true
    → list_any test (take j rows) ≡ true
any_before test rows i zero row less is passes = absurd (omega arith)
any_before test [] i (suc j) row less is passes = absurd (let none : None ≡ Some row = is in cc)
any_before test (first ∷ rows) zero (suc j) row less is passes =
    let same : Some first ≡ Some row = is in
    let one : first ≡ row = cc in
    ap (λ (b : Bool). b || list_any test (take j rows)) (ap test one ∙ passes)
any_before test (first ∷ rows) (suc i) (suc j) row less is passes =
    ap (λ (b : Bool). test first || b) (any_before test rows i j row (omega arith) is passes) ∙ or-true (test first)

-- no two rows that stand apart pass the test
abbrev Apart : (Entry → Bool) → List Entry → Type 0
Apart test rows = (i j : ℕ) (one other : Entry) → i < j → slice_get rows i ≡ Some one → slice_get rows j ≡ Some other
    → test one ≡ true → test other ≡ true → ⊥

not_doomed : (b : Bool) → not b ≡ true → b ≡ false
not_doomed true h = absurd (let e : false ≡ true = h in cc)
not_doomed false h = refl

kept_apart : (rows : List Entry) (urn : List ℕ) → IsSound rows → Apart (keeps_urn urn) rows
kept_apart rows urn sound = λ i j one other less first second keeps too.
    let stays : other.doomed ≡ false = not_doomed other.doomed (and_left (not other.doomed) (has_urn urn other) too) in
    let same : other.urn ≡ urn = same_bytes other.urn urn (and_right (not other.doomed) (has_urn urn other) too) in
    let none : list_any (keeps_urn other.urn) (take j rows) ≡ false = kept_alone rows j other sound second stays in
    let some : list_any (keeps_urn other.urn) (take j rows) ≡ true =
    any_before (keeps_urn other.urn) rows i j one less first (ap (λ (text : List ℕ). keeps_urn text one) same ∙ keeps) in
    absurd (let e : true ≡ false = sym some ∙ none in cc)

apart_tail : (test : Entry → Bool) (row : Entry) (rows : List Entry) → Apart test (row ∷ rows) → Apart test rows
apart_tail test row rows apart = λ i j one other less first second. apart (suc i) (suc j) one other (omega arith) first second

none_passes : (test : Entry → Bool) (rows : List Entry) → ((place : ℕ) (row : Entry) → slice_get rows place ≡ Some row → test row ≡ true → ⊥)
    → list_any test rows ≡ false
none_passes test [] none = refl
none_passes test (row ∷ rows) none = by (test row) refl (none_passes test rows (λ place other at. none (suc place) other at))
  where
    by : (b : Bool) → test row ≡ b → list_any test rows ≡ false → (b || list_any test rows) ≡ false
    by true is rest = absurd (none 0 row refl is)
    by false is rest = rest

once_apart : (test : Entry → Bool) (rows : List Entry) → Apart test rows → Once test rows
once_apart test [] apart = tt
once_apart test (row ∷ rows) apart = (
  λ passes. none_passes test rows (λ place other at. apart 0 (suc place) row other (omega arith) refl at passes),
  once_apart test rows (apart_tail test row rows apart),
)

pub kept_once : (rows : List Entry) (urn : List ℕ) → IsSound rows → Once (keeps_urn urn) rows
kept_once rows urn sound = once_apart (keeps_urn urn) rows (kept_apart rows urn sound)
