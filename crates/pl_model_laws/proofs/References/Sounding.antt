-- How a sound list of rows is built and taken apart, row by row.
use Rattle.std.proofs.Common.{◌≡◌, ℕ, zero, suc, ◌<◌, ◌≤◌, Bool, true, false, not, ◌&&◌, ◌||◌, if◌then◌else◌, cond, List, [], ◌∷◌, ◌++◌, find, get_or, length, nat_lt, slice_get, take, option_and_then, Option, Some, None, refl, sym, ◌∙◌, ap, subst, inl, inr, ◌⊎◌, arith}
use Rattle.std.proofs.lemmas.Bool.Decides.{nat_tests}
use Rattle.std.proofs.Math.Seq.{take-append_seam}
use Rattle.std.proofs.lemmas.List.{take-append-le}
use Rattle.std.proofs.lemmas.Option.{get_or_from_slice_get, slice_get-get_or, slice_get_past, slice_get_within, same_Some}
use Rattle.std.proofs.lemmas.Slice.Eq.{bytes_eq-Decides}
use Rattle.std.specs.List.{list_any}
use Rattle.std.proofs.Math.Bool.{or-true}
use Rattle.pl_lemmas.proofs.Each.{Each, each_append}
use Rattle.pl_state.specs.References.{has_urn, keeps_urn, refs}
use Rattle.pl_sound.specs.Sound.{IsSound, fault_at, first_unmet, is_met, own_wants, wants}
use Rattle.pl_state.specs.declared.entry.Entry.{Entry}
use Rattle.pl_state.specs.declared.fault.Missing.{Missing}
use Rattle.pl_state.specs.declared.fault.Missing.TheVariants.{Twice}
use Rattle.pl_model_laws.specs.Apart.{KeepsApart}

-- each of these wants is met by the rows before
abbrev pub AreMet : List Entry → List Missing → Type 0
AreMet before list = Each (λ (want : Missing). is_met before want ≡ true) list

-- every row finds what it refers to among those before it
abbrev pub RefersBack : List Entry → Type 0
RefersBack rows = (at : ℕ) (row : Entry) → slice_get rows at ≡ Some row → AreMet (take at rows) (refs row)

-- ---- a row more

get_left : {X : Type 0} (xs ys : List X) (at : ℕ) → at < length xs → slice_get (xs ++ ys) at ≡ slice_get xs at
get_left [] ys at low = absurd (omega arith)
get_left (x ∷ xs) ys zero low = refl
get_left (x ∷ xs) ys (suc at) low = get_left xs ys at (omega arith)

get_seam : {X : Type 0} (xs : List X) (x : X) → slice_get (xs ++ x ∷ []) (length xs) ≡ Some x
get_seam [] x = refl
get_seam (y ∷ xs) x = get_seam xs x

length_more : {X : Type 0} (xs : List X) (x : X) → length (xs ++ x ∷ []) ≡ suc (length xs)
length_more [] x = refl
length_more (y ∷ xs) x = ap (λ (n : ℕ). suc n) (length_more xs x)

which : (at n : ℕ) → (at < n) ⊎ ((at ≡ n) ⊎ (suc n ≤ at))
which at n = by (nat_lt at n) refl (nat_lt n at) refl
  where
    by : (a : Bool) → nat_lt at n ≡ a → (b : Bool) → nat_lt n at ≡ b → (at < n) ⊎ ((at ≡ n) ⊎ (suc n ≤ at))
    by true is b other = inl (grind (arith, nat_tests))
    by false is true other = inr (inr (grind (arith, nat_tests)))
    by false is false other = inr (inl (grind (arith, nat_tests)))

pub refers-none : RefersBack []
refers-none = λ at row is. absurd (let e : None ≡ Some row = is in cc)

pub refers-more : (rows : List Entry) (row : Entry) → RefersBack rows → AreMet rows (refs row) → RefersBack (rows ++ row ∷ [])
refers-more rows row back met = λ at one is. by at one is (which at (length rows))
  where
    by : (at : ℕ) (one : Entry) → slice_get (rows ++ row ∷ []) at ≡ Some one → (at < length rows) ⊎ ((at ≡ length rows) ⊎ (suc (length rows) ≤ at))
        → AreMet (take at (rows ++ row ∷ [])) (refs one)
    by at one is (inl before) =
        subst (λ (front : List Entry). AreMet front (refs one)) (sym (take-append-le at rows (row ∷ []) (omega arith)))
        (back at one (sym (get_left rows (row ∷ []) at before) ∙ is))
    by at one is (inr (inl here)) =
        let found : slice_get (rows ++ row ∷ []) (length rows) ≡ Some one =
        subst (λ (n : ℕ). slice_get (rows ++ row ∷ []) n ≡ Some one) here is in
        let same : row ≡ one = same_Some row one (sym (get_seam rows row) ∙ found) in
        subst (λ (n : ℕ). AreMet (take n (rows ++ row ∷ [])) (refs one)) (sym here)
        (subst (λ (front : List Entry). AreMet front (refs one)) (sym (take-append_seam rows (row ∷ [])))
        (subst (λ (it : Entry). AreMet rows (refs it)) same met))
    by at one is (inr (inr past)) =
        absurd (let none : slice_get (rows ++ row ∷ []) at ≡ None = slice_get_past (rows ++ row ∷ []) at (let e = length_more rows row in omega arith) in
        let e : None ≡ Some one = sym none ∙ is in cc)

-- ---- a test of wants

nothing_fails : (met : Missing → Bool) (list : List Missing) → Each (λ want. met want ≡ true) list → find (λ want. not (met want)) list ≡ None
nothing_fails met [] h = refl
nothing_fails met (want ∷ list) h = rw h.0 (nothing_fails met list h.1)

all_pass : (met : Missing → Bool) (list : List Missing) → find (λ want. not (met want)) list ≡ None → Each (λ want. met want ≡ true) list
all_pass met [] h = tt
all_pass met (want ∷ list) h = by (met want) refl h (all_pass met list)
  where
    by : (b : Bool) → met want ≡ b → cond (not b) (Some want) (find (λ one. not (met one)) list) ≡ None
        → (find (λ one. not (met one)) list ≡ None → Each (λ one. met one ≡ true) list) → Each (λ one. met one ≡ true) (want ∷ list)
    by true is none rest = (is, rest none)
    by false is none rest = absurd (let e : Some want ≡ None = none in cc)

met_none : (before : List Entry) (row : Entry) → AreMet before (wants row) → first_unmet (is_met before) row ≡ None
unfolding first_unmet
met_none before row h = nothing_fails (is_met before) (wants row) h

none_met : (before : List Entry) (row : Entry) → first_unmet (is_met before) row ≡ None → AreMet before (wants row)
unfolding first_unmet
none_met before row h = all_pass (is_met before) (wants row) h

each_back : (P : Missing → Type 0) (xs ys : List Missing) → Each P (xs ++ ys) → Each P ys
each_back P [] ys h = h
each_back P (x ∷ xs) ys h = each_back P xs ys h.1

-- a row of a sound list finds what it wants before it
met_at : (rows : List Entry) (at : ℕ) (row : Entry) → IsSound rows → slice_get rows at ≡ Some row → AreMet (take at rows) (wants row)
unfolding fault_at
met_at rows at row sound is =
    none_met (take at rows) row
    (subst (λ (found : Option Entry). option_and_then (λ (one : Entry). first_unmet (is_met (take at rows)) one) found ≡ None) is (sound at))

pub sound-back : (rows : List Entry) → IsSound rows → RefersBack rows
sound-back rows sound = λ at row is.
    each_back (λ (want : Missing). is_met (take at rows) want ≡ true) (own_wants row) (refs row) (met_at rows at row sound is)

-- ---- URNs of their own

-- what a row that is to stay wants first
met_own : (before : List Entry) (row : Entry) → row.doomed ≡ false → AreMet before (wants row) → not (list_any (keeps_urn row.urn) before) ≡ true
met_own before row stays met =
    (subst (λ (b : Bool). AreMet before ((if b then [] else Twice row.urn ∷ []) ++ refs row)) stays met).0

any_taken : (p : Entry → Bool) (rows : List Entry) (i j : ℕ) (d : Entry) → i < j → j ≤ length rows → p (get_or rows i d) ≡ true
    → list_any p (take j rows) ≡ true
any_taken p rows i zero d before low h = absurd (omega arith)
any_taken p [] i (suc j) d before low h = absurd (omega arith)
any_taken p (row ∷ rows) zero (suc j) d before low h = rw h refl
any_taken p (row ∷ rows) (suc i) (suc j) d before low h =
    rw (any_taken p rows i j d (omega arith) (omega arith) h) (or-true (p row))

keeps_of : (urn : List ℕ) (row : Entry) → row.doomed ≡ false → row.urn ≡ urn → keeps_urn urn row ≡ true
keeps_of urn row stays same = rw stays ((bytes_eq-Decides row.urn urn).1 same)

-- in a sound list each row that is to stay has a URN of its own
pub sound-apart : (rows : List Entry) → IsSound rows → KeepsApart rows
sound-apart rows sound = λ i j d before low first second same.
    let met : AreMet (take j rows) (wants (get_or rows j d)) = met_at rows j (get_or rows j d) sound (slice_get-get_or rows j d low) in
    let none = met_own (take j rows) (get_or rows j d) second met in
    let some : list_any (keeps_urn (get_or rows j d).urn) (take j rows) ≡ true =
    any_taken (keeps_urn (get_or rows j d).urn) rows i j d before (omega arith) (keeps_of (get_or rows j d).urn (get_or rows i d) first same) in
    absurd (let e : not true ≡ true = subst (λ (b : Bool). not b ≡ true) some none in cc)

-- one of the first rows passes
pub any_found : (p : Entry → Bool) (rows : List Entry) (j : ℕ) (d : Entry) → list_any p (take j rows) ≡ true
    → (i : ℕ) × (i < j) × (p (get_or rows i d) ≡ true)
any_found p rows zero d h = absurd (let e : false ≡ true = h in cc)
any_found p [] (suc j) d h = absurd (let e : false ≡ true = h in cc)
any_found p (row ∷ rows) (suc j) d h = by (p row) refl h (any_found p rows j d)
  where
    by : (b : Bool) → p row ≡ b → (b || list_any p (take j rows)) ≡ true
        → (list_any p (take j rows) ≡ true → (i : ℕ) × (i < j) × (p (get_or rows i d) ≡ true))
        → (i : ℕ) × (i < suc j) × (p (get_or (row ∷ rows) i d) ≡ true)
    by true is found rest = (0, omega arith, is)
    by false is found rest = let at = rest found in (suc at.0, let e = at.1 in omega arith, at.2)

keeps_stays : (urn : List ℕ) (row : Entry) → keeps_urn urn row ≡ true → (row.doomed ≡ false) × (row.urn ≡ urn)
keeps_stays urn row h = by row.doomed refl h
  where
    by : (b : Bool) → row.doomed ≡ b → (not b && has_urn urn row) ≡ true → (row.doomed ≡ false) × (row.urn ≡ urn)
    by true is h = absurd (let e : false ≡ true = h in cc)
    by false is h = (is, (bytes_eq-Decides row.urn urn).0 h)

own_met : (rows : List Entry) (at : ℕ) (row : Entry) → KeepsApart rows → slice_get rows at ≡ Some row → AreMet (take at rows) (own_wants row)
own_met rows at row apart is = by row.doomed refl
  where
    none : row.doomed ≡ false → (b : Bool) → list_any (keeps_urn row.urn) (take at rows) ≡ b → not b ≡ true
    none stays false any = refl
    none stays true any =
        let found = any_found (keeps_urn row.urn) rows at row any in
        let kept = keeps_stays row.urn (get_or rows found.0 row) found.2 in
        let here : get_or rows at row ≡ row = get_or_from_slice_get rows at row row is in
        absurd (apart found.0 at row found.1 (slice_get_within rows at row is) kept.0 (ap (λ (one : Entry). one.doomed) here ∙ stays)
        (kept.1 ∙ sym (ap (λ (one : Entry). one.urn) here)))

    by : (b : Bool) → row.doomed ≡ b → AreMet (take at rows) (own_wants row)
    by true is = rw is tt
    by false is = subst (λ (b : Bool). AreMet (take at rows) (if b then [] else Twice row.urn ∷ [])) (sym is)
        (none is (list_any (keeps_urn row.urn) (take at rows)) refl, tt)

-- a list is sound where each row finds what it refers to, and each that is to stay has a URN of its own
pub sound-from : (rows : List Entry) → RefersBack rows → KeepsApart rows → IsSound rows
unfolding fault_at
sound-from rows back apart = λ at. by at (slice_get rows at) refl
  where
    by : (at : ℕ) (found : Option Entry) → slice_get rows at ≡ found
        → option_and_then (λ (row : Entry). first_unmet (is_met (take at rows)) row) (slice_get rows at) ≡ None
    by at None is = subst (λ (o : Option Entry). option_and_then (λ (row : Entry). first_unmet (is_met (take at rows)) row) o ≡ None) (sym is) refl
    by at (Some row) is = subst (λ (o : Option Entry). option_and_then (λ (one : Entry). first_unmet (is_met (take at rows)) one) o ≡ None) (sym is)
        (met_none (take at rows) row (each_append (λ (want : Missing). is_met (take at rows) want ≡ true) (own_wants row) (refs row)
        (own_met rows at row apart is) (back at row is)))
