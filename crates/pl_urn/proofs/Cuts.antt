-- Where a text is cut at `::`.
use Rattle.std.proofs.Common.{◌≡◌, ◌≢◌, ◌<◌, ◌≤◌, ◌⊎◌, inl, inr, ℕ, zero, suc, Bool, true, false, ◌||◌, List, [], ◌∷◌, ◌++◌, length, take, drop, refl, sym, ap, ◌∙◌, subst, arith, append_assoc}
use Rattle.std.proofs.lemmas.Bool.{cond-true, cond-false, or_parts, or_from, or_left, and_left, and_right, ne_eqb, cases_eq, false≢true}
use Rattle.std.specs.List.{All}
use Rattle.std.specs.Str.Pattern.{LacksTextAt}
use Rattle.pl_urn.specs.Cut.{colon, cut, begins_with_cut, has_cut, before_cut, after_cut, rest_of, IsWhole}

-- a text begins with `::`, or does not
begins_cases : (bs : List ℕ) → ((begins_with_cut bs ≡ true) × (bs ≡ cut ++ drop 2 bs)) ⊎ (begins_with_cut bs ≡ false)
unfolding begins_with_cut
begins_cases [] = inr refl
begins_cases (a ∷ []) = inr refl
begins_cases (a ∷ b ∷ rest) =
    elim (cases_eq a 58) [
      | inl p ↦ elim (cases_eq b 58) [
        | inl q ↦ inl (subst (λ (x : ℕ). (begins_with_cut (x ∷ b ∷ rest) ≡ true) × (x ∷ b ∷ rest ≡ cut ++ rest)) (sym p)
            (subst (λ (y : ℕ). (begins_with_cut (58 ∷ y ∷ rest) ≡ true) × (58 ∷ y ∷ rest ≡ cut ++ rest)) (sym q) (refl, refl)))
        | inr q ↦ inr (and_right _ _ (ne_eqb b 58 q))
      ]
      | inr p ↦ inr (and_left _ _ (ne_eqb a 58 p))
    ]

begins_here : (rest : List ℕ) → begins_with_cut (cut ++ rest) ≡ true
unfolding begins_with_cut
begins_here rest = refl

-- what begins with another byte than `:` does not begin with `::`
begins_other : (a : ℕ) (bs : List ℕ) → a ≢ colon → begins_with_cut (a ∷ bs) ≡ false
unfolding begins_with_cut
begins_other a [] h = refl
begins_other a (b ∷ bs) h = and_left _ _ (ne_eqb a 58 h)

-- a text goes on as `q` does, so it begins alike
begins_alike : (b : ℕ) (q xs ys : List ℕ) → begins_with_cut (b ∷ (q ++ (colon ∷ xs))) ≡ begins_with_cut (b ∷ (q ++ (colon ∷ ys)))
unfolding begins_with_cut
begins_alike b [] xs ys = refl
begins_alike b (c ∷ q) xs ys = refl

begins_front : (b : ℕ) (xs ys : List ℕ) → begins_with_cut (b ∷ (xs ++ ys)) ≡ false → begins_with_cut (b ∷ xs) ≡ false
unfolding begins_with_cut
begins_front b [] ys h = refl
begins_front b (c ∷ xs) ys h = h

begins_between : (b : ℕ) (xs ys : List ℕ) (c : ℕ) → c ≢ colon → begins_with_cut (b ∷ xs) ≡ false → begins_with_cut (b ∷ (xs ++ (c ∷ ys))) ≡ false
unfolding begins_with_cut
begins_between b [] ys c apart h = and_right _ _ (ne_eqb c 58 apart)
begins_between b (d ∷ xs) ys c apart h = h

begins_last : (b : ℕ) (xs : List ℕ) → begins_with_cut (b ∷ xs) ≡ false → (b ∷ xs ≢ colon ∷ []) → begins_with_cut (b ∷ (xs ++ colon ∷ [])) ≡ false
unfolding begins_with_cut
begins_last b [] h ends = and_left _ _ (ne_eqb b 58 (λ e. ends (ap (λ (x : ℕ). x ∷ []) e)))
begins_last b (d ∷ xs) h ends = h

has_cut-cons : (b : ℕ) (bs : List ℕ) → has_cut (b ∷ bs) ≡ (begins_with_cut (b ∷ bs) || has_cut bs)
unfolding has_cut
has_cut-cons b bs = refl

-- the three at a byte where the text is cut, and at one where it is not
cut_here : (b : ℕ) (bs : List ℕ) → begins_with_cut (b ∷ bs) ≡ true → (has_cut (b ∷ bs) ≡ true) × (before_cut (b ∷ bs) ≡ []) × (after_cut (b ∷ bs) ≡ rest_of bs)
unfolding has_cut before_cut after_cut
cut_here b bs h = (or_left _ _ h, cond-true _ _ _ h, cond-true _ _ _ h)

cut_later : (b : ℕ) (bs : List ℕ) → begins_with_cut (b ∷ bs) ≡ false → (has_cut (b ∷ bs) ≡ has_cut bs) × (before_cut (b ∷ bs) ≡ b ∷ before_cut bs) × (after_cut (b ∷ bs) ≡ after_cut bs)
unfolding has_cut before_cut after_cut
cut_later b bs h = (ap (λ (t : Bool). t || has_cut bs) h, cond-false _ _ _ h, cond-false _ _ _ h)

-- a text cut at its first `::`
pub record IsCut (bs front back : List ℕ) : Type 0 where
  pub found : has_cut bs ≡ true
  pub before : before_cut bs ≡ front
  pub after : after_cut bs ≡ back

-- where a search finds the first `::`, the text is cut
pub cut_found : (bs : List ℕ) (i : ℕ) (rest : List ℕ) → ((k : ℕ) → k < i → LacksTextAt cut bs k) → drop i bs ≡ cut ++ rest → IsCut bs (take i bs) rest
cut_found [] zero rest lacks e = absurd cc
cut_found [] (suc i) rest lacks e = absurd cc
cut_found (b ∷ bs) zero rest lacks e =
    elim (begins_cases (b ∷ bs)) [
      | inl h ↦ record { found = (cut_here b bs h.0).0; before = (cut_here b bs h.0).1; after = (cut_here b bs h.0).2 ∙ ap (λ (l : List ℕ). rest_of (rest_of l)) e }
      | inr h ↦ absurd (false≢true (sym h ∙ ap begins_with_cut e ∙ begins_here rest))
    ]
cut_found (b ∷ bs) (suc i) rest lacks e =
    elim (begins_cases (b ∷ bs)) [
      | inl h ↦ absurd (lacks 0 (omega arith) (drop 2 (b ∷ bs)) h.1)
      | inr h ↦ let later = cut_later b bs h in
          let more = cut_found bs i rest (λ k l. lacks (suc k) (omega arith)) e in
          record { found = later.0 ∙ more.found; before = later.1 ∙ ap (λ (l : List ℕ). b ∷ l) more.before; after = later.2 ∙ more.after }
    ]

-- where a search finds none, all stands before it
pub cut_missing : (bs : List ℕ) → ((k : ℕ) → k ≤ length bs → LacksTextAt cut bs k) → (has_cut bs ≡ false) × (before_cut bs ≡ bs) × (after_cut bs ≡ [])
unfolding has_cut before_cut after_cut
cut_missing [] lacks = (refl, refl, refl)
cut_missing (b ∷ bs) lacks =
    elim (begins_cases (b ∷ bs)) [
      | inl h ↦ absurd (lacks 0 (omega arith) (drop 2 (b ∷ bs)) h.1)
      | inr h ↦ let later = cut_later b bs h in
          let more = cut_missing bs (λ k l. lacks (suc k) (omega arith)) in
          (later.0 ∙ more.0, later.1 ∙ ap (λ (l : List ℕ). b ∷ l) more.1, later.2 ∙ more.2)
    ]

-- a whole text is what stands before the `::` that follows it
pub cut-append : (q rest : List ℕ) → IsWhole q → IsCut (q ++ (cut ++ rest)) q rest
cut-append [] rest h = let here = cut_here 58 (58 ∷ rest) (begins_here rest) in record { found = here.0; before = here.1; after = here.2 }
cut-append (b ∷ q) rest h =
    let parts = or_parts _ _ (sym (has_cut-cons b (q ++ colon ∷ [])) ∙ h) in
    let later = cut_later b (q ++ (cut ++ rest)) (begins_alike b q (colon ∷ rest) [] ∙ parts.0) in
    let more = cut-append q rest parts.1 in
    record { found = later.0 ∙ more.found; before = later.1 ∙ ap (λ (l : List ℕ). b ∷ l) more.before; after = later.2 ∙ more.after }

parts_here : (b : ℕ) (bs : List ℕ) → b ∷ bs ≡ cut ++ drop 2 (b ∷ bs) → before_cut (b ∷ bs) ≡ [] → after_cut (b ∷ bs) ≡ rest_of bs → (b ∷ bs ≡ before_cut (b ∷ bs) ++ (cut ++ after_cut (b ∷ bs))) × IsWhole (before_cut (b ∷ bs))
unfolding has_cut begins_with_cut
parts_here b [] e before after = absurd cc
parts_here b (c ∷ bs) e before after =
    rw (before, after) (e, refl)

parts_later : (b : ℕ) (bs : List ℕ) → before_cut (b ∷ bs) ≡ b ∷ before_cut bs → after_cut (b ∷ bs) ≡ after_cut bs → begins_with_cut (b ∷ bs) ≡ false → bs ≡ before_cut bs ++ (cut ++ after_cut bs) → IsWhole (before_cut bs) → (b ∷ bs ≡ before_cut (b ∷ bs) ++ (cut ++ after_cut (b ∷ bs))) × IsWhole (before_cut (b ∷ bs))
parts_later b bs before after none parts whole =
    rw (before, after) (
      ap (λ (l : List ℕ). b ∷ l) parts,
      has_cut-cons b (before_cut bs ++ colon ∷ []) ∙ or_from _ _
          (begins_alike b (before_cut bs) [] (colon ∷ after_cut bs) ∙ ap (λ (l : List ℕ). begins_with_cut (b ∷ l)) (sym parts) ∙ none) whole,
    )

-- a text that is cut is its two parts with `::` between them, of which the first is whole
pub cut_parts : (bs : List ℕ) → has_cut bs ≡ true → (bs ≡ before_cut bs ++ (cut ++ after_cut bs)) × IsWhole (before_cut bs)
unfolding has_cut
cut_parts [] h = absurd (false≢true h)
cut_parts (b ∷ bs) h =
    elim (begins_cases (b ∷ bs)) [
      | inl y ↦ let here = cut_here b bs y.0 in parts_here b bs y.1 here.1 here.2
      | inr n ↦ let later = cut_later b bs n in
          let more = cut_parts bs (sym later.0 ∙ h) in
          parts_later b bs later.1 later.2 n more.0 more.1
    ]

-- what holds no `::` holds none in its front
has_cut-front : (xs ys : List ℕ) → has_cut (xs ++ ys) ≡ false → has_cut xs ≡ false
unfolding has_cut
has_cut-front [] ys h = refl
has_cut-front (b ∷ xs) ys h =
    let parts = or_parts _ _ h in
    or_from _ _ (begins_front b xs ys parts.0) (has_cut-front xs ys parts.1)

-- two texts that hold no `::`, with another byte than `:` between them
has_cut-between : (xs ys : List ℕ) (c : ℕ) → c ≢ colon → has_cut xs ≡ false → has_cut ys ≡ false → has_cut (xs ++ (c ∷ ys)) ≡ false
unfolding has_cut
has_cut-between [] ys c apart h k = or_from _ _ (begins_other c ys apart) k
has_cut-between (b ∷ xs) ys c apart h k =
    let parts = or_parts _ _ h in
    or_from _ _ (begins_between b xs ys c apart parts.0) (has_cut-between xs ys c apart parts.1 k)

-- two whole texts, with another byte than `:` between them, are whole
pub IsWhole-between : (xs ys : List ℕ) (c : ℕ) → c ≢ colon → IsWhole xs → IsWhole ys → IsWhole (xs ++ (c ∷ ys))
IsWhole-between xs ys c apart h k =
    rw append_assoc (has_cut-between xs (ys ++ colon ∷ []) c apart (has_cut-front xs (colon ∷ []) h) k)

-- a text with no `:` is whole
pub IsWhole-without_colon : (xs : List ℕ) → All (λ b. b ≢ colon) xs → IsWhole xs
unfolding has_cut begins_with_cut
IsWhole-without_colon [] h = refl
IsWhole-without_colon (b ∷ xs) h =
    or_from _ _ (begins_other b (xs ++ colon ∷ []) (h 0 0 (omega arith))) (IsWhole-without_colon xs (λ k d l. h (suc k) d (omega arith)))

-- a text is whole that holds no `::` and does not end in `:`
pub IsWhole-from_ends : (xs : List ℕ) → has_cut xs ≡ false → ((front : List ℕ) → xs ≢ front ++ colon ∷ []) → IsWhole xs
unfolding has_cut begins_with_cut
IsWhole-from_ends [] h ends = refl
IsWhole-from_ends (b ∷ xs) h ends =
    let parts = or_parts _ _ h in
    or_from _ _ (begins_last b xs parts.0 (λ e. ends [] e)) (IsWhole-from_ends xs parts.1 (λ front e. ends (b ∷ front) (ap (λ (l : List ℕ). b ∷ l) e)))

-- where what follows the first `::` is cut, so is the text
pub has_cut-after : (bs : List ℕ) → has_cut (after_cut bs) ≡ true → has_cut bs ≡ true
unfolding after_cut
has_cut-after [] h = h
has_cut-after (b ∷ bs) h =
    elim (begins_cases (b ∷ bs)) [
      | inl y ↦ (cut_here b bs y.0).0
      | inr n ↦ let later = cut_later b bs n in later.0 ∙ has_cut-after bs (ap has_cut (sym later.2) ∙ h)
    ]
