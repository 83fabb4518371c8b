-- The URN of a child, and what is read of it.
use Rattle.std.proofs.Common.{◌≡◌, ◌<◌, ◌≤◌, ◌+◌, ◌-◌, ℕ, zero, suc, true, false, not, List, [], ◌∷◌, ◌++◌, length, length-append, drop, get_or, refl, sym, ap, ◌∙◌, arith, Option, Some, None, IfSome, inl, inr, MatchOption, Bor}
use Rattle.std.proofs.lemmas.Bool.{cond-true, cond-false, or_parts, ne_eqb, eqb-false, false≢true, cases_Bool}
use Rattle.std.proofs.Math.Seq.{get_or-append_seam, drop-append-add}
use Rattle.std.proofs.lemmas.List.{get_or-append_right}
use Rattle.std.proofs.lemmas.List.Sums.{suffix_len_is}
use Rattle.std.specs.List.{list_any, after_last, suffix_len}
use Rattle.std.specs.Option.{option_copied}
use Rattle.std.specs.Str.{bytes_eq}
use Rattle.pl_urn.specs.Cut.{IsWhole}
use Rattle.pl_urn.specs.Grammar.{is_empty, is_dollar, stack_type, qualified_type_of, own_type_of, has_empty_piece, IsUrn, IsScope, is_bad_type, child_fault, child_type, child_text, type_above, type_below, text_of}
use Rattle.pl_urn.proofs.Cuts.{IsWhole-between, IsWhole-without_colon, IsWhole-from_ends}
use Rattle.pl_urn.proofs.Calls.{ends-front}
use Rattle.pl_urn.proofs.Parts.{IsMadeOf, IsRead, IsRead-text_of, IsMadeOf-from_IsUrn, IsUrn-from_IsMadeOf, has_empty_piece-plain, has_empty_piece-below, pass_else}

-- a type that may be a child's own
pub record IsOwnType (kind : List ℕ) : Type 0 where
  pub full : is_empty kind ≡ false
  pub whole : IsWhole kind
  pub plain : list_any is_dollar kind ≡ false

pub IsOwnType-from_test : (kind : List ℕ) → is_bad_type kind ≡ false → IsOwnType kind
unfolding is_bad_type
IsOwnType-from_test kind h =
    let ends = or_parts _ _ h in
    let dollar = or_parts _ _ ends.0 in
    let cuts = or_parts _ _ dollar.0 in
    record {
      full = cuts.0;
      whole = IsWhole-from_ends kind cuts.1 (λ front e. false≢true (sym ends.1 ∙ ends-front kind front e));
      plain = dollar.1;
    }

-- a qualified type: whole, and with no empty piece
pub record IsQualified (kind : List ℕ) : Type 0 where
  pub whole : IsWhole kind
  pub full : has_empty_piece kind ≡ false

IsQualified-below : (above : Option (List ℕ)) (kind : List ℕ) → IfSome above IsQualified → IsOwnType kind → IsQualified (type_below above kind)
IsQualified-below None kind h own = record { whole = own.whole; full = has_empty_piece-plain kind own.full own.plain }
IsQualified-below (Some above) kind h own = record {
  whole = IsWhole-between above kind 36 (eqb-false 36 58 refl) h.whole own.whole;
  full = has_empty_piece-below above kind h.full (has_empty_piece-plain kind own.full own.plain);
}

-- what stands above a URN's child
pub IsQualified-above : (urn : List ℕ) → IsUrn urn → IfSome (type_above (qualified_type_of urn)) IsQualified
IsQualified-above urn h =
    let made = IsMadeOf-from_IsUrn urn h in
    elim (cases_Bool (bytes_eq (own_type_of urn) stack_type)) [
      | inl stack ↦ rw (cond-true _ None (Some (qualified_type_of urn)) stack) tt
      | inr other ↦ rw (cond-false _ None (Some (qualified_type_of urn)) other) (record { whole = made.kind_whole; full = made.kind_full })
    ]

-- what stands above the child of a call's parent
pub IsQualified-parent : (parent above : Option (Bor (List ℕ))) → MatchOption parent (above ≡ None) (λ urn. (option_copied above ≡ type_above (qualified_type_of urn.now)) × IsUrn urn.now) → IfSome (option_copied above) IsQualified
IsQualified-parent None above h = rw h tt
IsQualified-parent (Some urn) above h = rw h.0 (IsQualified-above urn.now h.1)

IsScope-full : (text : List ℕ) → IsScope text → is_empty text ≡ false
IsScope-full text h = let some = h.nonempty in ne_eqb (length text) 0 (omega arith)

-- the text of a child
pub IsMadeOf-below : (above : Option (List ℕ)) (stack project kind name : List ℕ) → IfSome above IsQualified → IsScope stack → IsScope project → child_fault kind name ≡ None → IsMadeOf (text_of stack project (type_below above kind) name) stack project (type_below above kind) name
IsMadeOf-below above stack project kind name h s p allowed =
    let kind_allowed = pass_else _ _ _ allowed in
    let name_allowed = pass_else _ _ _ kind_allowed.1 in
    let qualified = IsQualified-below above kind h (IsOwnType-from_test kind kind_allowed.0) in
    record {
      text_is = refl;
      stack_whole = IsWhole-without_colon stack s.without_colon;
      project_whole = IsWhole-without_colon project p.without_colon;
      kind_whole = qualified.whole;
      stack_full = IsScope-full stack s;
      project_full = IsScope-full project p;
      kind_full = qualified.full;
      name_full = name_allowed.0;
    }

-- a child's text is made of the parts that it is given
pub IsMadeOf-child : (parent : Option (List ℕ)) (stack project kind name : List ℕ) → IfSome parent IsUrn → IsScope stack → IsScope project → child_fault kind name ≡ None → IsMadeOf (child_text parent stack project kind name) stack project (child_type parent kind) name
IsMadeOf-child None stack project kind name h s p allowed = IsMadeOf-below None stack project kind name tt s p allowed
IsMadeOf-child (Some parent) stack project kind name h s p allowed =
    IsMadeOf-below (type_above (qualified_type_of parent)) stack project kind name (IsQualified-above parent h) s p allowed

-- a child's text is a URN
pub IsUrn-child : (parent : Option (List ℕ)) (stack project kind name : List ℕ) → IfSome parent IsUrn → IsScope stack → IsScope project → child_fault kind name ≡ None → IsUrn (child_text parent stack project kind name)
IsUrn-child parent stack project kind name h s p allowed =
    IsUrn-from_IsMadeOf _ _ _ _ _ (IsMadeOf-child parent stack project kind name h s p allowed)

-- the readers give a child's parts back
pub IsRead-child : (parent : Option (List ℕ)) (stack project kind name : List ℕ) → IfSome parent IsUrn → IsScope stack → IsScope project → child_fault kind name ≡ None → IsRead (child_text parent stack project kind name) stack project (child_type parent kind) name
IsRead-child parent stack project kind name h s p allowed =
    let made = IsMadeOf-child parent stack project kind name h s p allowed in
    IsRead-text_of stack project (child_type parent kind) name made.stack_whole made.project_whole made.kind_whole

-- a type without `$` has none at any place
is_dollar-plain : (xs : List ℕ) (k : ℕ) → list_any is_dollar xs ≡ false → k < length xs → is_dollar (get_or xs k 0) ≡ false
is_dollar-plain [] k h l = absurd (omega arith)
is_dollar-plain (x ∷ xs) zero h l = (or_parts _ _ h).0
is_dollar-plain (x ∷ xs) (suc k) h l = is_dollar-plain xs k (or_parts _ _ h).1 (omega arith)

shifted : (k n : ℕ) → n + 1 ≤ k → k - n ≡ suc (k - (n + 1))
shifted k n low = omega arith

-- the last piece of a type below another is the own type
after_last-type_below : (above : Option (List ℕ)) (kind : List ℕ) → list_any is_dollar kind ≡ false → after_last is_dollar (type_below above kind) ≡ kind
after_last-type_below None kind plain =
    let later : (k : ℕ) → 0 ≤ k → k < length kind → not (is_dollar (get_or kind k 0)) ≡ true = λ k low high. ap not (is_dollar-plain kind k plain high) in
    let len : suffix_len (λ b. not (is_dollar b)) kind ≡ length kind - 0 = suffix_len_is (λ b. not (is_dollar b)) kind 0 0 (omega arith) later (λ none. absurd (omega arith)) in
    let place : length kind - suffix_len (λ b. not (is_dollar b)) kind ≡ 0 = omega (arith, len) in
    ap (λ (n : ℕ). drop n kind) place
after_last-type_below (Some above) kind plain =
    let whole : List ℕ = above ++ (36 ∷ kind) in
    let count : length whole ≡ length above + (1 + length kind) = omega (arith, length-append above (36 ∷ kind)) in
    let later : (k : ℕ) → length above + 1 ≤ k → k < length whole → not (is_dollar (get_or whole k 0)) ≡ true =
    λ k low high. ap not (ap is_dollar (get_or-append_right above (36 ∷ kind) (length above) k 0 refl (omega arith) ∙ ap (λ (n : ℕ). get_or (36 ∷ kind) n 0) (shifted k (length above) low)) ∙ is_dollar-plain kind (k - (length above + 1)) plain (omega arith)) in
    let here : 0 < length above + 1 → not (is_dollar (get_or whole (length above + 1 - 1) 0)) ≡ false =
    λ _. ap (λ (b : ℕ). not (is_dollar b)) (ap (λ (n : ℕ). get_or whole n 0) (omega arith) ∙ get_or-append_seam above 36 kind 0) in
    let len : suffix_len (λ b. not (is_dollar b)) whole ≡ length whole - (length above + 1) = suffix_len_is (λ b. not (is_dollar b)) whole (length above + 1) 0 (omega arith) later here in
    let place : length whole - suffix_len (λ b. not (is_dollar b)) whole ≡ length above + 1 = omega (arith, len) in
    ap (λ (n : ℕ). drop n whole) place ∙ drop-append-add above (36 ∷ kind) 1

after_last-child : (parent : Option (List ℕ)) (kind : List ℕ) → list_any is_dollar kind ≡ false → after_last is_dollar (child_type parent kind) ≡ kind
after_last-child None kind plain = after_last-type_below None kind plain
after_last-child (Some parent) kind plain = after_last-type_below (type_above (qualified_type_of parent)) kind plain

-- a child's own type is the one that it is given
pub own_type_of-child : (parent : Option (List ℕ)) (stack project kind name : List ℕ) → IfSome parent IsUrn → IsScope stack → IsScope project → child_fault kind name ≡ None → own_type_of (child_text parent stack project kind name) ≡ kind
own_type_of-child parent stack project kind name h s p allowed =
    let own = IsOwnType-from_test kind (pass_else _ _ _ allowed).0 in
    ap (after_last is_dollar) (IsRead-child parent stack project kind name h s p allowed).kind_is ∙ after_last-child parent kind own.plain
