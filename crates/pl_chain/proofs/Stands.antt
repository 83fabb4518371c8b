-- The chain of a row, built over its rows in order with an index of those that stand for it.
use Rattle.std.proofs.Common.{◌≡◌, ◌<◌, ◌≤◌, ◌+◌, ◌&&◌, ◌||◌, ℕ, zero, suc, Bool, true, false, cond, List, [], ◌∷◌, ◌++◌, refl, sym, ap, ◌∙◌, Option, Some, None, arith, inl, inr, nat_lt}
use Rattle.std.proofs.lemmas.Bool.{cases_lt, false≢true, le-ltb, lt-ltb}
use Rattle.std.proofs.lemmas.List.Folds.{list_any-append}
use Rattle.std.specs.List.{list_any, slice_get}
use Rattle.pl_lemmas.specs.Words.{some_passes}
use Rattle.pl_state.specs.Chain.{chain_among, chain_with, joins, refers_to}
use Rattle.pl_state.specs.References.{meets, names_row, refs}
use Rattle.pl_state.specs.declared.entry.Entry.{Entry}
use Rattle.pl_state.specs.declared.fault.Missing.{Missing}
use Rattle.pl_sound.specs.declared.seen.Seen.{Seen}
use Rattle.pl_sound.specs.Seen.{gives, HasOneMore}
use Rattle.pl_sound.specs.Sound.{is_met}
use Rattle.pl_chain.specs.Given.{is_given}
use Rattle.pl_chain.proofs.Given.{given-more, given-none}

any_none : {X : Type 0} (xs : List X) → list_any (λ x. false) xs ≡ false
any_none [] = refl
any_none (x ∷ xs) = any_none xs

any-cong : {X : Type 0} (p q : X → Bool) (xs : List X) → ((x : X) → p x ≡ q x) → list_any p xs ≡ list_any q xs
any-cong p q [] same = refl
any-cong p q (x ∷ xs) same = ap (λ (b : Bool). b || list_any p xs) (same x) ∙ ap (λ (b : Bool). q x || b) (any-cong p q xs same)

or_middle : (a b c d : Bool) → (a || b || (c || d)) ≡ (a || c || (b || d))
or_middle true b c d = refl
or_middle false true true d = refl
or_middle false true false d = refl
or_middle false false c d = refl

any_or : {X : Type 0} (p q : X → Bool) (xs : List X) → list_any (λ x. p x || q x) xs ≡ (list_any p xs || list_any q xs)
any_or p q [] = refl
any_or p q (x ∷ xs) =
    ap (λ (b : Bool). p x || q x || b) (any_or p q xs) ∙ or_middle (p x) (q x) (list_any p xs) (list_any q xs)

-- some pair passes, whichever list is gone over first
any_swap : {X Y : Type 0} (f : X → Y → Bool) (xs : List X) (ys : List Y) → list_any (λ x. list_any (f x) ys) xs ≡ list_any (λ y. list_any (λ x. f x y) xs) ys
any_swap f xs [] = any_none xs
any_swap f xs (y ∷ ys) =
    any_or (λ x. f x y) (λ x. list_any (f x) ys) xs ∙ ap (λ (b : Bool). list_any (λ x. f x y) xs || b) (any_swap f xs ys)

-- whether the row at a place meets a reference
abbrev pub meets_at : List Entry → Missing → ℕ → Bool
meets_at rows want place = some_passes (meets want) (slice_get rows place)

-- whether a row refers to the row at a place
abbrev names_at : List Entry → Entry → ℕ → Bool
names_at rows row place = some_passes (names_row row) (slice_get rows place)

named_some : (row : Entry) (other : Option Entry) → list_any (λ want. some_passes (meets want) other) (refs row) ≡ some_passes (names_row row) other
named_some row None = any_none (refs row)
named_some row (Some other) = refl

-- the places of the rows that stand for a chain, once the rows before a place were passed
abbrev pub stood : ℕ → ℕ → List ℕ → List ℕ
stood at count chain = cond (nat_lt at count) (at ∷ chain) []

-- whether a row refers to one of these places, by its references
named_any : (rows : List Entry) (row : Entry) (places : List ℕ) → list_any (λ want. list_any (meets_at rows want) places) (refs row) ≡ list_any (names_at rows row) places
named_any rows row places =
    any_swap (meets_at rows) (refs row) places
    ∙ any-cong (λ place. list_any (λ want. meets_at rows want place) (refs row)) (names_at rows row) places (λ place. named_some row (slice_get rows place))

-- an earlier row that is referred to
refers_to-named : (rows : List Entry) (count place : ℕ) (row : Entry) → slice_get rows count ≡ Some row → place < count → refers_to rows count place ≡ names_at rows row place
refers_to-named rows count place row here before =
    ap (λ (b : Bool). b && some_passes (λ r. names_at rows r place) (slice_get rows count)) (lt-ltb place count before)
    ∙ ap (λ (o : Option Entry). some_passes (λ r. names_at rows r place) o) here

refers_to-later : (rows : List Entry) (count place : ℕ) → count ≤ place → refers_to rows count place ≡ false
refers_to-later rows count place after =
    ap (λ (b : Bool). b && some_passes (λ r. names_at rows r place) (slice_get rows count)) (le-ltb place count after)

any_with : (p q : ℕ → Bool) (joined : Bool) (chain : List ℕ) (place : ℕ) → list_any p chain ≡ list_any q chain → p place ≡ q place → list_any p (cond joined (chain ++ place ∷ []) chain) ≡ list_any q (cond joined (chain ++ place ∷ []) chain)
any_with p q true chain place same here =
    list_any-append p chain (place ∷ [])
    ∙ ap (λ (b : Bool). b || list_any p (place ∷ [])) same
    ∙ ap (λ (b : Bool). list_any q chain || (b || false)) here
    ∙ sym (list_any-append q chain (place ∷ []))
any_with p q false chain place same here = same

-- the rows of a chain stand before the place that it is built to
any_chain : (rows : List Entry) (at count : ℕ) (row : Entry) (passed : ℕ) → slice_get rows count ≡ Some row → passed ≤ count → list_any (refers_to rows count) (chain_among rows at passed) ≡ list_any (names_at rows row) (chain_among rows at passed)
any_chain rows at count row zero here below = refl
any_chain rows at count row (suc passed) here below =
    any_with (refers_to rows count) (names_at rows row) (joins rows at (chain_among rows at passed) passed) (chain_among rows at passed) passed
    (any_chain rows at count row passed here (omega arith))
    (refers_to-named rows count passed row here (omega arith))

-- up to its row nothing is in a chain
pub chain_among-early : (rows : List Entry) (at count : ℕ) → count ≤ at → chain_among rows at count ≡ []
chain_among-early rows at zero early = refl
chain_among-early rows at (suc count) early =
    let before : chain_among rows at count ≡ [] = chain_among-early rows at count (omega arith) in
    ap (λ (chain : List ℕ). chain_with rows at chain count) before
    ∙ ap (λ (b : Bool). cond (b || false) ([] ++ count ∷ []) []) (refers_to-later rows count at (omega arith))

-- what the index of those that stand for a chain says
abbrev pub Stands : List Entry → ℕ → ℕ → List ℕ → Seen → Type 0
Stands rows at count chain seen = (want : Missing) → is_given seen want ≡ list_any (meets_at rows want) (stood at count chain)

-- whether the next row joins, by what the index says of its references
pub joins_by_index : (rows : List Entry) (at count : ℕ) (row : Entry) (chain : List ℕ) (seen : Seen) → slice_get rows count ≡ Some row → chain ≡ chain_among rows at count → Stands rows at count chain seen → list_any (is_given seen) (refs row) ≡ joins rows at chain count
joins_by_index rows at count row chain seen here is stands =
    any-cong (is_given seen) (λ want. list_any (meets_at rows want) (stood at count chain)) (refs row) stands
    ∙ named_any rows row (stood at count chain)
    ∙ elim (cases_lt at count) [
      | inl before ↦
          ap (λ (b : Bool). list_any (names_at rows row) (cond b (at ∷ chain) [])) (lt-ltb at count before)
          ∙ ap (λ (b : Bool). b || list_any (names_at rows row) chain) (sym (refers_to-named rows count at row here before))
          ∙ ap (λ (b : Bool). refers_to rows count at || b)
          (ap (list_any (names_at rows row)) is
          ∙ sym (any_chain rows at count row count here (omega arith))
          ∙ sym (ap (list_any (refers_to rows count)) is))
      | inr after ↦
          ap (λ (b : Bool). list_any (names_at rows row) (cond b (at ∷ chain) [])) (le-ltb at count after)
          ∙ sym (ap (λ (b : Bool). b || list_any (refers_to rows count) chain) (refers_to-later rows count at after)
          ∙ ap (list_any (refers_to rows count)) (is ∙ chain_among-early rows at count after))
    ]

or_regroup : (m a c : Bool) → (m || (a || c)) ≡ (a || (c || (m || false)))
or_regroup true true c = refl
or_regroup true false true = refl
or_regroup true false false = refl
or_regroup false true c = refl
or_regroup false false true = refl
or_regroup false false false = refl

meets_at-here : (rows : List Entry) (want : Missing) (place : ℕ) (row : Entry) → slice_get rows place ≡ Some row → meets_at rows want place ≡ meets want row
meets_at-here rows want place row here = ap (some_passes (meets want)) here

-- a row that joins stands after the row whose chain it is
joined_after : (rows : List Entry) (at count : ℕ) (chain : List ℕ) → chain ≡ chain_among rows at count → joins rows at chain count ≡ true → at < count
joined_after rows at count chain is joined =
    elim (cases_lt at count) [
      | inl before ↦ before
      | inr after ↦ absurd (false≢true
          (sym (ap (λ (b : Bool). b || list_any (refers_to rows count) chain) (refers_to-later rows count at after)
          ∙ ap (list_any (refers_to rows count)) (is ∙ chain_among-early rows at count after)) ∙ joined))
    ]

-- once a row has joined
pub joined_chain : (rows : List Entry) (at count : ℕ) (chain : List ℕ) → chain ≡ chain_among rows at count → joins rows at chain count ≡ true → chain ++ count ∷ [] ≡ chain_among rows at (count + 1)
joined_chain rows at count chain is joined =
    let next : count + 1 ≡ suc count = omega arith in
    sym (ap (chain_among rows at) next ∙ ap (λ (l : List ℕ). chain_with rows at l count) (sym is)
    ∙ ap (λ (b : Bool). cond b (chain ++ count ∷ []) chain) joined)

pub joined_stands : (rows : List Entry) (at count : ℕ) (row : Entry) (chain : List ℕ) (old new : Seen) → slice_get rows count ≡ Some row → chain ≡ chain_among rows at count → joins rows at chain count ≡ true → HasOneMore old new row → Stands rows at count chain old → Stands rows at (count + 1) (chain ++ count ∷ []) new
joined_stands rows at count row chain old new here is joined more stands want =
    let after : at < count = joined_after rows at count chain is joined in
    let f : ℕ → Bool = meets_at rows want in
    given-more old new row more want
    ∙ ap (λ (b : Bool). meets want row || b) (stands want ∙ ap (λ (b : Bool). list_any f (cond b (at ∷ chain) [])) (lt-ltb at count after))
    ∙ or_regroup (meets want row) (f at) (list_any f chain)
    ∙ ap (λ (b : Bool). f at || (list_any f chain || (b || false))) (sym (meets_at-here rows want count row here))
    ∙ ap (λ (b : Bool). f at || b) (sym (list_any-append f chain (count ∷ [])))
    ∙ sym (ap (λ (b : Bool). list_any f (cond b (at ∷ (chain ++ count ∷ [])) [])) (lt-ltb at (count + 1) (omega arith)))

-- once a row was passed that does not join
pub passed_chain : (rows : List Entry) (at count : ℕ) (chain : List ℕ) → chain ≡ chain_among rows at count → joins rows at chain count ≡ false → chain ≡ chain_among rows at (count + 1)
passed_chain rows at count chain is joined =
    let next : count + 1 ≡ suc count = omega arith in
    sym (ap (chain_among rows at) next ∙ ap (λ (l : List ℕ). chain_with rows at l count) (sym is)
    ∙ ap (λ (b : Bool). cond b (chain ++ count ∷ []) chain) joined)

nat_lt-next : (at count : ℕ) → (count ≡ at → ⊥) → nat_lt at (count + 1) ≡ nat_lt at count
nat_lt-next at count other =
    elim (cases_lt at count) [
      | inl before ↦ lt-ltb at (count + 1) (omega arith) ∙ sym (lt-ltb at count before)
      | inr after ↦ le-ltb at (count + 1) (omega (arith, other)) ∙ sym (le-ltb at count after)
    ]

pub passed_stands : (rows : List Entry) (at count : ℕ) (chain : List ℕ) (seen : Seen) → (count ≡ at → ⊥) → Stands rows at count chain seen → Stands rows at (count + 1) chain seen
passed_stands rows at count chain seen other stands want =
    stands want ∙ ap (λ (b : Bool). list_any (meets_at rows want) (cond b (at ∷ chain) [])) (sym (nat_lt-next at count other))

-- once the row whose chain it is was passed
pub begun_stands : (rows : List Entry) (at count : ℕ) (row : Entry) (chain : List ℕ) (old new : Seen) → slice_get rows count ≡ Some row → chain ≡ chain_among rows at count → count ≡ at → HasOneMore old new row → Stands rows at count chain old → Stands rows at (count + 1) chain new
begun_stands rows at count row chain old new here is same more stands want =
    let f : ℕ → Bool = meets_at rows want in
    let empty : chain ≡ [] = is ∙ chain_among-early rows at count (omega arith) in
    given-more old new row more want
    ∙ ap (λ (b : Bool). meets want row || b) (stands want ∙ ap (λ (b : Bool). list_any f (cond b (at ∷ chain) [])) (le-ltb at count (omega arith)))
    ∙ ap (λ (b : Bool). b || false) (sym (meets_at-here rows want count row here) ∙ ap f same)
    ∙ sym (ap (λ (b : Bool). list_any f (cond b (at ∷ chain) [])) (lt-ltb at (count + 1) (omega arith))
    ∙ ap (λ (l : List ℕ). list_any f (at ∷ l)) empty)

-- before the first row nothing stands for the chain
pub none_stands : (rows : List Entry) (at : ℕ) (chain : List ℕ) (seen : Seen) → ((want : Missing) → gives seen want ≡ is_met [] want) → Stands rows at 0 chain seen
none_stands rows at chain seen same want =
    given-none seen same want
    ∙ sym (ap (λ (b : Bool). list_any (meets_at rows want) (cond b (at ∷ chain) [])) (le-ltb at 0 (omega arith)))

-- the same chain and the same index
pub same_stands : (rows : List Entry) (at count : ℕ) (chain other : List ℕ) (seen index : Seen) → other ≡ chain → index ≡ seen → Stands rows at count chain seen → Stands rows at count other index
same_stands rows at count chain other seen index same_chain same_index stands want =
    ap (λ (s : Seen). is_given s want) same_index
    ∙ stands want
    ∙ ap (λ (l : List ℕ). list_any (meets_at rows want) (stood at count l)) (sym same_chain)
