-- Lists with a number at their end, which is there once.
use Rattle.std.proofs.Common.{◌≡◌, ℕ, zero, suc, ◌<◌, ◌+◌, ◌-◌, Bool, true, false, ◌&&◌, ◌||◌, ◌==◌, nat_lt, cond, if◌then◌else◌, List, [], ◌∷◌, ◌++◌, filter, length, map, take, get_or, replicate, Option, Some, None, option_map, refl, sym, ap, ◌∙◌, ◌⊎◌, inl, inr, arith}
use Rattle.std.proofs.Math.Bool.{or-true}
use Rattle.std.proofs.lemmas.Bool.{cases_lt}
use Rattle.std.proofs.lemmas.List.{append-nil, length_push}
use Rattle.std.proofs.lemmas.List.Elements.{filter-append}
use Rattle.std.proofs.lemmas.List.Folds.{list_any_more}
use Rattle.std.proofs.lemmas.Option.{slice_get-map, slice_get_past}
use Rattle.std.specs.List.{range_with_len, slice_get}
use Rattle.std.specs.Option.{option_map_or}
use Rattle.pl_lemmas.specs.Words.{has_number, is_row, some_passes}
use Rattle.pl_lemmas.proofs.Numbers.{equal_numbers, range_more, same_number}
use Rattle.pl_lemmas.proofs.Truth.{true_or_false}
use Rattle.pl_state.specs.Chain.{refers_to}
use Rattle.pl_state.specs.References.{names_row}
use Rattle.pl_state.specs.declared.entry.Entry.{Entry}
use Rattle.pl_base.specs.Dependents.{dependents_among, dependents_of, ends_in, joined, joined_if}
use Rattle.pl_base.specs.Rows.{of_rows}
use Rattle.pl_base.proofs.Told.{range_low, range_past}

-- ---- the end of a list

get_last : {X : Type 0} (xs : List X) (y : X) → slice_get (xs ++ y ∷ []) (length xs) ≡ Some y
get_last [] y = refl
get_last (x ∷ xs) y = get_last xs y

ends_push : (later : ℕ) (list : List ℕ) → ends_in later (list ++ later ∷ []) ≡ true
ends_push later list =
    let long : length (list ++ later ∷ []) ≡ length list + 1 = length_push list later in
    let place : length (list ++ later ∷ []) - 1 ≡ length list = omega arith in
    ap (λ (n : ℕ). is_row (slice_get (list ++ later ∷ []) n) later) place
    ∙ ap (λ (o : Option ℕ). is_row o later) (get_last list later)
    ∙ same_number later

joined_twice : (later : ℕ) (list : List ℕ) → joined later (joined later list) ≡ joined later list
joined_twice later list = by (ends_in later list) refl
  where
    by : (b : Bool) → ends_in later list ≡ b → joined later (joined later list) ≡ joined later list
    by true is =
        let stays : joined later list ≡ list = ap (λ (b : Bool). if b then list else list ++ later ∷ []) is in
        ap (joined later) stays
    by false is =
        let grows : joined later list ≡ list ++ later ∷ [] = ap (λ (b : Bool). if b then list else list ++ later ∷ []) is in
        ap (joined later) grows
        ∙ ap (λ (b : Bool). if b then list ++ later ∷ [] else (list ++ later ∷ []) ++ later ∷ []) (ends_push later list)
        ∙ sym grows

twice_if : (a b : Bool) (later : ℕ) (list : List ℕ) → joined_if b later (joined_if a later list) ≡ joined_if (a || b) later list
twice_if true true later list = joined_twice later list
twice_if true false later list = refl
twice_if false b later list = refl

-- each number of a list is in it
pub number_there : (numbers : List ℕ) (i : ℕ) → i < length numbers → has_number numbers (get_or numbers i 0) ≡ true
number_there [] i inside = absurd (omega arith)
number_there (n ∷ numbers) zero inside = ap (λ (b : Bool). b || has_number numbers n) (same_number n)
number_there (n ∷ numbers) (suc i) inside =
    ap (λ (b : Bool). (n == get_or numbers i 0) || b) (number_there numbers i (omega arith)) ∙ or-true (n == get_or numbers i 0)

-- one list more is joined
pub join_more : (later : ℕ) (places : List ℕ) (i : ℕ) → i < length places → (row : ℕ) (o : Option (List ℕ))
    → option_map (joined_if (get_or places i 0 == row) later) (option_map (joined_if (has_number (take i places) row) later) o)
    ≡ option_map (joined_if (has_number (take (i + 1) places) row) later) o
join_more later places i inside row None = refl
join_more later places i inside row (Some list) =
    ap (λ (l : List ℕ). Some l) (twice_if (has_number (take i places) row) (get_or places i 0 == row) later list
    ∙ ap (λ (b : Bool). joined_if b later list) (sym (list_any_more (λ (other : ℕ). other == row) places i 0 inside)))

-- ---- rows that refer to a row

-- the last number of a list is in it
ends_has : (list : List ℕ) (k later : ℕ) → is_row (slice_get list k) later ≡ true → has_number list later ≡ true
ends_has [] k later h = absurd (let e : false ≡ true = h in cc)
ends_has (first ∷ list) zero later h = ap (λ (b : Bool). b || has_number list later) h
ends_has (first ∷ list) (suc k) later h = ap (λ (b : Bool). (first == later) || b) (ends_has list k later h) ∙ or-true (first == later)

filter_low : (test : ℕ → Bool) (from count number : ℕ) → has_number (filter test (range_with_len from count)) number ≡ true → number < from + count
filter_low test from zero number h = absurd (let e : false ≡ true = h in cc)
filter_low test from (suc count) number h = by (test from) h (filter_low test (from + 1) count number)
  where
    first : (b : Bool) → (from == number) ≡ b → (b || has_number (filter test (range_with_len (from + 1) count)) number) ≡ true
        → (has_number (filter test (range_with_len (from + 1) count)) number ≡ true → number < from + 1 + count) → number < from + suc count
    first true is h rest = let same : from ≡ number = equal_numbers from number is in omega arith
    first false is h rest = let low : number < from + 1 + count = rest h in omega arith

    by : (b : Bool)
        → has_number (cond b (from ∷ filter test (range_with_len (from + 1) count)) (filter test (range_with_len (from + 1) count))) number ≡ true
        → (has_number (filter test (range_with_len (from + 1) count)) number ≡ true → number < from + 1 + count) → number < from + suc count
    by true h rest = first (from == number) refl h rest
    by false h rest = let low : number < from + 1 + count = rest h in omega arith

-- what refers to a row among the first rows does not end in the next one
not_yet : (rows : List Entry) (i row : ℕ) → ends_in i (dependents_among rows i row) ≡ false
not_yet rows i row = by (true_or_false (ends_in i (dependents_among rows i row)))
  where
    by : (ends_in i (dependents_among rows i row) ≡ true) ⊎ (ends_in i (dependents_among rows i row) ≡ false)
        → ends_in i (dependents_among rows i row) ≡ false
    by (inl h) =
        let list : List ℕ = dependents_among rows i row in
        let low : i < 0 + i = filter_low (λ later. refers_to rows later row) 0 i i (ends_has list (length list - 1) i h) in
        absurd (omega arith)
    by (inr h) = h

-- the next row is joined to the list of each row that it refers to
among_more : (rows : List Entry) (i row : ℕ)
    → joined_if (refers_to rows i row) i (dependents_among rows i row) ≡ dependents_among rows (i + 1) row
among_more rows i row =
    by (refers_to rows i row)
    ∙ sym (filter-append (λ later. refers_to rows later row) (range_with_len 0 i) (i ∷ []))
    ∙ sym (ap (λ (n : ℕ). filter (λ later. refers_to rows later row) (range_with_len 0 n)) next
    ∙ ap (filter (λ later. refers_to rows later row)) (range_more 0 i)
    ∙ ap (λ (n : ℕ). filter (λ later. refers_to rows later row) (range_with_len 0 i ++ n ∷ [])) place)
  where
    next : i + 1 ≡ suc i
    next = omega arith

    place : 0 + i ≡ i
    place = omega arith

    by : (b : Bool) → joined_if b i (dependents_among rows i row) ≡ dependents_among rows i row ++ cond b (i ∷ []) []
    by true = ap (λ (b : Bool). if b then dependents_among rows i row else dependents_among rows i row ++ i ∷ []) (not_yet rows i row)
    by false = sym (append-nil (dependents_among rows i row))

-- ---- all lists

pub lists_more : (rows : List Entry) (i row : ℕ) (met : Bool) (old new : Option (List ℕ)) → met ≡ refers_to rows i row
    → old ≡ option_map (dependents_among rows i) (slice_get (range_with_len 0 (length rows)) row)
    → new ≡ option_map (joined_if met i) old
    → new ≡ option_map (dependents_among rows (i + 1)) (slice_get (range_with_len 0 (length rows)) row)
lists_more rows i row met old new is before joins =
    joins ∙ ap (option_map (joined_if met i)) before
    ∙ elim (cases_lt row (length rows)) [
      | inl low ↦
          ap (λ (o : Option ℕ). option_map (joined_if met i) (option_map (dependents_among rows i) o)) (range_low (length rows) row low)
          ∙ ap (λ (l : List ℕ). Some l) (ap (λ (b : Bool). joined_if b i (dependents_among rows i row)) is ∙ among_more rows i row)
          ∙ sym (ap (option_map (dependents_among rows (i + 1))) (range_low (length rows) row low))
      | inr high ↦
          ap (λ (o : Option ℕ). option_map (joined_if met i) (option_map (dependents_among rows i) o)) (range_past (length rows) row high)
          ∙ sym (ap (option_map (dependents_among rows (i + 1))) (range_past (length rows) row high))
    ]

lists_from : (rows : List Entry) (from count : ℕ) → replicate count [] ≡ map (dependents_among rows 0) (range_with_len from count)
lists_from rows from zero = refl
lists_from rows from (suc count) = ap (λ (lists : List (List ℕ)). [] ∷ lists) (lists_from rows (from + 1) count)

pub lists_start : (rows : List Entry) (lists : List (List ℕ)) → lists ≡ replicate (length rows) [] → (row : ℕ)
    → slice_get lists row ≡ option_map (dependents_among rows 0) (slice_get (range_with_len 0 (length rows)) row)
lists_start rows lists is row =
    ap (λ (l : List (List ℕ)). slice_get l row) (is ∙ lists_from rows 0 (length rows))
    ∙ slice_get-map (dependents_among rows 0) (range_with_len 0 (length rows)) row

same_gets : {X : Type 0} (xs ys : List X) → ((k : ℕ) → slice_get xs k ≡ slice_get ys k) → xs ≡ ys
same_gets [] [] same = refl
same_gets [] (y ∷ ys) same = absurd (let e : None ≡ Some y = same 0 in cc)
same_gets (x ∷ xs) [] same = absurd (let e : Some x ≡ None = same 0 in cc)
same_gets (x ∷ xs) (y ∷ ys) same =
    let first : Some x ≡ Some y = same 0 in
    let one : x ≡ y = cc in
    let rest : xs ≡ ys = same_gets xs ys (λ k. same (suc k)) in
    λ i. one i ∷ rest i

pub lists_done : (rows : List Entry) (lists : List (List ℕ))
    → ((row : ℕ) → slice_get lists row ≡ option_map (dependents_of rows) (slice_get (range_with_len 0 (length rows)) row))
    → lists ≡ of_rows (dependents_of rows) rows
lists_done rows lists each =
    same_gets lists (of_rows (dependents_of rows) rows)
    (λ row. each row ∙ sym (slice_get-map (dependents_of rows) (range_with_len 0 (length rows)) row))

-- ---- looked up

filter_none : (test : ℕ → Bool) (xs : List ℕ) → ((x : ℕ) → test x ≡ false) → filter test xs ≡ []
filter_none test [] none = refl
filter_none test (x ∷ xs) none = ap (λ (b : Bool). cond b (x ∷ filter test xs) (filter test xs)) (none x) ∙ filter_none test xs none

-- no row refers to one that is not there
none_refers : (rows : List Entry) (row : ℕ) → slice_get rows row ≡ None → (later : ℕ) → refers_to rows later row ≡ false
none_refers rows row none later =
    ap (λ (o : Option Entry). nat_lt row later && some_passes (λ one. some_passes (names_row one) o) (slice_get rows later)) none
    ∙ fails (nat_lt row later) (slice_get rows later)
  where
    fails : (b : Bool) (o : Option Entry) → (b && some_passes (λ one. false) o) ≡ false
    fails true None = refl
    fails true (Some one) = refl
    fails false o = refl

pub dependents_listed : (rows : List Entry) (row : ℕ)
    → option_map_or (λ list. list) (slice_get (of_rows (dependents_of rows) rows) row) [] ≡ dependents_of rows row
dependents_listed rows row =
    ap (λ (o : Option (List ℕ)). option_map_or (λ list. list) o []) (slice_get-map (dependents_of rows) (range_with_len 0 (length rows)) row)
    ∙ elim (cases_lt row (length rows)) [
      | inl low ↦ ap (λ (o : Option ℕ). option_map_or (λ list. list) (option_map (dependents_of rows) o) []) (range_low (length rows) row low)
      | inr high ↦
          ap (λ (o : Option ℕ). option_map_or (λ list. list) (option_map (dependents_of rows) o) []) (range_past (length rows) row high)
          ∙ sym (filter_none (λ later. refers_to rows later row) (range_with_len 0 (length rows))
          (none_refers rows row (slice_get_past rows row high)))
    ]
