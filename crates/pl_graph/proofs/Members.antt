-- Lists of numbers: which numbers they have, told by a test, and that they rise.
use Rattle.std.proofs.Common.{◌≡◌, ℕ, ◌+◌, ◌<◌, ◌≤◌, ◌==◌, Bool, true, false, ◌&&◌, ◌||◌, cond, ◌⊎◌, inl, inr, List, [], ◌∷◌, ◌++◌, length, get_or, refl, sym, ◌∙◌, ap, subst, arith, length-append}
use Rattle.std.proofs.lemmas.Bool.{and_from, and_right, cases_Bool, cases_lt, eq-eqb, eqb-true, ne_eqb, or_cases, or_left, or_right}
use Rattle.std.proofs.lemmas.List.{get_or_append_left, get_or_default, get_or_push}
use Rattle.std.proofs.lemmas.List.Folds.{Any-from_list_any, list_any-append, list_any-from_Any}
use Rattle.std.proofs.lemmas.List.FromFn.{get_or-range_with_len, length-range_with_len}
use Rattle.std.specs.List.{Contains, filter, list_any, range_with_len}
use Rattle.std.specs.List.Sorted.{IsStrictlyIncreasing}

-- whether a number is one of a list
abbrev pub has : List ℕ → ℕ → Bool
has numbers n = list_any (λ number. number == n) numbers

-- ---- a list has just the numbers that it contains

pub has-contained : (numbers : List ℕ) (n : ℕ) → Contains numbers n → has numbers n ≡ true
has-contained numbers n held =
    list_any-from_Any (λ (number : ℕ). number == n) numbers (held.0, n, held.1, held.2, eq-eqb n n refl)

pub contains_from_has : (numbers : List ℕ) (n : ℕ) → has numbers n ≡ true → Contains numbers n
contains_from_has numbers n h =
    let found = Any-from_list_any (λ (number : ℕ). number == n) numbers h in
    let same : found.1 ≡ n = eqb-true found.1 n found.4 in
    (found.0, found.2, subst (λ (number : ℕ). get_or numbers found.0 number ≡ number) same found.3)

-- ---- tests of a list

-- what one of the numbers passes, some pass
pub some_pass : (test : ℕ → Bool) (numbers : List ℕ) (n : ℕ) → has numbers n ≡ true → test n ≡ true → list_any test numbers ≡ true
some_pass test numbers n h passes =
    let found = contains_from_has numbers n h in
    list_any-from_Any test numbers (found.0, n, found.1, found.2, passes)

-- what some pass, one of the numbers passes
pub one_passes : (test : ℕ → Bool) (numbers : List ℕ) → list_any test numbers ≡ true → (n : ℕ) × (has numbers n ≡ true) × (test n ≡ true)
one_passes test numbers h =
    let found = Any-from_list_any test numbers h in
    (found.1, has-contained numbers found.1 (found.0, found.2, found.3), found.4)

-- ---- a number more at the end

pub has-last : (numbers : List ℕ) (last : ℕ) → has (numbers ++ last ∷ []) last ≡ true
has-last numbers last =
    list_any-append (λ (number : ℕ). number == last) numbers (last ∷ [])
    ∙ or_right (has numbers last) _ (or_left (last == last) false (eq-eqb last last refl))

pub has-before : (numbers : List ℕ) (last n : ℕ) → has numbers n ≡ true → has (numbers ++ last ∷ []) n ≡ true
has-before numbers last n h =
    list_any-append (λ (number : ℕ). number == n) numbers (last ∷ []) ∙ or_left (has numbers n) _ h

pub last_or_before : (numbers : List ℕ) (last n : ℕ) → has (numbers ++ last ∷ []) n ≡ true → (last ≡ n) ⊎ (has numbers n ≡ true)
last_or_before numbers last n h =
    by (or_cases (has numbers n) (has (last ∷ []) n) (sym (list_any-append (λ (number : ℕ). number == n) numbers (last ∷ [])) ∙ h))
  where
    end : ((last == n) ≡ true) ⊎ (false ≡ true) → last ≡ n
    end (inl same) = eqb-true last n same
    end (inr never) = absurd (let e : false ≡ true = never in cc)

    by : (has numbers n ≡ true) ⊎ (has (last ∷ []) n ≡ true) → (last ≡ n) ⊎ (has numbers n ≡ true)
    by (inl before) = inr before
    by (inr same) = inl (end (or_cases (last == n) false same))

-- another number than the last is there just where it was before
pub has-other : (numbers : List ℕ) (last n : ℕ) → (last ≡ n → ⊥) → has (numbers ++ last ∷ []) n ≡ has numbers n
has-other numbers last n other =
    list_any-append (λ (number : ℕ). number == n) numbers (last ∷ [])
    ∙ ap (λ (b : Bool). has numbers n || (b || false)) (ne_eqb last n other)
    ∙ by (has numbers n)
  where
    by : (b : Bool) → (b || (false || false)) ≡ b
    by true = refl
    by false = refl

-- numbers that rise go on rising with a number above them all
pub rising-push : (numbers : List ℕ) (last : ℕ) → IsStrictlyIncreasing numbers
    → ((n : ℕ) → has numbers n ≡ true → n < last) → IsStrictlyIncreasing (numbers ++ last ∷ [])
rising-push numbers last rise below k within = by (cases_lt (k + 1) (length numbers)) (length-append numbers (last ∷ []))
  where
    by : (k + 1 < length numbers) ⊎ (length numbers ≤ k + 1) → length (numbers ++ last ∷ []) ≡ length numbers + 1
        → get_or (numbers ++ last ∷ []) k 0 < get_or (numbers ++ last ∷ []) (k + 1) 0
    by (inl inside) size =
        let first : get_or (numbers ++ last ∷ []) k 0 ≡ get_or numbers k 0 = get_or_append_left numbers (last ∷ []) 0 k (omega arith) in
        let next : get_or (numbers ++ last ∷ []) (k + 1) 0 ≡ get_or numbers (k + 1) 0 =
        get_or_append_left numbers (last ∷ []) 0 (k + 1) inside in
        let less : get_or numbers k 0 < get_or numbers (k + 1) 0 = rise k inside in
        omega arith
    by (inr past) size =
        let low : k < length numbers = omega arith in
        let end : length numbers ≡ k + 1 = omega arith in
        let first : get_or (numbers ++ last ∷ []) k 0 ≡ get_or numbers k 0 = get_or_append_left numbers (last ∷ []) 0 k low in
        let next : get_or (numbers ++ last ∷ []) (k + 1) 0 ≡ last = get_or_push numbers last 0 (k + 1) end in
        let less : get_or numbers k 0 < last = below (get_or numbers k 0) (has-contained numbers (get_or numbers k 0) (k, low, get_or_default numbers k (get_or numbers k 0) 0 low)) in
        omega arith

-- ---- ranges and filters

pub range-rises : (n : ℕ) → IsStrictlyIncreasing (range_with_len 0 n)
range-rises n k within =
    let size : length (range_with_len 0 n) ≡ n = length-range_with_len 0 n in
    let first : get_or (range_with_len 0 n) k 0 ≡ 0 + k = get_or-range_with_len 0 n k 0 (omega arith) in
    let next : get_or (range_with_len 0 n) (k + 1) 0 ≡ 0 + (k + 1) = get_or-range_with_len 0 n (k + 1) 0 (omega arith) in
    omega arith

pub has-range : (n k : ℕ) → k < n → has (range_with_len 0 n) k ≡ true
has-range n k low =
    let size : length (range_with_len 0 n) ≡ n = length-range_with_len 0 n in
    has-contained (range_with_len 0 n) k (k, omega arith, get_or-range_with_len 0 n k k low ∙ omega arith)

-- a filter keeps just the numbers that pass
pub has-filter : (test : ℕ → Bool) (numbers : List ℕ) (n : ℕ) → has (filter test numbers) n ≡ (has numbers n && test n)
has-filter test [] n = refl
has-filter test (first ∷ others) n = by (test first) refl (cases_Bool (first == n)) (has-filter test others n)
  where
    by : (b : Bool) → test first ≡ b → ((first == n) ≡ true) ⊎ ((first == n) ≡ false)
        → has (filter test others) n ≡ (has others n && test n)
        → has (cond b (first ∷ filter test others) (filter test others)) n ≡ (((first == n) || has others n) && test n)
    by true is (inl same) rest =
        let on : test n ≡ true = sym (ap test (eqb-true first n same)) ∙ is in
        or_left (first == n) _ same ∙ sym (and_from _ (test n) (or_left (first == n) (has others n) same) on)
    by false is (inl same) rest =
        let off : test n ≡ false = sym (ap test (eqb-true first n same)) ∙ is in
        rest ∙ and_right (has others n) (test n) off ∙ sym (and_right _ (test n) off)
    by true is (inr other) rest =
        ap (λ (b : Bool). b || has (filter test others) n) other
        ∙ rest
        ∙ sym (ap (λ (b : Bool). (b || has others n) && test n) other)
    by false is (inr other) rest = rest ∙ sym (ap (λ (b : Bool). (b || has others n) && test n) other)
