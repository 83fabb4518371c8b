-- The order of providers: what is found first in a list that stands in it, with one more that passes.
use Rattle.std.proofs.Common.{◌≡◌, ℕ, zero, suc, ◌+◌, ◌<◌, ◌≤◌, ◌==◌, nat_lt, Bool, true, false, ◌&&◌, ◌||◌, cond, if◌then◌else◌, List, [], ◌∷◌, ◌++◌, find, length, map, reverse, Option, Some, None, refl, sym, ◌∙◌, ap, subst, arith}
use Rattle.std.proofs.lemmas.Bool.Decides.{nat_tests}
use Rattle.std.proofs.Math.Bool.{or-false}
use Rattle.std.proofs.lemmas.List.{reverse-append}
use Rattle.std.proofs.lemmas.List.Folds.{list_any-append}
use Rattle.std.proofs.lemmas.Option.{none-some, same_Some}
use Rattle.std.specs.List.{list_all, list_any, range_with_len}
use Rattle.pl_lemmas.proofs.Lists.{any_mapped, any_reversed}
use Rattle.pl_lemmas.proofs.Numbers.{equal_numbers, range_has, range_more, same_number}
use Rattle.pl_lemmas.proofs.Truth.{and_left, and_right}
use Rattle.pl_events.specs.declared.operation.Source.{Source}
use Rattle.pl_events.specs.declared.operation.Source.TheVariants as source
use Rattle.pl_model.specs.Known.{Known}
use Rattle.pl_model.specs.Run.{rows_of}
use Rattle.pl_model.specs.Tickets.{same_source}
use Rattle.pl_due.specs.Now.{earlier, is_before, is_listed, providers_of}

-- ---- two providers

pub same_is : (a b : Source) → same_source a b ≡ true → a ≡ b
same_is (source.Goal a) (source.Goal b) h = ap source.Goal (equal_numbers a b h)
same_is (source.Row a) (source.Row b) h = ap source.Row (equal_numbers a b h)
same_is (source.Goal a) (source.Row b) h = absurd (let e : false ≡ true = h in cc)
same_is (source.Row a) (source.Goal b) h = absurd (let e : false ≡ true = h in cc)

pub same_self : (a : Source) → same_source a a ≡ true
same_self (source.Goal a) = same_number a
same_self (source.Row a) = same_number a

not_before : (n : ℕ) → nat_lt n n ≡ false
not_before n = grind (arith, nat_tests)

not_behind : (a b : ℕ) → nat_lt a b ≡ true → nat_lt b a ≡ false
not_behind a b h = grind (arith, nat_tests)

before_self : (a : Source) → is_before a a ≡ false
before_self (source.Goal a) = not_before a
before_self (source.Row a) = not_before a

before_once : (a b : Source) → is_before a b ≡ true → is_before b a ≡ false
before_once (source.Goal a) (source.Goal b) h = not_behind a b h
before_once (source.Goal a) (source.Row b) h = refl
before_once (source.Row a) (source.Goal b) h = absurd (let e : false ≡ true = h in cc)
before_once (source.Row a) (source.Row b) h = not_behind b a h

-- ---- lists in order

abbrev is_ordered : List Source → Bool
is_ordered [] = true
is_ordered (x ∷ xs) = list_all (is_before x) xs && is_ordered xs

-- one of the list passes what all pass
all_at : (p : Source → Bool) (xs : List Source) (own : Source) → list_all p xs ≡ true → list_any (same_source own) xs ≡ true → p own ≡ true
all_at p [] own all h = absurd (let e : false ≡ true = h in cc)
all_at p (x ∷ xs) own all h = by (same_source own x) refl h (all_at p xs own (and_right (p x) (list_all p xs) all))
  where
    by : (b : Bool) → same_source own x ≡ b → (b || list_any (same_source own) xs) ≡ true
        → (list_any (same_source own) xs ≡ true → p own ≡ true) → p own ≡ true
    by true is h rest =
        subst (λ (one : Source). p one ≡ true) (sym (same_is own x is)) (and_left (p x) (list_all p xs) all)
    by false is h rest = rest h

-- what is found passes it too
found_at : (p q : Source → Bool) (xs : List Source) (one : Source) → list_all p xs ≡ true → find q xs ≡ Some one → p one ≡ true
found_at p q [] one all h = absurd (none-some one h)
found_at p q (x ∷ xs) one all h = by (q x) h (found_at p q xs one (and_right (p x) (list_all p xs) all))
  where
    by : (b : Bool) → cond b (Some x) (find q xs) ≡ Some one → (find q xs ≡ Some one → p one ≡ true) → p one ≡ true
    by true h rest = subst (λ (one : Source). p one ≡ true) (same_Some x one h) (and_left (p x) (list_all p xs) all)
    by false h rest = rest h

-- the first of the list that passes, or is one more of it, is the earlier one of the first that passes and that one
pub first_more : (p : Source → Bool) (own : Source) (xs : List Source) → is_ordered xs ≡ true
    → find (λ one. p one || same_source own one) xs
    ≡ (if list_any (same_source own) xs then Some (earlier (find p xs) own) else find p xs)
first_more p own [] ordered = refl
first_more p own (x ∷ xs) ordered =
    by (p x) (same_source own x) refl (list_any (same_source own) xs) refl
    (first_more p own xs (and_right (list_all (is_before x) xs) (is_ordered xs) ordered))
  where
    behind : list_all (is_before x) xs ≡ true
    behind = and_left (list_all (is_before x) xs) (is_ordered xs) ordered

    -- the head stands before one more of the others
    head_first : (there : Bool) → list_any (same_source own) xs ≡ there → Some x ≡ (if there then Some (earlier (Some x) own) else Some x)
    head_first true is =
        ap (λ (b : Bool). Some (if b then own else x))
        (sym (before_once x own (all_at (is_before x) xs own behind is)))
    head_first false is = refl

    -- it is that one, and none before it passes
    head_own : x ≡ own → (found : Option Source) → find p xs ≡ found → Some x ≡ Some (earlier found own)
    head_own same None is = ap Some same
    head_own same (Some other) is =
        ap Some same
        ∙ ap (λ (b : Bool). Some (if b then own else other))
        (sym (subst (λ (one : Source). is_before one other ≡ true) same (found_at (is_before x) p xs other behind is)))

    by : (passes is_own : Bool) → same_source own x ≡ is_own → (there : Bool) → list_any (same_source own) xs ≡ there
        → find (λ one. p one || same_source own one) xs ≡ (if there then Some (earlier (find p xs) own) else find p xs)
        → cond (passes || is_own) (Some x) (find (λ one. p one || same_source own one) xs)
        ≡ (if is_own || there then Some (earlier (cond passes (Some x) (find p xs)) own) else cond passes (Some x) (find p xs))
    by true true is there in_rest rest =
        ap (λ (b : Bool). Some (if b then own else x))
        (sym (subst (λ (one : Source). is_before one x ≡ false) (sym (same_is own x is)) (before_self x)))
    by true false is there in_rest rest = head_first there in_rest
    by false true is there in_rest rest = head_own (sym (same_is own x is)) (find p xs) refl
    by false false is there in_rest rest = rest

-- ---- the providers there are stand in order

all_mapped : {X Y : Type 0} (p : Y → Bool) (f : X → Y) (xs : List X) → list_all p (map f xs) ≡ list_all (λ x. p (f x)) xs
all_mapped p f [] = refl
all_mapped p f (x ∷ xs) = ap (λ (b : Bool). p (f x) && b) (all_mapped p f xs)

all_both : {X : Type 0} (p : X → Bool) (xs ys : List X) → list_all p xs ≡ true → list_all p ys ≡ true → list_all p (xs ++ ys) ≡ true
all_both p [] ys h k = k
all_both p (x ∷ xs) ys h k =
    ap (λ (b : Bool). b && list_all p (xs ++ ys)) (and_left (p x) (list_all p xs) h)
    ∙ all_both p xs ys (and_right (p x) (list_all p xs) h) k

all_turned : {X : Type 0} (p : X → Bool) (xs : List X) → list_all p xs ≡ true → list_all p (reverse xs) ≡ true
all_turned p [] h = refl
all_turned {X = X} p (x ∷ xs) h =
    subst (λ (ys : List X). list_all p ys ≡ true) (sym (reverse-append (x ∷ []) xs))
    (all_both p (reverse xs) (x ∷ []) (all_turned p xs (and_right (p x) (list_all p xs) h))
    (ap (λ (b : Bool). b && true) (and_left (p x) (list_all p xs) h)))

-- each of a range is below its end
all_below : (last a n : ℕ) → a + n ≤ last → list_all (λ k. nat_lt k last) (range_with_len a n) ≡ true
all_below last a zero h = refl
all_below last a (suc n) h =
    ap (λ (b : Bool). b && list_all (λ k. nat_lt k last) (range_with_len (a + 1) n))
    (let e : nat_lt a last ≡ true = (let low : a < last = omega arith in grind (arith, nat_tests)) in e)
    ∙ all_below last (a + 1) n (omega arith)

-- and each of one that begins later is behind it
all_behind : (k a n : ℕ) → k < a → list_all (λ later. nat_lt k later) (range_with_len a n) ≡ true
all_behind k a zero h = refl
all_behind k a (suc n) h =
    ap (λ (b : Bool). b && list_all (λ later. nat_lt k later) (range_with_len (a + 1) n))
    (let e : nat_lt k a ≡ true = grind (arith, nat_tests) in e)
    ∙ all_behind k (a + 1) n (omega arith)

rows_behind : (number : ℕ) (rows : List ℕ) → list_all (is_before (source.Goal number)) (map source.Row rows) ≡ true
rows_behind number [] = refl
rows_behind number (row ∷ rows) = rows_behind number rows

rows_ordered : (n : ℕ) → is_ordered (map source.Row (reverse (range_with_len 0 n))) ≡ true
rows_ordered zero = refl
rows_ordered (suc n) =
    ap (λ (rows : List ℕ). is_ordered (map source.Row (reverse rows))) (range_more 0 n)
    ∙ ap (λ (rows : List ℕ). is_ordered (map source.Row rows)) (reverse-append (range_with_len 0 n) ((0 + n) ∷ []))
    ∙ ap (λ (b : Bool). b && is_ordered (map source.Row (reverse (range_with_len 0 n))))
    (all_mapped (is_before (source.Row (0 + n))) source.Row (reverse (range_with_len 0 n))
    ∙ all_turned (λ row. nat_lt row (0 + n)) (range_with_len 0 n) (all_below (0 + n) 0 n (omega arith)))
    ∙ rows_ordered n

goals_ordered : (a n : ℕ) (rows : List ℕ) → is_ordered (map source.Row rows) ≡ true
    → is_ordered (map source.Goal (range_with_len a n) ++ map source.Row rows) ≡ true
goals_ordered a zero rows h = h
goals_ordered a (suc n) rows h =
    ap (λ (b : Bool). b && is_ordered (map source.Goal (range_with_len (a + 1) n) ++ map source.Row rows))
    (all_both (is_before (source.Goal a)) (map source.Goal (range_with_len (a + 1) n)) (map source.Row rows)
    (all_mapped (is_before (source.Goal a)) source.Goal (range_with_len (a + 1) n) ∙ all_behind a (a + 1) n (omega arith))
    (rows_behind a rows))
    ∙ goals_ordered (a + 1) n rows h

pub providers_ordered : (known : Known) → is_ordered (providers_of known) ≡ true
providers_ordered known =
    goals_ordered 0 (length known.goals) (reverse (range_with_len 0 (length (rows_of known.run))))
    (rows_ordered (length (rows_of known.run)))

-- ---- and are those that are listed

none_past : (k a n : ℕ) → a + n ≤ k → list_any (λ other. k == other) (range_with_len a n) ≡ false
none_past k a zero h = refl
none_past k a (suc n) h =
    ap (λ (b : Bool). b || list_any (λ other. k == other) (range_with_len (a + 1) n))
    (let e : (k == a) ≡ false = (let low : a < k = omega arith in grind (arith, nat_tests)) in e)
    ∙ none_past k (a + 1) n (omega arith)

any_of_range : (k n : ℕ) → list_any (λ other. k == other) (range_with_len 0 n) ≡ nat_lt k n
any_of_range k n = by (nat_lt k n) refl
  where
    by : (b : Bool) → nat_lt k n ≡ b → list_any (λ other. k == other) (range_with_len 0 n) ≡ b
    by true is =
        range_has (λ other. k == other) 0 n k (omega arith)
        (let low : k < n = grind (arith, nat_tests) in omega arith) (same_number k)
    by false is = none_past k 0 n (let low : n ≤ k = grind (arith, nat_tests) in omega arith)

no_rows : (number : ℕ) (rows : List ℕ) → list_any (same_source (source.Goal number)) (map source.Row rows) ≡ false
no_rows number [] = refl
no_rows number (row ∷ rows) = no_rows number rows

no_goals : (row : ℕ) (goals : List ℕ) → list_any (same_source (source.Row row)) (map source.Goal goals) ≡ false
no_goals row [] = refl
no_goals row (goal ∷ goals) = no_goals row goals

pub listed_is : (known : Known) (own : Source) → list_any (same_source own) (providers_of known) ≡ is_listed known own
listed_is known (source.Goal number) =
    list_any-append (same_source (source.Goal number)) (map source.Goal (range_with_len 0 (length known.goals)))
    (map source.Row (reverse (range_with_len 0 (length (rows_of known.run)))))
    ∙ ap (λ (b : Bool). list_any (same_source (source.Goal number)) (map source.Goal (range_with_len 0 (length known.goals))) || b)
    (no_rows number (reverse (range_with_len 0 (length (rows_of known.run)))))
    ∙ or-false (list_any (same_source (source.Goal number)) (map source.Goal (range_with_len 0 (length known.goals))))
    ∙ any_mapped (same_source (source.Goal number)) source.Goal (range_with_len 0 (length known.goals))
    ∙ any_of_range number (length known.goals)
listed_is known (source.Row row) =
    list_any-append (same_source (source.Row row)) (map source.Goal (range_with_len 0 (length known.goals)))
    (map source.Row (reverse (range_with_len 0 (length (rows_of known.run)))))
    ∙ ap (λ (b : Bool). b || list_any (same_source (source.Row row)) (map source.Row (reverse (range_with_len 0 (length (rows_of known.run))))))
    (no_goals row (range_with_len 0 (length known.goals)))
    ∙ any_mapped (same_source (source.Row row)) source.Row (reverse (range_with_len 0 (length (rows_of known.run))))
    ∙ any_reversed (λ other. row == other) (range_with_len 0 (length (rows_of known.run)))
    ∙ any_of_range row (length (rows_of known.run))
