-- How many things have a stamp, before and after each call.
use Rattle.std.proofs.Common.{◌≡◌, ℕ, zero, suc, ◌+◌, ◌<◌, ◌≤◌, ◌==◌, Bool, true, false, cond, if◌then◌else◌, Option, None, Some, List, [], ◌∷◌, ◌++◌, length, map, nat_lt, slice_get, refl, ap, sym, subst, ◌∙◌, arith, eqb-true, eq-eqb}
use Rattle.std.proofs.lemmas.Bool.Decides.{nat_tests}
use Rattle.std.specs.List.{enumerate_from}
use Rattle.pl_state.specs.declared.entry.Entry.{Entry}
use Rattle.pl_state.specs.declared.pending.Pending.{Pending}
use Rattle.pl_snap.specs.declared.fresh.Fresh.{Fresh}
use Rattle.pl_snap.specs.Lists.{changed_first, without_first}
use Rattle.pl_snap.specs.Model.{Merged, Row, Waiting, stamps_of, waiting_of}
use Rattle.pl_snap.specs.Rows.{claim_taken, doomed_row, first_rows, first_waiting, is_row, set_rows, turned_if, turned_rows}
use Rattle.pl_snap.specs.Stamps.{AreBelow, AreDistinct, all_bearers, all_stamps, bearers}
use Rattle.pl_turning.specs.Turning.{Turning, mentions}

-- ---- one stamp

abbrev one_when : Bool → ℕ
one_when b = if b then 1 else 0

-- 1 where a stamp is this one
abbrev pub one_if : ℕ → ℕ → ℕ
one_if own stamp = one_when (own == stamp)

one_if-same : (n : ℕ) → one_if n n ≡ 1
one_if-same n = ap one_when (eq-eqb n n refl)

one_if-below : (own stamp : ℕ) → own < stamp → one_if own stamp ≡ 0
one_if-below own stamp low = by (own == stamp) refl
  where
    by : (b : Bool) → (own == stamp) ≡ b → one_when b ≡ 0
    by true is = (let same : own ≡ stamp = eqb-true own stamp is in absurd (omega arith))
    by false is = refl

one_if-above : (own stamp : ℕ) → stamp < own → one_if own stamp ≡ 0
one_if-above own stamp high = by (own == stamp) refl
  where
    by : (b : Bool) → (own == stamp) ≡ b → one_when b ≡ 0
    by true is = (let same : own ≡ stamp = eqb-true own stamp is in absurd (omega arith))
    by false is = refl

-- ---- stamps one after another

-- how many of so many stamps from one on are this one
abbrev pub among : ℕ → ℕ → ℕ → ℕ
among first zero stamp = 0
among first (suc count) stamp = one_if first stamp + among (first + 1) count stamp

pub among-below : (first count stamp : ℕ) → stamp < first → among first count stamp ≡ 0
among-below first zero stamp low = refl
among-below first (suc count) stamp low = omega (arith, one_if-above first stamp low, among-below (first + 1) count stamp (omega arith))

among-behind : (first count stamp : ℕ) → first + count ≤ stamp → among first count stamp ≡ 0
among-behind first zero stamp high = refl
among-behind first (suc count) stamp high = omega (arith, one_if-below first stamp (omega arith), among-behind (first + 1) count stamp (omega arith))

among-most : (first count stamp : ℕ) → among first count stamp ≤ 1
among-most first zero stamp = omega arith
among-most first (suc count) stamp = by (first == stamp) refl (among-most (first + 1) count stamp)
  where
    by : (b : Bool) → (first == stamp) ≡ b → among (first + 1) count stamp ≤ 1 → one_when b + among (first + 1) count stamp ≤ 1
    by true is rest =
        (let same : first ≡ stamp = eqb-true first stamp is in
        omega (arith, among-below (first + 1) count stamp (omega arith)))
    by false is rest = omega arith

-- ---- one list

pub bearers-append : {X : Type 0} (own : X → ℕ) (xs ys : List X) (stamp : ℕ) → bearers own (xs ++ ys) stamp ≡ bearers own xs stamp + bearers own ys stamp
bearers-append own [] ys stamp = omega arith
bearers-append own (x ∷ xs) ys stamp = omega (arith, bearers-append own xs ys stamp)

pub bearers-last : {X : Type 0} (own : X → ℕ) (xs : List X) (x : X) (stamp : ℕ) → bearers own (xs ++ x ∷ []) stamp ≡ bearers own xs stamp + one_if (own x) stamp
bearers-last own xs x stamp = omega (arith, bearers-append own xs (x ∷ []) stamp)

pub bearers-without : {X : Type 0} (own : X → ℕ) (p : X → Bool) (xs : List X) (stamp : ℕ) → bearers own (without_first p xs) stamp ≤ bearers own xs stamp
bearers-without own p [] stamp = omega arith
bearers-without {X} own p (x ∷ xs) stamp = by (p x) (bearers-without own p xs stamp)
  where
    by : (b : Bool) → bearers own (without_first p xs) stamp ≤ bearers own xs stamp → bearers own (cond b xs (x ∷ without_first p xs)) stamp ≤ bearers own (x ∷ xs) stamp
    by true less = omega arith
    by false less = omega arith

pub bearers-changed : {X : Type 0} (own : X → ℕ) (p : X → Bool) (c : X → X) (next : ℕ) → ((x : X) → own (c x) ≡ next) → (xs : List X) (stamp : ℕ) → bearers own (changed_first p c xs) stamp ≤ bearers own xs stamp + one_if next stamp
bearers-changed own p c next stamped [] stamp = omega arith
bearers-changed {X} own p c next stamped (x ∷ xs) stamp = by (p x) (bearers-changed own p c next stamped xs stamp)
  where
    by : (b : Bool) → bearers own (changed_first p c xs) stamp ≤ bearers own xs stamp + one_if next stamp → bearers own (cond b (c x ∷ xs) (x ∷ changed_first p c xs)) stamp ≤ bearers own (x ∷ xs) stamp + one_if next stamp
    by true less = (let same : one_if (own (c x)) stamp ≡ one_if next stamp = ap (λ (n : ℕ). one_if n stamp) (stamped x) in omega arith)
    by false less = omega arith

-- ---- rows

pub bearers-set_rows : (first : ℕ) (entries : List Entry) (stamp : ℕ) → bearers (λ (row : Row). row.stamp) (set_rows first entries) stamp ≡ among first (length entries) stamp
bearers-set_rows first [] stamp = refl
bearers-set_rows first (entry ∷ entries) stamp = ap (λ (n : ℕ). one_if first stamp + n) (bearers-set_rows (first + 1) entries stamp)

abbrev numbered : ℕ × Entry → Row
numbered one = record { number = Some one.0; stamp = one.0; entry = one.1 }

bearers-numbered : (first : ℕ) (entries : List Entry) (stamp : ℕ) → bearers (λ (row : Row). row.stamp) (map numbered (enumerate_from first entries)) stamp ≡ among first (length entries) stamp
bearers-numbered first [] stamp = refl
bearers-numbered first (entry ∷ entries) stamp = ap (λ (n : ℕ). one_if first stamp + n) (bearers-numbered (first + 1) entries stamp)

pub bearers-first_rows : (entries : List Entry) (stamp : ℕ) → bearers (λ (row : Row). row.stamp) (first_rows entries) stamp ≡ among 0 (length entries) stamp
bearers-first_rows entries stamp = bearers-numbered 0 entries stamp

abbrev waiting_from : ℕ → ℕ × Pending → Waiting
waiting_from first one = record { number = one.0; stamp = first + one.0; pending = one.1 }

bearers-waiting_from : (first from : ℕ) (operations : List Pending) (stamp : ℕ) → bearers (λ (one : Waiting). one.stamp) (map (waiting_from first) (enumerate_from from operations)) stamp ≡ among (first + from) (length operations) stamp
bearers-waiting_from first from [] stamp = refl
bearers-waiting_from first from (pending ∷ operations) stamp =
    let next : among (first + (from + 1)) (length operations) stamp ≡ among (first + from + 1) (length operations) stamp = ap (λ (n : ℕ). among n (length operations) stamp) (omega arith) in
    ap (λ (n : ℕ). one_if (first + from) stamp + n) (bearers-waiting_from first (from + 1) operations stamp ∙ next)

pub bearers-first_waiting : (first : ℕ) (operations : List Pending) (stamp : ℕ) → bearers (λ (one : Waiting). one.stamp) (first_waiting first operations) stamp ≡ among first (length operations) stamp
bearers-first_waiting first operations stamp =
    let same : among (first + 0) (length operations) stamp ≡ among first (length operations) stamp = ap (λ (n : ℕ). among n (length operations) stamp) (omega arith) in
    bearers-waiting_from first 0 operations stamp ∙ same

turned_step : (b : Bool) (first own stamp later rest count : ℕ) → later ≤ rest + among (first + 1) count stamp → one_if (if b then first else own) stamp + later ≤ one_if own stamp + rest + (one_if first stamp + among (first + 1) count stamp)
turned_step true first own stamp later rest count less = omega arith
turned_step false first own stamp later rest count less = omega arith

bearers-turned_rows : (turning : Turning) (first : ℕ) (rows : List Row) (stamp : ℕ) → bearers (λ (row : Row). row.stamp) (turned_rows turning first rows) stamp ≤ bearers (λ (row : Row). row.stamp) rows stamp + among first (length rows) stamp
bearers-turned_rows turning first [] stamp = omega arith
bearers-turned_rows turning first (row ∷ rows) stamp =
    turned_step (mentions turning.old row.entry) first row.stamp stamp (bearers (λ (one : Row). one.stamp) (turned_rows turning (first + 1) rows) stamp)
    (bearers (λ (one : Row). one.stamp) rows stamp) (length rows) (bearers-turned_rows turning (first + 1) rows stamp)

pub bearers-turned : (turning : Option Turning) (first : ℕ) (rows : List Row) (stamp : ℕ) → bearers (λ (row : Row). row.stamp) (turned_if turning first rows) stamp ≤ bearers (λ (row : Row). row.stamp) rows stamp + among first (length rows) stamp
bearers-turned None first rows stamp = omega arith
bearers-turned (Some turning) first rows stamp = bearers-turned_rows turning first rows stamp

pub bearers-taken : (claim : Option ℕ) (marked : Bool) (next : ℕ) (rows : List Row) (stamp : ℕ) → bearers (λ (row : Row). row.stamp) (claim_taken claim marked next rows) stamp ≤ bearers (λ (row : Row). row.stamp) rows stamp + one_if next stamp
bearers-taken None marked next rows stamp = omega arith
bearers-taken (Some number) true next rows stamp = bearers-changed (λ (row : Row). row.stamp) (is_row number) (doomed_row next) next (λ row. refl) rows stamp
bearers-taken (Some number) false next rows stamp = omega (arith, bearers-without (λ (row : Row). row.stamp) (is_row number) rows stamp)

-- ---- all things

-- a stamp is that of one thing at most, and one that comes later of none
pub record AreGiven (told : ℕ → ℕ) (next : ℕ) : Type 0 where
  pub once : (stamp : ℕ) → told stamp ≤ 1
  pub given : (stamp : ℕ) → next ≤ stamp → told stamp ≡ 0

-- whatever is new has one of so many stamps from the next one on
pub given-more : (old new : ℕ → ℕ) (next count : ℕ) → ((stamp : ℕ) → new stamp ≤ old stamp + among next count stamp) → AreGiven old next → AreGiven new (next + count)
given-more old new next count less kept = record {
  once = λ stamp. by stamp (nat_lt stamp next) refl;
  given = λ stamp later. omega (arith, less stamp, kept.given stamp (omega arith), among-behind next count stamp later);
}
  where
    by : (stamp : ℕ) (b : Bool) → nat_lt stamp next ≡ b → new stamp ≤ 1
    by stamp true is = (let low : stamp < next = grind (arith, nat_tests) in omega (arith, less stamp, kept.once stamp, among-below next count stamp low))
    by stamp false is = (let high : next ≤ stamp = grind (arith, nat_tests) in omega (arith, less stamp, kept.given stamp high, among-most next count stamp))

pub given-less : (old new : ℕ → ℕ) (next : ℕ) → ((stamp : ℕ) → new stamp ≤ old stamp) → AreGiven old next → AreGiven new next
given-less old new next less kept = record {
  once = λ stamp. omega (arith, less stamp, kept.once stamp);
  given = λ stamp later. omega (arith, less stamp, kept.given stamp later);
}

-- things that have so many stamps from 0 on, and then so many behind them
pub given-new : (told : ℕ → ℕ) (first second : ℕ) → ((stamp : ℕ) → told stamp ≡ among 0 first stamp + among first second stamp) → AreGiven told (first + second)
given-new told first second is = record {
  once = λ stamp. by stamp (nat_lt stamp first) refl;
  given = λ stamp later. omega (arith, is stamp, among-behind 0 first stamp (omega arith), among-behind first second stamp later);
}
  where
    by : (stamp : ℕ) (b : Bool) → nat_lt stamp first ≡ b → told stamp ≤ 1
    by stamp true test = (let low : stamp < first = grind (arith, nat_tests) in omega (arith, is stamp, among-most 0 first stamp, among-below first second stamp low))
    by stamp false test = (let high : first ≤ stamp = grind (arith, nat_tests) in omega (arith, is stamp, among-behind 0 first stamp (omega arith), among-most first second stamp))

-- ---- lists of stamps

-- how often a number stands in a list
abbrev times : List ℕ → ℕ → ℕ
times numbers = bearers (λ (n : ℕ). n) numbers

some_there : (numbers : List ℕ) (number at : ℕ) → slice_get numbers at ≡ Some number → 1 ≤ times numbers number
some_there [] number at h = absurd (cc)
some_there (first ∷ numbers) number zero h =
    (let same : first ≡ number = cc in
    let here : one_if first number ≡ 1 = ap (λ (n : ℕ). one_if n number) same ∙ one_if-same number in
    omega arith)
some_there (first ∷ numbers) number (suc at) h = (let more : 1 ≤ times numbers number = some_there numbers number at h in omega arith)

-- a number that stands once stands at one place
one_place : (numbers : List ℕ) (number at other : ℕ) → times numbers number ≤ 1 → slice_get numbers at ≡ Some number → slice_get numbers other ≡ Some number → at ≡ other
one_place [] number at other most one two = absurd (cc)
one_place (first ∷ numbers) number zero zero most one two = refl
one_place (first ∷ numbers) number zero (suc other) most one two =
    (let same : first ≡ number = cc in
    let here : one_if first number ≡ 1 = ap (λ (n : ℕ). one_if n number) same ∙ one_if-same number in
    let more : 1 ≤ times numbers number = some_there numbers number other two in
    absurd (omega arith))
one_place (first ∷ numbers) number (suc at) zero most one two =
    (let same : first ≡ number = cc in
    let here : one_if first number ≡ 1 = ap (λ (n : ℕ). one_if n number) same ∙ one_if-same number in
    let more : 1 ≤ times numbers number = some_there numbers number at one in
    absurd (omega arith))
one_place (first ∷ numbers) number (suc at) (suc other) most one two = ap suc (one_place numbers number at other (omega arith) one two)

times-map : {X : Type 0} (own : X → ℕ) (xs : List X) (stamp : ℕ) → times (map own xs) stamp ≡ bearers own xs stamp
times-map own [] stamp = refl
times-map own (x ∷ xs) stamp = ap (λ (n : ℕ). one_if (own x) stamp + n) (times-map own xs stamp)

-- the stamps of all things, each as often as there are things that have it
times-all : (merged : Merged) (stamp : ℕ) → times (all_stamps merged) stamp ≡ all_bearers merged.fresh merged.rows merged.base_pending merged.own_pending stamp
times-all merged stamp =
    let all : times (all_stamps merged) stamp ≡ times (stamps_of merged) stamp + times (map (λ one. one.stamp) (waiting_of merged)) stamp =
    bearers-append (λ (n : ℕ). n) (stamps_of merged) (map (λ one. one.stamp) (waiting_of merged)) stamp in
    let entries : times (stamps_of merged) stamp ≡ times (map (λ one. one.stamp) merged.fresh) stamp + times (map (λ (row : Row). row.stamp) merged.rows) stamp =
    bearers-append (λ (n : ℕ). n) (map (λ one. one.stamp) merged.fresh) (map (λ (row : Row). row.stamp) merged.rows) stamp in
    let waiting : bearers (λ (one : Waiting). one.stamp) (waiting_of merged) stamp ≡ bearers (λ (one : Waiting). one.stamp) merged.base_pending stamp + bearers (λ (one : Waiting). one.stamp) merged.own_pending stamp =
    bearers-append (λ (one : Waiting). one.stamp) merged.base_pending merged.own_pending stamp in
    let fresh : times (map (λ one. one.stamp) merged.fresh) stamp ≡ bearers (λ (one : Fresh). one.stamp) merged.fresh stamp = times-map (λ (one : Fresh). one.stamp) merged.fresh stamp in
    let rows : times (map (λ (row : Row). row.stamp) merged.rows) stamp ≡ bearers (λ (row : Row). row.stamp) merged.rows stamp = times-map (λ (row : Row). row.stamp) merged.rows stamp in
    let pending : times (map (λ one. one.stamp) (waiting_of merged)) stamp ≡ bearers (λ (one : Waiting). one.stamp) (waiting_of merged) stamp = times-map (λ (one : Waiting). one.stamp) (waiting_of merged) stamp in
    omega arith

pub distinct-all : (merged : Merged) → ((stamp : ℕ) → all_bearers merged.fresh merged.rows merged.base_pending merged.own_pending stamp ≤ 1) → AreDistinct (all_stamps merged)
distinct-all merged once number at other one two =
    let most : times (all_stamps merged) number ≤ 1 = subst (λ (n : ℕ). n ≤ 1) (sym (times-all merged number)) (once number) in
    one_place (all_stamps merged) number at other most one two

pub below-all : (merged : Merged) (next : ℕ) → ((stamp : ℕ) → next ≤ stamp → all_bearers merged.fresh merged.rows merged.base_pending merged.own_pending stamp ≡ 0) → AreBelow (all_stamps merged) next
below-all merged next given number at there = by (nat_lt number next) refl
  where
    by : (b : Bool) → nat_lt number next ≡ b → number < next
    by true test = grind (arith, nat_tests)
    by false test =
        (let high : next ≤ number = grind (arith, nat_tests) in
        let none : times (all_stamps merged) number ≡ 0 = times-all merged number ∙ given number high in
        let some : 1 ≤ times (all_stamps merged) number = some_there (all_stamps merged) number at there in
        absurd (omega arith))
