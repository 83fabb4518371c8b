-- What holds of a merged snapshot at any time still holds after each call.
use Rattle.std.proofs.Common.{◌≡◌, ℕ, suc, ◌+◌, ◌<◌, ◌≤◌, ◌^◌, Bool, true, false, cond, Option, None, Some, option_and_then, List, [], ◌∷◌, ◌++◌, length, map, refl, ap, subst, arith, length-append}
use Rattle.std.specs.List.{enumerate_from}
use Rattle.pl_state.specs.declared.entry.Entry.{Entry}
use Rattle.pl_state.specs.declared.pending.Pending.{Pending}
use Rattle.pl_snap.specs.declared.fresh.Fresh.{Fresh}
use Rattle.pl_snap.specs.Lists.{changed_first, without_first}
use Rattle.pl_snap.specs.Model.{Row, Waiting}
use Rattle.pl_snap.specs.Rows.{claim_taken, claimed_row, doomed_row, first_rows, first_waiting, is_row, rows_after, set_rows, turned_if, turned_row, turning_of}
use Rattle.pl_snap.specs.Stamps.{all_bearers, IsKept}
use Rattle.pl_turning.specs.Turning.{Turning}
use Rattle.pl_snap.proofs.Bearers.{AreGiven, among, bearers-changed, bearers-first_rows, bearers-first_waiting, bearers-last, bearers-set_rows, bearers-taken, bearers-turned, bearers-without, given-less, given-more, given-new, one_if}

-- ---- lengths

without_step : {X : Type 0} (b : Bool) (x : X) (less xs : List X) → length less ≤ length xs → length (cond b xs (x ∷ less)) ≤ length (x ∷ xs)
without_step true x less xs h = omega arith
without_step false x less xs h = omega arith

pub length-without : {X : Type 0} (p : X → Bool) (xs : List X) → length (without_first p xs) ≤ length xs
length-without p [] = omega arith
length-without p (x ∷ xs) = without_step (p x) x (without_first p xs) xs (length-without p xs)

changed_step : {X : Type 0} (b : Bool) (x y : X) (other xs : List X) → length other ≡ length xs → length (cond b (y ∷ xs) (x ∷ other)) ≡ length (x ∷ xs)
changed_step true x y other xs h = refl
changed_step false x y other xs h = ap suc h

pub length-changed : {X : Type 0} (p : X → Bool) (c : X → X) (xs : List X) → length (changed_first p c xs) ≡ length xs
length-changed p c [] = refl
length-changed p c (x ∷ xs) = changed_step (p x) x (c x) (changed_first p c xs) xs (length-changed p c xs)

length-mapped : {X Y : Type 0} (f : ℕ × X → Y) (start : ℕ) (xs : List X) → length (map f (enumerate_from start xs)) ≡ length xs
length-mapped f start [] = refl
length-mapped f start (x ∷ xs) = ap suc (length-mapped f (start + 1) xs)

pub length-set_rows : (first : ℕ) (entries : List Entry) → length (set_rows first entries) ≡ length entries
length-set_rows first entries = length-mapped (λ one. record { number = None; stamp = one.0; entry = one.1 }) first entries

length-turned : (turning : Option Turning) (first : ℕ) (rows : List Row) → length (turned_if turning first rows) ≡ length rows
length-turned None first rows = refl
length-turned (Some turning) first rows = length-mapped (λ one. turned_row turning one.0 one.1) first rows

length-taken : (claim : Option ℕ) (marked : Bool) (stamp : ℕ) (rows : List Row) → length (claim_taken claim marked stamp rows) ≤ length rows
length-taken None marked stamp rows = omega arith
length-taken (Some number) true stamp rows = omega (arith, length-changed (is_row number) (doomed_row stamp) rows)
length-taken (Some number) false stamp rows = length-without (is_row number) rows

length-first_rows : (entries : List Entry) → length (first_rows entries) ≡ length entries
length-first_rows entries = length-mapped (λ one. record { number = Some one.0; stamp = one.0; entry = one.1 }) 0 entries

length-first_waiting : (first : ℕ) (operations : List Pending) → length (first_waiting first operations) ≡ length operations
length-first_waiting first operations = length-mapped (λ one. record { number = one.0; stamp = first + one.0; pending = one.1 }) 0 operations

-- ---- after each call

given_of : (fresh : List Fresh) (rows : List Row) (base own : List Waiting) (next : ℕ) → IsKept fresh rows base own next → AreGiven (all_bearers fresh rows base own) next
given_of fresh rows base own next kept = record { once = kept.once; given = kept.given }

-- one stamp more
among-one : (next stamp : ℕ) → among next 1 stamp ≡ one_if next stamp
among-one next stamp = omega arith

-- two stamps, and those behind them
among-two : (next count stamp : ℕ) → among next (suc (suc count)) stamp ≡ one_if next stamp + one_if (next + 1) stamp + among (next + 2) count stamp
among-two next count stamp =
    let same : among (next + 1 + 1) count stamp ≡ among (next + 2) count stamp = ap (λ (n : ℕ). among n count stamp) (omega arith) in
    omega arith

pub kept-new : (entries : List Entry) (operations : List Pending) → length entries + length operations ≤ 2 ^ 62 → IsKept [] (first_rows entries) (first_waiting (length entries) operations) [] (length entries + length operations)
kept-new entries operations below =
    let told : AreGiven (all_bearers [] (first_rows entries) (first_waiting (length entries) operations) []) (length entries + length operations) =
    given-new (all_bearers [] (first_rows entries) (first_waiting (length entries) operations) []) (length entries) (length operations)
    (λ stamp. omega (arith, bearers-first_rows entries stamp, bearers-first_waiting (length entries) operations stamp)) in
    record {
      room = omega (arith, length-first_rows entries, length-first_waiting (length entries) operations);
      below = below;
      once = told.once;
      given = told.given;
    }

pub kept-entry : (fresh : List Fresh) (rows : List Row) (base own : List Waiting) (next : ℕ) (one : Fresh) (urn : List ℕ) (claim : Option ℕ) (marked : Bool) → one.stamp ≡ next → next + 2 + length rows ≤ 2 ^ 62 → IsKept fresh rows base own next → IsKept (fresh ++ one ∷ []) (claim_taken claim marked (next + 1) (rows_after urn claim (next + 2) rows)) base own (next + 2 + length rows)
kept-entry fresh rows base own next one urn claim marked stamped below kept =
    let turning : Option Turning = option_and_then (turning_of urn) (claimed_row claim rows) in
    let turned : List Row = turned_if turning (next + 2) rows in
    let left : List Row = claim_taken claim marked (next + 1) turned in
    let more : AreGiven (all_bearers (fresh ++ one ∷ []) left base own) (next + suc (suc (length rows))) =
    given-more (all_bearers fresh rows base own) (all_bearers (fresh ++ one ∷ []) left base own) next (suc (suc (length rows)))
    (λ stamp.
    let own_stamp : one_if one.stamp stamp ≡ one_if next stamp = ap (λ (n : ℕ). one_if n stamp) stamped in
    omega (arith, bearers-last (λ (f : Fresh). f.stamp) fresh one stamp, bearers-taken claim marked (next + 1) turned stamp, bearers-turned turning (next + 2) rows stamp, among-two next (length rows) stamp))
    (given_of fresh rows base own next kept) in
    let told : AreGiven (all_bearers (fresh ++ one ∷ []) left base own) (next + 2 + length rows) =
    subst (λ (n : ℕ). AreGiven (all_bearers (fresh ++ one ∷ []) left base own) n) (omega arith) more in
    record {
      room = omega (arith, kept.room, length-append fresh (one ∷ []), length-turned turning (next + 2) rows, length-taken claim marked (next + 1) turned);
      below = below;
      once = told.once;
      given = told.given;
    }

pub kept-told : (fresh : List Fresh) (rows : List Row) (base own : List Waiting) (next : ℕ) (p : Fresh → Bool) (c : Fresh → Fresh) → ((one : Fresh) → (c one).stamp ≡ next) → next + 1 ≤ 2 ^ 62 → IsKept fresh rows base own next → IsKept (changed_first p c fresh) rows base own (next + 1)
kept-told fresh rows base own next p c stamped below kept =
    let told : AreGiven (all_bearers (changed_first p c fresh) rows base own) (next + 1) =
    given-more (all_bearers fresh rows base own) (all_bearers (changed_first p c fresh) rows base own) next 1
    (λ stamp. omega (arith, among-one next stamp, bearers-changed (λ (f : Fresh). f.stamp) p c next stamped fresh stamp))
    (given_of fresh rows base own next kept) in
    record {
      room = omega (arith, kept.room, length-changed p c fresh);
      below = below;
      once = told.once;
      given = told.given;
    }

pub kept-retired : (fresh : List Fresh) (rows : List Row) (base own : List Waiting) (next : ℕ) (p : Row → Bool) → IsKept fresh rows base own next → IsKept fresh (without_first p rows) base own next
kept-retired fresh rows base own next p kept =
    let told : AreGiven (all_bearers fresh (without_first p rows) base own) next =
    given-less (all_bearers fresh rows base own) (all_bearers fresh (without_first p rows) base own) next
    (λ stamp. omega (arith, bearers-without (λ (r : Row). r.stamp) p rows stamp)) (given_of fresh rows base own next kept) in
    record {
      room = omega (arith, kept.room, length-without p rows);
      below = kept.below;
      once = told.once;
      given = told.given;
    }

pub kept-marked : (fresh : List Fresh) (rows : List Row) (base own : List Waiting) (next : ℕ) (p : Row → Bool) (c : Row → Row) → ((row : Row) → (c row).stamp ≡ next) → next < 2 ^ 62 → IsKept fresh rows base own next → IsKept fresh (changed_first p c rows) base own (next + 1)
kept-marked fresh rows base own next p c stamped below kept =
    let told : AreGiven (all_bearers fresh (changed_first p c rows) base own) (next + 1) =
    given-more (all_bearers fresh rows base own) (all_bearers fresh (changed_first p c rows) base own) next 1
    (λ stamp. omega (arith, among-one next stamp, bearers-changed (λ (r : Row). r.stamp) p c next stamped rows stamp))
    (given_of fresh rows base own next kept) in
    record {
      room = omega (arith, kept.room, length-changed p c rows);
      below = omega arith;
      once = told.once;
      given = told.given;
    }

pub kept-set : (rows : List Row) (base own : List Waiting) (next : ℕ) (entries : List Entry) → next + length entries ≤ 2 ^ 62 → IsKept [] rows base own next → IsKept [] (set_rows next entries) base own (next + length entries)
kept-set rows base own next entries below kept =
    let told : AreGiven (all_bearers [] (set_rows next entries) base own) (next + length entries) =
    given-more (all_bearers [] rows base own) (all_bearers [] (set_rows next entries) base own) next (length entries)
    (λ stamp. omega (arith, bearers-set_rows next entries stamp)) (given_of [] rows base own next kept) in
    record {
      room = omega (arith, kept.room, length-set_rows next entries);
      below = below;
      once = told.once;
      given = told.given;
    }

pub kept-cleared : (fresh : List Fresh) (rows : List Row) (base own : List Waiting) (next : ℕ) (p : Waiting → Bool) → IsKept fresh rows base own next → IsKept fresh rows (without_first p base) own next
kept-cleared fresh rows base own next p kept =
    let told : AreGiven (all_bearers fresh rows (without_first p base) own) next =
    given-less (all_bearers fresh rows base own) (all_bearers fresh rows (without_first p base) own) next
    (λ stamp. omega (arith, bearers-without (λ (w : Waiting). w.stamp) p base stamp)) (given_of fresh rows base own next kept) in
    record {
      room = omega (arith, kept.room, length-without p base);
      below = kept.below;
      once = told.once;
      given = told.given;
    }

pub kept-opened : (fresh : List Fresh) (rows : List Row) (base own : List Waiting) (next : ℕ) (one : Waiting) → one.stamp ≡ next → next + 1 ≤ 2 ^ 62 → IsKept fresh rows base own next → IsKept fresh rows base (own ++ one ∷ []) (next + 1)
kept-opened fresh rows base own next one stamped below kept =
    let told : AreGiven (all_bearers fresh rows base (own ++ one ∷ [])) (next + 1) =
    given-more (all_bearers fresh rows base own) (all_bearers fresh rows base (own ++ one ∷ [])) next 1
    (λ stamp.
    let own_stamp : one_if one.stamp stamp ≡ one_if next stamp = ap (λ (n : ℕ). one_if n stamp) stamped in
    omega (arith, among-one next stamp, bearers-last (λ (w : Waiting). w.stamp) own one stamp))
    (given_of fresh rows base own next kept) in
    record {
      room = omega (arith, kept.room, length-append own (one ∷ []));
      below = below;
      once = told.once;
      given = told.given;
    }

pub kept-closed : (fresh : List Fresh) (rows : List Row) (base own : List Waiting) (next : ℕ) (p : Waiting → Bool) → IsKept fresh rows base own next → IsKept fresh rows base (without_first p own) next
kept-closed fresh rows base own next p kept =
    let told : AreGiven (all_bearers fresh rows base (without_first p own)) next =
    given-less (all_bearers fresh rows base own) (all_bearers fresh rows base (without_first p own)) next
    (λ stamp. omega (arith, bearers-without (λ (w : Waiting). w.stamp) p own stamp)) (given_of fresh rows base own next kept) in
    record {
      room = omega (arith, kept.room, length-without p own);
      below = kept.below;
      once = told.once;
      given = told.given;
    }
