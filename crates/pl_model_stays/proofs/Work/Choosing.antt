-- What is chosen is due, and where it goes.
use Rattle.std.proofs.Common.{◌≡◌, ℕ, zero, suc, ◌+◌, ◌<◌, ◌≤◌, Bool, true, false, not, ◌&&◌, ◌||◌, if◌then◌else◌, nat_lt, cond, List, [], ◌∷◌, filter, find, length, Option, Some, None, unwrap_or, refl, sym, ◌∙◌, ap, ap₂, subst, inl, inr, ◌⊎◌, arith, eq-or-lt_of_le, is_some, option_and_then}
use Rattle.std.specs.Bool.{Decides}
use Rattle.std.specs.List.{list_any, range_with_len}
use Rattle.std.proofs.lemmas.Option.{same_Some}
use Rattle.pl_lemmas.proofs.Truth.{and_left, and_right}
use Rattle.pl_lemmas.proofs.Lists.{any_same}
use Rattle.pl_lemmas.proofs.Each.{Each, each_all}
use Rattle.pl_lemmas.specs.Words.{has_none, some_passes}
use Rattle.pl_events.specs.Lanes.{LanesTold}
use Rattle.pl_events.specs.declared.event.Event.{Event}
use Rattle.pl_events.specs.declared.operation.Op.{Op}
use Rattle.pl_events.specs.declared.operation.Op.TheVariants as op
use Rattle.pl_events.specs.declared.operation.Source.{Source}
use Rattle.pl_events.specs.declared.operation.Source.TheVariants as source
use Rattle.pl_model.specs.declared.errand.Errand.{Errand}
use Rattle.pl_model.specs.declared.fixed.Fixed.{Fixed}
use Rattle.pl_model.specs.declared.work.Work.{Work}
use Rattle.pl_model.specs.declared.work.Work.TheVariants.{Clear as to_clear, Drop as to_drop, Keep as to_keep, Post as to_post, Send as to_send}
use Rattle.pl_model.specs.Choice.{TellsLanes, can_be_taken, is_too_many, lane_for, lane_there}
use Rattle.pl_model.specs.Due.{due_work, has_open, is_checked_lane, is_due, is_due_on, is_lane_of, is_ready_on, is_ready_op, is_wanted_op, lane_numbers, over_limit, passes_limit, source_of_op, wants_lane, works_of}
use Rattle.pl_model.specs.History.{known_of}
use Rattle.pl_model.specs.Known.{Known, has_problem}
use Rattle.pl_model.specs.Legal.{IsOrderly, MayBeTooMany}
use Rattle.pl_model.specs.Tickets.{source_begun, is_coming, is_configured, is_free, is_lost, is_out, is_source, lane_count, lane_source, lanes_from, was_begun}
use Rattle.pl_model_stays.specs.Choosing.{IsLeastDue, IsTakenDue, is_post, uses_lane}
use Rattle.pl_model_stays.proofs.Lists.Among.{any_found, find_among}
use Rattle.pl_model_stays.proofs.Operations.Lanes.{checked_source, configured-for, lane-sourced, lanes-have, next_unused, on_begun, lane-unready}
use Rattle.pl_model_stays.proofs.Operations.Once.{history_of, not_true, both, never_both}
use Rattle.pl_model_stays.proofs.Goals.Staying.{any_more}
use Rattle.pl_model_stays.proofs.Work.Waiting.{false_or}

-- ---- what is found first

-- the first number of a range that passes, or else the next one, passes where one of them all does
first_or_next : (p : ℕ → Bool) (a n : ℕ) → list_any p (range_with_len a (suc n)) ≡ true
    → p (unwrap_or (find p (range_with_len a n)) (a + n)) ≡ true
first_or_next p a zero h = by (p a) refl h
  where
    by : (b : Bool) → p a ≡ b → (b || false) ≡ true → p (a + 0) ≡ true
    by true is h = subst (λ (n : ℕ). p n ≡ true) (let e : a ≡ a + 0 = omega arith in e) is
    by false is h = absurd (let e : false ≡ true = h in cc)
first_or_next p a (suc n) h = by (p a) refl (first_or_next p (a + 1) n) h
  where
    by : (b : Bool) → p a ≡ b
        → (list_any p (range_with_len (a + 1) (suc n)) ≡ true → p (unwrap_or (find p (range_with_len (a + 1) n)) (a + 1 + n)) ≡ true)
        → (b || list_any p (range_with_len (a + 1) (suc n))) ≡ true
        → p (unwrap_or (cond b (Some a) (find p (range_with_len (a + 1) n))) (a + suc n)) ≡ true
    by true is rest h = is
    by false is rest h =
        subst (λ (next : ℕ). p (unwrap_or (find p (range_with_len (a + 1) n)) next) ≡ true)
        (let e : a + 1 + n ≡ a + suc n = omega arith in e) (rest h)

-- a number of a range that passes, with no lower one that does
record FirstOf (p : ℕ → Bool) (a high k : ℕ) : Type 0 where
  low : a ≤ k
  below : k < high
  passes : p k ≡ true
  least : (j : ℕ) → a ≤ j → j < k → p j ≡ false

found_first : (p : ℕ → Bool) (a n k : ℕ) → find p (range_with_len a n) ≡ Some k → FirstOf p a (a + n) k
found_first p a zero k h = absurd (let e : None ≡ Some k = h in cc)
found_first p a (suc n) k h = by (p a) refl (found_first p (a + 1) n k) h
  where
    by : (b : Bool) → p a ≡ b → (find p (range_with_len (a + 1) n) ≡ Some k → FirstOf p (a + 1) (a + 1 + n) k)
        → cond b (Some a) (find p (range_with_len (a + 1) n)) ≡ Some k → FirstOf p a (a + suc n) k
    by true is rest h =
        let same : a ≡ k = same_Some a k h in
        record {
          low = omega arith;
          below = omega arith;
          passes = subst (λ (n : ℕ). p n ≡ true) same is;
          least = λ j low less. absurd (omega arith);
        }
    by false is rest h =
        let one = rest h in
        let low : a + 1 ≤ k = one.low in
        let high : k < a + 1 + n = one.below in
        record {
          low = omega arith;
          below = omega arith;
          passes = one.passes;
          least = λ j from less. at j less (eq-or-lt_of_le from) one.least;
        }
      where
        at : (j : ℕ) → j < k → (a ≡ j) ⊎ (a < j) → ((j : ℕ) → a + 1 ≤ j → j < k → p j ≡ false) → p j ≡ false
        at j less (inl same) least = subst (λ (n : ℕ). p n ≡ false) same is
        at j less (inr later) least = least j (omega arith) less

-- tests that agree find the same
found_same : {X : Type 0} (p q : X → Bool) → ((x : X) → p x ≡ q x) → (xs : List X) → find p xs ≡ find q xs
found_same p q same [] = refl
found_same {X = X} p q same (x ∷ xs) =
    ap₂ (λ (b : Bool) (o : Option X). cond b (Some x) o) (same x) (found_same p q same xs)

-- what is found behind a filter passes both tests
found_behind : {X : Type 0} (p q : X → Bool) (xs : List X) → find p (filter q xs) ≡ find (λ x. q x && p x) xs
found_behind p q [] = refl
found_behind {X = X} p q (x ∷ xs) = by (q x) (found_behind p q xs)
  where
    by : (b : Bool) → find p (filter q xs) ≡ find (λ y. q y && p y) xs
        → find p (cond b (x ∷ filter q xs) (filter q xs)) ≡ cond (b && p x) (Some x) (find (λ y. q y && p y) xs)
    by true rest = ap (λ (o : Option X). cond (p x) (Some x) o) rest
    by false rest = rest

-- nothing is found in a range where no number passes
none_of_range : (p : ℕ → Bool) (a n : ℕ) → ((k : ℕ) → a ≤ k → k < a + n → p k ≡ false) → find p (range_with_len a n) ≡ None
none_of_range p a zero never = refl
none_of_range p a (suc n) never =
    ap (λ (b : Bool). cond b (Some a) (find p (range_with_len (a + 1) n))) (never a (omega arith) (omega arith))
    ∙ none_of_range p (a + 1) n (λ k low high. never k (omega arith) (omega arith))

-- ---- lanes

pub chosen-lane-due : (known : Known) (about : Op) → is_due known (to_send about) ≡ true → is_due_on known about (lane_for known about) ≡ true
chosen-lane-due known about h =
    subst (λ (next : ℕ). is_due_on known about (unwrap_or (lane_there known about) next) ≡ true)
    (let e : 0 + lane_count known.history ≡ lane_count known.history = omega arith in e)
    (first_or_next (is_due_on known about) 0 (lane_count known.history)
    (subst (λ (n : ℕ). list_any (is_due_on known about) (range_with_len 0 n) ≡ true)
    (let e : lane_count known.history + 1 ≡ suc (lane_count known.history) = omega arith in e)
    (any_more (is_ready_on known about) (is_due_on known about)
    (λ lane ready. both (is_ready_on known about lane) _ ready (and_right (is_ready_op known about) _ h))
    (lane_numbers known) (and_left (is_ready_op known about) _ h))))

pub lane-there-least : (known : Known) (about : Op) (lane : ℕ) → lane_there known about ≡ Some lane → IsLeastDue known about lane
lane-there-least known about lane h =
    let one = found_first (is_due_on known about) 0 (lane_count known.history) lane h in
    let high : lane < 0 + lane_count known.history = one.below in
    record {
      there = omega arith;
      due = one.passes;
      least = λ lower less. one.least lower (omega arith) less;
    }

-- a lane on which a provider's inputs were checked, and that is to be configured, is coming
checked_coming : (run : Fixed) (history : List Event) (number lane : ℕ) → IsOrderly run history
    → lane_source history lane ≡ Some (source.Goal number) → was_begun history (op.Configure (source.Goal number)) ≡ false
    → not (is_lost history lane) ≡ true → is_coming history lane ≡ true
checked_coming run history number lane orderly sourced new kept =
    both (not (is_configured history lane)) (not (is_lost history lane)) (by (is_configured history lane) refl) kept
  where
    by : (b : Bool) → is_configured history lane ≡ b → not b ≡ true
    by false is = refl
    by true is =
        let one = configured-for run history lane orderly is in
        let same : one.0 ≡ source.Goal number =
        same_Some one.0 (source.Goal number)
        (sym (lane-sourced run history lane (op.Configure one.0) one.0 orderly one.1 refl) ∙ sourced) in
        absurd (never_both (was_begun history (op.Configure (source.Goal number)))
        (subst (λ (own : Source). was_begun history (op.Configure own) ≡ true) same (on_begun history lane (op.Configure one.0) one.1)) new)

pub checked-or-new : (run : Fixed) (history : List Event) (wanted : Source) (lane : ℕ)
    → IsOrderly run history → is_checked_lane (known_of run history) wanted lane ≡ true
    → wants_lane (known_of run history) wanted ≡ false
checked-or-new run history (source.Row row) lane orderly h = absurd (let e : false ≡ true = h in cc)
checked-or-new run history (source.Goal number) lane orderly h =
    false_or (wants_lane (known_of run history) (source.Goal number)) (λ wants. never_both _ coming (none wants))
  where
    same : (known_of run history).history ≡ history
    same = history_of run history

    sourced : lane_source history lane ≡ Some (source.Goal number)
    sourced =
        subst (λ (events : List Event). lane_source events lane ≡ Some (source.Goal number)) same
        (checked_source (known_of run history) (source.Goal number) lane h)

    new : was_begun history (op.Configure (source.Goal number)) ≡ false
    new =
        subst (λ (events : List Event). was_begun events (op.Configure (source.Goal number)) ≡ false) same
        (not_true (was_begun (known_of run history).history (op.Configure (source.Goal number)))
        (and_right _ (not (was_begun (known_of run history).history (op.Configure (source.Goal number))))
        (and_left _ (not (is_out (known_of run history).history lane)) (and_left _ (not (is_lost (known_of run history).history lane)) h))))

    kept : not (is_lost history lane) ≡ true
    kept = subst (λ (events : List Event). not (is_lost events lane) ≡ true) same
        (and_right _ (not (is_lost (known_of run history).history lane)) h)

    coming : list_any (is_coming history) (lanes_from history (source.Goal number)) ≡ true
    coming =
        lanes-have history (source.Goal number) (is_coming history) lane sourced
        (checked_coming run history number lane orderly sourced new kept)

    none : wants_lane (known_of run history) (source.Goal number) ≡ true
        → list_any (is_coming history) (lanes_from history (source.Goal number)) ≡ false
    none wants =
        subst (λ (events : List Event). list_any (is_coming events) (lanes_from events (source.Goal number)) ≡ false) same
        (not_true (list_any (is_coming (known_of run history).history) (lanes_from (known_of run history).history (source.Goal number)))
        (and_right _ (not (list_any (is_coming (known_of run history).history) (lanes_from (known_of run history).history (source.Goal number))))
        (and_left _ (nat_lt (length (lanes_from (known_of run history).history (source.Goal number))) (known_of run history).run.parallel) wants)))

-- ---- a table of lanes

-- an operation that uses a lane is ready on the free lanes of its source
ready_is : (known : Known) (about : Op) (lane : ℕ) → uses_lane about ≡ true
    → is_ready_on known about lane ≡ (not (has_problem known) && is_wanted_op known about && is_lane_of known about lane)
ready_is known (op.CheckConfig on) lane h = absurd (let e : false ≡ true = h in cc)
ready_is known (op.Configure provider) lane h = absurd (let e : false ≡ true = h in cc)
ready_is known _ lane h = refl

module _ (known : Known) (about : Op) (wanted : Source) (uses : uses_lane about ≡ true) (own : source_of_op known about ≡ Some wanted) where
  abbrev is_own_free : ℕ → Bool
  is_own_free lane = is_source (lane_source known.history lane) wanted && is_free known.history lane

  -- it is due on such a lane where it is due at all
  due_is : is_due known (to_send about) ≡ true → (lane : ℕ) → is_due_on known about lane ≡ is_own_free lane
  due_is h lane =
      ap₂ (λ (a b : Bool). a && not b) (ready_is known about lane uses) within
      ∙ all _ (is_lane_of known about lane) asked
      ∙ ap (λ (o : Option Source). some_passes (λ one. is_source (lane_source known.history lane) one) o && is_free known.history lane) own
    where
      within : passes_limit known (to_send about) ≡ false
      within = not_true (passes_limit known (to_send about)) (and_right (is_ready_op known about) _ h)

      asked : (not (has_problem known) && is_wanted_op known about) ≡ true
      asked =
          let one = any_found (is_ready_on known about) (lane_numbers known) (and_left (is_ready_op known about) _ h) in
          and_left _ (is_lane_of known about one.0) (sym (ready_is known about one.0 uses) ∙ one.2)

      all : (a b : Bool) → a ≡ true → ((a && b) && not false) ≡ b
      all true true h = refl
      all true false h = refl
      all false b h = absurd (let e : false ≡ true = h in cc)

  -- and on none where it is not
  due_never : is_due known (to_send about) ≡ false → (lane : ℕ) → lane ≤ lane_count known.history → is_due_on known about lane ≡ false
  due_never h lane low = by (is_ready_op known about) refl (passes_limit known (to_send about)) refl h
    where
      neither : (a : Bool) → (a && not true) ≡ false
      neither true = refl
      neither false = refl

      by : (a : Bool) → is_ready_op known about ≡ a → (b : Bool) → passes_limit known (to_send about) ≡ b → (a && not b) ≡ false
          → is_due_on known about lane ≡ false
      by a ready true over h =
          ap (λ (b : Bool). is_ready_on known about lane && not b) over ∙ neither (is_ready_on known about lane)
      by false ready false over h =
          ap (λ (b : Bool). b && not (passes_limit known (to_send about))) (lane-unready known about lane ready low)
      by true ready false over h = absurd (let e : true ≡ false = h in cc)

  pub table-tells : (table : LanesTold) → TellsLanes table known
      → lane_there known about ≡ (if is_due known (to_send about) then table.free wanted else None)
  table-tells table tells = by (is_due known (to_send about)) refl
    where
      by : (b : Bool) → is_due known (to_send about) ≡ b → lane_there known about ≡ (if b then table.free wanted else None)
      by true is =
          found_same (is_due_on known about) is_own_free (due_is is) (range_with_len 0 (lane_count known.history))
          ∙ sym (found_behind (is_free known.history) (λ lane. is_source (lane_source known.history lane) wanted)
          (range_with_len 0 (lane_count known.history)))
          ∙ sym (tells.free wanted)
      by false is =
          none_of_range (is_due_on known about) 0 (lane_count known.history)
          (λ lane low high. due_never is lane (omega arith))

-- ---- whether an operation is due, by the table

-- some pass where one is found
found_any : {X : Type 0} (p : X → Bool) (xs : List X) → is_some (find p xs) ≡ list_any p xs
found_any p [] = refl
found_any {X = X} p (x ∷ xs) = by (p x) (found_any p xs)
  where
    by : (b : Bool) → is_some (find p xs) ≡ list_any p xs → is_some (cond b (Some x) (find p xs)) ≡ (b || list_any p xs)
    by true rest = refl
    by false rest = rest

-- a test that stands beside each of a list's stands beside all
any_beside : {X : Type 0} (g : Bool) (q : X → Bool) (xs : List X) → list_any (λ x. g && q x) xs ≡ (g && list_any q xs)
any_beside true q xs = refl
any_beside false q [] = refl
any_beside false q (x ∷ xs) = any_beside false q xs

-- the last of a range says nothing where it does not pass
any_but_last : (p : ℕ → Bool) (a n : ℕ) → p (a + n) ≡ false → list_any p (range_with_len a (suc n)) ≡ list_any p (range_with_len a n)
any_but_last p a zero h =
    ap (λ (b : Bool). b || false) (subst (λ (k : ℕ). p k ≡ false) (let e : a + 0 ≡ a = omega arith in e) h)
any_but_last p a (suc n) h =
    ap (λ (b : Bool). p a || b)
    (any_but_last p (a + 1) n (subst (λ (k : ℕ). p k ≡ false) (let e : a + suc n ≡ a + 1 + n = omega arith in e) h))

module _ (known : Known) (about : Op) (uses : uses_lane about ≡ true) where
  abbrev is_wanted : Bool
  is_wanted = not (has_problem known) && is_wanted_op known about

  -- the next lane is of no source yet
  next_is_none : is_lane_of known about (lane_count known.history) ≡ false
  next_is_none = by (source_of_op known about)
    where
      by : (o : Option Source)
          → (some_passes (λ wanted. is_source (lane_source known.history (lane_count known.history)) wanted) o
          && is_free known.history (lane_count known.history)) ≡ false
      by None = refl
      by (Some wanted) =
          ap (λ (o : Option Errand). is_source (option_and_then (λ (errand : Errand). source_begun errand.op) o) wanted
          && is_free known.history (lane_count known.history)) (next_unused known.history)

  -- it is ready where it is wanted and one of the lanes there are is a free one of its source
  ready_op_is : is_ready_op known about ≡ (is_wanted && list_any (is_lane_of known about) (range_with_len 0 (lane_count known.history)))
  ready_op_is =
      any_same (is_ready_on known about) (λ lane. is_wanted && is_lane_of known about lane) (λ lane. ready_is known about lane uses) (lane_numbers known)
      ∙ any_beside is_wanted (is_lane_of known about) (lane_numbers known)
      ∙ ap (λ (b : Bool). is_wanted && b)
      (ap (λ (n : ℕ). list_any (is_lane_of known about) (range_with_len 0 n))
      (let e : lane_count known.history + 1 ≡ suc (lane_count known.history) = omega arith in e)
      ∙ any_but_last (is_lane_of known about) 0 (lane_count known.history)
      (subst (λ (n : ℕ). is_lane_of known about n ≡ false)
      (let e : lane_count known.history ≡ 0 + lane_count known.history = omega arith in e) next_is_none))

  -- which the table tells
  free_is : (table : LanesTold) → TellsLanes table known
      → list_any (is_lane_of known about) (range_with_len 0 (lane_count known.history))
      ≡ is_some (option_and_then table.free (source_of_op known about))
  free_is table tells = by (source_of_op known about)
    where
      by : (o : Option Source)
          → list_any (λ lane. some_passes (λ wanted. is_source (lane_source known.history lane) wanted) o && is_free known.history lane)
          (range_with_len 0 (lane_count known.history))
          ≡ is_some (option_and_then table.free o)
      by None = any_beside false (is_free known.history) (range_with_len 0 (lane_count known.history))
      by (Some wanted) =
          sym (found_any (λ lane. is_source (lane_source known.history lane) wanted && is_free known.history lane)
          (range_with_len 0 (lane_count known.history)))
          ∙ ap (λ (o : Option ℕ). is_some o)
          (sym (found_behind (is_free known.history) (λ lane. is_source (lane_source known.history lane) wanted)
          (range_with_len 0 (lane_count known.history)))
          ∙ sym (tells.free wanted))

  pub table-decides : (table : LanesTold) → TellsLanes table known
      → is_due known (to_send about)
      ≡ (not (has_problem known) && is_wanted_op known about && is_some (option_and_then table.free (source_of_op known about))
      && not (passes_limit known (to_send about)))
  table-decides table tells =
      ap (λ (b : Bool). b && not (passes_limit known (to_send about)))
      (ready_op_is ∙ ap (λ (b : Bool). is_wanted && b) (free_is table tells))

-- ---- work

pub too-many-agrees : (known : Known) → Decides (is_too_many known) (MayBeTooMany known)
too-many-agrees known = (says, told)
  where
    none_is : {X : Type 0} (xs : List X) → has_none xs ≡ true → xs ≡ []
    none_is [] h = refl
    none_is (x ∷ xs) h = absurd (let e : false ≡ true = h in cc)

    some_is : {X : Type 0} (xs : List X) → not (has_none xs) ≡ true → xs ≡ [] → ⊥
    some_is [] h none = let e : false ≡ true = h in cc
    some_is (x ∷ xs) h none = let e : x ∷ xs ≡ [] = none in cc

    some_not : {X : Type 0} (xs : List X) → (xs ≡ [] → ⊥) → not (has_none xs) ≡ true
    some_not [] h = absurd (h refl)
    some_not (x ∷ xs) h = refl

    first : is_too_many known ≡ true → (has_none (due_work known) && not (has_open known)) ≡ true
    first h = and_left (has_none (due_work known) && not (has_open known)) (not (has_none (over_limit known))) h

    says : is_too_many known ≡ true → MayBeTooMany known
    says h = record {
      nothing_due = none_is (due_work known) (and_left (has_none (due_work known)) (not (has_open known)) (first h));
      closed = not_true (has_open known) (and_right (has_none (due_work known)) (not (has_open known)) (first h));
      some_over = some_is (over_limit known) (and_right (has_none (due_work known) && not (has_open known)) (not (has_none (over_limit known))) h);
    }

    told : MayBeTooMany known → is_too_many known ≡ true
    told h =
        both (has_none (due_work known) && not (has_open known)) (not (has_none (over_limit known)))
        (both (has_none (due_work known)) (not (has_open known)) (ap (λ (works : List Work). has_none works) h.nothing_due) (ap (λ (b : Bool). not b) h.closed))
        (some_not (over_limit known) h.some_over)

pub taken-or-none : (known : Known) → IsTakenDue known
taken-or-none known = record {
  at_home = found_same (λ work. can_be_taken true work && is_due known work) (is_due known) home (works_of known);
  due = λ work h. and_right (can_be_taken false work) _ (find_among (λ one. can_be_taken false one && is_due known one) (works_of known) work h).1;
  posts_only = λ none. each_all (λ work. is_post work ≡ true) (due_work known) (posts (works_of known) none);
  no_post = λ work h. other work (and_left _ (is_due known work) (find_among (λ one. can_be_taken false one && is_due known one) (works_of known) work h).1);
}
  where
    home : (work : Work) → (can_be_taken true work && is_due known work) ≡ is_due known work
    home (to_post n) = refl
    home (to_keep number) = refl
    home (to_clear at) = refl
    home (to_drop row) = refl
    home (to_send about) = refl

    other : (work : Work) → can_be_taken false work ≡ true → is_post work ≡ false
    other (to_post n) h = absurd (let e : false ≡ true = h in cc)
    other (to_keep number) h = refl
    other (to_clear at) h = refl
    other (to_drop row) h = refl
    other (to_send about) h = refl

    posts : (works : List Work) → find (λ work. can_be_taken false work && is_due known work) works ≡ None
        → Each (λ work. is_post work ≡ true) (filter (is_due known) works)
    posts [] h = tt
    posts (work ∷ works) h = by work (is_due known work) h (posts works)
      where
        by : (one : Work) (b : Bool)
            → cond (can_be_taken false one && b) (Some one) (find (λ it. can_be_taken false it && is_due known it) works) ≡ None
            → (find (λ it. can_be_taken false it && is_due known it) works ≡ None → Each (λ it. is_post it ≡ true) (filter (is_due known) works))
            → Each (λ it. is_post it ≡ true) (cond b (one ∷ filter (is_due known) works) (filter (is_due known) works))
        by (to_post n) true h rest = (refl, rest h)
        by (to_post n) false h rest = rest h
        by (to_keep number) true h rest = absurd (let e : Some (to_keep number) ≡ None = h in cc)
        by (to_keep number) false h rest = rest h
        by (to_clear at) true h rest = absurd (let e : Some (to_clear at) ≡ None = h in cc)
        by (to_clear at) false h rest = rest h
        by (to_drop row) true h rest = absurd (let e : Some (to_drop row) ≡ None = h in cc)
        by (to_drop row) false h rest = rest h
        by (to_send about) true h rest = absurd (let e : Some (to_send about) ≡ None = h in cc)
        by (to_send about) false h rest = rest h
