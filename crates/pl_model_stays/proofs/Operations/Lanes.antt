-- The lanes of an orderly history: each has the source of its first operation, and only a configuration configures it.
use Rattle.std.proofs.Common.{◌≡◌, ℕ, ◌+◌, ◌==◌, ◌<◌, ◌≤◌, max, Bool, true, false, not, ◌&&◌, ◌||◌, if◌then◌else◌, cond, List, [], ◌∷◌, ◌++◌, filter, find, length, map, reverse, Option, Some, None, refl, sym, ◌∙◌, ap, subst, inl, inr, ◌⊎◌, arith, option_and_then}
use Rattle.std.proofs.lemmas.Bool.Decides.{nat_tests}
use Rattle.std.proofs.lemmas.List.{reverse-append}
use Rattle.std.specs.List.{list_any, range_with_len}
use Rattle.std.specs.Option.{option_or}
use Rattle.std.proofs.Math.Bool.{or-true}
use Rattle.std.proofs.lemmas.Option.{same_Some}
use Rattle.pl_lemmas.proofs.Truth.{and_left, and_right}
use Rattle.pl_lemmas.proofs.Numbers.{same_number, equal_numbers, range_has}
use Rattle.pl_lemmas.proofs.Each.{Each, IsAmong, each_weaker, each_reverse}
use Rattle.pl_value.specs.Inside.{greatest}
use Rattle.pl_lemmas.specs.Words.{some_passes}
use Rattle.pl_events.specs.declared.event.Event.{Event}
use Rattle.pl_events.specs.declared.event.What.{What}
use Rattle.pl_events.specs.declared.event.What.TheVariants.{Begun, Answered}
use Rattle.pl_events.specs.declared.operation.Call.{Call}
use Rattle.pl_events.specs.declared.operation.Op.{Op}
use Rattle.pl_events.specs.declared.operation.Op.TheVariants as op
use Rattle.pl_events.specs.declared.operation.Source.{Source}
use Rattle.pl_events.specs.declared.operation.Source.TheVariants as source
use Rattle.pl_events.specs.declared.operation.Subject.TheVariants as subject
use Rattle.pl_events.specs.declared.reply.Reply.{Reply}
use Rattle.pl_events.specs.declared.reply.Reply.TheVariants.{Configured}
use Rattle.pl_events.specs.Replies.{is_formed_reply, is_reply_to_call, reply_fits, tells_success, tells_trouble}
use Rattle.pl_model.specs.declared.errand.Errand.{Errand}
use Rattle.pl_model.specs.declared.fixed.Fixed.{Fixed}
use Rattle.pl_model.specs.declared.work.Work.TheVariants.{Send as to_send}
use Rattle.pl_model.specs.Asked.{call_of}
use Rattle.pl_model.specs.Tickets.{begun_of, errand_at, first_on, has_configured, is_configured, is_configured_reply, is_source, lane_count, lane_source, lanes_from, same_op, says_configured, source_begun, was_begun}
use Rattle.pl_model.specs.Due.{is_checked_lane, is_next_lane, is_ready_on, is_wanted_op, passes_limit, wants_lane, is_ready_op}
use Rattle.pl_model.specs.History.{known_of}
use Rattle.pl_model.specs.Known.{Known, has_problem}
use Rattle.pl_model.specs.Legal.{IsOrderly, MayHappen}
use Rattle.pl_model_stays.specs.Laws.{is_configure}
use Rattle.pl_model_stays.proofs.Lists.Among.{any_among, any_found}
use Rattle.pl_model_stays.proofs.Operations.Once.{begun_at_most_once, equal_ops, equal_sources, history_of, both}
use Rattle.pl_model_stays.proofs.Lists.Pairs.{each-passes, each_names}
use Rattle.pl_model_stays.proofs.Goals.Recorded.{two_pass}
use Rattle.pl_model_stays.proofs.Goals.Staying.{any_more, same_op_self, same_source_self}
use Rattle.pl_model_stays.proofs.Operations.Ticketing.{errand-own, errand-stays}
use Rattle.pl_model_stays.proofs.Lists.Ranges.{range_lacks}

-- ---- lists

-- what is found has what each of the list has, and passes
pub each_found : {X : Type 0} (P : X → Type 0) (test : X → Bool) (xs : List X) (x : X) → Each P xs → find test xs ≡ Some x
    → P x × (test x ≡ true)
each_found P test [] x h found = absurd (let e : None ≡ Some x = found in cc)
each_found {X = X} P test (y ∷ ys) x h found = by (test y) refl (each_found P test ys x h.1) found
  where
    by : (b : Bool) → test y ≡ b → (find test ys ≡ Some x → P x × (test x ≡ true))
        → cond b (Some y) (find test ys) ≡ Some x → P x × (test x ≡ true)
    by true is rest found =
        let same : y ≡ x = same_Some y x found in
        (subst P same h.0, subst (λ (z : X). test z ≡ true) same is)
    by false is rest found = rest found

-- where some pass, one passes that has what each of the list has
pub each_any : {X : Type 0} (P : X → Type 0) (test : X → Bool) (xs : List X) → Each P xs → list_any test xs ≡ true
    → (x : X) × P x × (test x ≡ true)
each_any P test [] h some = absurd (let e : false ≡ true = some in cc)
each_any {X = X} P test (y ∷ ys) h some = by (test y) refl (each_any P test ys h.1) some
  where
    by : (b : Bool) → test y ≡ b → (list_any test ys ≡ true → (x : X) × P x × (test x ≡ true))
        → (b || list_any test ys) ≡ true → (x : X) × P x × (test x ≡ true)
    by true is rest some = (y, h.0, is)
    by false is rest some = rest some

-- nothing is found where none passes
find_none : {X : Type 0} (test : X → Bool) (xs : List X) → Each (λ x. test x ≡ false) xs → find test xs ≡ None
find_none test [] h = refl
find_none {X = X} test (x ∷ xs) h = ap (λ (b : Bool). cond b (Some x) (find test xs)) h.0 ∙ find_none test xs h.1

-- one more at the end is found where none is found before it
find_end : {X : Type 0} (test : X → Bool) (x : X) (xs : List X)
    → find test (xs ++ x ∷ []) ≡ option_or (find test xs) (cond (test x) (Some x) None)
find_end test x [] = refl
find_end {X = X} test x (y ∷ ys) = by (test y) (find_end test x ys)
  where
    by : (b : Bool) → find test (ys ++ x ∷ []) ≡ option_or (find test ys) (cond (test x) (Some x) None)
        → cond b (Some y) (find test (ys ++ x ∷ [])) ≡ option_or (cond b (Some y) (find test ys)) (cond (test x) (Some x) None)
    by true rest = refl
    by false rest = rest

find_reverse : {X : Type 0} (test : X → Bool) (x : X) (xs : List X)
    → find test (reverse (x ∷ xs)) ≡ option_or (find test (reverse xs)) (cond (test x) (Some x) None)
find_reverse {X = X} test x xs =
    ap (λ (ys : List X). find test ys) (reverse-append (x ∷ []) xs) ∙ find_end test x (reverse xs)

-- what passes a filter and a test is found by the test behind the filter
any_filter : {X : Type 0} (p test : X → Bool) (xs : List X) → list_any (λ x. p x && test x) xs ≡ true
    → list_any test (filter p xs) ≡ true
any_filter p test [] h = absurd (let e : false ≡ true = h in cc)
any_filter {X = X} p test (x ∷ xs) h = by (p x) (test x) refl (any_filter p test xs) h
  where
    by : (b c : Bool) → test x ≡ c → (list_any (λ y. p y && test y) xs ≡ true → list_any test (filter p xs) ≡ true)
        → ((b && c) || list_any (λ y. p y && test y) xs) ≡ true
        → list_any test (cond b (x ∷ filter p xs) (filter p xs)) ≡ true
    by true true is rest h = ap (λ (b : Bool). b || list_any test (filter p xs)) is
    by true false is rest h = ap (λ (b : Bool). test x || b) (rest h) ∙ or-true (test x)
    by false c is rest h = rest h

-- ---- tests

pub either_true : (a b : Bool) → (a || b) ≡ true → (a ≡ true) ⊎ (b ≡ true)
either_true true b h = inl refl
either_true false b h = inr h

-- a reply that fits a call and tells of no trouble tells that it was carried out
pub fit-success : (asked : Call) (said : Reply) → reply_fits asked said ≡ true → tells_trouble asked said ≡ false
    → tells_success asked said ≡ true
fit-success asked said fits none =
    by (tells_success asked said) (tells_trouble asked said) (and_left (is_reply_to_call asked said) (is_formed_reply said) fits) none
  where
    by : (a b : Bool) → (a || b) ≡ true → b ≡ false → a ≡ true
    by true b h none = refl
    by false b h none = absurd (let e : true ≡ false = sym h ∙ none in cc)

-- ---- lanes

-- the lane of each errand is below their count
lanes_below : (errands : List Errand) → Each (λ errand. errand.lane < greatest (map (λ one. one.lane + 1) errands)) errands
lanes_below [] = tt
lanes_below (errand ∷ earlier) = (
  omega arith,
  each_weaker (λ one. one.lane < greatest (map (λ other. other.lane + 1) earlier))
      (λ one. one.lane < max (errand.lane + 1) (greatest (map (λ other. other.lane + 1) earlier))) (λ one low. omega arith)
      earlier (lanes_below earlier),
)

-- a lane's source is one, if it is that one
pub source_is : (o : Option Source) (wanted : Source) → is_source o wanted ≡ true → o ≡ Some wanted
source_is None wanted h = absurd (let e : false ≡ true = h in cc)
source_is (Some own) wanted h = ap (λ (one : Source). Some one) (equal_sources own wanted h)

-- whether an operation was begun on a lane
abbrev pub was_begun_on : List Event → ℕ → Op → Bool
was_begun_on history lane about = list_any (λ errand. (errand.lane == lane) && same_op errand.op about) (begun_of history)

-- each errand was begun on its lane
begun_each : (history : List Event) → Each (λ errand. was_begun_on history errand.lane errand.op ≡ true) (begun_of history)
begun_each history =
    each_weaker
    (λ (errand : Errand). (place : ℕ × Op) → ((errand.lane == place.0) && same_op errand.op place.1) ≡ true → was_begun_on history place.0 place.1 ≡ true)
    (λ errand. was_begun_on history errand.lane errand.op ≡ true)
    (λ errand names. names (errand.lane, errand.op) (both (errand.lane == errand.lane) _ (same_number errand.lane) (same_op_self errand.op)))
    (begun_of history)
    (each_names (λ (errand : Errand) (place : ℕ × Op). (errand.lane == place.0) && same_op errand.op place.1) (begun_of history))

-- the first errand on a lane stays the first
first_stays : (seat : ℕ) (what : What) (past : List Event) (lane : ℕ) (errand : Errand) → first_on past lane ≡ Some errand
    → first_on (record { seat = seat; what = what } ∷ past) lane ≡ Some errand
first_stays seat (Begun ticket to about) past lane errand h =
    find_reverse (λ one. one.lane == lane) (record { ticket = ticket; seat = seat; lane = to; op = about }) (begun_of past)
    ∙ ap (λ (o : Option Errand). option_or o (cond (to == lane) (Some (record { ticket = ticket; seat = seat; lane = to; op = about })) None)) h
first_stays seat _ past lane errand h = h

-- and so its source stays
pub source_stays : (seat : ℕ) (what : What) (past : List Event) (lane : ℕ) (wanted : Source) → lane_source past lane ≡ Some wanted
    → lane_source (record { seat = seat; what = what } ∷ past) lane ≡ Some wanted
source_stays seat what past lane wanted h = by (first_on past lane) refl h
  where
    by : (o : Option Errand) → first_on past lane ≡ o → option_and_then (λ errand. source_begun errand.op) o ≡ Some wanted
        → lane_source (record { seat = seat; what = what } ∷ past) lane ≡ Some wanted
    by None is h = absurd (let e : None ≡ Some wanted = h in cc)
    by (Some errand) is h =
        ap (λ (o : Option Errand). option_and_then (λ errand. source_begun errand.op) o) (first_stays seat what past lane errand is) ∙ h

-- nothing was begun on the next lane
pub next_unused : (past : List Event) → first_on past (lane_count past) ≡ None
next_unused past =
    find_none (λ errand. errand.lane == lane_count past) (reverse (begun_of past))
    (each_reverse (λ errand. (errand.lane == lane_count past) ≡ false) (begun_of past)
    (each_weaker (λ errand. errand.lane < lane_count past) (λ errand. (errand.lane == lane_count past) ≡ false)
    (λ errand low. apart errand.lane (lane_count past) low) (begun_of past) (lanes_below (begun_of past))))
  where
    apart : (a b : ℕ) → a < b → (a == b) ≡ false
    apart a b h = grind (arith, nat_tests)

-- the source of a new lane is that of its operation
pub next_source : (seat ticket : ℕ) (about : Op) (past : List Event)
    → lane_source (record { seat = seat; what = Begun ticket (lane_count past) about } ∷ past) (lane_count past) ≡ source_begun about
next_source seat ticket about past =
    ap (λ (o : Option Errand). option_and_then (λ errand. source_begun errand.op) o)
    (find_reverse (λ one. one.lane == lane_count past) errand (begun_of past)
    ∙ ap (λ (o : Option Errand). option_or o (cond (lane_count past == lane_count past) (Some errand) None)) (next_unused past)
    ∙ ap (λ (b : Bool). cond b (Some errand) None) (same_number (lane_count past)))
  where
    errand : Errand
    errand = record { ticket = ticket; seat = seat; lane = lane_count past; op = about }

-- the lane on which a provider's inputs were checked is one of that provider
pub checked_source : (known : Known) (own : Source) (lane : ℕ) → is_checked_lane known own lane ≡ true
    → lane_source known.history lane ≡ Some own
checked_source known (source.Goal number) lane h =
    source_is (lane_source known.history lane) (source.Goal number) (and_right _ _ (and_left _ _ (and_left _ _ (and_left _ _ h))))
checked_source known (source.Row row) lane h = absurd (let e : false ≡ true = h in cc)

-- what is due on a lane and makes one for a provider goes to a lane of that provider or to the next one
due_source : (known : Known) (about : Op) (lane : ℕ) (wanted : Source) → is_ready_on known about lane ≡ true
    → source_begun about ≡ Some wanted
    → (lane_source known.history lane ≡ Some wanted) ⊎ (lane ≡ lane_count known.history)
due_source known (op.CheckConfig about) lane wanted ready is =
    inr (equal_numbers lane (lane_count known.history)
    (and_right (not (has_problem known) && is_wanted_op known (op.CheckConfig about)) (is_next_lane known lane) ready))
due_source known (op.Configure provider) lane wanted ready is =
    by (either_true (is_checked_lane known provider lane) (wants_lane known provider && is_next_lane known lane)
    (and_right (not (has_problem known)) _ ready))
  where
    by : (is_checked_lane known provider lane ≡ true) ⊎ ((wants_lane known provider && is_next_lane known lane) ≡ true)
        → (lane_source known.history lane ≡ Some wanted) ⊎ (lane ≡ lane_count known.history)
    by (inl h) = inl (checked_source known provider lane h ∙ is)
    by (inr h) = inr (equal_numbers lane (lane_count known.history) (and_right (wants_lane known provider) (is_next_lane known lane) h))
due_source known _ lane wanted ready is = absurd (let e : None ≡ Some wanted = is in cc)

-- ---- replies

-- that a lane is configured is no trouble to any call, and fits only the call that configures one
untroubled : (about : Op) → tells_trouble (call_of about) Configured ≡ false
untroubled (op.CheckConfig about) = refl
untroubled (op.Configure provider) = refl
untroubled (op.Check about) = refl
untroubled (op.Diff about) = refl
untroubled (op.Create about) = refl
untroubled (op.Update about) = refl
untroubled (op.Delete about) = refl
untroubled (op.Read about) = refl
untroubled (op.Invoke n) = refl

configures : (about : Op) → tells_success (call_of about) Configured ≡ true → is_configure about ≡ true
configures (op.Configure provider) h = refl
configures _ h = absurd (let e : false ≡ true = h in cc)

pub configure_is : (about : Op) → is_configure about ≡ true → (provider : Source) × (about ≡ op.Configure provider)
configure_is (op.Configure provider) h = (provider, refl)
configure_is _ h = absurd (let e : false ≡ true = h in cc)

word_is : (said : Reply) → is_configured_reply (Some said) ≡ true → said ≡ Configured
word_is Configured h = refl
word_is _ h = absurd (let e : false ≡ true = h in cc)

-- ---- what was begun on a lane

pub on_begun : (history : List Event) (lane : ℕ) (about : Op) → was_begun_on history lane about ≡ true → was_begun history about ≡ true
on_begun history lane about h =
    any_more (λ errand. (errand.lane == lane) && same_op errand.op about) (λ errand. same_op errand.op about)
    (λ errand passes. and_right (errand.lane == lane) _ passes) (begun_of history) h

-- a lane on which something was begun is one of those that are counted
pub on_counted : (history : List Event) (lane : ℕ) (about : Op) → was_begun_on history lane about ≡ true → lane < lane_count history
on_counted history lane about h =
    let found = each_any (λ errand. errand.lane < lane_count history) (λ errand. (errand.lane == lane) && same_op errand.op about)
    (begun_of history) (lanes_below (begun_of history)) h in
    subst (λ (n : ℕ). n < lane_count history) (equal_numbers found.0.lane lane (and_left _ (same_op found.0.op about) found.2)) found.1

-- a lane on which something was begun is there for what was begun
pub begun-on : (history : List Event) (about : Op) → was_begun history about ≡ true → (lane : ℕ) × (was_begun_on history lane about ≡ true)
begun-on history about h =
    let found = each_any (λ errand. was_begun_on history errand.lane errand.op ≡ true) (λ errand. same_op errand.op about)
    (begun_of history) (begun_each history) h in
    (found.0.lane, subst (λ (one : Op). was_begun_on history found.0.lane one ≡ true) (equal_ops found.0.op about found.2) found.1)

-- a lane of a provider begins with an operation that makes one for it
pub source-begun : (history : List Event) (lane : ℕ) (wanted : Source) → lane_source history lane ≡ Some wanted
    → (about : Op) × (was_begun_on history lane about ≡ true) × (source_begun about ≡ Some wanted)
source-begun history lane wanted h = by (first_on history lane) refl h
  where
    by : (o : Option Errand) → first_on history lane ≡ o → option_and_then (λ errand. source_begun errand.op) o ≡ Some wanted
        → (about : Op) × (was_begun_on history lane about ≡ true) × (source_begun about ≡ Some wanted)
    by None is h = absurd (let e : None ≡ Some wanted = h in cc)
    by (Some errand) is h =
        let found = each_found (λ one. was_begun_on history one.lane one.op ≡ true) (λ one. one.lane == lane) (reverse (begun_of history))
        errand (each_reverse (λ one. was_begun_on history one.lane one.op ≡ true) (begun_of history) (begun_each history)) is in (
          errand.op,
          subst (λ (n : ℕ). was_begun_on history n errand.op ≡ true) (equal_numbers errand.lane lane found.1) found.0,
          h,
        )

-- what makes a lane for a provider configures one or checks the inputs of its goal
begins : (about : Op) (wanted : Source) → source_begun about ≡ Some wanted
    → (about ≡ op.Configure wanted) ⊎ ((number : ℕ) × (wanted ≡ source.Goal number) × (about ≡ op.CheckConfig (subject.Goal number)))
begins (op.Configure provider) wanted h = inl (ap op.Configure (same_Some provider wanted h))
begins (op.CheckConfig (subject.Goal number)) wanted h = inr (number, sym (same_Some (source.Goal number) wanted h), refl)
begins _ wanted h = absurd (let e : None ≡ Some wanted = h in cc)

-- so a lane of a provider begins
pub lane-begins : (history : List Event) (lane : ℕ) (wanted : Source) → lane_source history lane ≡ Some wanted
    → (was_begun_on history lane (op.Configure wanted) ≡ true)
    ⊎ ((number : ℕ) × (wanted ≡ source.Goal number) × (was_begun_on history lane (op.CheckConfig (subject.Goal number)) ≡ true))
lane-begins history lane wanted h =
    let found = source-begun history lane wanted h in
    by found.0 found.1 (begins found.0 wanted found.2)
  where
    by : (about : Op) → was_begun_on history lane about ≡ true
        → (about ≡ op.Configure wanted) ⊎ ((number : ℕ) × (wanted ≡ source.Goal number) × (about ≡ op.CheckConfig (subject.Goal number)))
        → (was_begun_on history lane (op.Configure wanted) ≡ true)
        ⊎ ((number : ℕ) × (wanted ≡ source.Goal number) × (was_begun_on history lane (op.CheckConfig (subject.Goal number)) ≡ true))
    by about begun (inl is) = inl (subst (λ (one : Op). was_begun_on history lane one ≡ true) is begun)
    by about begun (inr h) = inr (h.0, h.1, subst (λ (one : Op). was_begun_on history lane one ≡ true) h.2 begun)

-- a lane of a provider that passes a test is found among its lanes
pub lanes-have : (history : List Event) (wanted : Source) (test : ℕ → Bool) (lane : ℕ) → lane_source history lane ≡ Some wanted
    → test lane ≡ true → list_any test (lanes_from history wanted) ≡ true
lanes-have history wanted test lane is passes =
    let found = source-begun history lane wanted is in
    let low : lane < lane_count history = on_counted history lane found.0 found.1 in
    any_filter (λ n. is_source (lane_source history n) wanted) test (range_with_len 0 (lane_count history))
    (range_has (λ n. is_source (lane_source history n) wanted && test n) 0 (lane_count history) lane (omega arith) (omega arith)
    (both (is_source (lane_source history lane) wanted) (test lane)
    (ap (λ (o : Option Source). is_source o wanted) is ∙ same_source_self wanted) passes))

-- each of a provider's lanes has it for its source
pub lanes-each : (history : List Event) (wanted : Source) → Each (λ lane. lane_source history lane ≡ Some wanted) (lanes_from history wanted)
lanes-each history wanted =
    each_weaker (λ lane. is_source (lane_source history lane) wanted ≡ true) (λ lane. lane_source history lane ≡ Some wanted)
    (λ lane h. source_is (lane_source history lane) wanted h) (lanes_from history wanted)
    (each-passes (λ lane. is_source (lane_source history lane) wanted) (range_with_len 0 (lane_count history)))

-- ---- orderly histories

module _ (run : Fixed) where
  abbrev IsSourced : List Event → Errand → Type 0
  IsSourced history errand = (wanted : Source) → source_begun errand.op ≡ Some wanted → lane_source history errand.lane ≡ Some wanted

  sourced_next : (seat : ℕ) (past : List Event) (what : What) → MayHappen (known_of run past) seat what
      → Each (IsSourced past) (begun_of past)
      → Each (IsSourced (record { seat = seat; what = what } ∷ past)) (begun_of (record { seat = seat; what = what } ∷ past))
  sourced_next seat past (Begun ticket lane about) may before = (new, old)
    where
      old : Each (IsSourced (record { seat = seat; what = Begun ticket lane about } ∷ past)) (begun_of past)
      old =
          each_weaker (IsSourced past) (IsSourced (record { seat = seat; what = Begun ticket lane about } ∷ past))
          (λ errand has wanted is. source_stays seat (Begun ticket lane about) past errand.lane wanted (has wanted is))
          (begun_of past) before

      new : (wanted : Source) → source_begun about ≡ Some wanted
          → lane_source (record { seat = seat; what = Begun ticket lane about } ∷ past) lane ≡ Some wanted
      new wanted is =
          by (subst (λ (events : List Event). (lane_source events lane ≡ Some wanted) ⊎ (lane ≡ lane_count events)) (history_of run past)
          (due_source (known_of run past) about lane wanted
          (and_left (is_ready_on (known_of run past) about lane) (not (passes_limit (known_of run past) (to_send about))) may.due) is))
        where
          by : (lane_source past lane ≡ Some wanted) ⊎ (lane ≡ lane_count past)
              → lane_source (record { seat = seat; what = Begun ticket lane about } ∷ past) lane ≡ Some wanted
          by (inl h) = source_stays seat (Begun ticket lane about) past lane wanted h
          by (inr next) =
              subst (λ (to : ℕ). lane_source (record { seat = seat; what = Begun ticket to about } ∷ past) to ≡ Some wanted) (sym next)
              (next_source seat ticket about past ∙ is)
  sourced_next seat past _ may before = before

  -- a lane has the source of each of its operations that makes one for a provider
  sourced : (history : List Event) → IsOrderly run history → Each (IsSourced history) (begun_of history)
  sourced [] orderly = tt
  sourced (event ∷ past) orderly = sourced_next event.seat past event.what orderly.1 (sourced past orderly.0)

  -- the lane on which an operation for a provider was begun is one of that provider
  pub lane-sourced : (history : List Event) (lane : ℕ) (about : Op) (wanted : Source) → IsOrderly run history
      → was_begun_on history lane about ≡ true → source_begun about ≡ Some wanted → lane_source history lane ≡ Some wanted
  lane-sourced history lane about wanted orderly begun is =
      let found = each_any (IsSourced history) (λ errand. (errand.lane == lane) && same_op errand.op about) (begun_of history)
      (sourced history orderly) begun in
      let at : found.0.lane ≡ lane = equal_numbers found.0.lane lane (and_left _ (same_op found.0.op about) found.2) in
      let same : found.0.op ≡ about = equal_ops found.0.op about (and_right (found.0.lane == lane) _ found.2) in
      subst (λ (n : ℕ). lane_source history n ≡ Some wanted) at
      (found.1 wanted (ap (λ (one : Op). source_begun one) same ∙ is))

  -- ---- configurations

  -- an operation is begun on one lane, a configuration aside
  pub one-lane : (history : List Event) (lane other : ℕ) (about : Op) → IsOrderly run history → is_configure about ≡ false
      → was_begun_on history lane about ≡ true → was_begun_on history other about ≡ true → lane ≡ other
  one-lane history lane other about orderly once first second = by (lane == other) refl
    where
      apart : (lane == other) ≡ false → (errand : Errand) → ((errand.lane == lane) && same_op errand.op about) ≡ true
          → ((errand.lane == other) && same_op errand.op about) ≡ false
      apart off errand h =
          subst (λ (n : ℕ). ((n == other) && same_op errand.op about) ≡ false)
          (sym (equal_numbers errand.lane lane (and_left _ (same_op errand.op about) h)))
          (ap (λ (b : Bool). b && same_op errand.op about) off)

      by : (b : Bool) → (lane == other) ≡ b → lane ≡ other
      by true is = equal_numbers lane other is
      by false is =
          let few : length (filter (λ errand. same_op errand.op about) (begun_of history)) ≤ 1 =
          begun_at_most_once run about once history orderly in
          let many : 2 ≤ length (filter (λ errand. same_op errand.op about) (begun_of history)) =
          two_pass (λ errand. same_op errand.op about)
          (λ errand. (errand.lane == lane) && same_op errand.op about) (λ errand. (errand.lane == other) && same_op errand.op about)
          (λ errand passes. and_right (errand.lane == lane) _ passes) (λ errand passes. and_right (errand.lane == other) _ passes)
          (apart is) (begun_of history) first second in
          absurd (omega arith)

  -- an event that tells of a configured lane answers the errand of a configuration
  abbrev TellsConfigured : List Event → ℕ → Type 0
  TellsConfigured history ticket = (errand : Errand) × (errand_at history ticket ≡ Some errand) × (is_configure errand.op ≡ true)

  configured_now : (seat : ℕ) (past : List Event) (what : What) → MayHappen (known_of run past) seat what
      → (ticket : ℕ) → says_configured ticket what ≡ true → TellsConfigured past ticket
  configured_now seat past (Answered closed said) may ticket h = by (closed == ticket) refl h
    where
      fits : some_passes (λ errand. reply_fits (call_of errand.op) said) (errand_at past closed) ≡ true
      fits =
          subst (λ (events : List Event). some_passes (λ errand. reply_fits (call_of errand.op) said) (errand_at events closed) ≡ true)
          (history_of run past) may.fits

      at : (o : Option Errand) → errand_at past closed ≡ o → some_passes (λ errand. reply_fits (call_of errand.op) Configured) o ≡ true
          → TellsConfigured past closed
      at None is form = absurd (let e : false ≡ true = form in cc)
      at (Some errand) is form =
          (errand, is, configures errand.op (fit-success (call_of errand.op) Configured form (untroubled errand.op)))

      by : (b : Bool) → (closed == ticket) ≡ b → is_configured_reply (if b then Some said else None) ≡ true
          → TellsConfigured past ticket
      by true same h =
          subst (λ (n : ℕ). TellsConfigured past n) (equal_numbers closed ticket same)
          (at (errand_at past closed) refl
          (subst (λ (one : Reply). some_passes (λ errand. reply_fits (call_of errand.op) one) (errand_at past closed) ≡ true) (word_is said h) fits))
      by false same h = absurd (let e : false ≡ true = h in cc)
  configured_now seat past _ may ticket h = absurd (let e : false ≡ true = h in cc)

  configured_each : (history : List Event) → IsOrderly run history
      → Each (λ event. (ticket : ℕ) → says_configured ticket event.what ≡ true → TellsConfigured history ticket) history
  configured_each [] orderly = tt
  configured_each (event ∷ past) orderly = (
    λ ticket h. stays ticket (configured_now event.seat past event.what orderly.1 ticket h),
    each_weaker (λ (one : Event). (ticket : ℕ) → says_configured ticket one.what ≡ true → TellsConfigured past ticket)
        (λ (one : Event). (ticket : ℕ) → says_configured ticket one.what ≡ true → TellsConfigured (event ∷ past) ticket)
        (λ one says ticket h. stays ticket (says ticket h)) past (configured_each past orderly.0),
  )
    where
      stays : (ticket : ℕ) → TellsConfigured past ticket → TellsConfigured (event ∷ past) ticket
      stays ticket h = (h.0, errand-stays run event past ticket h.0 orderly h.1, h.2)

  -- a configured lane is of the provider that it was configured for
  pub configured-for : (history : List Event) (lane : ℕ) → IsOrderly run history → is_configured history lane ≡ true
      → (provider : Source) × (was_begun_on history lane (op.Configure provider) ≡ true)
  configured-for history lane orderly h =
      let one = any_found (λ errand. errand.lane == lane && has_configured history errand) (begun_of history) h in
      by one.0 one.1 (and_left _ (has_configured history one.0) one.2) (and_right (one.0.lane == lane) _ one.2)
    where
      told : (errand : Errand) → errand_at history errand.ticket ≡ Some errand → TellsConfigured history errand.ticket
          → is_configure errand.op ≡ true
      told errand at one = subst (λ (it : Errand). is_configure it.op ≡ true) (same_Some one.0 errand (sym one.1 ∙ at)) one.2

      placed : (errand : Errand) (about : Op) → IsAmong errand (begun_of history) → errand.op ≡ about
          → (errand.lane == lane) ≡ true → was_begun_on history lane about ≡ true
      placed errand about there is on =
          any_among (λ one. (one.lane == lane) && same_op one.op about) (begun_of history) errand there
          (both (errand.lane == lane) (same_op errand.op about) on
          (subst (λ (one : Op). same_op errand.op one ≡ true) is (same_op_self errand.op)))

      by : (errand : Errand) → IsAmong errand (begun_of history) → (errand.lane == lane) ≡ true → has_configured history errand ≡ true
          → (provider : Source) × (was_begun_on history lane (op.Configure provider) ≡ true)
      by errand there on has =
          let said = each_any (λ event. (ticket : ℕ) → says_configured ticket event.what ≡ true → TellsConfigured history ticket)
          (λ event. says_configured errand.ticket event.what) history (configured_each history orderly) has in
          let provider = configure_is errand.op
          (told errand (errand-own run history errand orderly there) (said.1 errand.ticket said.2)) in
          (provider.0, placed errand (op.Configure provider.0) there provider.1 on)

-- an operation that is not ready is not ready on any lane
pub lane-unready : (known : Known) (about : Op) (lane : ℕ) → is_ready_op known about ≡ false → lane ≤ lane_count known.history
    → is_ready_on known about lane ≡ false
lane-unready known about lane unready low =
    range_lacks (is_ready_on known about) 0 (lane_count known.history + 1) lane (omega arith) (omega arith) unready
