-- The requests of a component run that wait for their answers.
use Rattle.std.proofs.Common.{◌≡◌, ℕ, ◌<◌, ◌≤◌, ◌==◌, Bool, true, false, not, ◌&&◌, ◌||◌, if◌then◌else◌, cond, List, [], ◌∷◌, filter, find, option_and_then, Option, Some, is_some, refl, sym, ◌∙◌, ap, subst, arith, nat_lt}
use Rattle.std.proofs.lemmas.Bool.Decides.{nat_tests}
use Rattle.pl_state.specs.declared.goal.Goal.{Goal}
use Rattle.pl_state.specs.declared.goal.Registration.{Registration}
use Rattle.pl_events.specs.declared.event.Event.{Event}
use Rattle.pl_events.specs.declared.event.Request.{Request}
use Rattle.pl_events.specs.declared.event.Request.TheVariants.{Register, Outputs, Invoke}
use Rattle.pl_events.specs.declared.event.What.{What}
use Rattle.pl_events.specs.declared.event.What.TheVariants.{Told, HostGone, Begun, Answered, Lost, Kept, Dropped, Cleared, Posted, Stopped}
use Rattle.pl_lemmas.specs.Words.{has_number}
use Rattle.pl_model.specs.Recording.{posted_of}
use Rattle.pl_model.specs.declared.heard.Heard.{Heard}
use Rattle.pl_model.specs.Known.{Known, asked_at, number_of}
use Rattle.pl_model.specs.Known as known
use Rattle.pl_model.specs.Legal as legal
use Rattle.pl_model.specs.Run.{Spelling}
use Rattle.pl_components.specs.Run.{Fixed}
use Rattle.pl_components.specs.Problems.{has_problem}
use Rattle.pl_components.specs.Requests.{Waiting, goals_of, is_waiting, last_number, made_by, made_for, may_stand, waiting_of}
use Rattle.pl_components.specs.Due.{is_post_due, result_of}
use Rattle.pl_components.specs.Legal.{IsLegal, MayHappen}
use Rattle.pl_components.proofs.Lists.{Each, Each-weaker, and_left, and_right, not_true}
use Rattle.pl_components.proofs.Knowing.{asked_as, asked_of, may_stand-next}

-- a request is a registration that was told with these goals
abbrev pub IsAsked : Heard → Type 0
IsAsked asked = (shut : Bool) × (goals : List Goal) × (n : ℕ) × (told : Registration) × (asked ≡ asked_as shut goals (Register n told))

-- the told request of this number
abbrev pub asked_in : List Heard → ℕ → Option Heard
asked_in asked n = find (λ (one : Heard). known.number_of one.request == n) asked

-- what waits is what was told and not posted
pub record IsWaited (run : Fixed) (past : List Event) : Type 0 where
  pub registered : Each IsAsked (asked_of run past)
  pub last : legal.last_of (asked_of run past) ≡ last_number past
  pub posted : Each (λ n. n ≤ last_number past) (posted_of past)
  pub below : (n : ℕ) → is_waiting (waiting_of run past) n ≡ true → n ≤ last_number past
  pub told : (n : ℕ) → is_waiting (waiting_of run past) n ≡ (not (has_number (posted_of past) n) && is_some (asked_in (asked_of run past) n))
  pub made : (n : ℕ) → is_waiting (waiting_of run past) n ≡ true
      → made_for (waiting_of run past) n ≡ option_and_then (λ (one : Heard). one.about) (asked_in (asked_of run past) n)

none_beyond : (last : ℕ) (xs : List ℕ) → Each (λ g. g ≤ last) xs → (k : ℕ) → last < k → has_number xs k ≡ false
none_beyond last [] h k high = refl
none_beyond last (x ∷ xs) h k high =
    let low : x ≤ last = h.0 in
    let apart : (x == k) ≡ false = grind (arith, nat_tests) in
    ap (λ b. b || has_number xs k) apart ∙ none_beyond last xs h.1 k high

waited_told : (run : Fixed) (past : List Event) (seat m : ℕ) (told : Registration) → last_number past < m → IsWaited run past
    → IsWaited run (record { seat = seat; what = Told (Register m told) } ∷ past)
waited_told run past seat m told high h = record {
  registered = ((has_problem past, goals_of run past, m, told, refl), h.registered);
  last = refl;
  posted = Each-weaker (λ n. n ≤ last_number past) (λ n. n ≤ m) (λ n low. omega arith) (posted_of past) h.posted;
  below = λ n. below n (m == n) refl;
  told = λ n. answers n (m == n) refl;
  made = λ n. made n (m == n) refl;
}
  where
    below : (n : ℕ) (b : Bool) → (m == n) ≡ b → (b || is_waiting (waiting_of run past) n) ≡ true → n ≤ m
    below n true is w = grind (arith, nat_tests)
    below n false is w = let low : n ≤ last_number past = h.below n w in omega arith

    answers : (n : ℕ) (b : Bool) → (m == n) ≡ b → (b || is_waiting (waiting_of run past) n)
        ≡ (not (has_number (posted_of past) n) && is_some (cond b (Some (asked_as (has_problem past) (goals_of run past) (Register m told))) (asked_in (asked_of run past) n)))
    answers n true is =
        let same : m ≡ n = grind (arith, nat_tests) in
        let none : has_number (posted_of past) n ≡ false = none_beyond (last_number past) (posted_of past) h.posted n (omega arith) in
        sym (rw none refl)
    answers n false is = h.told n

    made : (n : ℕ) (b : Bool) → (m == n) ≡ b → (b || is_waiting (waiting_of run past) n) ≡ true
        → (if b then made_by (has_problem past) (goals_of run past) else made_for (waiting_of run past) n)
        ≡ option_and_then (λ (one : Heard). one.about) (cond b (Some (asked_as (has_problem past) (goals_of run past) (Register m told))) (asked_in (asked_of run past) n))
    made n true is w = refl
    made n false is w = h.made n w

without_waiting : (k n : ℕ) (waiting : List Waiting)
    → is_waiting (filter (λ (one : Waiting). not (one.number == k)) waiting) n ≡ (is_waiting waiting n && not (k == n))
without_waiting k n [] = refl
without_waiting k n (one ∷ others) = by (one.number == k) refl (without_waiting k n others)
  where
    none : (a b : Bool) → (a && false) ≡ (b && false)
    none true true = refl
    none true false = refl
    none false true = refl
    none false false = refl

    same : one.number ≡ k → (b : Bool) → (k == n) ≡ b → (is_waiting others n && not b) ≡ (((one.number == n) || is_waiting others n) && not b)
    same is true at = none (is_waiting others n) ((one.number == n) || is_waiting others n)
    same is false at = let off : (one.number == n) ≡ false = ap (λ (j : ℕ). j == n) is ∙ at in rw off refl

    apart : (b c : Bool) → (b ≡ true → c ≡ false) → (b || (is_waiting others n && not c)) ≡ ((b || is_waiting others n) && not c)
    apart true c h = ap not (sym (h refl))
    apart false c h = refl

    by : (b : Bool) → (one.number == k) ≡ b
        → is_waiting (filter (λ (one : Waiting). not (one.number == k)) others) n ≡ (is_waiting others n && not (k == n))
        → is_waiting (filter (λ (one : Waiting). not (one.number == k)) (one ∷ others)) n ≡ (is_waiting (one ∷ others) n && not (k == n))
    by true is rest = rw is (rest ∙ same (grind (arith, nat_tests)) (k == n) refl)
    by false is rest = rw is (ap (λ b. (one.number == n) || b) rest ∙ apart (one.number == n) (k == n) (λ at. grind (arith, nat_tests)))

made_without : (k n : ℕ) → (k == n) ≡ false → (waiting : List Waiting)
    → made_for (filter (λ (one : Waiting). not (one.number == k)) waiting) n ≡ made_for waiting n
made_without k n apart [] = refl
made_without k n apart (one ∷ others) = by (one.number == k) refl (made_without k n apart others)
  where
    by : (b : Bool) → (one.number == k) ≡ b
        → made_for (filter (λ (one : Waiting). not (one.number == k)) others) n ≡ made_for others n
        → made_for (filter (λ (one : Waiting). not (one.number == k)) (one ∷ others)) n ≡ made_for (one ∷ others) n
    by true is rest =
        let same : one.number ≡ k = grind (arith, nat_tests) in
        let off : (one.number == n) ≡ false = ap (λ (j : ℕ). j == n) same ∙ apart in
        rw (is, off) rest
    by false is rest = rw is (ap (λ (later : Option ℕ). if one.number == n then one.made else later) rest)

-- a post is due of a request that waits
pub waits_due : (run : Fixed) (past : List Event) (n : ℕ) → is_post_due run past n ≡ true → is_waiting (waiting_of run past) n ≡ true
waits_due run past n due = and_left (is_waiting (waiting_of run past) n) (is_some (result_of run past n) || has_problem past) due

waited_posted : (run : Fixed) (past : List Event) (seat k : ℕ) → is_waiting (waiting_of run past) k ≡ true → IsWaited run past
    → IsWaited run (record { seat = seat; what = Posted k } ∷ past)
waited_posted run past seat k waits h = record {
  registered = h.registered;
  last = h.last;
  posted = (h.below k waits, h.posted);
  below = λ n w. h.below n (and_left (is_waiting (waiting_of run past) n) (not (k == n)) (sym (without_waiting k n (waiting_of run past)) ∙ w));
  told = λ n. without_waiting k n (waiting_of run past) ∙ ap (λ b. b && not (k == n)) (h.told n)
      ∙ joined (has_number (posted_of past) n) (is_some (asked_in (asked_of run past) n)) (k == n);
  made = λ n w. made_without k n (not_false (k == n) (and_right (is_waiting (waiting_of run past) n) (not (k == n)) (sym (without_waiting k n (waiting_of run past)) ∙ w))) (waiting_of run past)
      ∙ h.made n (and_left (is_waiting (waiting_of run past) n) (not (k == n)) (sym (without_waiting k n (waiting_of run past)) ∙ w));
}
  where
    not_false : (b : Bool) → not b ≡ true → b ≡ false
    not_false true h = absurd (let e : false ≡ true = h in cc)
    not_false false h = refl

    joined : (a b c : Bool) → ((not a && b) && not c) ≡ (not (c || a) && b)
    joined true b true = refl
    joined true b false = refl
    joined false true true = refl
    joined false true false = refl
    joined false false true = refl
    joined false false false = refl

waited_request : (run : Fixed) (past : List Event) (seat : ℕ) (request : Request) → may_stand run past request ≡ true
    → nat_lt (last_number past) (number_of request) ≡ true → IsWaited run past
    → IsWaited run (record { seat = seat; what = Told request } ∷ past)
waited_request run past seat (Outputs n urn outputs) stands above h = absurd (let e : false ≡ true = stands in cc)
waited_request run past seat (Invoke n token args provider version) stands above h = absurd (let e : false ≡ true = stands in cc)
waited_request run past seat (Register n told) stands above h = waited_told run past seat n told (grind (arith, nat_tests)) h

waited_next : (run : Fixed) (spelling : Spelling) (past : List Event) (seat : ℕ) (what : What) → MayHappen run spelling past seat what
    → IsWaited run past → IsWaited run (record { seat = seat; what = what } ∷ past)
waited_next run spelling past seat (Told request) may h =
    waited_request run past seat request (may_stand-next run past request may.next)
    (and_left (nat_lt (last_number past) (number_of request)) (may_stand run past request) may.next) h
waited_next run spelling past seat (HostGone end) may h =
    record { registered = h.registered; last = h.last; posted = h.posted; below = h.below; told = h.told; made = h.made }
waited_next run spelling past seat (Begun ticket lane op) may h = absurd may
waited_next run spelling past seat (Answered ticket reply) may h = absurd may
waited_next run spelling past seat (Lost ticket why) may h = absurd may
waited_next run spelling past seat (Kept goal fresh) may h =
    record { registered = h.registered; last = h.last; posted = h.posted; below = h.below; told = h.told; made = h.made }
waited_next run spelling past seat (Dropped row) may h = absurd may
waited_next run spelling past seat (Cleared at) may h = absurd may
waited_next run spelling past seat (Posted n) may h = waited_posted run past seat n (waits_due run past n may) h
waited_next run spelling past seat (Stopped stop) may h =
    record { registered = h.registered; last = h.last; posted = h.posted; below = h.below; told = h.told; made = h.made }

pub IsWaited-legal : (run : Fixed) (spelling : Spelling) (past : List Event) → IsLegal run spelling past → IsWaited run past
IsWaited-legal run spelling [] legal = record {
  registered = tt;
  last = refl;
  posted = tt;
  below = λ n w. absurd (let e : false ≡ true = w in cc);
  told = λ n. refl;
  made = λ n w. refl;
}
IsWaited-legal run spelling (event ∷ past) legal = waited_next run spelling past event.seat event.what legal.1 (IsWaited-legal run spelling past legal.0)

-- a request whose post is due was not posted
pub due_unposted : (run : Fixed) (spelling : Spelling) (past : List Event) → IsLegal run spelling past → (n : ℕ)
    → is_post_due run past n ≡ true → has_number (posted_of past) n ≡ false
due_unposted run spelling past legal n due =
    let waited : IsWaited run past = IsWaited-legal run spelling past legal in
    not_true (has_number (posted_of past) n)
    (and_left (not (has_number (posted_of past) n)) (is_some (asked_in (asked_of run past) n)) (sym (waited.told n) ∙ waits_due run past n due))

-- ---- requests that were found

pub find_each : {X : Type 0} (P : X → Type 0) (test : X → Bool) (xs : List X) → Each P xs → (x : X) → find test xs ≡ Some x → P x
find_each P test [] h x is = absurd cc
find_each {X} P test (first ∷ others) h x is = by (test first) (find_each P test others h.1 x) is
  where
    by : (b : Bool) → (find test others ≡ Some x → P x) → cond b (Some first) (find test others) ≡ Some x → P x
    by true rest is = let same : first ≡ x = cc in subst (λ (one : X). P one) same h.0
    by false rest is = rest is
