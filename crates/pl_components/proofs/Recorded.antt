-- What a component run records.
use Rattle.std.proofs.Common.{◌≡◌, ℕ, suc, ◌<◌, ◌≤◌, ◌==◌, Bool, true, false, not, ◌&&◌, ◌||◌, if◌then◌else◌, List, [], ◌∷◌, length, map, filter, option_map, option_and_then, Option, Some, None, is_some, refl, sym, ◌∙◌, ap, subst, arith, nat_lt}
use Rattle.std.proofs.lemmas.Bool.Decides.{nat_tests}
use Rattle.std.proofs.lemmas.List.{length-map}
use Rattle.std.specs.List.{cons_option}
use Rattle.std.specs.Option.{option_or}
use Rattle.pl_state.specs.Component.{plain_goal}
use Rattle.pl_state.specs.Kinds.{is_of_provider}
use Rattle.pl_state.specs.declared.goal.Goal.{Goal}
use Rattle.pl_events.specs.declared.event.Event.{Event}
use Rattle.pl_events.specs.declared.event.Request.{Request}
use Rattle.pl_events.specs.declared.event.Request.TheVariants.{Register, Outputs, Invoke}
use Rattle.pl_events.specs.declared.event.What.{What}
use Rattle.pl_events.specs.declared.event.What.TheVariants.{Told, HostGone, Begun, Answered, Lost, Kept, Dropped, Cleared, Posted, Stopped}
use Rattle.pl_model.specs.declared.decided.Decided.{Decided}
use Rattle.pl_model.specs.declared.errand.Closed.{Closed}
use Rattle.pl_lemmas.specs.Words.{has_number, numbered, only_if}
use Rattle.pl_model.specs.Recording.{kept_by, recorded_by_reply, recorded_of}
use Rattle.pl_model.specs.Known.{Known}
use Rattle.pl_model.specs.Entries.{Result, goal_entry, recorded_entry, result_kept, result_with, told_by, told_outputs, with_outputs}
use Rattle.pl_model.specs.Entries as entries
use Rattle.pl_model.specs.Run.{Spelling}
use Rattle.pl_components.specs.Run.{Fixed}
use Rattle.pl_components.specs.Problems.{has_problem}
use Rattle.pl_components.specs.Requests.{goal_at, goal_for, goals_of, may_stand}
use Rattle.pl_components.specs.Entries.{entry_of, is_unrecorded, new_entries, unrecorded_of}
use Rattle.pl_components.specs.Due.{has_room, is_keep_due, is_placed}
use Rattle.pl_components.specs.Legal.{IsLegal, MayHappen}
use Rattle.pl_components.proofs.Lists.{Each, Each-weaker, and_left, same_number}
use Rattle.pl_components.proofs.Goals.{IsFit, decided_for, plain_decided}
use Rattle.pl_components.proofs.Knowing.{known_as, may_stand-next, no_reply}

-- ---- numbers of recorded goals

abbrev pub kept_after : What → List ℕ → List ℕ
kept_after (Kept goal fresh) kept = goal ∷ kept
kept_after _ kept = kept

-- the goals that were kept, newest first
abbrev pub kept_of : List Event → List ℕ
kept_of [] = []
kept_of (event ∷ past) = kept_after event.what (kept_of past)

kept_next : (what : What) (kept : List ℕ) → cons_option (option_or (kept_by what) None) kept ≡ kept_after what kept
kept_next (Told request) kept = refl
kept_next (HostGone end) kept = refl
kept_next (Begun ticket lane op) kept = refl
kept_next (Answered ticket reply) kept = refl
kept_next (Lost ticket why) kept = refl
kept_next (Kept goal fresh) kept = refl
kept_next (Dropped row) kept = refl
kept_next (Cleared at) kept = refl
kept_next (Posted n) kept = refl
kept_next (Stopped stop) kept = refl

pub recorded_is : (run : Fixed) (spelling : Spelling) (past : List Event) → IsLegal run spelling past → recorded_of past ≡ kept_of past
recorded_is run spelling [] legal = refl
recorded_is run spelling (event ∷ past) legal =
    ap (λ (closed : Option Closed). cons_option (option_or (kept_by event.what) (option_and_then recorded_by_reply closed)) (recorded_of past))
    (no_reply run spelling past event.seat event.what legal.1)
    ∙ kept_next event.what (recorded_of past)
    ∙ ap (λ (kept : List ℕ). kept_after event.what kept) (recorded_is run spelling past legal.0)

pub has_itself : (x : ℕ) (xs : List ℕ) → has_number (x ∷ xs) x ≡ true
has_itself x xs = rw (same_number x) refl

has_later : (x : ℕ) (xs : List ℕ) (g : ℕ) → has_number xs g ≡ true → has_number (x ∷ xs) g ≡ true
has_later x xs g h = ap (λ b. (x == g) || b) h ∙ or_true (x == g)
  where
    or_true : (a : Bool) → (a || true) ≡ true
    or_true true = refl
    or_true false = refl

-- a list has each of its numbers
pub has_each : (xs : List ℕ) → Each (λ g. has_number xs g ≡ true) xs
has_each [] = tt
has_each (x ∷ xs) =
    (has_itself x xs, Each-weaker (λ g. has_number xs g ≡ true) (λ g. has_number (x ∷ xs) g ≡ true) (has_later x xs) xs (has_each xs))

pub none_above : (n : ℕ) (xs : List ℕ) → Each (λ g. g < n) xs → (k : ℕ) → n ≤ k → has_number xs k ≡ false
none_above n [] h k high = refl
none_above n (x ∷ xs) h k high =
    let low : x < n = h.0 in
    let apart : (x == k) ≡ false = grind (arith, nat_tests) in
    ap (λ b. b || has_number xs k) apart ∙ none_above n xs h.1 k high

-- the numbers without one of them
without_number : (g : ℕ) (xs : List ℕ) (k : ℕ)
    → is_unrecorded (filter (λ number. not (number == g)) xs) k ≡ (is_unrecorded xs k && not (g == k))
without_number g [] k = refl
without_number g (x ∷ xs) k = by (x == g) refl (without_number g xs k)
  where
    same : (x ≡ g) → (b : Bool) → (g == k) ≡ b → (is_unrecorded xs k && not b) ≡ (((x == k) || is_unrecorded xs k) && not b)
    same is true at = and_none (is_unrecorded xs k) ((x == k) || is_unrecorded xs k)
      where
        and_none : (a b : Bool) → (a && false) ≡ (b && false)
        and_none true true = refl
        and_none true false = refl
        and_none false true = refl
        and_none false false = refl
    same is false at =
        let off : (x == k) ≡ false = ap (λ (n : ℕ). n == k) is ∙ at in
        rw off refl

    apart : (b c : Bool) → (b ≡ true → c ≡ false) → (b || (is_unrecorded xs k && not c)) ≡ ((b || is_unrecorded xs k) && not c)
    apart true c h = ap not (sym (h refl))
    apart false c h = refl

    by : (b : Bool) → (x == g) ≡ b
        → is_unrecorded (filter (λ number. not (number == g)) xs) k ≡ (is_unrecorded xs k && not (g == k))
        → is_unrecorded (filter (λ number. not (number == g)) (x ∷ xs)) k ≡ (is_unrecorded (x ∷ xs) k && not (g == k))
    by true is rest = rw is (rest ∙ same (grind (arith, nat_tests)) (g == k) refl)
    by false is rest = rw is (ap (λ b. (x == k) || b) rest ∙ apart (x == k) (g == k) (λ at. grind (arith, nat_tests)))

-- which goals are recorded, and which not
pub record IsCounted (run : Fixed) (past : List Event) : Type 0 where
  pub within : Each (λ g. g < length (goals_of run past)) (kept_of past)
  pub left : (g : ℕ) → is_unrecorded (unrecorded_of run past) g ≡ (nat_lt g (length (goals_of run past)) && not (has_number (kept_of past) g))

left_told : (n g : ℕ) (a : Bool) (kept : List ℕ) → Each (λ k. k < n) kept → a ≡ (nat_lt g n && not (has_number kept g))
    → ((n == g) || a) ≡ (nat_lt g (suc n) && not (has_number kept g))
left_told n g a kept within h = by (n == g) refl
  where
    by : (b : Bool) → (n == g) ≡ b → (b || a) ≡ (nat_lt g (suc n) && not (has_number kept g))
    by true is =
        let same : n ≡ g = grind (arith, nat_tests) in
        let below : nat_lt g (suc n) ≡ true = grind (arith, nat_tests) in
        let none : has_number kept g ≡ false = none_above n kept within g (omega arith) in
        sym (rw (below, none) refl)
    by false is =
        let same : nat_lt g (suc n) ≡ nat_lt g n = grind (arith, nat_tests) in
        h ∙ ap (λ b. b && not (has_number kept g)) (sym same)

counted_told : (run : Fixed) (past : List Event) (request : Request) → may_stand run past request ≡ true → IsCounted run past
    → IsCounted run (record { seat = 0; what = Told request } ∷ past)
counted_told run past (Outputs n urn outputs) stands h = absurd (let e : false ≡ true = stands in cc)
counted_told run past (Invoke n token args provider version) stands h = absurd (let e : false ≡ true = stands in cc)
counted_told run past (Register n told) stands h = record {
  within = within (has_problem past);
  left = left (has_problem past);
}
  where
    within : (b : Bool) → Each (λ g. g < length (if b then goals_of run past else (goal_for run told ∷ goals_of run past))) (kept_of past)
    within true = h.within
    within false = Each-weaker (λ g. g < length (goals_of run past)) (λ g. g < suc (length (goals_of run past))) (λ g low. omega arith) (kept_of past) h.within

    left : (b : Bool) (g : ℕ) → is_unrecorded (if b then unrecorded_of run past else (length (goals_of run past) ∷ unrecorded_of run past)) g
        ≡ (nat_lt g (length (if b then goals_of run past else (goal_for run told ∷ goals_of run past))) && not (has_number (kept_of past) g))
    left true g = h.left g
    left false g = left_told (length (goals_of run past)) g (is_unrecorded (unrecorded_of run past) g) (kept_of past) h.within (h.left g)

-- a goal whose keep is due is not recorded
pub unrecorded_due : (run : Fixed) (past : List Event) (g : ℕ) → is_keep_due run past g ≡ true → is_unrecorded (unrecorded_of run past) g ≡ true
unrecorded_due run past g due =
    and_left (is_unrecorded (unrecorded_of run past) g) (is_placed (new_entries run past) (goal_at (goals_of run past) g) && not (has_problem past))
    (and_left (is_unrecorded (unrecorded_of run past) g && (is_placed (new_entries run past) (goal_at (goals_of run past) g) && not (has_problem past))) (has_room run past) due)

counted_kept : (run : Fixed) (past : List Event) (g : ℕ) (fresh : Option ℕ) → is_keep_due run past g ≡ true → IsCounted run past
    → IsCounted run (record { seat = 0; what = Kept g fresh } ∷ past)
counted_kept run past g fresh due h =
    let below : nat_lt g (length (goals_of run past)) ≡ true =
    and_left (nat_lt g (length (goals_of run past))) (not (has_number (kept_of past) g)) (sym (h.left g) ∙ unrecorded_due run past g due) in
    record {
      within = (grind (arith, nat_tests), h.within);
      left = λ k. without_number g (unrecorded_of run past) k ∙ ap (λ b. b && not (g == k)) (h.left k)
          ∙ joined (nat_lt k (length (goals_of run past))) (has_number (kept_of past) k) (g == k);
    }
  where
    joined : (a b c : Bool) → ((a && not b) && not c) ≡ (a && not (c || b))
    joined true true true = refl
    joined true true false = refl
    joined true false true = refl
    joined true false false = refl
    joined false b c = refl

counted_next : (run : Fixed) (spelling : Spelling) (past : List Event) (seat : ℕ) (what : What) → MayHappen run spelling past seat what
    → IsCounted run past → IsCounted run (record { seat = 0; what = what } ∷ past)
counted_next run spelling past seat (Told request) may h = counted_told run past request (may_stand-next run past request may.next) h
counted_next run spelling past seat (HostGone end) may h = record { within = h.within; left = h.left }
counted_next run spelling past seat (Begun ticket lane op) may h = absurd may
counted_next run spelling past seat (Answered ticket reply) may h = absurd may
counted_next run spelling past seat (Lost ticket why) may h = absurd may
counted_next run spelling past seat (Kept g fresh) may h = counted_kept run past g fresh may.0 h
counted_next run spelling past seat (Dropped row) may h = absurd may
counted_next run spelling past seat (Cleared at) may h = absurd may
counted_next run spelling past seat (Posted n) may h = record { within = h.within; left = h.left }
counted_next run spelling past seat (Stopped stop) may h = record { within = h.within; left = h.left }

pub IsCounted-legal : (run : Fixed) (spelling : Spelling) (past : List Event) → IsLegal run spelling past → IsCounted run past
IsCounted-legal run spelling [] legal = record { within = tt; left = λ g. nothing g }
  where
    nothing : (g : ℕ) → false ≡ (nat_lt g 0 && true)
    nothing g = let none : nat_lt g 0 ≡ false = grind (arith, nat_tests) in sym (rw none refl)
IsCounted-legal run spelling (event ∷ past) legal =
    let h : IsCounted run (record { seat = 0; what = event.what } ∷ past) =
    counted_next run spelling past event.seat event.what legal.1 (IsCounted-legal run spelling past legal.0) in
    record { within = h.within; left = h.left }

-- ---- goals by their numbers

pub numbered-goals : (goals : List Goal) (g : ℕ) → numbered goals g ≡ goal_at goals g
numbered-goals [] g = refl
numbered-goals (goal ∷ earlier) g = ap (λ (later : Option Goal). if length earlier == g then Some goal else later) (numbered-goals earlier g)

pub numbered-decided : (goals : List Goal) (g : ℕ) → numbered (map decided_for goals) g ≡ option_map decided_for (goal_at goals g)
numbered-decided [] g = refl
numbered-decided (goal ∷ earlier) g =
    ap (λ (n : ℕ). if n == g then Some plain_decided else numbered (map decided_for earlier) g) (length-map earlier decided_for)
    ∙ ap (λ (later : Option Decided). if length earlier == g then Some plain_decided else later) (numbered-decided earlier g)
    ∙ by (length earlier == g)
  where
    by : (b : Bool) → (if b then Some plain_decided else option_map decided_for (goal_at earlier g))
        ≡ option_map decided_for (if b then Some goal else goal_at earlier g)
    by true = refl
    by false = refl

-- a goal of the list has what each of them has
pub goal_at-each : (P : Goal → Type 0) (goals : List Goal) → Each P goals → (g : ℕ) (goal : Goal) → goal_at goals g ≡ Some goal → P goal
goal_at-each P [] h g goal is = absurd cc
goal_at-each P (first ∷ earlier) h g goal is = by (length earlier == g) (goal_at-each P earlier h.1 g goal) is
  where
    by : (b : Bool) → (goal_at earlier g ≡ Some goal → P goal) → (if b then Some first else goal_at earlier g) ≡ Some goal → P goal
    by true rest is = let same : first ≡ goal = cc in subst (λ (one : Goal). P one) same h.0
    by false rest is = rest is

pub goal_at-below : (goals : List Goal) (g : ℕ) → is_some (goal_at goals g) ≡ nat_lt g (length goals)
goal_at-below [] g = let none : nat_lt g 0 ≡ false = grind (arith, nat_tests) in sym none
goal_at-below (first ∷ earlier) g = by (length earlier == g) refl (goal_at-below earlier g)
  where
    by : (b : Bool) → (length earlier == g) ≡ b → is_some (goal_at earlier g) ≡ nat_lt g (length earlier)
        → is_some (if b then Some first else goal_at earlier g) ≡ nat_lt g (suc (length earlier))
    by true is rest = let low : nat_lt g (suc (length earlier)) ≡ true = grind (arith, nat_tests) in sym low
    by false is rest = let low : nat_lt g (length earlier) ≡ nat_lt g (suc (length earlier)) = grind (arith, nat_tests) in rest ∙ low

-- ---- what recorded a goal

abbrev pub bare_result : Result
bare_result = result_with None [] []

abbrev kept_result : ℕ → What → Option Result
kept_result g (Kept goal fresh) = only_if (goal == g) (Some bare_result)
kept_result g _ = None

or_none : (b : Bool) → option_or (only_if b (Some bare_result)) None ≡ only_if b (Some bare_result)
or_none true = refl
or_none false = refl

-- what recorded a goal before, or what the event records of it
kept_next_result : (g : ℕ) (what : What) (kept : List ℕ)
    → option_or (only_if (has_number kept g) (Some bare_result)) (option_or (kept_result g what) None)
    ≡ only_if (has_number (kept_after what kept) g) (Some bare_result)
kept_next_result g (Told request) kept = or_none (has_number kept g)
kept_next_result g (HostGone end) kept = or_none (has_number kept g)
kept_next_result g (Begun ticket lane op) kept = or_none (has_number kept g)
kept_next_result g (Answered ticket reply) kept = or_none (has_number kept g)
kept_next_result g (Lost ticket why) kept = or_none (has_number kept g)
kept_next_result g (Kept goal fresh) kept = by (has_number kept g) (goal == g)
  where
    by : (b c : Bool) → option_or (only_if b (Some bare_result)) (option_or (only_if c (Some bare_result)) None) ≡ only_if (c || b) (Some bare_result)
    by true true = refl
    by true false = refl
    by false true = refl
    by false false = refl
kept_next_result g (Dropped row) kept = or_none (has_number kept g)
kept_next_result g (Cleared at) kept = or_none (has_number kept g)
kept_next_result g (Posted n) kept = or_none (has_number kept g)
kept_next_result g (Stopped stop) kept = or_none (has_number kept g)

module _ (run : Fixed) (parallel : ℕ) (past : List Event) where
  abbrev known : Known
  known = known_as run parallel past

  result_plain : (g : ℕ) (urn kind : List ℕ) (parent : Option (List ℕ)) (what : What) → is_of_provider urn ≡ false
      → result_kept known g (plain_goal urn kind parent) plain_decided what ≡ kept_result g what
  result_plain g urn kind parent (Told request) other = refl
  result_plain g urn kind parent (HostGone end) other = refl
  result_plain g urn kind parent (Begun ticket lane op) other = refl
  result_plain g urn kind parent (Answered ticket reply) other = refl
  result_plain g urn kind parent (Lost ticket why) other = refl
  result_plain g urn kind parent (Kept goal fresh) other = rw other refl
  result_plain g urn kind parent (Dropped row) other = refl
  result_plain g urn kind parent (Cleared at) other = refl
  result_plain g urn kind parent (Posted n) other = refl
  result_plain g urn kind parent (Stopped stop) other = refl

  recording_plain : (spelling : Spelling) (g : ℕ) (urn kind : List ℕ) (parent : Option (List ℕ)) → is_of_provider urn ≡ false
      → (history : List Event) → IsLegal run spelling history
      → entries.result_from known g (plain_goal urn kind parent) plain_decided history ≡ only_if (has_number (kept_of history) g) (Some bare_result)
  recording_plain spelling g urn kind parent other [] legal = refl
  recording_plain spelling g urn kind parent other (event ∷ earlier) legal =
      ap (λ (before : Option Result). option_or before (entries.result_by known g (plain_goal urn kind parent) plain_decided earlier event.what))
      (recording_plain spelling g urn kind parent other earlier legal.0)
      ∙ ap (λ (closed : Option Closed). option_or (only_if (has_number (kept_of earlier) g) (Some bare_result))
      (option_or (result_kept known g (plain_goal urn kind parent) plain_decided event.what) (option_and_then (entries.result_answered known g plain_decided) closed)))
      (no_reply run spelling earlier event.seat event.what legal.1)
      ∙ ap (λ (own : Option Result). option_or (only_if (has_number (kept_of earlier) g) (Some bare_result)) (option_or own None))
      (result_plain g urn kind parent event.what other)
      ∙ kept_next_result g event.what (kept_of earlier)

  entry_plain : (spelling : Spelling) → IsLegal run spelling past → (g : ℕ) (urn kind : List ℕ) (parent : Option (List ℕ)) → is_of_provider urn ≡ false
      → option_map (goal_entry known (plain_goal urn kind parent) plain_decided) (entries.recording_of known g (plain_goal urn kind parent) plain_decided)
      ≡ only_if (has_number (kept_of past) g) (Some (entry_of (plain_goal urn kind parent)))
  entry_plain spelling legal g urn kind parent other = rw (recording_plain spelling g urn kind parent other past legal) (by (has_number (kept_of past) g))
    where
      by : (b : Bool) → option_map (goal_entry known (plain_goal urn kind parent) plain_decided) (only_if b (Some bare_result))
          ≡ only_if b (Some (entry_of (plain_goal urn kind parent)))
      by true = refl
      by false = refl

  entry_fit : (spelling : Spelling) → IsLegal run spelling past → (g : ℕ) (goal : Goal) → IsFit goal
      → option_map (goal_entry known goal plain_decided) (entries.recording_of known g goal plain_decided)
      ≡ only_if (has_number (kept_of past) g) (Some (entry_of goal))
  entry_fit spelling legal g goal fit =
      subst (λ (one : Goal). option_map (goal_entry known one plain_decided) (entries.recording_of known g one plain_decided)
      ≡ only_if (has_number (kept_of past) g) (Some (entry_of one))) (sym fit.plain) (entry_plain spelling legal g goal.urn goal.kind goal.parent fit.other)

  -- the entry of a goal, if it is recorded
  pub entry_known : (spelling : Spelling) → IsLegal run spelling past → Each IsFit (goals_of run past) → (g : ℕ)
      → entries.entry_of known g ≡ only_if (has_number (kept_of past) g) (option_map entry_of (goal_at (goals_of run past) g))
  entry_known spelling legal fit g = rw (numbered-goals (goals_of run past) g, numbered-decided (goals_of run past) g) (by (goal_at (goals_of run past) g) refl)
    where
      none : (b : Bool) → None ≡ only_if b (option_map entry_of None)
      none true = refl
      none false = refl

      by : (found : Option Goal) → goal_at (goals_of run past) g ≡ found
          → option_and_then (λ (goal : Goal). option_and_then (λ (one : Decided). option_map (goal_entry known goal one) (entries.recording_of known g goal one)) (option_map decided_for found)) found
          ≡ only_if (has_number (kept_of past) g) (option_map entry_of found)
      by None is = none (has_number (kept_of past) g)
      by (Some goal) is = entry_fit spelling legal g goal (goal_at-each IsFit (goals_of run past) fit g goal is)
