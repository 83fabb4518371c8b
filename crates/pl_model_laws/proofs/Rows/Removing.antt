-- What was deleted or dropped was to go; the claim of a goal that is not recorded is left.
use Rattle.std.proofs.Common.{◌≡◌, ℕ, ◌+◌, ◌<◌, ◌≤◌, ◌==◌, Bool, true, false, not, ◌&&◌, ◌||◌, ◌⊎◌, inl, inr, List, ◌∷◌, ◌++◌, append_assoc, length, nat_lt, Option, Some, None, refl, sym, ◌∙◌, ap, subst, arith, slice_get, option_map, option_and_then, []}
use Rattle.std.proofs.lemmas.Bool.Decides.{nat_tests}
use Rattle.std.proofs.lemmas.Option.{slice_get_within, same_Some}
use Rattle.std.specs.List.{cons_option, list_any}
use Rattle.std.proofs.Math.Bool.{and-false, or-true}
use Rattle.pl_lemmas.proofs.Truth.{and_left, and_right, or_first}
use Rattle.pl_lemmas.proofs.Numbers.{equal_numbers, range_passes, numbered_there}
use Rattle.pl_lemmas.specs.Words.{has_number, is_row, numbered, only_if, some_passes}
use Rattle.pl_lemmas.proofs.Lists.{numbered_passes}
use Rattle.pl_lemmas.proofs.Options.{only_some}
use Rattle.pl_state.specs.declared.entry.Entry.{Entry}
use Rattle.pl_state.specs.declared.goal.Goal.{Goal}
use Rattle.pl_events.specs.Closing.{has_host_end, is_host_end}
use Rattle.pl_events.specs.declared.event.Event.{Event}
use Rattle.pl_events.specs.declared.event.What.{What}
use Rattle.pl_events.specs.declared.event.What.TheVariants.{Told, Begun, Answered, Dropped}
use Rattle.pl_events.specs.declared.operation.Op.{Op}
use Rattle.pl_events.specs.declared.operation.Op.TheVariants as op
use Rattle.pl_events.specs.declared.operation.Subject.TheVariants as subject
use Rattle.pl_events.specs.declared.reply.Reply.{Reply}
use Rattle.pl_decide.specs.Limited.{is_create_first, is_delete_first}
use Rattle.pl_model.specs.declared.decided.Decided.{Decided}
use Rattle.pl_model.specs.declared.errand.Errand.{Errand}
use Rattle.pl_model.specs.declared.fixed.Fixed.{Fixed}
use Rattle.pl_model.specs.declared.work.Work.TheVariants.{Drop as to_drop, Send as to_send}
use Rattle.pl_model.specs.Run.{has_host, is_refresh, rows_of}
use Rattle.pl_model.specs.Tickets.{errand_at, same_op, was_begun}
use Rattle.pl_model.specs.Recording.{is_removed, removed_by, removed_by_reply, removed_of, row_of_delete}
use Rattle.pl_model.specs.Claims.{chain_of_goal, claimer_of, is_chained, is_claimed}
use Rattle.pl_model.specs.Due.{is_delete_ready, is_due, is_due_on, is_lane_of, is_ready_on, is_removable, is_wanted_op, passes_limit}
use Rattle.pl_model.specs.History.{goals_after, known_of}
use Rattle.pl_model.specs.Known.{Known, all_recorded, decided_goal, goal_at, has_problem, host_ended, is_over, is_recorded}
use Rattle.pl_model.specs.Legal.{IsOrderly, MayHappen}
use Rattle.pl_model.specs.Rows.{goes_now, is_deleted_first, is_doomed, is_left, is_marked, is_replaced, is_sent, is_taken_out, is_taken_over, is_target, row_at, stands_beside, takes_along, was_removed}
use Rattle.pl_model_stays.proofs.Goals.Claiming.{claims-allowed, numbered_behind, passing_number, was-made, where_found}
use Rattle.pl_model_stays.proofs.Lists.Growing.{Grown, decisions-stay, goals-stay, numbered_below, run_of}
use Rattle.pl_model_stays.proofs.Operations.Once.{equal_ops, history_of, not_true}
use Rattle.pl_model_stays.proofs.Goals.Recorded.{recorded-held}
use Rattle.pl_model_stays.proofs.Goals.Staying.{errand_sent, recorded-stays, sent_begun}
use Rattle.pl_model_stays.proofs.Work.Listing.{removable-parts, dropped-removable}
use Rattle.pl_model_laws.proofs.Rows.Along.{along-told}
use Rattle.pl_model_laws.proofs.Rows.Leaving.{claim-gone, claimed-once, claimer_is, claimer_parts, known-apart, left_made}

-- ---- what stays until a later history

-- what a history tells is still so in what a later one tells
pub record Later (run : Fixed) (past : List Event) (known : Known) : Type 0 where
  pub goals : (n : ℕ) (goal : Goal) → goal_at (known_of run past) n ≡ Some goal → goal_at known n ≡ Some goal
  pub decisions : (n : ℕ) (one : Decided) → decided_goal (known_of run past) n ≡ Some one → decided_goal known n ≡ Some one
  pub recordings : (n : ℕ) → is_recorded (known_of run past) n ≡ true → is_recorded known n ≡ true
  pub closed : host_ended (known_of run past) ≡ true → host_ended known ≡ true
  pub ended : host_ended (known_of run past) ≡ true → known.goals ≡ (known_of run past).goals

pub later-now : (run : Fixed) (history : List Event) → Later run history (known_of run history)
later-now run history = record {
  goals = λ n goal h. h;
  decisions = λ n one h. h;
  recordings = λ n h. h;
  closed = λ h. h;
  ended = λ h. refl;
}

-- where the host has ended no goal comes
none_told : (known : Known) (seat : ℕ) (what : What) → MayHappen known seat what → host_ended known ≡ true
    → goals_after known what ≡ known.goals
none_told known seat (Told request) may h = absurd (let e : true ≡ false = sym h ∙ may.host_open in cc)
none_told known seat _ may h = refl

ended_goals : (run : Fixed) (event : Event) (past : List Event)
    → MayHappen (known_of run past) event.seat event.what → host_ended (known_of run past) ≡ true
    → (known_of run (event ∷ past)).goals ≡ (known_of run past).goals
unfolding known_of
ended_goals run event past may h = none_told (known_of run past) event.seat event.what may h

ended_as : (run : Fixed) (history : List Event) → host_ended (known_of run history) ≡ (not (has_host run.mode) || has_host_end history)
ended_as run history =
    ap (λ (fixed : Fixed). not (has_host fixed.mode) || has_host_end (known_of run history).history) (run_of run history)
    ∙ ap (λ (events : List Event). not (has_host run.mode) || has_host_end events) (history_of run history)

-- the host's end stays
ended_stays : (run : Fixed) (event : Event) (past : List Event) → host_ended (known_of run past) ≡ true → host_ended (known_of run (event ∷ past)) ≡ true
ended_stays run event past h =
    ended_as run (event ∷ past) ∙ by (not (has_host run.mode)) (is_host_end event.what) (sym (ended_as run past) ∙ h)
  where
    by : (hostless newest : Bool) → (hostless || has_host_end past) ≡ true → (hostless || (newest || has_host_end past)) ≡ true
    by true newest h = refl
    by false newest h = ap (λ (b : Bool). newest || b) h ∙ or-true newest

pub later-before : (run : Fixed) (event : Event) (past : List Event) (known : Known)
    → MayHappen (known_of run past) event.seat event.what → Later run (event ∷ past) known → Later run past known
later-before run event past known may later = record {
  goals = λ n goal h. later.goals n goal (goals-stay run event past n goal h);
  decisions = λ n one h. later.decisions n one (decisions-stay run event past n one h);
  recordings = λ n h. later.recordings n (recorded-stays run event past n h);
  closed = λ h. later.closed (ended_stays run event past h);
  ended = λ h. later.ended (ended_stays run event past h) ∙ ended_goals run event past may h;
}

-- what is later than a history at which the host has ended is later than those before it
pub later-through : (run : Fixed) (middle past : List Event) (known : Known) → host_ended (known_of run middle) ≡ true
    → Later run past (known_of run middle) → Later run middle known → Later run past known
later-through run middle past known ended first second = record {
  goals = λ n goal h. second.goals n goal (first.goals n goal h);
  decisions = λ n one h. second.decisions n one (first.decisions n one h);
  recordings = λ n h. second.recordings n (first.recordings n h);
  closed = λ h. second.closed (first.closed h);
  ended = λ h. second.ended ended ∙ first.ended h;
}

-- ---- tests

-- what stands behind one more stands behind
pub grown_behind : {X : Type 0} (x : X) (xs ys : List X) → Grown (x ∷ xs) ys → Grown xs ys
grown_behind x xs ys grown = (grown.0 ++ x ∷ [], grown.1 ∙ sym (append_assoc grown.0 (x ∷ []) xs))

-- the deletion of a row is the only one that takes it out
delete_is : (about : Op) (row : ℕ) → row_of_delete about ≡ Some row → about ≡ op.Delete (subject.Row row)
delete_is (op.Delete (subject.Row own)) row h = ap (λ (n : ℕ). op.Delete (subject.Row n)) (same_Some own row h)
delete_is _ row h = absurd (let e : None ≡ Some row = h in cc)

-- an answer takes out the row of its errand
answered_removal : (past : List Event) (ticket : ℕ) (reply : Reply) (row : ℕ) → removed_by past (Answered ticket reply) ≡ Some row
    → (errand : Errand) × (errand_at past ticket ≡ Some errand) × (row_of_delete errand.op ≡ Some row)
answered_removal past ticket reply row h = by (errand_at past ticket) refl h
  where
    by : (o : Option Errand) → errand_at past ticket ≡ o
        → option_and_then removed_by_reply (option_map (λ (about : Op). record { op = about; reply = reply })
        (option_map (λ (errand : Errand). errand.op) o)) ≡ Some row
        → (errand : Errand) × (errand_at past ticket ≡ Some errand) × (row_of_delete errand.op ≡ Some row)
    by None is h = absurd (let e : None ≡ Some row = h in cc)
    by (Some errand) is h = (errand, is, only_some (is_removed reply) (row_of_delete errand.op) row h)

-- ---- what was deleted or dropped

-- and so is a deletion
pub deleted-removable : (known : Known) (row lane : ℕ) → is_due_on known (op.Delete (subject.Row row)) lane ≡ true → is_removable known row ≡ true
deleted-removable known row lane h =
    let deletes : Op = op.Delete (subject.Row row) in
    let ready : is_ready_on known deletes lane ≡ true = and_left (is_ready_on known deletes lane) (not (passes_limit known (to_send deletes))) h in
    let wanted : is_wanted_op known deletes ≡ true =
    and_right (not (has_problem known)) _ (and_left _ (is_lane_of known deletes lane) ready) in
    let asked : is_delete_ready known row ≡ true = and_right (not (was_begun known.history deletes)) _ wanted in
    and_left (is_removable known row) (is_sent known row) asked

-- a history before this one at which the row could be deleted or dropped; what is later than this one is later than it
pub record WasRemovable (run : Fixed) (history : List Event) (row : ℕ) : Type 0 where
  pub past : List Event
  pub later : (known : Known) → Later run history known → Later run past known
  pub orderly : IsOrderly run past
  pub removable : is_removable (known_of run past) row ≡ true

module _ (run : Fixed) (row : ℕ) where
  abbrev deletes : Op
  deletes = op.Delete (subject.Row row)

  abbrev WasSo : List Event → Type 0
  WasSo history = WasRemovable run history row

  module _ (event : Event) (past : List Event) (orderly : IsOrderly run (event ∷ past)) where
    -- what could go before the last event
    so_now : is_removable (known_of run past) row ≡ true → WasSo (event ∷ past)
    so_now h = record {
      past = past;
      later = λ known later. later-before run event past known orderly.1 later;
      orderly = orderly.0;
      removable = h;
    }

    so_before : WasSo past → WasSo (event ∷ past)
    so_before was = record {
      past = was.past;
      later = λ known later. was.later known (later-before run event past known orderly.1 later);
      orderly = was.orderly;
      removable = was.removable;
    }

  -- its deletion was due when it was begun
  begun_step : (past : List Event) → (seat : ℕ) (what : What) → MayHappen (known_of run past) seat what
      → was_begun (record { seat = seat; what = what } ∷ past) deletes ≡ true
      → (is_removable (known_of run past) row ≡ true) ⊎ (was_begun past deletes ≡ true)
  begun_step past seat (Begun ticket lane about) may begun = by (same_op about deletes) refl begun
    where
      by : (b : Bool) → same_op about deletes ≡ b → (b || was_begun past deletes) ≡ true
          → (is_removable (known_of run past) row ≡ true) ⊎ (was_begun past deletes ≡ true)
      by true is h = inl (deleted-removable (known_of run past) row lane
          (subst (λ (it : Op). is_due_on (known_of run past) it lane ≡ true) (equal_ops about deletes is) may.due))
      by false is h = inr h
  begun_step past seat _ may begun = inr begun

  pub begun-removable : (history : List Event) → IsOrderly run history → was_begun history deletes ≡ true → WasSo history
  begun-removable [] orderly begun = absurd (let e : false ≡ true = begun in cc)
  begun-removable (event ∷ past) orderly begun =
      by (begun_step past event.seat event.what orderly.1 begun) (begun-removable past orderly.0)
    where
      by : (is_removable (known_of run past) row ≡ true) ⊎ (was_begun past deletes ≡ true)
          → (was_begun past deletes ≡ true → WasSo past) → WasSo (event ∷ past)
      by (inl can) rest = so_now event past orderly can
      by (inr old) rest = so_before event past orderly (rest old)

  -- what an event deletes or drops could go
  removed_step : (past : List Event) (seat : ℕ) (what : What) → MayHappen (known_of run past) seat what
      → removed_by past what ≡ Some row → (is_removable (known_of run past) row ≡ true) ⊎ (was_begun past deletes ≡ true)
  removed_step past seat (Dropped own) may h =
      inl (dropped-removable (known_of run past) row
      (subst (λ (n : ℕ). is_due (known_of run past) (to_drop n) ≡ true) (same_Some own row h) may))
  removed_step past seat (Answered ticket reply) may h =
      let found = answered_removal past ticket reply row h in
      inr (subst (λ (about : Op). was_begun past about ≡ true) (delete_is found.0.op row found.2)
      (sent_begun past ticket found.0.op (errand_sent past ticket found.0 found.1)))
  removed_step past seat _ may h = absurd (let e : None ≡ Some row = h in cc)

  -- what was deleted or dropped could go
  pub removed-removable : (history : List Event) → IsOrderly run history → has_number (removed_of history) row ≡ true → WasSo history
  removed-removable [] orderly h = absurd (let e : false ≡ true = h in cc)
  removed-removable (event ∷ past) orderly h =
      by (removed_by past event.what) refl h (removed-removable past orderly.0)
    where
      here : (is_removable (known_of run past) row ≡ true) ⊎ (was_begun past deletes ≡ true) → WasSo (event ∷ past)
      here (inl can) = so_now event past orderly can
      here (inr begun) = so_before event past orderly (begun-removable past orderly.0 begun)

      at : (own : ℕ) → removed_by past event.what ≡ Some own → (b : Bool) → (own == row) ≡ b
          → (b || has_number (removed_of past) row) ≡ true → (has_number (removed_of past) row ≡ true → WasSo past) → WasSo (event ∷ past)
      at own is true same h rest =
          here (removed_step past event.seat event.what orderly.1 (is ∙ ap (λ (n : ℕ). Some n) (equal_numbers own row same)))
      at own is false same h rest = so_before event past orderly (rest h)

      by : (o : Option ℕ) → removed_by past event.what ≡ o → has_number (cons_option o (removed_of past)) row ≡ true
          → (has_number (removed_of past) row ≡ true → WasSo past) → WasSo (event ∷ past)
      by None is h rest = so_before event past orderly (rest h)
      by (Some own) is h rest = at own is (own == row) refl h rest

-- ---- the row of a claim

module _ (run : Fixed) (history : List Event) (number row : ℕ) (one : Decided)
    (decided : decided_goal (known_of run history) number ≡ Some one) (claims : is_row one.claim row ≡ true) where
  abbrev known : Known
  known = known_of run history

  -- what is decided of the goal at a history before
  only_one : (past : List Event) → Later run past known → (other : Decided) → decided_goal (known_of run past) number ≡ Some other → other ≡ one
  only_one past later other h = same_Some other one (sym (later.decisions number other h) ∙ decided)

  -- the goal alone claims the row
  same_goal : (past : List Event) → Later run past known → (n : ℕ) (other : Decided) → decided_goal (known_of run past) n ≡ Some other
      → is_row other.claim row ≡ true → n ≡ number
  same_goal past later n other h too = claimed-once run history n number other one row (later.decisions n other h) decided too claims

  only_claimer : (past : List Event) → Later run past known → (n : ℕ) (other : Decided) → decided_goal (known_of run past) n ≡ Some other
      → is_row other.claim row ≡ true → other ≡ one
  only_claimer past later n other h too =
      only_one past later other (subst (λ (k : ℕ). decided_goal (known_of run past) k ≡ Some other) (same_goal past later n other h too) h)

  -- where all is over the goal is recorded
  pub over_recorded : (past : List Event) → Later run past known → is_over (known_of run past) ≡ true → is_recorded (known_of run past) number ≡ true
  over_recorded past later h =
      let made = was-made run history number one decided in
      let ended : host_ended (known_of run past) ≡ true = and_left _ (all_recorded (known_of run past)) h in
      let below : number < length known.goals = numbered_below known.goals number made.goal made.stands in
      let inside : number < length (known_of run past).goals =
      subst (λ (goals : List Goal). number < length goals) (later.ended ended) below in
      range_passes (is_recorded (known_of run past)) 0 (length (known_of run past).goals) number (omega arith) (omega arith)
      (and_right (host_ended (known_of run past)) _ h)

  -- a goal that takes rows along was decided after the claim
  chained_after : (past : List Event) → Later run past known → (n : ℕ) (other : Decided) → decided_goal (known_of run past) n ≡ Some other
      → has_number (chain_of_goal run other) row ≡ true → (number ≤ n)
  chained_after past later n other h chained = by (nat_lt n number) refl
    where
      by : (b : Bool) → nat_lt n number ≡ b → number ≤ n
      by false is = grind (arith, nat_tests)
      by true is =
          let made = was-made run history number one decided in
          let allowed = claims-allowed run history number one row made claims in
          let count : length made.before ≡ number = made.count in
          let below : n < number = grind (arith, nat_tests) in
          let older : Grown made.before known.decided = grown_behind one made.before known.decided made.behind in
          let there : numbered made.before n ≡ Some other =
          numbered_behind made.before known.decided n other older (later.decisions n other h) (omega arith) in
          let some : is_chained run made.before row ≡ true =
          numbered_passes (λ (it : Decided). has_number (chain_of_goal run it) row) made.before n other there chained in
          absurd (let e : true ≡ false = sym some ∙ allowed.unchained in cc)

  -- where a goal is decided, those before it are
  decided_then : (past : List Event) → Later run past known → (n : ℕ) → number ≤ n → (other : Decided)
      → decided_goal (known_of run past) n ≡ Some other → decided_goal (known_of run past) number ≡ Some one
  decided_then past later n after other at =
      let below : n < length (known_of run past).decided = numbered_below (known_of run past).decided n other at in
      let own = numbered_there (known_of run past).decided number (omega arith) in
      own.1 ∙ ap (λ (it : Decided). Some it) (only_one past later own.0 own.1)

  -- where the row was to go the claim was decided already
  pub claimed-then : (past : List Event) → Later run past known → IsOrderly run past → is_doomed (known_of run past) row ≡ true
      → decided_goal (known_of run past) number ≡ Some one
  claimed-then past later orderly h =
      by (is_over (known_of run past)) refl
      (and_right (is_left (known_of run past) row && not (is_refresh (known_of run past).run.mode) && is_target (known_of run past) row) _ h)
    where
      taken : (n : ℕ) (other : Decided) → decided_goal (known_of run past) n ≡ Some other → (b : Bool) → is_row other.claim row ≡ b
          → (b || (has_number (chain_of_goal (known_of run past).run other) row && goes_now (known_of run past) row)) ≡ true
          → decided_goal (known_of run past) number ≡ Some one
      taken n other at true is takes =
          let same : number ≡ n = sym (same_goal past later n other at is) in
          decided_then past later n (omega arith) other at
      taken n other at false is takes =
          decided_then past later n
          (chained_after past later n other at
          (subst (λ (fixed : Fixed). has_number (chain_of_goal fixed other) row ≡ true) (run_of run past)
          (and_left (has_number (chain_of_goal (known_of run past).run other) row) _ takes))) other at

      by : (b : Bool) → is_over (known_of run past) ≡ b
          → (b || list_any (takes_along (known_of run past) row) (known_of run past).decided) ≡ true
          → decided_goal (known_of run past) number ≡ Some one
      by true is h =
          let there = recorded-held run past number orderly (over_recorded past later is) in
          there.2.decided ∙ ap (λ (it : Decided). Some it) (only_one past later there.1 there.2.decided)
      by false is h =
          let found = passing_number (takes_along (known_of run past) row) (known_of run past).decided h in
          taken found.0 found.1 found.2 (is_row found.1.claim row) refl (and_right (is_delete_first found.1.decision) _ found.3)

  -- ---- the claim where it is not replaced

  -- the row is not replaced by a goal that does not put a new thing beside it
  never_replaced : is_create_first one.decision ≡ false → (past : List Event) → Later run past known → is_replaced (known_of run past) row ≡ false
  never_replaced creates_none past later = by (claimer_of (known_of run past).decided row) refl
    where
      beside : (n : ℕ) → claimer_of (known_of run past).decided row ≡ Some n → stands_beside (known_of run past) n ≡ false
      beside n is =
          let found = where_found (λ (it : Decided). is_row it.claim row) (known_of run past).decided n is in
          ap (λ (o : Option Decided). some_passes (λ (it : Decided). is_create_first it.decision) o) found.1
          ∙ ap (λ (it : Decided). is_create_first it.decision) (only_claimer past later n found.0 found.1 found.2) ∙ creates_none

      at : (n : ℕ) → claimer_of (known_of run past).decided row ≡ Some n → (b : Bool)
          → some_passes (stands_beside (known_of run past)) (only_if b (Some n)) ≡ false
      at n is true = beside n is
      at n is false = refl

      by : (o : Option ℕ) → claimer_of (known_of run past).decided row ≡ o
          → some_passes (stands_beside (known_of run past))
          (option_and_then (λ (n : ℕ). only_if (is_recorded (known_of run past) n) (Some n)) o) ≡ false
      by None is = refl
      by (Some n) is = at n is (is_recorded (known_of run past) n)

  -- nor by one that is not recorded
  unrecorded_kept : is_recorded known number ≡ false → (past : List Event) → Later run past known → is_replaced (known_of run past) row ≡ false
  unrecorded_kept missing past later = by (is_replaced (known_of run past) row) refl
    where
      by : (b : Bool) → is_replaced (known_of run past) row ≡ b → b ≡ false
      by false is = refl
      by true is =
          let parts = claimer_parts (known_of run past) row (stands_beside (known_of run past)) is in
          let found = where_found (λ (it : Decided). is_row it.claim row) (known_of run past).decided parts.0 parts.1 in
          let same : parts.0 ≡ number = same_goal past later parts.0 found.0 found.1 found.2 in
          let recorded : is_recorded known number ≡ true =
          subst (λ (n : ℕ). is_recorded known n ≡ true) same (later.recordings parts.0 parts.2) in
          absurd (let e : true ≡ false = sym recorded ∙ missing in cc)

  module _ (unreplaced : (past : List Event) → Later run past known → is_replaced (known_of run past) row ≡ false) where
    -- it is not marked
    unmarked_so : (past : List Event) → Later run past known → is_marked (known_of run past) row ≡ false
    unmarked_so past later =
        let allowed = claims-allowed run history number one row (was-made run history number one decided) claims in
        let base : some_passes (λ (entry : Entry). entry.doomed) (row_at (known_of run past) row) ≡ false =
        ap (λ (fixed : Fixed). some_passes (λ (entry : Entry). entry.doomed) (slice_get (rows_of fixed) row)) (run_of run past)
        ∙ ap (λ (o : Option Entry). some_passes (λ (entry : Entry). entry.doomed) o) allowed.at ∙ allowed.stays in
        ap (λ (b : Bool). b || is_replaced (known_of run past) row) base ∙ unreplaced past later

    -- a recorded goal took it over
    gone_so : (past : List Event) → Later run past known → IsOrderly run past
        → is_recorded (known_of run past) number ≡ true → is_left (known_of run past) row ≡ true → ⊥
    gone_so past later orderly recorded left =
        let there = recorded-held run past number orderly recorded in
        let own : decided_goal (known_of run past) number ≡ Some one =
        there.2.decided ∙ ap (λ (it : Decided). Some it) (only_one past later there.1 there.2.decided) in
        let e : true ≡ false = sym (claim-gone run past number one row own claims recorded left) ∙ unmarked_so past later in
        cc

    -- ---- where its goal is not deleted first

    module _ (deletes_none : is_delete_first one.decision ≡ false) where
      -- no goal takes it along
      none_takes : (past : List Event) → Later run past known → list_any (takes_along (known_of run past) row) (known_of run past).decided ≡ true → ⊥
      none_takes past later h =
          let found = passing_number (takes_along (known_of run past) row) (known_of run past).decided h in
          by found.0 found.1 found.2 (is_row found.1.claim row) refl (and_left (is_delete_first found.1.decision) _ found.3)
          (and_right (is_delete_first found.1.decision) _ found.3)
        where
          unclaimed : (n : ℕ) (other : Decided) → decided_goal (known_of run past) n ≡ Some other
              → has_number (chain_of_goal run other) row ≡ true → is_claimed (known_of run past).decided row ≡ false → ⊥
          unclaimed n other at chained none =
              let after : number ≤ n = chained_after past later n other at chained in
              let below : n < length (known_of run past).decided = numbered_below (known_of run past).decided n other at in
              let own = numbered_there (known_of run past).decided number (omega arith) in
              let same : own.0 ≡ one = only_one past later own.0 own.1 in
              let some : is_claimed (known_of run past).decided row ≡ true =
              numbered_passes (λ (it : Decided). is_row it.claim row) (known_of run past).decided number own.0 own.1
              (ap (λ (it : Decided). is_row it.claim row) same ∙ claims) in
              let e : true ≡ false = sym some ∙ none in
              cc

          by : (n : ℕ) (other : Decided) → decided_goal (known_of run past) n ≡ Some other → (b : Bool) → is_row other.claim row ≡ b
              → is_delete_first other.decision ≡ true
              → (b || (has_number (chain_of_goal (known_of run past).run other) row && goes_now (known_of run past) row)) ≡ true → ⊥
          by n other at true is first takes =
              let same : other ≡ one = only_claimer past later n other at is in
              let e : true ≡ false = sym first ∙ ap (λ (it : Decided). is_delete_first it.decision) same ∙ deletes_none in
              cc
          by n other at false is first takes =
              let chained : has_number (chain_of_goal run other) row ≡ true =
              subst (λ (fixed : Fixed). has_number (chain_of_goal fixed other) row ≡ true) (run_of run past)
              (and_left (has_number (chain_of_goal (known_of run past).run other) row) _ takes) in
              let free : not (is_claimed (known_of run past).decided row) ≡ true =
              or_first (not (is_claimed (known_of run past).decided row)) (is_marked (known_of run past) row)
              (along-told (known_of run past) row (and_right (has_number (chain_of_goal (known_of run past).run other) row) _ takes))
              (unmarked_so past later) in
              unclaimed n other at chained (not_true (is_claimed (known_of run past).decided row) free)

      -- so it is never to go
      not_doomed : (past : List Event) → Later run past known → IsOrderly run past → is_doomed (known_of run past) row ≡ true → ⊥
      not_doomed past later orderly h =
          let before : (is_left (known_of run past) row && not (is_refresh (known_of run past).run.mode) && is_target (known_of run past) row) ≡ true =
          and_left _ (is_over (known_of run past) || list_any (takes_along (known_of run past) row) (known_of run past).decided) h in
          let left : is_left (known_of run past) row ≡ true =
          and_left (is_left (known_of run past) row) _ (and_left _ (is_target (known_of run past) row) before) in
          by left (is_over (known_of run past)) refl
          (and_right (is_left (known_of run past) row && not (is_refresh (known_of run past).run.mode) && is_target (known_of run past) row) _ h)
        where
          by : is_left (known_of run past) row ≡ true → (b : Bool) → is_over (known_of run past) ≡ b
              → (b || list_any (takes_along (known_of run past) row) (known_of run past).decided) ≡ true → ⊥
          by left true is h = gone_so past later orderly (over_recorded past later is) left
          by left false is h = none_takes past later h

  -- a row that a goal claims and does not replace is not marked
  pub never-marked : is_create_first one.decision ≡ false → (past : List Event) → Later run past known → is_marked (known_of run past) row ≡ false
  never-marked creates_none past later = unmarked_so (never_replaced creates_none) past later

  -- and it is gone once the goal is recorded
  pub recorded-gone : is_create_first one.decision ≡ false → (past : List Event) → Later run past known → IsOrderly run past
      → is_recorded (known_of run past) number ≡ true → is_left (known_of run past) row ≡ true → ⊥
  recorded-gone creates_none past later orderly recorded left = gone_so (never_replaced creates_none) past later orderly recorded left

  -- it was not deleted or dropped, if the goal is not one that is deleted first
  kept_there : ((past : List Event) → Later run past known → is_replaced (known_of run past) row ≡ false) → is_delete_first one.decision ≡ false
      → IsOrderly run history → has_number (removed_of history) row ≡ false
  kept_there unreplaced deletes_none orderly = by (has_number (removed_of history) row) refl
    where
      by : (b : Bool) → has_number (removed_of history) row ≡ b → b ≡ false
      by false is = refl
      by true is =
          let was = removed-removable run row history orderly is in
          absurd (not_doomed unreplaced deletes_none was.past (was.later known (later-now run history)) was.orderly
          (removable-parts (known_of run was.past) row was.removable).doomed)

  -- ---- the claim of a goal that is not recorded

  module _ (orderly : IsOrderly run history) (missing : is_recorded known number ≡ false) where
    -- it is not marked
    pub unrecorded-unmarked : is_marked known row ≡ false
    unrecorded-unmarked = unmarked_so (unrecorded_kept missing) history (later-now run history)

    -- and it is left: it was not taken out, or it is held for the goal
    pub unrecorded-left : is_left known row ≡ true
    unrecorded-left =
        left_made (nat_lt row (length (rows_of known.run))) (is_taken_out known row) (is_taken_over known row)
        (ap (λ (fixed : Fixed). nat_lt row (length (rows_of fixed))) (run_of run history) ∙ low)
        (by (is_delete_first one.decision) refl)
        (ap (λ (o : Option ℕ). some_passes (λ goal. not (stands_beside known goal))
        (option_and_then (λ (goal : ℕ). only_if (is_recorded known goal) (Some goal)) o)) claimer
        ∙ ap (λ (b : Bool). some_passes (λ goal. not (stands_beside known goal)) (only_if b (Some number))) missing)
      where
        low : nat_lt row (length (rows_of run)) ≡ true
        low =
            let allowed = claims-allowed run history number one row (was-made run history number one decided) claims in
            let inside : row < length (rows_of run) = slice_get_within (rows_of run) row allowed.entry allowed.at in
            grind (arith, nat_tests)

        claimer : claimer_of known.decided row ≡ Some number
        claimer = claimer_is run known.decided number row one (known-apart run history) decided claims

        by : (b : Bool) → is_delete_first one.decision ≡ b → is_taken_out known row ≡ false
        by true first =
            let held : is_deleted_first known row ≡ true =
            numbered_passes (λ (it : Decided). is_delete_first it.decision && is_row it.claim row) known.decided number one decided (rw first claims) in
            ap (λ (b : Bool). was_removed known row && not b) held ∙ and-false (was_removed known row)
        by false deletes_none =
            ap (λ (events : List Event). has_number (removed_of events) row && not (is_deleted_first known row)) (history_of run history)
            ∙ ap (λ (b : Bool). b && not (is_deleted_first known row)) (kept_there (unrecorded_kept missing) deletes_none orderly)
