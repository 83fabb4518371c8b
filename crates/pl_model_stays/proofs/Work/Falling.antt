-- Less work is left with each piece of work, and no more with anything but a told request.
use Rattle.std.proofs.Common.{◌≡◌, ℕ, ◌+◌, ◌-◌, ◌<◌, ◌≤◌, Bool, true, false, not, ◌&&◌, ◌||◌, cond, List, ◌∷◌, filter, length, Option, Some, None, is_none, refl, sym, ◌∙◌, ap, subst, inl, inr, ◌⊎◌, arith}
use Rattle.std.specs.List.{cons_option, list_any, range_with_len, sum_by}
use Rattle.std.proofs.lemmas.Option.{slice_get_within}
use Rattle.pl_lemmas.proofs.Truth.{and_left, and_right}
use Rattle.pl_lemmas.proofs.Numbers.{same_number, range_has, number_more}
use Rattle.pl_lemmas.specs.Words.{has_number, some_passes}
use Rattle.pl_lemmas.proofs.Options.{passing}
use Rattle.pl_state.specs.declared.pending.Pending.{Pending}
use Rattle.pl_events.specs.declared.event.Event.{Event}
use Rattle.pl_events.specs.declared.event.What.{What}
use Rattle.pl_events.specs.declared.event.What.TheVariants.{Told, Begun, Kept, Dropped, Cleared, Posted}
use Rattle.pl_events.specs.declared.operation.Op.{Op}
use Rattle.pl_events.specs.declared.operation.Op.TheVariants as op
use Rattle.pl_events.specs.declared.operation.Source.{Source}
use Rattle.pl_events.specs.declared.operation.Subject.TheVariants as subject
use Rattle.pl_decide.specs.Limited.{is_refused}
use Rattle.pl_model.specs.declared.errand.Errand.{Errand}
use Rattle.pl_model.specs.declared.fixed.Fixed.{Fixed}
use Rattle.pl_model.specs.declared.heard.Heard.{Heard}
use Rattle.pl_model.specs.declared.work.Work.TheVariants.{Clear as to_clear, Drop as to_drop, Keep as to_keep, Send as to_send}
use Rattle.pl_model.specs.Run.{is_preview, is_refresh, rows_of}
use Rattle.pl_model.specs.Due.{goal_numbers, has_open, is_asked, is_checked_lane, is_clear_ready, is_due, is_keep_ready, is_lane_of, is_next_lane, is_placed, is_post_due, is_ready, is_ready_on, is_settled, is_settled_request, is_wanted_op, keeps_goal, op_of_goal, passes_limit, pending_numbers, provider_stands, references_recorded, request_numbers, urn_is_free, wants_lane}
use Rattle.pl_model.specs.History.{known_after, known_of}
use Rattle.pl_model.specs.Known.{Known, asked_at, has_problem, is_recorded}
use Rattle.pl_model.specs.Left.{all_operations, left_of, sources_of, times_begun}
use Rattle.pl_model.specs.Legal.{IsOrderly, MayHappen}
use Rattle.pl_model.specs.Recording.{cleared_by, cleared_of, posted_in, posted_of, recorded_by, recorded_of, removed_by, removed_of}
use Rattle.pl_model.specs.Rows.{pending_at, row_numbers}
use Rattle.pl_model.specs.State.{is_cleared, is_found}
use Rattle.pl_model.specs.Tickets.{begun_of, errand_of, lane_count, lanes_from, reply_to, same_op, same_source, was_begun}
use Rattle.pl_model_stays.specs.Falling.{is_told, is_work}
use Rattle.pl_model_stays.specs.Laws.{is_configure}
use Rattle.pl_model_stays.proofs.Operations.Configuring.{begun_more}
use Rattle.pl_model_stays.proofs.Lists.Counting.{fewer, no_more, sum_fewer, sum_no_more}
use Rattle.pl_model_stays.proofs.Lists.Growing.{run_of}
use Rattle.pl_model_stays.proofs.Operations.LaneCounts.{checked_new, configure_cases, lanes-fit, wants_fewer}
use Rattle.pl_model_stays.proofs.Work.Listing.{asked-listed, decided_low, provider-listed, removable_low, request_listed, removable-parts, dropped-removable}
use Rattle.pl_model_stays.proofs.Operations.Once.{equal_ops, equal_sources, history_of, none_pass, not_true, ready_unbegun}
use Rattle.pl_model_stays.proofs.Goals.Recorded.{found}
use Rattle.pl_model_stays.proofs.Goals.Staying.{any_more, same_op_self}
use Rattle.pl_model_stays.proofs.Operations.Lanes.{configure_is}

-- ---- what a longer history has

-- what was done once was done ever after
record Grows (earlier later : List Event) : Type 0 where
  begun : (about : Op) → was_begun earlier about ≡ true → was_begun later about ≡ true
  times : (about : Op) → times_begun earlier about ≤ times_begun later about
  recorded : (n : ℕ) → has_number (recorded_of earlier) n ≡ true → has_number (recorded_of later) n ≡ true
  removed : (n : ℕ) → has_number (removed_of earlier) n ≡ true → has_number (removed_of later) n ≡ true
  cleared : (n : ℕ) → has_number (cleared_of earlier) n ≡ true → has_number (cleared_of later) n ≡ true
  posted : (n : ℕ) → has_number (posted_of earlier) n ≡ true → has_number (posted_of later) n ≡ true

grows : (event : Event) (past : List Event) → Grows past (event ∷ past)
grows event past = record {
  begun = λ about h. begun_more event past about h;
  times = λ about. count about (errand_of event);
  recorded = λ n h. number_more (recorded_by past event.what) (recorded_of past) n h;
  removed = λ n h. number_more (removed_by past event.what) (removed_of past) n h;
  cleared = λ n h. number_more (cleared_by event) (cleared_of past) n h;
  posted = λ n h. number_more (posted_in event.what) (posted_of past) n h;
}
  where
    count : (about : Op) (o : Option Errand)
        → length (filter (λ errand. same_op errand.op about) (begun_of past))
        ≤ length (filter (λ errand. same_op errand.op about) (cons_option o (begun_of past)))
    count about None = omega arith
    count about (Some errand) = by (same_op errand.op about)
      where
        by : (b : Bool) → length (filter (λ one. same_op one.op about) (begun_of past))
            ≤ length (cond b (errand ∷ filter (λ one. same_op one.op about) (begun_of past)) (filter (λ one. same_op one.op about) (begun_of past)))
        by true = omega arith
        by false = omega arith

-- ---- what is left

-- what is left of these operations, lanes, goals, rows, pending operations and requests after a history
abbrev left_in : List Op → List Source → List ℕ → List ℕ → List ℕ → List ℕ → ℕ → List Event → ℕ
left_in ops sources goals rows pending requests parallel history =
    length (filter (λ about. not (was_begun history about)) ops)
    + sum_by (λ wanted. parallel - times_begun history (op.Configure wanted)) sources
    + length (filter (λ number. not (has_number (recorded_of history) number)) goals)
    + length (filter (λ row. not (has_number (removed_of history) row)) rows)
    + length (filter (λ at. not (has_number (cleared_of history) at)) pending)
    + length (filter (λ n. not (has_number (posted_of history) n)) requests)

not_back : (a b : Bool) → (a ≡ true → b ≡ true) → not b ≡ true → not a ≡ true
not_back true b h k = absurd (let e : false ≡ true = ap (λ (c : Bool). not c) (sym (h refl)) ∙ k in cc)
not_back false b h k = refl

-- of what is not done, no more is left where more is done
undone_stays : {X : Type 0} (before after : X → Bool) → ((x : X) → before x ≡ true → after x ≡ true) → (xs : List X)
    → length (filter (λ x. not (after x)) xs) ≤ length (filter (λ x. not (before x)) xs)
undone_stays before after more xs =
    no_more (λ x. not (before x)) (λ x. not (after x)) (λ x h. not_back (before x) (after x) (more x) h) xs

-- and less where one of them is done now
undone_falls : {X : Type 0} (before after : X → Bool) → ((x : X) → before x ≡ true → after x ≡ true) → (xs : List X)
    → list_any (λ x. not (before x) && not (not (after x))) xs ≡ true
    → length (filter (λ x. not (after x)) xs) < length (filter (λ x. not (before x)) xs)
undone_falls before after more xs h =
    fewer (λ x. not (before x)) (λ x. not (after x)) (λ x k. not_back (before x) (after x) (more x) k) xs h

-- what is done now and was not
now_done : (before after : Bool) → before ≡ false → after ≡ true → (not before && not (not after)) ≡ true
now_done false true h k = refl
now_done true b h k = absurd (let e : true ≡ false = h in cc)
now_done false false h k = absurd (let e : false ≡ true = k in cc)

module _ (ops : List Op) (sources : List Source) (goals rows pending requests : List ℕ) (parallel : ℕ) (earlier later : List Event)
    (more : Grows earlier later) where
  abbrev left : List Event → ℕ
  left history = left_in ops sources goals rows pending requests parallel history

  ops_stay : length (filter (λ about. not (was_begun later about)) ops) ≤ length (filter (λ about. not (was_begun earlier about)) ops)
  ops_stay = undone_stays (was_begun earlier) (was_begun later) more.begun ops

  lanes_stay : sum_by (λ wanted. parallel - times_begun later (op.Configure wanted)) sources
      ≤ sum_by (λ wanted. parallel - times_begun earlier (op.Configure wanted)) sources
  lanes_stay =
      sum_no_more (λ wanted. parallel - times_begun earlier (op.Configure wanted)) (λ wanted. parallel - times_begun later (op.Configure wanted))
      (λ wanted. let few = more.times (op.Configure wanted) in omega arith) sources

  goals_stay : length (filter (λ n. not (has_number (recorded_of later) n)) goals) ≤ length (filter (λ n. not (has_number (recorded_of earlier) n)) goals)
  goals_stay = undone_stays (has_number (recorded_of earlier)) (has_number (recorded_of later)) more.recorded goals

  rows_stay : length (filter (λ n. not (has_number (removed_of later) n)) rows) ≤ length (filter (λ n. not (has_number (removed_of earlier) n)) rows)
  rows_stay = undone_stays (has_number (removed_of earlier)) (has_number (removed_of later)) more.removed rows

  pending_stay : length (filter (λ n. not (has_number (cleared_of later) n)) pending) ≤ length (filter (λ n. not (has_number (cleared_of earlier) n)) pending)
  pending_stay = undone_stays (has_number (cleared_of earlier)) (has_number (cleared_of later)) more.cleared pending

  requests_stay : length (filter (λ n. not (has_number (posted_of later) n)) requests) ≤ length (filter (λ n. not (has_number (posted_of earlier) n)) requests)
  requests_stay = undone_stays (has_number (posted_of earlier)) (has_number (posted_of later)) more.posted requests

  -- no more is left
  stays : left later ≤ left earlier
  stays =
      let a = ops_stay in let b = lanes_stay in let c = goals_stay in let d = rows_stay in let e = pending_stay in
      let f = requests_stay in omega arith

  -- less with an operation that was not begun before
  op_falls : (about : Op) → list_any (same_op about) ops ≡ true → was_begun earlier about ≡ false → was_begun later about ≡ true
      → left later < left earlier
  op_falls about listed before after =
      let a = undone_falls (was_begun earlier) (was_begun later) more.begun ops
      (any_more (same_op about) (λ one. not (was_begun earlier one) && not (not (was_begun later one)))
      (λ one same. subst (λ (it : Op). (not (was_begun earlier it) && not (not (was_begun later it))) ≡ true) (equal_ops about one same)
      (now_done (was_begun earlier about) (was_begun later about) before after)) ops listed) in
      let b = lanes_stay in let c = goals_stay in let d = rows_stay in let e = pending_stay in let f = requests_stay in omega arith

  -- less with one more lane of a provider, if it could have one
  lane_falls : (wanted : Source) → list_any (same_source wanted) sources ≡ true
      → times_begun earlier (op.Configure wanted) < times_begun later (op.Configure wanted) → times_begun earlier (op.Configure wanted) < parallel
      → left later < left earlier
  lane_falls wanted listed once room =
      let b = sum_fewer (λ one. parallel - times_begun earlier (op.Configure one)) (λ one. parallel - times_begun later (op.Configure one))
      (same_source wanted) (λ one. let few = more.times (op.Configure one) in omega arith)
      (λ one same. subst (λ (it : Source). parallel - times_begun later (op.Configure it) < parallel - times_begun earlier (op.Configure it))
      (equal_sources wanted one same) (omega arith)) sources listed in
      let a = ops_stay in let c = goals_stay in let d = rows_stay in let e = pending_stay in let f = requests_stay in omega arith

  -- less with a goal that was not recorded before
  goal_falls : list_any (λ n. not (has_number (recorded_of earlier) n) && not (not (has_number (recorded_of later) n))) goals ≡ true
      → left later < left earlier
  goal_falls h =
      let c = undone_falls (has_number (recorded_of earlier)) (has_number (recorded_of later)) more.recorded goals h in
      let a = ops_stay in let b = lanes_stay in let d = rows_stay in let e = pending_stay in let f = requests_stay in omega arith

  -- less with a row that was not dropped before
  row_falls : list_any (λ n. not (has_number (removed_of earlier) n) && not (not (has_number (removed_of later) n))) rows ≡ true
      → left later < left earlier
  row_falls h =
      let d = undone_falls (has_number (removed_of earlier)) (has_number (removed_of later)) more.removed rows h in
      let a = ops_stay in let b = lanes_stay in let c = goals_stay in let e = pending_stay in let f = requests_stay in omega arith

  -- less with a pending operation that was not cleared before
  clear_falls : list_any (λ n. not (has_number (cleared_of earlier) n) && not (not (has_number (cleared_of later) n))) pending ≡ true
      → left later < left earlier
  clear_falls h =
      let e = undone_falls (has_number (cleared_of earlier)) (has_number (cleared_of later)) more.cleared pending h in
      let a = ops_stay in let b = lanes_stay in let c = goals_stay in let d = rows_stay in let f = requests_stay in omega arith

  -- less with a request that was not answered before
  post_falls : list_any (λ n. not (has_number (posted_of earlier) n) && not (not (has_number (posted_of later) n))) requests ≡ true
      → left later < left earlier
  post_falls h =
      let f = undone_falls (has_number (posted_of earlier)) (has_number (posted_of later)) more.posted requests h in
      let a = ops_stay in let b = lanes_stay in let c = goals_stay in let d = rows_stay in let e = pending_stay in omega arith

-- ---- events

stays_step : (seat : ℕ) (what : What) (known : Known) → is_told what ≡ false
    → left_of (known_after (record { seat = seat; what = what }) known) ≤ left_of known
stays_step seat (Told request) known h = absurd (let e : true ≡ false = h in cc)
stays_step seat what known h = stays (all_operations known) (sources_of known) (goal_numbers known) (row_numbers known) (pending_numbers known)
    (request_numbers known) known.run.parallel known.history (record { seat = seat; what = what } ∷ known.history)
    (grows (record { seat = seat; what = what }) known.history)

pub left-stays : (run : Fixed) (event : Event) (past : List Event) → is_told event.what ≡ false
    → left_of (known_of run (event ∷ past)) ≤ left_of (known_of run past)
unfolding known_of
left-stays run event past h = stays_step event.seat event.what (known_of run past) h

-- what is ready on a lane is asked, a configuration aside
ready_asked : (known : Known) (about : Op) (lane : ℕ) → is_configure about ≡ false → is_ready_on known about lane ≡ true
    → is_asked known about ≡ true
ready_asked known about lane other ready = asked about (wanted about other ready)
  where
    asked : (one : Op) → is_wanted_op known one ≡ true → is_asked known one ≡ true
    asked one h = and_right (not (was_begun known.history one)) (is_asked known one) h

    wanted : (one : Op) → is_configure one ≡ false → is_ready_on known one lane ≡ true → is_wanted_op known one ≡ true
    wanted (op.CheckConfig on) other h =
        and_right (not (has_problem known)) (is_wanted_op known (op.CheckConfig on)) (and_left _ (is_next_lane known lane) h)
    wanted (op.Configure provider) other h = absurd (let e : true ≡ false = other in cc)
    wanted (op.Check on) other h =
        and_right (not (has_problem known)) (is_wanted_op known (op.Check on)) (and_left _ (is_lane_of known (op.Check on) lane) h)
    wanted (op.Diff on) other h =
        and_right (not (has_problem known)) (is_wanted_op known (op.Diff on)) (and_left _ (is_lane_of known (op.Diff on) lane) h)
    wanted (op.Create on) other h =
        and_right (not (has_problem known)) (is_wanted_op known (op.Create on)) (and_left _ (is_lane_of known (op.Create on) lane) h)
    wanted (op.Update on) other h =
        and_right (not (has_problem known)) (is_wanted_op known (op.Update on)) (and_left _ (is_lane_of known (op.Update on) lane) h)
    wanted (op.Delete on) other h =
        and_right (not (has_problem known)) (is_wanted_op known (op.Delete on)) (and_left _ (is_lane_of known (op.Delete on) lane) h)
    wanted (op.Read on) other h =
        and_right (not (has_problem known)) (is_wanted_op known (op.Read on)) (and_left _ (is_lane_of known (op.Read on) lane) h)
    wanted (op.Invoke n) other h =
        and_right (not (has_problem known)) (is_wanted_op known (op.Invoke n)) (and_left _ (is_lane_of known (op.Invoke n) lane) h)

-- a provider of which a lane is to be configured has fewer than it may have
lane_room : (known : Known) (provider : Source) (lane : ℕ) → 0 < known.run.parallel
    → times_begun known.history (op.Configure provider) ≤ length (lanes_from known.history provider)
    → is_ready_on known (op.Configure provider) lane ≡ true → times_begun known.history (op.Configure provider) < known.run.parallel
lane_room known provider lane some fits ready = by (configure_cases known provider lane ready)
  where
    by : (is_checked_lane known provider lane ≡ true) ⊎ ((wants_lane known provider ≡ true) × (lane ≡ lane_count known.history))
        → times_begun known.history (op.Configure provider) < known.run.parallel
    by (inl checked) =
        let none : times_begun known.history (op.Configure provider) ≡ 0 =
        none_pass (λ errand. same_op errand.op (op.Configure provider)) (begun_of known.history) (checked_new known provider lane checked) in
        omega arith
    by (inr wants) = let few = wants_fewer known provider wants.0 in omega arith

module _ (known : Known) (seat : ℕ) where
  begun_falls : (ticket lane : ℕ) (about : Op) → is_configure about ≡ false → is_ready_on known about lane ≡ true
      → left_of (known_after (record { seat = seat; what = Begun ticket lane about }) known) < left_of known
  begun_falls ticket lane about other ready =
      op_falls (all_operations known) (sources_of known) (goal_numbers known) (row_numbers known) (pending_numbers known)
      (request_numbers known) known.run.parallel known.history (record { seat = seat; what = Begun ticket lane about } ∷ known.history)
      (grows (record { seat = seat; what = Begun ticket lane about }) known.history) about
      (asked-listed known about (ready_asked known about lane other ready)) (ready_unbegun known about lane other ready)
      (ap (λ (b : Bool). b || was_begun known.history about) (same_op_self about))

  configure_falls : (ticket lane : ℕ) (provider : Source) → list_any (same_source provider) (sources_of known) ≡ true
      → times_begun known.history (op.Configure provider) < known.run.parallel
      → left_of (known_after (record { seat = seat; what = Begun ticket lane (op.Configure provider) }) known) < left_of known
  configure_falls ticket lane provider listed room =
      lane_falls (all_operations known) (sources_of known) (goal_numbers known) (row_numbers known) (pending_numbers known)
      (request_numbers known) known.run.parallel known.history (record { seat = seat; what = Begun ticket lane (op.Configure provider) } ∷ known.history)
      (grows (record { seat = seat; what = Begun ticket lane (op.Configure provider) }) known.history) provider listed
      (by (same_op (op.Configure provider) (op.Configure provider)) (same_op_self (op.Configure provider))) room
    where
      errand : Errand
      errand = record { ticket = ticket; seat = seat; lane = lane; op = op.Configure provider }

      by : (b : Bool) → b ≡ true
          → times_begun known.history (op.Configure provider)
          < length (cond b (errand ∷ filter (λ one. same_op one.op (op.Configure provider)) (begun_of known.history))
          (filter (λ one. same_op one.op (op.Configure provider)) (begun_of known.history)))
      by true h = omega arith
      by false h = absurd (let e : false ≡ true = h in cc)

  -- a number that is done now and was not is one of a range that it is below
  done_now : (before : List ℕ) (count n : ℕ) → n < count → has_number before n ≡ false
      → list_any (λ k. not (has_number before k) && not (not (has_number (n ∷ before) k))) (range_with_len 0 count) ≡ true
  done_now before count n low new =
      range_has (λ k. not (has_number before k) && not (not (has_number (n ∷ before) k))) 0 count n (omega arith) (omega arith)
      (now_done (has_number before n) (has_number (n ∷ before) n) new (ap (λ (b : Bool). b || has_number before n) (same_number n)))

  kept_falls : (number : ℕ) (fresh : Option ℕ) → is_due known (to_keep number) ≡ true
      → left_of (known_after (record { seat = seat; what = Kept number fresh }) known) < left_of known
  kept_falls number fresh due =
      goal_falls (all_operations known) (sources_of known) (goal_numbers known) (row_numbers known) (pending_numbers known)
      (request_numbers known) known.run.parallel known.history (record { seat = seat; what = Kept number fresh } ∷ known.history)
      (grows (record { seat = seat; what = Kept number fresh }) known.history)
      (done_now (recorded_of known.history) (length known.goals) number (decided_low known number (keeps_goal known number) ready) new)
    where
      ready : is_keep_ready known number ≡ true
      ready =
          and_right (not (has_problem known)) (is_keep_ready known number)
          (and_left (is_ready known (to_keep number)) (not (passes_limit known (to_keep number))) due)

      new : is_recorded known number ≡ false
      new =
          let it = found known number (keeps_goal known number) ready in
          not_true (is_recorded known number)
          (and_right (not (is_refused it.1.decision)) (not (is_recorded known number))
          (and_left _ (references_recorded known it.0)
          (and_left _ (is_preview known.run.mode || urn_is_free known it.0 it.1)
          (and_left (is_placed known number it.0 it.1) (is_none (op_of_goal known number it.0 it.1))
          (and_left _ (provider_stands known number it.0) it.4)))))

  dropped_falls : (row : ℕ) → is_due known (to_drop row) ≡ true
      → left_of (known_after (record { seat = seat; what = Dropped row }) known) < left_of known
  dropped_falls row due =
      row_falls (all_operations known) (sources_of known) (goal_numbers known) (row_numbers known) (pending_numbers known)
      (request_numbers known) known.run.parallel known.history (record { seat = seat; what = Dropped row } ∷ known.history)
      (grows (record { seat = seat; what = Dropped row }) known.history)
      (done_now (removed_of known.history) (length (rows_of known.run)) row (removable_low known row (dropped-removable known row due))
      (removable-parts known row (dropped-removable known row due)).unremoved)

  cleared_falls : (at : ℕ) → is_due known (to_clear at) ≡ true
      → left_of (known_after (record { seat = seat; what = Cleared at }) known) < left_of known
  cleared_falls at due =
      clear_falls (all_operations known) (sources_of known) (goal_numbers known) (row_numbers known) (pending_numbers known)
      (request_numbers known) known.run.parallel known.history (record { seat = seat; what = Cleared at } ∷ known.history)
      (grows (record { seat = seat; what = Cleared at }) known.history)
      (done_now (cleared_of known.history) (length known.run.base.pending) at
      (slice_get_within known.run.base.pending at there.0 there.1) new)
    where
      ready : is_clear_ready known at ≡ true
      ready =
          and_right (not (has_problem known)) (is_clear_ready known at)
          (and_left (is_ready known (to_clear at)) (not (passes_limit known (to_clear at))) due)

      there : (pending : Pending) × (pending_at known at ≡ Some pending) × (is_settled known at pending ≡ true)
      there =
          passing (is_settled known at) (pending_at known at)
          (and_right (is_refresh known.run.mode && not (is_cleared known at)) (some_passes (is_settled known at) (pending_at known at)) ready)

      first : (a b : Bool) → not (a || b) ≡ true → a ≡ false
      first true b h = absurd (let e : false ≡ true = h in cc)
      first false b h = refl

      new : has_number (cleared_of known.history) at ≡ false
      new =
          first (has_number (cleared_of known.history) at) (is_found (reply_to known.answers (op.Read (subject.Pending at))))
          (and_right (is_refresh known.run.mode) (not (is_cleared known at))
          (and_left (is_refresh known.run.mode && not (is_cleared known at)) (some_passes (is_settled known at) (pending_at known at)) ready))

  posted_falls : (n : ℕ) → is_post_due known n ≡ true
      → left_of (known_after (record { seat = seat; what = Posted n }) known) < left_of known
  posted_falls n due =
      post_falls (all_operations known) (sources_of known) (goal_numbers known) (row_numbers known) (pending_numbers known)
      (request_numbers known) known.run.parallel known.history (record { seat = seat; what = Posted n } ∷ known.history)
      (grows (record { seat = seat; what = Posted n }) known.history)
      (request_listed known (λ k. not (has_number (posted_of known.history) k) && not (not (has_number (n ∷ posted_of known.history) k))) n there.0 there.1
      (now_done (has_number (posted_of known.history) n) (has_number (n ∷ posted_of known.history) n) new
      (ap (λ (b : Bool). b || has_number (posted_of known.history) n) (same_number n))))
    where
      answered : Heard → Bool
      answered asked = is_settled_request known asked || (has_problem known && not (has_open known))

      there : (asked : Heard) × (asked_at known n ≡ Some asked) × (answered asked ≡ true)
      there =
          passing answered (asked_at known n)
          (and_right (not (has_number (posted_of known.history) n)) (some_passes answered (asked_at known n)) due)

      new : has_number (posted_of known.history) n ≡ false
      new =
          not_true (has_number (posted_of known.history) n)
          (and_left (not (has_number (posted_of known.history) n)) (some_passes answered (asked_at known n)) due)

-- ---- the law

falls_step : (run : Fixed) (past : List Event) (seat : ℕ) (what : What) → 0 < run.parallel
    → IsOrderly run past → MayHappen (known_of run past) seat what → is_work what ≡ true
    → left_of (known_after (record { seat = seat; what = what }) (known_of run past)) < left_of (known_of run past)
falls_step run past seat (Begun ticket lane about) some orderly may h = by (is_configure about) refl
  where
    ready : is_ready_on (known_of run past) about lane ≡ true
    ready = and_left (is_ready_on (known_of run past) about lane) (not (passes_limit (known_of run past) (to_send about))) may.due

    room : (provider : Source) → is_ready_on (known_of run past) (op.Configure provider) lane ≡ true
        → times_begun (known_of run past).history (op.Configure provider) < (known_of run past).run.parallel
    room provider due =
        lane_room (known_of run past) provider lane (subst (λ (fixed : Fixed). 0 < fixed.parallel) (sym (run_of run past)) some)
        (subst (λ (events : List Event). times_begun events (op.Configure provider) ≤ length (lanes_from events provider))
        (sym (history_of run past)) (lanes-fit run provider past orderly)) due

    by : (b : Bool) → is_configure about ≡ b
        → left_of (known_after (record { seat = seat; what = Begun ticket lane about }) (known_of run past)) < left_of (known_of run past)
    by false other = begun_falls (known_of run past) seat ticket lane about other ready
    by true is =
        let own = configure_is about is in
        let due : is_ready_on (known_of run past) (op.Configure own.0) lane ≡ true =
        subst (λ (one : Op). is_ready_on (known_of run past) one lane ≡ true) own.1 ready in
        subst (λ (one : Op). left_of (known_after (record { seat = seat; what = Begun ticket lane one }) (known_of run past)) < left_of (known_of run past))
        (sym own.1)
        (configure_falls (known_of run past) seat ticket lane own.0 (provider-listed run past own.0 lane orderly due) (room own.0 due))
falls_step run past seat (Kept number fresh) some orderly may h = kept_falls (known_of run past) seat number fresh may.due
falls_step run past seat (Dropped row) some orderly may h = dropped_falls (known_of run past) seat row may
falls_step run past seat (Cleared at) some orderly may h = cleared_falls (known_of run past) seat at may
falls_step run past seat (Posted n) some orderly may h = posted_falls (known_of run past) seat n may
falls_step run past seat _ some orderly may h = absurd (let e : false ≡ true = h in cc)

pub left-falls : (run : Fixed) (event : Event) (past : List Event) → 0 < run.parallel
    → IsOrderly run (event ∷ past) → is_work event.what ≡ true
    → left_of (known_of run (event ∷ past)) < left_of (known_of run past)
unfolding known_of
left-falls run event past some orderly h = falls_step run past event.seat event.what some orderly.0 orderly.1 h
