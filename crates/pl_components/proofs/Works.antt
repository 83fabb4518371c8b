-- The work of a component run, and its answers.
use Rattle.std.proofs.Common.{◌≡◌, ◌≢◌, ℕ, ◌+◌, ◌<◌, ◌≤◌, ◌==◌, Bool, true, false, not, ◌&&◌, ◌||◌, if◌then◌else◌, List, [], ◌∷◌, ◌++◌, length, map, reverse, filter, option_map, option_and_then, Option, Some, None, is_none, is_some, refl, sym, ◌∙◌, ap, subst, arith, nat_lt, slice_get}
use Rattle.std.proofs.lemmas.Bool.Decides.{nat_tests}
use Rattle.std.proofs.lemmas.List.{length-map}
use Rattle.std.proofs.lemmas.List.Folds.{list_any-append}
use Rattle.std.specs.List.{list_any}
use Rattle.pl_lemmas.specs.Words.{has_number, only_if, some_passes}
use Rattle.pl_state.specs.Component.{plain_goal}
use Rattle.pl_state.specs.declared.entry.Entry.{Entry}
use Rattle.pl_state.specs.declared.goal.Goal.{Goal}
use Rattle.pl_state.specs.declared.goal.Registration.{Registration}
use Rattle.pl_state.specs.declared.pending.Pending.{Pending}
use Rattle.pl_events.specs.declared.event.Event.{Event}
use Rattle.pl_events.specs.declared.event.Request.TheVariants.{Register}
use Rattle.pl_events.specs.declared.operation.Op.{Op}
use Rattle.pl_events.specs.declared.operation.Op.TheVariants as op
use Rattle.pl_events.specs.declared.operation.Source.{Source}
use Rattle.pl_events.specs.declared.operation.Source.TheVariants as source
use Rattle.pl_events.specs.declared.operation.Subject.TheVariants as subject
use Rattle.pl_model.specs.Run as model
use Rattle.pl_decide.specs.Limited.{is_create_first}
use Rattle.pl_model.specs.declared.decided.Decided.{Decided}
use Rattle.pl_model.specs.declared.errand.Errand.{Errand}
use Rattle.pl_model.specs.declared.heard.Heard.{Heard}
use Rattle.pl_model.specs.declared.work.Work.{Work}
use Rattle.pl_model.specs.declared.work.Work.TheVariants.{Clear as to_clear, Drop as to_drop, Keep as to_keep, Post as to_post, Send as to_send}
use Rattle.pl_model.specs.Decisions.{turn_in}
use Rattle.pl_model.specs.Tickets.{is_closed, is_coming, is_source, lane_free, lanes_from, open_errands}
use Rattle.pl_model.specs.Recording.{posted_of, recorded_of}
use Rattle.pl_model.specs.Known.{Known, asked_at, next_turn}
use Rattle.pl_model.specs.Known as known_specs
use Rattle.pl_model.specs.Entries as entries
use Rattle.pl_model.specs.State.{pending_of}
use Rattle.pl_model.specs.Due.{added_by, claim_leaves, count_of, due_work, for_decided, goal_numbers, has_open, is_asked, is_due, is_invoke, is_next_lane, is_over_limit, is_ready, is_lane_of, is_ready_on, is_removable, is_settled_request, is_wanted_op, lane_numbers, operations_of, over_limit, pending_numbers, passes_limit, request_numbers, sends_goal, source_of_op, works_of}
use Rattle.pl_model.specs.Due as due
use Rattle.pl_model.specs.Rows.{has_dependents, is_doomed, is_left, is_sent, is_taken_out, is_taken_over, is_target, row_numbers, takes_along, was_removed}
use Rattle.pl_model.specs.Posts.{answer_for, answer_or, registered}
use Rattle.pl_model.specs.Run.{Spelling}
use Rattle.pl_state.specs.Formed.{most_resources}
use Rattle.pl_components.specs.Run.{Fixed}
use Rattle.pl_components.specs.Problems.{has_problem}
use Rattle.pl_components.specs.Requests.{goal_at, goals_of, is_waiting, made_by, made_for, waiting_of}
use Rattle.pl_components.specs.Entries.{entry_of, is_unrecorded, new_entries, unrecorded_of}
use Rattle.pl_components.specs.Due.{NothingDue, has_room, is_keep_due, is_placed, is_post_due, recorded_goal, result_of}
use Rattle.pl_components.specs.Due as components
use Rattle.pl_components.specs.Whole.{IsComponentRun, whole}
use Rattle.pl_components.proofs.Lists.{Each, and_false, and_left, and_true, filter-none, list_any-none, or_true, passing_kept, range_has}
use Rattle.pl_components.proofs.Goals.{IsFit, decided_for, plain_decided}
use Rattle.pl_components.proofs.Knowing.{asked_as, asked_of, has_problem-placed, known_as, no_errands}
use Rattle.pl_components.proofs.Recorded.{IsCounted, IsCounted-legal, entry_known, goal_at-below, goal_at-each, kept_of, none_above, numbered-decided, numbered-goals, recorded_is}
use Rattle.pl_components.proofs.States.{fit, now_known, pending_known}
use Rattle.pl_components.proofs.Waits.{IsAsked, IsWaited, IsWaited-legal, asked_in, find_each}
use Rattle.pl_components.proofs.Keeps.{ready_known}

any_mapped_by : {X Y : Type 0} (p : Y → Bool) (f : X → Y) (xs : List X) → list_any p (map f xs) ≡ list_any (λ x. p (f x)) xs
any_mapped_by p f [] = refl
any_mapped_by p f (x ∷ xs) = ap (λ b. p (f x) || b) (any_mapped_by p f xs)

from_test : (g n : ℕ) → nat_lt g n ≡ true → g < 0 + n
from_test g n h = grind (arith, nat_tests)

-- every goal is decided
turn_none : (run : Fixed) (parallel : ℕ) (goals : List Goal) (decided : List Decided) → length goals ≤ length decided
    → turn_in (whole run parallel) [] goals decided ≡ None
turn_none run parallel [] decided all = refl
turn_none run parallel (goal ∷ earlier) decided all =
    let apart : (length earlier == length decided) ≡ false = grind (arith, nat_tests) in
    rw apart (turn_none run parallel earlier decided (omega arith))

module _ (run : Fixed) (parallel : ℕ) (spelling : Spelling) (past : List Event) (h : IsComponentRun run spelling past) where
  abbrev known : Known
  known = known_as run parallel past

  counted : IsCounted run past
  counted = IsCounted-legal run spelling past h.legal

  waited : IsWaited run past
  waited = IsWaited-legal run spelling past h.legal

  fits : Each IsFit (goals_of run past)
  fits = fit run parallel spelling past h

  -- ---- nothing is out

  no_open : open_errands past ≡ []
  no_open = ap (λ (errands : List Errand). filter (λ (errand : Errand). not (is_closed past errand.ticket)) errands) (no_errands run spelling past h.legal)

  pub closed : has_open known ≡ false
  closed = ap (λ (errands : List Errand). is_some (slice_get errands 0)) no_open

  -- ---- requests

  recorded_about : (g : ℕ) → recorded_goal (goals_of run past) (unrecorded_of run past) (Some g)
      ≡ only_if (has_number (kept_of past) g) (goal_at (goals_of run past) g)
  recorded_about g = rw (counted.left g) (by (goal_at (goals_of run past) g) (has_number (kept_of past) g) (goal_at-below (goals_of run past) g))
    where
      by : (found : Option Goal) (b : Bool) → is_some found ≡ nat_lt g (length (goals_of run past))
          → (if (nat_lt g (length (goals_of run past)) && not b) then None else found) ≡ only_if b found
      by found true low = ap (λ c. if c then None else found) (and_false (nat_lt g (length (goals_of run past))))
      by None false low = rw (sym low) refl
      by (Some goal) false low = rw (sym low) refl

  kept_there : (g : ℕ) → is_some (only_if (has_number (kept_of past) g) (goal_at (goals_of run past) g)) ≡ has_number (kept_of past) g
  kept_there g = by (has_number (kept_of past) g) refl
    where
      by : (b : Bool) → has_number (kept_of past) g ≡ b → is_some (only_if b (goal_at (goals_of run past) g)) ≡ b
      by false is = refl
      by true is = goal_at-below (goals_of run past) g ∙ low (nat_lt g (length (goals_of run past))) refl
        where
          low : (c : Bool) → nat_lt g (length (goals_of run past)) ≡ c → c ≡ true
          low true at = refl
          low false at = absurd (let out : has_number (kept_of past) g ≡ false = none_above (length (goals_of run past)) (kept_of past) counted.within g (grind (arith, nat_tests)) in let e : true ≡ false = sym is ∙ out in cc)

  result_about : (about : Option ℕ) → is_some (recorded_goal (goals_of run past) (unrecorded_of run past) about) ≡ some_passes (λ g. has_number (recorded_of past) g) about
  result_about None = refl
  result_about (Some g) =
      ap (λ (found : Option Goal). is_some found) (recorded_about g) ∙ kept_there g
      ∙ ap (λ (numbers : List ℕ). has_number numbers g) (sym (recorded_is run spelling past h.legal))

  settled_as : (shut : Bool) (goals : List Goal) (n : ℕ) (told : Registration)
      → is_settled_request known (asked_as shut goals (Register n told)) ≡ some_passes (λ g. has_number (recorded_of past) g) (made_by shut goals)
  settled_as true goals n told = refl
  settled_as false goals n told = refl

  settled : (one : Heard) → IsAsked one → is_settled_request known one ≡ some_passes (λ g. has_number (recorded_of past) g) one.about
  settled one is =
      subst (λ (x : Heard). is_settled_request known x ≡ some_passes (λ g. has_number (recorded_of past) g) x.about) (sym is.4)
      (settled_as is.0 is.1 is.2 is.3)

  answer_entry : (found : Option Goal) → answer_or (option_map registered (option_map entry_of found)) ≡ components.answer_for found
  answer_entry None = refl
  answer_entry (Some goal) = refl

  answer_about : (g : ℕ) → answer_or (option_map registered (entries.entry_of known g)) ≡ components.answer_for (recorded_goal (goals_of run past) (unrecorded_of run past) (Some g))
  answer_about g = rw (entry_known run parallel past spelling h.legal fits g, recorded_about g) (by (has_number (kept_of past) g))
    where
      by : (b : Bool) → answer_or (option_map registered (only_if b (option_map entry_of (goal_at (goals_of run past) g)))) ≡ components.answer_for (only_if b (goal_at (goals_of run past) g))
      by true = answer_entry (goal_at (goals_of run past) g)
      by false = refl

  answered_as : (shut : Bool) (goals : List Goal) (n : ℕ) (told : Registration)
      → answer_for known (Some (asked_as shut goals (Register n told)))
      ≡ components.answer_for (recorded_goal (goals_of run past) (unrecorded_of run past) (made_by shut goals))
  answered_as true goals n told = refl
  answered_as false goals n told = answer_about (length goals)

  answered : (one : Heard) → IsAsked one → answer_for known (Some one) ≡ components.answer_for (recorded_goal (goals_of run past) (unrecorded_of run past) one.about)
  answered one is =
      subst (λ (x : Heard). answer_for known (Some x) ≡ components.answer_for (recorded_goal (goals_of run past) (unrecorded_of run past) x.about)) (sym is.4)
      (answered_as is.0 is.1 is.2 is.3)

  post_same : (posted waits settled kp ko some hp : Bool) → waits ≡ (not posted && true) → kp ≡ hp → ko ≡ false → (waits ≡ true → settled ≡ some)
      → (not posted && (settled || (kp && not ko))) ≡ (waits && (some || hp))
  post_same true waits settled kp ko some hp w k o same = rw w refl
  post_same false waits settled kp ko some hp w k o same = rw (same w, w, k, o, and_true hp) refl

  asked_each : (n : ℕ) (one : Heard) → asked_in (asked_of run past) n ≡ Some one → IsAsked one
  asked_each n one is = find_each IsAsked (λ (x : Heard). known_specs.number_of x.request == n) (asked_of run past) waited.registered one is

  -- a post is due in both views
  pub post_known : (n : ℕ) → due.is_post_due known n ≡ is_post_due run past n
  post_known n = by (asked_in (asked_of run past) n) refl (waited.told n) (waited.made n)
    where
      test : Heard → Bool
      test one = is_settled_request known one || (known_specs.has_problem known && not (has_open known))

      none : (p q : Bool) → (not p && false) ≡ ((not p && false) && q)
      none true q = refl
      none false q = refl

      by : (found : Option Heard) → asked_in (asked_of run past) n ≡ found
          → is_waiting (waiting_of run past) n ≡ (not (has_number (posted_of past) n) && is_some found)
          → (is_waiting (waiting_of run past) n ≡ true → made_for (waiting_of run past) n ≡ option_and_then (λ (one : Heard). one.about) found)
          → due.is_post_due known n ≡ is_post_due run past n
      by None is waits made =
          ap (λ (found : Option Heard). not (has_number (posted_of past) n) && some_passes (λ (one : Heard). is_settled_request known one || (known_specs.has_problem known && not (has_open known))) found) is
          ∙ none (has_number (posted_of past) n) (is_some (result_of run past n) || has_problem past)
          ∙ ap (λ b. b && (is_some (result_of run past n) || has_problem past)) (sym waits)
      by (Some one) is waits made =
          ap (λ (found : Option Heard). not (has_number (posted_of past) n) && some_passes (λ (one : Heard). is_settled_request known one || (known_specs.has_problem known && not (has_open known))) found) is
          ∙ post_same (has_number (posted_of past) n) (is_waiting (waiting_of run past) n) (is_settled_request known one) (known_specs.has_problem known)
          (has_open known) (is_some (result_of run past n)) (has_problem past) waits (has_problem-placed past) closed
          (λ w. settled one (asked_each n one is) ∙ sym (result_about one.about)
          ∙ ap (λ (about : Option ℕ). is_some (recorded_goal (goals_of run past) (unrecorded_of run past) about)) (sym (made w)))

  -- what is answered, the length aside, is the same in both views
  pub answer_known : (n : ℕ) → is_waiting (waiting_of run past) n ≡ true → answer_for known (asked_at known n) ≡ components.answer_for (result_of run past n)
  answer_known n w = by (asked_in (asked_of run past) n) refl (waited.told n) (waited.made n)
    where
      by : (found : Option Heard) → asked_in (asked_of run past) n ≡ found
          → is_waiting (waiting_of run past) n ≡ (not (has_number (posted_of past) n) && is_some found)
          → (is_waiting (waiting_of run past) n ≡ true → made_for (waiting_of run past) n ≡ option_and_then (λ (one : Heard). one.about) found)
          → answer_for known (asked_at known n) ≡ components.answer_for (result_of run past n)
      by None is waits made = absurd (let e : false ≡ true = sym (and_false (not (has_number (posted_of past) n))) ∙ sym waits ∙ w in cc)
      by (Some one) is waits made =
          ap (λ (found : Option Heard). answer_for known found) is ∙ answered one (asked_each n one is)
          ∙ ap (λ (about : Option ℕ). components.answer_for (recorded_goal (goals_of run past) (unrecorded_of run past) about)) (sym (made w))

  -- ---- no operation is asked for

  no_turn : next_turn known ≡ None
  no_turn = turn_none run parallel (goals_of run past) (map decided_for (goals_of run past)) (omega (arith, length-map (goals_of run past) decided_for))

  sends_plain : (g : ℕ) (about : Op) (urn kind : List ℕ) (parent : Option (List ℕ)) → sends_goal known g about (plain_goal urn kind parent) plain_decided ≡ false
  sends_plain g about urn kind parent = ap (λ b. b && true) (and_false (due.is_placed known g (plain_goal urn kind parent) plain_decided))

  no_sends : (g : ℕ) (about : Op) → for_decided known g (sends_goal known g about) ≡ false
  no_sends g about = rw (numbered-goals (goals_of run past) g, numbered-decided (goals_of run past) g) (by (goal_at (goals_of run past) g) refl)
    where
      by : (found : Option Goal) → goal_at (goals_of run past) g ≡ found
          → some_passes (λ (goal : Goal). some_passes (sends_goal known g about goal) (option_map decided_for found)) found ≡ false
      by None is = refl
      by (Some goal) is =
          let one : IsFit goal = goal_at-each IsFit (goals_of run past) fits g goal is in
          subst (λ (x : Goal). sends_goal known g about x plain_decided ≡ false) (sym one.plain) (sends_plain g about goal.urn goal.kind goal.parent)

  no_invoke : (n : ℕ) → some_passes (λ (one : Heard). is_invoke known one.request one.about) (asked_at known n) ≡ false
  no_invoke n = by (asked_in (asked_of run past) n) refl
    where
      by : (found : Option Heard) → asked_in (asked_of run past) n ≡ found → some_passes (λ (one : Heard). is_invoke known one.request one.about) (asked_at known n) ≡ false
      by None is = ap (λ (found : Option Heard). some_passes (λ (one : Heard). is_invoke known one.request one.about) found) is
      by (Some one) is =
          let asked : IsAsked one = asked_each n one is in
          ap (λ (found : Option Heard). some_passes (λ (one : Heard). is_invoke known one.request one.about) found) is
          ∙ ap (λ (x : Heard). is_invoke known x.request x.about) asked.4

  no_op : (about : Op) → is_asked known about ≡ false
  no_op (op.CheckConfig (subject.Goal g)) = rw no_turn refl
  no_op (op.CheckConfig (subject.Row row)) = refl
  no_op (op.CheckConfig (subject.Pending at)) = refl
  no_op (op.Configure provider) = refl
  no_op (op.Check (subject.Goal g)) = rw no_turn refl
  no_op (op.Check (subject.Row row)) = refl
  no_op (op.Check (subject.Pending at)) = refl
  no_op (op.Diff (subject.Goal g)) = rw no_turn refl
  no_op (op.Diff (subject.Row row)) = refl
  no_op (op.Diff (subject.Pending at)) = refl
  no_op (op.Create (subject.Goal g)) = no_sends g (op.Create (subject.Goal g))
  no_op (op.Create (subject.Row row)) = refl
  no_op (op.Create (subject.Pending at)) = refl
  no_op (op.Update (subject.Goal g)) = no_sends g (op.Update (subject.Goal g))
  no_op (op.Update (subject.Row row)) = refl
  no_op (op.Update (subject.Pending at)) = refl
  no_op (op.Delete (subject.Goal g)) = refl
  no_op (op.Delete (subject.Row row)) = and_false (is_removable known row)
  no_op (op.Delete (subject.Pending at)) = refl
  no_op (op.Read (subject.Goal g)) = no_sends g (op.Read (subject.Goal g))
  no_op (op.Read (subject.Row row)) = refl
  no_op (op.Read (subject.Pending at)) = refl
  no_op (op.Invoke n) = no_invoke n

  no_wanted : (about : Op) → is_wanted_op known about ≡ false
  no_wanted about = rw no_op (and_false _)

  none_between : (p q : Bool) → (p && false && q) ≡ false
  none_between true q = refl
  none_between false q = refl

  no_lane : (wanted : Source) → due.wants_lane known wanted ≡ false
  no_lane wanted =
      ap (λ b. b && is_none (lane_free past wanted) && not (list_any (is_coming past) (lanes_from past wanted)) && nat_lt (length (lanes_from past wanted)) parallel)
      (list_any-none (λ (about : Op). is_source (source_of_op known about) wanted && is_wanted_op known about && not (passes_limit known (to_send about)))
      (λ about. ap (λ b. is_source (source_of_op known about) wanted && b && not (passes_limit known (to_send about))) (no_wanted about)
      ∙ none_between (is_source (source_of_op known about) wanted) (not (passes_limit known (to_send about)))) (operations_of known))

  unwanted : (about : Op) (q : Bool) → (not (known_specs.has_problem known) && is_wanted_op known about && q) ≡ false
  unwanted about q = ap (λ b. not (known_specs.has_problem known) && b && q) (no_wanted about) ∙ none_between (not (known_specs.has_problem known)) q

  unconfigured : (provider : Source) (lane : ℕ) → (not (known_specs.has_problem known) && (false || (due.wants_lane known provider && is_next_lane known lane))) ≡ false
  unconfigured provider lane =
      ap (λ b. not (known_specs.has_problem known) && (false || (b && is_next_lane known lane))) (no_lane provider) ∙ and_false (not (known_specs.has_problem known))

  no_ready : (about : Op) (lane : ℕ) → is_ready_on known about lane ≡ false
  no_ready (op.CheckConfig about) lane = unwanted (op.CheckConfig about) (is_next_lane known lane)
  no_ready (op.Configure (source.Goal g)) lane = unconfigured (source.Goal g) lane
  no_ready (op.Configure (source.Row row)) lane = unconfigured (source.Row row) lane
  no_ready (op.Check about) lane = unwanted (op.Check about) (is_lane_of known (op.Check about) lane)
  no_ready (op.Diff about) lane = unwanted (op.Diff about) (is_lane_of known (op.Diff about) lane)
  no_ready (op.Create about) lane = unwanted (op.Create about) (is_lane_of known (op.Create about) lane)
  no_ready (op.Update about) lane = unwanted (op.Update about) (is_lane_of known (op.Update about) lane)
  no_ready (op.Delete about) lane = unwanted (op.Delete about) (is_lane_of known (op.Delete about) lane)
  no_ready (op.Read about) lane = unwanted (op.Read about) (is_lane_of known (op.Read about) lane)
  no_ready (op.Invoke n) lane = unwanted (op.Invoke n) (is_lane_of known (op.Invoke n) lane)

  -- ---- work

  no_send : (about : Op) → is_ready known (to_send about) ≡ false
  no_send about = list_any-none (λ (lane : ℕ). is_ready_on known about lane) (no_ready about) (lane_numbers known)

  no_clear : (at : ℕ) → is_ready known (to_clear at) ≡ false
  no_clear at = and_false (not (known_specs.has_problem known))

  -- there is no row to be taken out
  no_left : (row : ℕ) → is_left known row ≡ false
  no_left row =
      let none : nat_lt row 0 ≡ false = grind (arith, nat_tests) in
      ap (λ b. b && not (is_taken_out known row) && not (is_taken_over known row)) none

  no_doomed : (row : ℕ) → is_doomed known row ≡ false
  no_doomed row =
      ap (λ b. b && not (model.is_refresh known.run.mode) && is_target known row && (known_specs.is_over known || list_any (takes_along known row) known.decided))
      (no_left row)

  not_removable : (row : ℕ) → is_removable known row ≡ false
  not_removable row =
      ap (λ b. b && not (was_removed known row) && not (has_dependents known row) && not (model.is_preview known.run.mode)) (no_doomed row)

  no_drop : (row : ℕ) → is_ready known (to_drop row) ≡ false
  no_drop row =
      ap (λ b. not (known_specs.has_problem known) && (b && not (is_sent known row))) (not_removable row)
      ∙ and_false (not (known_specs.has_problem known))

  keep_ready : (g : ℕ) → is_ready known (to_keep g) ≡ components.is_ready run past g
  keep_ready g =
      ap (λ b. not b && due.is_keep_ready known g) (has_problem-placed past) ∙ ready_known run parallel spelling past h.legal fits g

  count_now : count_of known ≡ length (new_entries run past) + 0 + 0
  count_now =
      ap (λ (entries : List Entry). length entries + length (filter due.is_counted (pending_of known)) + length (filter (λ (errand : Errand). due.reads_goal errand.op) (open_errands past)))
      (now_known run parallel spelling past h)
      ∙ ap (λ (pending : List Pending). length (new_entries run past) + length (filter due.is_counted pending) + length (filter (λ (errand : Errand). due.reads_goal errand.op) (open_errands past)))
      (pending_known run parallel spelling past h)
      ∙ ap (λ (errands : List Errand). length (new_entries run past) + 0 + length (filter (λ (errand : Errand). due.reads_goal errand.op) errands)) no_open

  claims_none : (g : ℕ) → claim_leaves known g ≡ false
  claims_none g = rw (numbered-decided (goals_of run past) g) (by (goal_at (goals_of run past) g))
    where
      by : (found : Option Goal)
          → some_passes (λ (one : Decided). some_passes (is_left known) one.claim && not (is_create_first one.decision)) (option_map decided_for found) ≡ false
      by None = refl
      by (Some goal) = refl

  adds_one : (g : ℕ) → added_by known (to_keep g) ≡ 1
  adds_one g = ap (λ b. if b then 0 else 1) (claims_none g)

  no_room : (added count n : ℕ) → added ≡ 1 → count ≡ n + 0 + 0 → (not (added == 0) && nat_lt most_resources (count + added)) ≡ not (nat_lt n most_resources)
  no_room added count n one sum = grind (arith, nat_tests)

  keep_limit : (g : ℕ) → passes_limit known (to_keep g) ≡ not (has_room run past)
  keep_limit g = no_room (added_by known (to_keep g)) (count_of known) (length (new_entries run past)) (adds_one g) count_now

  pub keep_due : (g : ℕ) → is_due known (to_keep g) ≡ is_keep_due run past g
  keep_due g = rw (keep_ready g, keep_limit g) (by (components.is_ready run past g) (has_room run past))
    where
      by : (a b : Bool) → (a && not (not b)) ≡ (a && b)
      by a true = refl
      by a false = refl

  pub keep_over : (g : ℕ) → is_over_limit known (to_keep g) ≡ components.is_over_limit run past g
  keep_over g = rw (keep_ready g, keep_limit g) refl

  -- where nothing is due in one view, no work is in the other
  pub nothing_due : NothingDue run past → due_work known ≡ []
  nothing_due none = filter-none (is_due known) by (works_of known)
    where
      by : (work : Work) → is_due known work ≡ false
      by (to_post n) = and_true (due.is_post_due known n) ∙ post_known n ∙ none.no_post n
      by (to_keep g) = keep_due g ∙ none.no_keep g
      by (to_clear at) = ap (λ b. b && not (passes_limit known (to_clear at))) (no_clear at)
      by (to_drop row) = ap (λ b. b && not (passes_limit known (to_drop row))) (no_drop row)
      by (to_send about) = ap (λ b. b && not (passes_limit known (to_send about))) (no_send about)

  pub nothing_over : ((g : ℕ) → components.is_over_limit run past g ≡ false) → over_limit known ≡ []
  nothing_over none = filter-none (is_over_limit known) by (works_of known)
    where
      by : (work : Work) → is_over_limit known work ≡ false
      by (to_post n) = and_false (due.is_post_due known n)
      by (to_keep g) = keep_over g ∙ none g
      by (to_clear at) = ap (λ b. b && passes_limit known (to_clear at)) (no_clear at)
      by (to_drop row) = ap (λ b. b && passes_limit known (to_drop row)) (no_drop row)
      by (to_send about) = ap (λ b. b && passes_limit known (to_send about)) (no_send about)

  pub some_over : (g : ℕ) → components.is_over_limit run past g ≡ true → over_limit known ≢ []
  some_over g over none = passing_kept (is_over_limit known) (works_of known) there none
    where
      unrecorded : is_unrecorded (unrecorded_of run past) g ≡ true
      unrecorded =
          and_left (is_unrecorded (unrecorded_of run past) g) (is_placed (new_entries run past) (goal_at (goals_of run past) g) && not (has_problem past))
          (and_left (components.is_ready run past g) (not (has_room run past)) over)

      low : nat_lt g (length (goals_of run past)) ≡ true
      low = and_left (nat_lt g (length (goals_of run past))) (not (has_number (kept_of past) g)) (sym (counted.left g) ∙ unrecorded)

      among : list_any (is_over_limit known) (map to_keep (goal_numbers known)) ≡ true
      among = any_mapped_by (is_over_limit known) to_keep (goal_numbers known)
          ∙ range_has (λ k. is_over_limit known (to_keep k)) 0 (length (goals_of run past)) g (omega arith) (from_test g (length (goals_of run past)) low) (keep_over g ∙ over)

      there : list_any (is_over_limit known) (works_of known) ≡ true
      there =
          list_any-append (is_over_limit known) (map to_post (request_numbers known)) (map to_keep (goal_numbers known) ++ (map to_clear (pending_numbers known) ++ (map to_drop (reverse (row_numbers known)) ++ map to_send (due.all_sends known))))
          ∙ ap (λ b. list_any (is_over_limit known) (map to_post (request_numbers known)) || b)
          (list_any-append (is_over_limit known) (map to_keep (goal_numbers known)) (map to_clear (pending_numbers known) ++ (map to_drop (reverse (row_numbers known)) ++ map to_send (due.all_sends known)))
          ∙ ap (λ b. b || list_any (is_over_limit known) (map to_clear (pending_numbers known) ++ (map to_drop (reverse (row_numbers known)) ++ map to_send (due.all_sends known)))) among)
          ∙ or_true (list_any (is_over_limit known) (map to_post (request_numbers known)))
