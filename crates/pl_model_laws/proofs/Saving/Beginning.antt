-- What a begin leaves as it was: it adds to the history alone, so the entries stay, and its operation is pending.
use Rattle.std.proofs.Common.{◌≡◌, ℕ, ◌==◌, ◌<◌, Bool, true, false, ◌&&◌, ◌||◌, not, if◌then◌else◌, List, [], ◌∷◌, ◌++◌, filter, filter_map, length, map, reverse, Contains, Option, Some, None, refl, sym, ◌∙◌, ap, subst, arith, option_map, option_and_then}
use Rattle.std.proofs.lemmas.List.{map-append, reverse-append}
use Rattle.std.proofs.lemmas.List.Elements.{Contains-append_right, filter-append}
use Rattle.std.specs.List.{cons_option, list_any}
use Rattle.std.specs.Option.{option_or}
use Rattle.pl_lemmas.proofs.Truth.{and_left, and_right}
use Rattle.pl_lemmas.proofs.Options.{or_none, passing}
use Rattle.pl_lemmas.proofs.Numbers.{equal_numbers}
use Rattle.pl_options.specs.Names.{id_text}
use Rattle.pl_reference.specs.declared.reference.ProviderRef.{ProviderRef}
use Rattle.pl_state.specs.declared.entry.Entry.{Entry}
use Rattle.pl_state.specs.declared.goal.Goal.{Goal}
use Rattle.pl_state.specs.declared.pending.Pending.{Pending}
use Rattle.pl_events.specs.declared.event.Event.{Event}
use Rattle.pl_events.specs.declared.event.What.{What}
use Rattle.pl_events.specs.declared.event.What.TheVariants.{Answered, Begun, Kept}
use Rattle.pl_events.specs.declared.operation.Op.{Op}
use Rattle.pl_decide.specs.declared.problem.Problem.{Problem}
use Rattle.pl_model.specs.declared.decided.Decided.{Decided}
use Rattle.pl_model.specs.declared.errand.Closed.{Closed}
use Rattle.pl_model.specs.declared.errand.Errand.{Errand}
use Rattle.pl_model.specs.declared.errand.Opened.{Opened}
use Rattle.pl_model.specs.declared.fixed.Fixed.{Fixed}
use Rattle.pl_model.specs.Run.{is_refresh}
use Rattle.pl_model.specs.Tickets.{answers_of, begun_of, closed_by, errand_at, errand_of, is_open, next_ticket, same_op}
use Rattle.pl_model.specs.Recording.{fresh_of, recorded_of}
use Rattle.pl_model.specs.Claims.{id_of_row, usable_id}
use Rattle.pl_model.specs.Decisions.{decided_of}
use Rattle.pl_model.specs.Known.{Known, claim_row, decided_goal, goal_at, provider_id}
use Rattle.pl_model.specs.Rows.{is_left, is_marked}
use Rattle.pl_model.specs.Entries.{Result, entry_of, goal_entry, new_entries, old_entries, old_row, recorded_entry, recording_of, reference_to, result_answered, result_by, result_from, result_kept, told_outputs, with_outputs}
use Rattle.pl_model.specs.State.{base_pending, entries_now, is_answered, opened_of, own_pending, pending_for, refreshed_entries, state_of, was_answered}
use Rattle.pl_model.specs.History.{known_of}
use Rattle.pl_model.specs.Legal.{IsOrderly, MayHappen, is_seats}
use Rattle.pl_model_stays.proofs.Lists.Growing.{decided_as, run_of}
use Rattle.pl_model_stays.proofs.Operations.Once.{history_of}
use Rattle.pl_model_stays.proofs.Goals.Standing.{answers_as}
use Rattle.pl_model_stays.proofs.Goals.Staying.{any_more, errand_sent}
use Rattle.pl_model_stays.proofs.Goals.KeptEntries.{provided_by}

-- ---- lists

-- what is found the same way for each is found for all
filter_map_same : {X Y : Type 0} (f g : X → Option Y) → ((x : X) → f x ≡ g x) → (xs : List X)
    → filter_map f xs ≡ filter_map g xs
filter_map_same f g same [] = refl
filter_map_same {Y = Y} f g same (x ∷ xs) =
    ap (λ (o : Option Y). cons_option o (filter_map f xs)) (same x)
    ∙ ap (λ (ys : List Y). cons_option (g x) ys) (filter_map_same f g same xs)

-- ---- what is told of with a begin more

abbrev event_of : ℕ → What → Event
event_of seat what = record { seat = seat; what = what }

-- what is told of with an event more in the history, and nothing else but problems
abbrev pub with_event : Known → Event → List (ℕ × Problem) → Known
with_event known event problems = record known { history = event ∷ known.history; problems = problems }

abbrev reference_by : Goal → List ℕ → ProviderRef
reference_by goal id = record { urn = goal.urn; id = id }

module _ (known : Known) (seat ticket lane : ℕ) (about : Op) (problems : List (ℕ × Problem)) where
  abbrev later : Known
  later = with_event known (event_of seat (Begun ticket lane about)) problems

  -- the id of a provider
  provider_same : (number : ℕ) → provider_id later number ≡ provider_id known number
  provider_same number =
      ap (λ (fresh : Option ℕ). option_or (usable_id (id_of_row (claim_row known number))) (option_map id_text fresh))
      (or_none (fresh_of known.history number))

  -- the reference to a provider
  reference_same : (number : ℕ) → reference_to later number ≡ reference_to known number
  reference_same number =
      ap (λ (id : Option (List ℕ)). option_and_then (λ (goal : Goal). option_map (reference_by goal) id) (goal_at known number))
      (provider_same number)

  -- the entry of a goal
  goal_entry_same : (goal : Goal) (one : Decided) (result : Result)
      → goal_entry later goal one result ≡ goal_entry known goal one result
  goal_entry_same goal one result =
      ap (λ (provider : Option ProviderRef). provided_by provider (goal_entry known goal one result)) (by goal.provider)
    where
      by : (o : Option ℕ) → option_and_then (reference_to later) o ≡ option_and_then (reference_to known) o
      by None = refl
      by (Some number) = reference_same number

  mapped_same : (goal : Goal) (one : Decided) (o : Option Result)
      → option_map (goal_entry later goal one) o ≡ option_map (goal_entry known goal one) o
  mapped_same goal one None = refl
  mapped_same goal one (Some result) = ap (λ (entry : Entry). Some entry) (goal_entry_same goal one result)

  -- what recorded a goal
  recording_same : (number : ℕ) (goal : Goal) (one : Decided)
      → recording_of later number goal one ≡ recording_of known number goal one
  recording_same number goal one =
      or_none (result_from later number goal one known.history) ∙ from_same known.history
    where
      kept_same : (what : What) → result_kept later number goal one what ≡ result_kept known number goal one what
      kept_same (Kept kept fresh) = refl
      kept_same _ = refl

      from_same : (past : List Event) → result_from later number goal one past ≡ result_from known number goal one past
      from_same [] = refl
      from_same (event ∷ past) =
          ap (λ (o : Option Result). option_or o (result_by later number goal one past event.what)) (from_same past)
          ∙ ap (λ (o : Option Result). option_or (result_from known number goal one past)
          (option_or o (option_and_then (result_answered known number one) (closed_by past event.what)))) (kept_same event.what)

  entry_same : (number : ℕ) → entry_of later number ≡ entry_of known number
  entry_same number = by (goal_at known number) (decided_goal known number)
    where
      by : (goal : Option Goal) (one : Option Decided)
          → option_and_then (λ (it : Goal). option_and_then (λ (its : Decided).
          option_map (goal_entry later it its) (recording_of later number it its)) one) goal
          ≡ option_and_then (λ (it : Goal). option_and_then (λ (its : Decided).
          option_map (goal_entry known it its) (recording_of known number it its)) one) goal
      by None one = refl
      by (Some goal) None = refl
      by (Some goal) (Some one) =
          ap (λ (o : Option Result). option_map (goal_entry later goal one) o) (recording_same number goal one)
          ∙ mapped_same goal one (recording_of known number goal one)

  -- the entry of a recorded goal
  recorded_same : (number : ℕ) → recorded_entry later number ≡ recorded_entry known number
  recorded_same number = ap (λ (o : Option Entry). option_map (with_outputs (told_outputs known number)) o) (entry_same number)

  new_same : new_entries later ≡ new_entries known
  new_same = filter_map_same (recorded_entry later) (recorded_entry known) recorded_same (reverse (recorded_of known.history))

  -- the rows
  left_same : (row : ℕ) → is_left later row ≡ is_left known row
  left_same row = refl

  marked_same : (row : ℕ) → is_marked later row ≡ is_marked known row
  marked_same row = refl

  row_same : (row : ℕ) → old_row later row ≡ old_row known row
  row_same row = refl

  old_same : old_entries later ≡ old_entries known
  old_same = refl

  entries_same : entries_now later ≡ entries_now known
  entries_same =
      ap (λ (rows : List Entry). if is_refresh known.run.mode then refreshed_entries known else rows ++ old_entries known) new_same

-- what a history with a begin more tells, but for the form of the event
known_begin : (run : Fixed) (past : List Event) (seat ticket lane : ℕ) (about : Op)
    → known_of run (event_of seat (Begun ticket lane about) ∷ past)
    ≡ with_event (known_of run past) (event_of seat (Begun ticket lane about))
    (known_of run (event_of seat (Begun ticket lane about) ∷ past)).problems
unfolding known_of
known_begin run past seat ticket lane about =
    ap (λ (answers : List Closed). both answers
    (decided_of (known_of run past).run (answers_of (known_of run past).history) (known_of run past).goals))
    (sym (answers_as run past))
    ∙ ap (λ (decided : List Decided). both (known_of run past).answers decided) (sym (decided_as run past))
  where
    both : List Closed → List Decided → Known
    both answers decided =
        record (known_of run (event_of seat (Begun ticket lane about) ∷ past)) { answers = answers; decided = decided }

begun_event : (event : Event) (what : What) → event.what ≡ what → event_of event.seat what ≡ event
begun_event event what says = ap (λ (it : What). event_of event.seat it) (sym says)

module _ (run : Fixed) (event : Event) (past : List Event) (ticket lane : ℕ) (about : Op)
    (says : event.what ≡ Begun ticket lane about) where
  -- what a history with a begin more tells
  known_begun : known_of run (event ∷ past)
      ≡ with_event (known_of run past) (event_of event.seat (Begun ticket lane about)) (known_of run (event ∷ past)).problems
  known_begun =
      subst (λ (it : Event). known_of run (it ∷ past)
      ≡ with_event (known_of run past) (event_of event.seat (Begun ticket lane about)) (known_of run (it ∷ past)).problems)
      (begun_event event (Begun ticket lane about) says) (known_begin run past event.seat ticket lane about)

  abbrev now : List (ℕ × Problem)
  now = (known_of run (event ∷ past)).problems

  entries_begun : (state_of run (event ∷ past)).entries ≡ (state_of run past).entries
  entries_begun = ap entries_now known_begun ∙ entries_same (known_of run past) event.seat ticket lane about now

-- a begin leaves the entries
pub begun-entries : (run : Fixed) (event : Event) (past : List Event) (ticket lane : ℕ) (about : Op)
    → event.what ≡ Begun ticket lane about → is_refresh run.mode ≡ false
    → (state_of run (event ∷ past)).entries ≡ (state_of run past).entries
begun-entries run event past ticket lane about says other = entries_begun run event past ticket lane about says

-- ---- tickets

-- whether an errand of the ticket was begun
abbrev has_ticket : List Event → ℕ → Bool
has_ticket history ticket = list_any (λ errand. errand.ticket == ticket) (begun_of history)

-- the errand that is found by a ticket has it
errand_has : (history : List Event) (ticket : ℕ) (errand : Errand) → errand_at history ticket ≡ Some errand
    → has_ticket history ticket ≡ true
errand_has history ticket errand h =
    any_more (λ (one : Errand). (one.ticket == ticket) && same_op one.op errand.op) (λ (one : Errand). one.ticket == ticket)
    (λ one both. and_left (one.ticket == ticket) (same_op one.op errand.op) both) (begun_of history)
    (errand_sent history ticket errand h)

module _ (run : Fixed) (ticket : ℕ) where
  below_step : (seat : ℕ) (past : List Event) (what : What) → MayHappen (known_of run past) seat what
      → (has_ticket past ticket ≡ true → ticket < next_ticket past)
      → has_ticket (event_of seat what ∷ past) ticket ≡ true → ticket < next_ticket (event_of seat what ∷ past)
  below_step seat past (Begun begun lane about) may rest h = by (begun == ticket) refl h
    where
      by : (b : Bool) → (begun == ticket) ≡ b → (b || has_ticket past ticket) ≡ true
          → ticket < next_ticket (event_of seat (Begun begun lane about) ∷ past)
      by true is h =
          let same : begun ≡ ticket = equal_numbers begun ticket is in
          let next : begun ≡ next_ticket past =
          may.next ∙ ap (λ (events : List Event). next_ticket events) (history_of run past) in
          omega arith
      by false is h = let less : ticket < next_ticket past = rest h in omega arith
  below_step seat past _ may rest h = rest h

  -- the tickets of an orderly history are below the next one
  ticket_below : (history : List Event) → IsOrderly run history → has_ticket history ticket ≡ true
      → ticket < next_ticket history
  ticket_below [] orderly h = absurd (let e : false ≡ true = h in cc)
  ticket_below (event ∷ past) orderly h = below_step event.seat past event.what orderly.1 (ticket_below past orderly.0) h

  -- a ticket of a seat was begun
  seats_ticket : (seat : ℕ) (past : List Event) → is_seats (known_of run past) seat ticket ≡ true → has_ticket past ticket ≡ true
  seats_ticket seat past h =
      let found = passing (λ errand. errand.seat == seat) (errand_at (known_of run past).history ticket)
      (and_right (is_open (known_of run past).history ticket) _ h) in
      subst (λ (events : List Event). has_ticket events ticket ≡ true) (history_of run past)
      (errand_has (known_of run past).history ticket found.0 found.1)

-- an event leaves the next ticket or makes it greater
next_grows : (event : Event) (past : List Event) (ticket : ℕ) → ticket < next_ticket past → ticket < next_ticket (event ∷ past)
next_grows event past ticket less = by (errand_of event)
  where
    by : (o : Option Errand) → ticket < length (cons_option o (begun_of past))
    by None = less
    by (Some errand) = omega arith

module _ (run : Fixed) (ticket : ℕ) where
  answered_step : (seat : ℕ) (past : List Event) (what : What) → IsOrderly run past
      → MayHappen (known_of run past) seat what → (was_answered past ticket ≡ true → ticket < next_ticket past)
      → (is_answered ticket what || was_answered past ticket) ≡ true → ticket < next_ticket past
  answered_step seat past (Answered closed reply) orderly may rest h = by (closed == ticket) refl h
    where
      by : (b : Bool) → (closed == ticket) ≡ b → (b || was_answered past ticket) ≡ true → ticket < next_ticket past
      by true is h =
          subst (λ (number : ℕ). number < next_ticket past) (equal_numbers closed ticket is)
          (ticket_below run closed past orderly (seats_ticket run closed seat past may.closes))
      by false is h = rest h
  answered_step seat past _ orderly may rest h = rest h

  -- so are the tickets that were answered
  answered_below : (history : List Event) → IsOrderly run history → was_answered history ticket ≡ true
      → ticket < next_ticket history
  answered_below [] orderly h = absurd (let e : false ≡ true = h in cc)
  answered_below (event ∷ past) orderly h =
      next_grows event past ticket
      (answered_step event.seat past event.what orderly.0 orderly.1 (answered_below past orderly.0) h)

  -- the next ticket has no answer
  next_unanswered : (history : List Event) → IsOrderly run history → ticket ≡ next_ticket history
      → was_answered history ticket ≡ false
  next_unanswered history orderly next = by (was_answered history ticket) refl
    where
      by : (b : Bool) → was_answered history ticket ≡ b → b ≡ false
      by true is = absurd (let less : ticket < next_ticket history = answered_below history orderly is in omega arith)
      by false is = refl

-- ---- what is pending

-- the first of a list, where it passes, is among those that a filter leaves of the list the other way round
last_left : {X Y : Type 0} (test : X → Bool) (made : X → Y) (x : X) (xs : List X) → test x ≡ true
    → Contains (map made (filter test (reverse (x ∷ xs)))) (made x)
last_left {X = X} {Y = Y} test made x xs passes =
    subst (λ (ys : List X). Contains (map made (filter test ys)) (made x)) (sym (reverse-append (x ∷ []) xs))
    (subst (λ (ys : List X). Contains (map made ys) (made x)) (sym (filter-append test (reverse xs) (x ∷ [])))
    (subst (λ (ys : List Y). Contains ys (made x)) (sym (map-append made (filter test (reverse xs)) (filter test (x ∷ []))))
    (Contains-append_right (map made (filter test (reverse xs))) (map made (filter test (x ∷ []))) (made x)
    (subst (λ (b : Bool). Contains (map made (if b then x ∷ [] else [])) (made x)) (sym passes) (0, omega arith, refl)))))

module _ (run : Fixed) (past : List Event) (seat ticket lane : ℕ) (about : Op) (pending : Pending)
    (orderly : IsOrderly run (event_of seat (Begun ticket lane about) ∷ past))
    (opens : pending_for (known_of run past) about ≡ Some pending) where
  abbrev history : List Event
  history = event_of seat (Begun ticket lane about) ∷ past

  abbrev opened : Opened
  opened = record { ticket = ticket; pending = pending }

  -- what the begin opens is the newest
  opened_next : opened_of run history ≡ opened ∷ opened_of run past
  unfolding opened_of
  opened_next =
      ap (λ (o : Option Pending). cons_option (option_map (λ (it : Pending). opened_with it) o) (opened_of run past)) opens
    where
      opened_with : Pending → Opened
      opened_with it = record { ticket = ticket; pending = it }

  unanswered : not (was_answered history ticket) ≡ true
  unanswered =
      ap (λ (b : Bool). not b)
      (next_unanswered run ticket past orderly.0
      (orderly.1.next ∙ ap (λ (events : List Event). next_ticket events) (history_of run past)))

  own_has : Contains (own_pending run history) pending
  own_has =
      subst (λ (all : List Opened).
      Contains (map (λ one. one.pending) (filter (λ one. not (was_answered history one.ticket)) (reverse all))) pending)
      (sym opened_next)
      (last_left (λ one. not (was_answered history one.ticket)) (λ one. one.pending) opened (opened_of run past) unanswered)

  pending_has : Contains (state_of run history).pending pending
  pending_has =
      Contains-append_right (base_pending (known_of run history))
      (own_pending (known_of run history).run (known_of run history).history) pending
      (subst (λ (events : List Event). Contains (own_pending (known_of run history).run events) pending) (sym (history_of run history))
      (subst (λ (fixed : Fixed). Contains (own_pending fixed history) pending) (sym (run_of run history)) own_has))

-- an operation that was begun is pending
pub begun-pending : (run : Fixed) (event : Event) (past : List Event)
    (ticket lane : ℕ) (about : Op) (pending : Pending) → IsOrderly run (event ∷ past) → event.what ≡ Begun ticket lane about
    → pending_for (known_of run past) about ≡ Some pending → Contains (state_of run (event ∷ past)).pending pending
begun-pending run event past ticket lane about pending orderly says opens =
    let same : event_of event.seat (Begun ticket lane about) ≡ event = begun_event event (Begun ticket lane about) says in
    subst (λ (it : Event). Contains (state_of run (it ∷ past)).pending pending) same
    (pending_has run past event.seat ticket lane about pending
    (subst (λ (it : Event). IsOrderly run (it ∷ past)) (sym same) orderly) opens)
