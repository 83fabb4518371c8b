-- How the entries move in a run that reads everything anew.
use Rattle.std.proofs.Common.{◌≡◌, ℕ, zero, suc, ◌+◌, ◌≤◌, ◌==◌, Bool, true, false, not, ◌&&◌, ◌||◌, if◌then◌else◌, inl, inr, List, [], ◌∷◌, ◌++◌, filter_map, find, length, map, reverse, slice_get, Option, Some, None, refl, sym, ◌∙◌, ap, subst, arith, option_map, option_and_then}
use Rattle.std.proofs.lemmas.List.{length-append, length-map}
use Rattle.std.specs.List.{cons_option, enumerate_from, list_any}
use Rattle.std.specs.Option.{option_or}
use Rattle.std.proofs.Math.Bool.{or-true}
use Rattle.std.proofs.lemmas.Option.{same_Some}
use Rattle.pl_lemmas.proofs.Truth.{and_left, and_right}
use Rattle.pl_lemmas.proofs.Numbers.{equal_numbers}
use Rattle.pl_lemmas.proofs.Each.{IsAmong, among_each}
use Rattle.pl_state.specs.declared.entry.Entry.{Entry}
use Rattle.pl_state.specs.declared.pending.Pending.{Pending}
use Rattle.pl_state.specs.declared.pending.PendingKind.{PendingKind}
use Rattle.pl_state.specs.declared.pending.PendingKind.TheVariants.{Creating}
use Rattle.pl_events.specs.declared.event.Event.{Event}
use Rattle.pl_events.specs.declared.event.What.{What}
use Rattle.pl_events.specs.declared.event.What.TheVariants.{Answered, Kept, Cleared}
use Rattle.pl_events.specs.declared.operation.Op.{Op}
use Rattle.pl_events.specs.declared.operation.Op.TheVariants as op
use Rattle.pl_events.specs.declared.operation.Subject.TheVariants as subject
use Rattle.pl_events.specs.declared.reply.Reply.{Reply}
use Rattle.pl_events.specs.declared.reply.Reply.TheVariants as reply
use Rattle.pl_refresh.specs.Refreshed.{Left, all_left, imported_left, left_of, pruned, pruned_behind, pruned_row, replaced_left, rows_left}
use Rattle.pl_refresh.specs.declared.row_now.RowNow.{RowNow}
use Rattle.pl_refresh.specs.declared.row_now.RowNow.TheVariants as row_now
use Rattle.pl_model.specs.declared.errand.Closed.{Closed}
use Rattle.pl_model.specs.declared.errand.Errand.{Errand}
use Rattle.pl_model.specs.declared.fixed.Fixed.{Fixed}
use Rattle.pl_model.specs.declared.work.Work.TheVariants.{Clear as to_clear}
use Rattle.pl_model.specs.Run.{clears_creates, imports_of, is_refresh, rows_of}
use Rattle.pl_lemmas.specs.Words.{has_number, is_row}
use Rattle.pl_lemmas.proofs.Options.{passing, row_is}
use Rattle.pl_model.specs.Due.{counts, is_awaited, is_clear_ready, is_counted, is_imported, is_ready, is_settled, passes_limit}
use Rattle.pl_model.specs.Entries.{new_entries, old_entries}
use Rattle.pl_model.specs.History.{known_of}
use Rattle.pl_model.specs.Known.{has_problem}
use Rattle.pl_model.specs.Legal.{IsOrderly, MayHappen}
use Rattle.pl_model.specs.Problems.{creates_urn, is_creating, pending_create}
use Rattle.pl_model.specs.Recording.{cleared_of}
use Rattle.pl_model.specs.Rows.{pending_at, row_numbers}
use Rattle.pl_model.specs.State.{found_by, imported_entries, is_cleared, is_found, pending_read, refreshed_entries, row_read, rows_read}
use Rattle.pl_model.specs.Tickets.{answers_of, closed_by, reply_if, reply_to, same_op}
use Rattle.pl_model_stays.proofs.Lists.Among.{any_found}
use Rattle.pl_model_stays.proofs.Goals.Claiming.{found_at}
use Rattle.pl_model_stays.proofs.Lists.Growing.{answers_by, run_of}
use Rattle.pl_model_stays.proofs.Operations.Once.{equal_ops, history_of}
use Rattle.pl_model_stays.proofs.Goals.Standing.{answers_as, closed_with}
use Rattle.pl_model_stays.proofs.Goals.Staying.{same_op_self}
use Rattle.pl_model_stays.proofs.Work.Waiting.{false_or}
use Rattle.pl_model_laws.proofs.Rereadings.Importing.{IsNamedImport, IsShut, begun_named, each_shut, unread}
use Rattle.pl_model_ends.proofs.Fulfilling.{event_of}
use Rattle.pl_model_ends.proofs.Forming.{left_at}
use Rattle.pl_model_ends.proofs.Limiting.{begun, errand}
use Rattle.pl_model_ends.proofs.Moving.{Moves, entries_many, parts_of}
use Rattle.pl_model_ends.proofs.Tally.{found_turned, one_added}
use Rattle.pl_model_ends.proofs.Weighing.{base_closed, base_else, base_many, cleared-as, open_else, own_else, paired}

-- ---- how many entries a run leaves that reads everything anew

behind_many : (base earlier : List Entry) (lefts : List Left) → length (pruned_behind base earlier lefts) ≡ length earlier + length lefts
behind_many base earlier [] = omega arith
behind_many base earlier (left ∷ more) =
    let rest = behind_many base (earlier ++ pruned_row base earlier left ∷ []) more in
    let one = length-append earlier (pruned_row base earlier left ∷ []) in
    omega arith

pruned_many : (base : List Entry) (read : List RowNow) (imported : List Entry)
    → length (pruned base read imported) ≡ length (rows_left 0 base read) + length imported
pruned_many base read imported =
    let whole = behind_many base [] (all_left base read imported) in
    let both = length-append (map (replaced_left imported) (rows_left 0 base read)) (imported_left base imported) in
    let first = length-map (rows_left 0 base read) (replaced_left imported) in
    let second = length-map imported (λ (entry : Entry). left_at (length base) entry) in
    omega arith

abbrev read_by : List Closed → ℕ × Entry → RowNow
read_by answers row = row_read row.1 (reply_to answers (op.Read (subject.Row row.0)))

-- what an answer imports
abbrev import_by : Fixed → Closed → Option Entry
import_by run closed =
    option_and_then (λ at. option_and_then (λ pending. found_by pending.entry (Some closed.reply)) (slice_get run.base.pending at))
    (pending_read closed.op)

-- the rows that are left by their readings, and what was imported
unfoldable rows_many : Fixed → List Closed → ℕ
rows_many run answers = length (rows_left 0 (rows_of run) (map (read_by answers) (enumerate_from 0 (rows_of run))))

unfoldable imports_many : Fixed → List Closed → ℕ
imports_many run answers = length (filter_map (import_by run) answers)

abbrev whole_many : Fixed → List Closed → ℕ
whole_many run answers =
    length (rows_left 0 (rows_of run) (map (read_by answers) (enumerate_from 0 (rows_of run)))) + length (filter_map (import_by run) (reverse answers))

entries-anew : (run : Fixed) (history : List Event) → is_refresh run.mode ≡ true
    → entries_many run history ≡ rows_many run (answers_of history) + imports_many run (answers_of history)
unfolding entries_many rows_many imports_many
entries-anew run history anew =
    ap (λ (b : Bool). length (if b then refreshed_entries (known_of run history)
    else new_entries (known_of run history) ++ old_entries (known_of run history)))
    (ap (λ (fixed : Fixed). is_refresh fixed.mode) (run_of run history) ∙ anew)
    ∙ pruned_many (rows_of (known_of run history).run) (rows_read (known_of run history)) (imported_entries (known_of run history))
    ∙ ap (λ (fixed : Fixed). whole_many fixed (known_of run history).answers) (run_of run history)
    ∙ ap (λ (answers : List Closed). whole_many run answers) (answers_as run history)
    ∙ ap (λ (events : List Event). whole_many run (answers_of events)) (history_of run history)
    ∙ ap (λ (n : ℕ). length (rows_left 0 (rows_of run) (map (read_by (answers_of history)) (enumerate_from 0 (rows_of run)))) + n)
    (found_turned (import_by run) (answers_of history))

-- ---- readings take rows away at most

left_one : (place : ℕ) (row : Entry) (one : RowNow) → length (left_of place row one) ≤ 1
left_one place row row_now.AsItWas = omega arith
left_one place row (row_now.Found entry) = omega arith
left_one place row row_now.Gone = omega arith

read_low : (place : ℕ) (row : Entry) (earlier later : Option Reply) → ((said : Reply) → earlier ≡ Some said → later ≡ Some said)
    → length (left_of place row (row_read row later)) ≤ length (left_of place row (row_read row earlier))
read_low place row None later stays = left_one place row (row_read row later)
read_low place row (Some said) later stays = rw (stays said refl) (omega arith)

abbrev Stays : List Closed → List Closed → Type 0
Stays earlier later = (about : Op) (said : Reply) → reply_to earlier about ≡ Some said → reply_to later about ≡ Some said

rows_low : (earlier later : List Closed) → Stays earlier later → (place n : ℕ) (rows : List Entry)
    → length (rows_left place rows (map (read_by later) (enumerate_from n rows)))
    ≤ length (rows_left place rows (map (read_by earlier) (enumerate_from n rows)))
rows_low earlier later stays place n [] = omega arith
rows_low earlier later stays place n (row ∷ rows) =
    let first = read_low place row (reply_to earlier (op.Read (subject.Row n))) (reply_to later (op.Read (subject.Row n)))
    (stays (op.Read (subject.Row n))) in
    let rest = rows_low earlier later stays (suc place) (n + 1) rows in
    let now = length-append (left_of place row (read_by later (n, row))) (rows_left (suc place) rows (map (read_by later) (enumerate_from (n + 1) rows))) in
    let was = length-append (left_of place row (read_by earlier (n, row))) (rows_left (suc place) rows (map (read_by earlier) (enumerate_from (n + 1) rows))) in
    omega arith

-- ---- imports

-- a pending operation that is imported is a creation
named_creates : (run : Fixed) (at : ℕ) (pending : Pending) → IsNamedImport run at → slice_get run.base.pending at ≡ Some pending
    → is_creating pending.kind ≡ true
named_creates run at pending named stands =
    let pair = any_found (λ (one : List ℕ × List ℕ). is_row (pending_create run one.1) at) (imports_of run.mode) named in
    let created : pending_create run pair.0.1 ≡ Some at = row_is (pending_create run pair.0.1) at pair.2 in
    by pair.0.1 (find (λ (one : ℕ × Pending). creates_urn pair.0.1 one.1) (enumerate_from 0 run.base.pending)) refl created
  where
    by : (urn : List ℕ) (o : Option (ℕ × Pending)) → find (λ (one : ℕ × Pending). creates_urn urn one.1) (enumerate_from 0 run.base.pending) ≡ o
        → option_map (λ (one : ℕ × Pending). one.0) o ≡ Some at → is_creating pending.kind ≡ true
    by urn None is h = absurd (let e : None ≡ Some at = h in cc)
    by urn (Some found) is h =
        let place = found_at (λ (one : ℕ × Pending). creates_urn urn one.1) 0 run.base.pending found is in
        let k : ℕ = place.0 in
        let there : found.0 ≡ 0 + k = place.2 in
        let own : found.0 ≡ at = same_Some found.0 at h in
        let same : k ≡ at = omega arith in
        let entry : found.1 ≡ pending =
        same_Some found.1 pending (sym place.3 ∙ ap (λ (n : ℕ). slice_get run.base.pending n) same ∙ stands) in
        subst (λ (one : Pending). is_creating one.kind ≡ true) entry (and_left (is_creating found.1.kind) _ place.1)

creating_counts : (pending : Pending) → is_creating pending.kind ≡ true → is_counted pending ≡ true
creating_counts pending h = by pending.kind h
  where
    by : (kind : PendingKind) → is_creating kind ≡ true → counts kind ≡ true
    by Creating h = refl
    by _ h = absurd (let e : false ≡ true = h in cc)

numbered_among : {X : Type 0} (n : ℕ) (xs : List X) (i : ℕ) (x : X) → slice_get xs i ≡ Some x → IsAmong (paired (n + i) x) (enumerate_from n xs)
numbered_among n [] i x h = absurd (let e : None ≡ Some x = h in cc)
numbered_among {X = X} n (y ∷ ys) zero x h =
    let same : y ≡ x = same_Some y x h in
    let plain : n + 0 ≡ n = omega arith in
    inl (ap (λ (k : ℕ). paired k x) plain ∙ ap (λ (z : X). paired n z) (sym same))
numbered_among {X = X} n (y ∷ ys) (suc i) x h =
    let next : n + 1 + i ≡ n + suc i = omega arith in
    inr (subst (λ (k : ℕ). IsAmong (paired k x) (enumerate_from (n + 1) ys)) next (numbered_among (n + 1) ys i x h))

module _ (run : Fixed) (at : ℕ) (named : IsNamedImport run at) (pending : Pending) (stands : slice_get run.base.pending at ≡ Some pending) where
  -- it is not let go by the command
  never_cleared_step : (seat : ℕ) (past : List Event) (what : What) → MayHappen (known_of run past) seat what
      → (has_number (cleared_of past) at ≡ true → ⊥) → has_number (cleared_of (event_of seat what ∷ past)) at ≡ true → ⊥
  never_cleared_step seat past (Cleared own) may rest h = by (own == at) refl h
    where
      settled : is_clear_ready (known_of run past) at ≡ true → ⊥
      settled ready =
          let it = passing (is_settled (known_of run past) at) (pending_at (known_of run past) at)
          (and_right (is_refresh (known_of run past).run.mode && not (is_cleared (known_of run past) at)) _ ready) in
          let here : slice_get run.base.pending at ≡ Some it.0 =
          subst (λ (fixed : Fixed). slice_get fixed.base.pending at ≡ Some it.0) (run_of run past) it.1 in
          let creates : is_creating it.0.kind ≡ true = named_creates run at it.0 named here in
          let imported : is_imported (known_of run past) at ≡ true =
          subst (λ (fixed : Fixed). IsNamedImport fixed at) (sym (run_of run past)) named in
          let free : (clears_creates (known_of run past).run.mode && not (is_imported (known_of run past) at)) ≡ true =
          subst (λ (b : Bool). (if b then clears_creates (known_of run past).run.mode && not (is_imported (known_of run past) at)
          else not (list_any (is_awaited (known_of run past) it.0.entry) (row_numbers (known_of run past)))) ≡ true) creates it.2 in
          let e : false ≡ true =
          sym (ap (λ (b : Bool). not b) imported) ∙ and_right (clears_creates (known_of run past).run.mode) _ free in
          cc

      by : (b : Bool) → (own == at) ≡ b → (b || has_number (cleared_of past) at) ≡ true → ⊥
      by true is h =
          settled (subst (λ (n : ℕ). is_clear_ready (known_of run past) n ≡ true) (equal_numbers own at is)
          (and_right (not (has_problem (known_of run past))) _
          (and_left (is_ready (known_of run past) (to_clear own)) (not (passes_limit (known_of run past) (to_clear own))) may)))
      by false is h = rest h
  never_cleared_step seat past _ may rest h = rest h

  never_cleared : (history : List Event) → IsOrderly run history → has_number (cleared_of history) at ≡ true → ⊥
  never_cleared [] orderly h = let e : false ≡ true = h in cc
  never_cleared (event ∷ past) orderly h = never_cleared_step event.seat past event.what orderly.1 (never_cleared past orderly.0) h

-- what was replied to is among the answers
replied_among : (answers : List Closed) (about : Op) (said : Reply) → reply_to answers about ≡ Some said
    → (closed : Closed) × IsAmong closed answers × (closed.op ≡ about)
replied_among [] about said h = absurd (let e : None ≡ Some said = h in cc)
replied_among (closed ∷ earlier) about said h =
    by (reply_to earlier about) refl (same_op closed.op about) refl h (λ other is. replied_among earlier about other is)
  where
    by : (o : Option Reply) → reply_to earlier about ≡ o → (b : Bool) → same_op closed.op about ≡ b
        → option_or o (reply_if b closed.reply) ≡ Some said
        → ((other : Reply) → reply_to earlier about ≡ Some other → (one : Closed) × IsAmong one earlier × (one.op ≡ about))
        → (one : Closed) × IsAmong one (closed ∷ earlier) × (one.op ≡ about)
    by (Some other) is b same h rest = let it = rest other is in (it.0, inr it.1, it.2)
    by None is true same h rest = (closed, inl refl, equal_ops closed.op about same)
    by None is false same h rest = absurd (let e : None ≡ Some said = h in cc)

-- ---- the moves

module _ (run : Fixed) (anew : is_refresh run.mode ≡ true) where
  idle_anew : (seat : ℕ) (past : List Event) (what : What) → answers_of (event_of seat what ∷ past) ≡ answers_of past
      → entries_many run (event_of seat what ∷ past) ≤ entries_many run past
  idle_anew seat past what same =
      let now = entries-anew run (event_of seat what ∷ past) anew in
      let was = entries-anew run past anew in
      let rows : rows_many run (answers_of (event_of seat what ∷ past)) ≡ rows_many run (answers_of past) = ap (rows_many run) same in
      let imports : imports_many run (answers_of (event_of seat what ∷ past)) ≡ imports_many run (answers_of past) = ap (imports_many run) same in
      omega arith

  module _ (seat : ℕ) (past : List Event) (ticket : ℕ) (said : Reply) (orderly : IsOrderly run (event_of seat (Answered ticket said) ∷ past)) where
    abbrev closing : List Event
    closing = event_of seat (Answered ticket said) ∷ past

    abbrev about : Op
    about = (errand run seat past ticket said orderly).0.op

    answers_now : answers_of closing ≡ closed_with said about ∷ answers_of past
    answers_now =
        ap (λ (o : Option Errand). cons_option (option_map (closed_with said) (option_map (λ (one : Errand). one.op) o)) (answers_of past))
        (errand run seat past ticket said orderly).1

    rows_fall : rows_many run (answers_of closing) ≤ rows_many run (answers_of past)
    unfolding rows_many
    rows_fall =
        rows_low (answers_of past) (answers_of closing) (answers_by (closed_by past (Answered ticket said)) (answers_of past)) 0 0 (rows_of run)

    imports_rise : imports_many run (answers_of closing) ≤ imports_many run (answers_of past) + 1
    unfolding imports_many
    imports_rise =
        subst (λ (answers : List Closed). length (filter_map (import_by run) answers) ≤ length (filter_map (import_by run) (answers_of past)) + 1)
        (sym answers_now) (one_added (import_by run (closed_with said about)) (filter_map (import_by run) (answers_of past)))

    imports_same : import_by run (closed_with said about) ≡ None → imports_many run (answers_of closing) ≡ imports_many run (answers_of past)
    unfolding imports_many
    imports_same none =
        ap (λ (answers : List Closed). length (filter_map (import_by run) answers)) answers_now
        ∙ ap (λ (o : Option Entry). length (cons_option o (filter_map (import_by run) (answers_of past)))) none

    -- where nothing is imported
    none_imported : import_by run (closed_with said about) ≡ None → parts_of run closing ≤ parts_of run past
    none_imported none =
        let now = entries-anew run closing anew in
        let was = entries-anew run past anew in
        let rows = rows_fall in
        let imports = imports_same none in
        let base = base_else run (event_of seat (Answered ticket said)) past in
        let own = own_else run seat past (Answered ticket said) refl in
        let open_ones = open_else seat past (Answered ticket said) refl in
        omega arith

    -- where one is, it is pending no longer
    one_imported : base_many run closing + 1 ≤ base_many run past → parts_of run closing ≤ parts_of run past
    one_imported less =
        let now = entries-anew run closing anew in
        let was = entries-anew run past anew in
        let rows = rows_fall in
        let imports = imports_rise in
        let own = own_else run seat past (Answered ticket said) refl in
        let open_ones = open_else seat past (Answered ticket said) refl in
        omega arith

    module _ (at : ℕ) (reads : about ≡ op.Read (subject.Pending at)) (pending : Pending) (stands : slice_get run.base.pending at ≡ Some pending)
        (found : is_found (Some said) ≡ true) where
      named : IsNamedImport run at
      named = begun_named run past (errand run seat past ticket said orderly).0 at orderly.0 reads (begun run seat past ticket said orderly)

      -- it was not answered before
      unheard : reply_to (answers_of past) (op.Read (subject.Pending at)) ≡ None
      unheard = by (reply_to (answers_of past) (op.Read (subject.Pending at))) refl
        where
          by : (o : Option Reply) → reply_to (answers_of past) (op.Read (subject.Pending at)) ≡ o → reply_to (answers_of past) (op.Read (subject.Pending at)) ≡ None
          by None is = is
          by (Some other) is =
              let it = replied_among (answers_of past) (op.Read (subject.Pending at)) other is in
              let shut = among_each (λ (closed : Closed). IsShut past closed.op) (answers_of past) it.0 (each_shut past) it.1 in
              absurd (unread run seat past ticket said (errand run seat past ticket said orderly).0 orderly.0 orderly.1
              (errand run seat past ticket said orderly).1 it.0 shut at at (ap pending_read reads) (ap pending_read it.2) refl)

      pending_before : is_cleared (known_of run past) at ≡ false
      pending_before =
          cleared-as run past at
          ∙ ap (λ (b : Bool). b || is_found (reply_to (answers_of past) (op.Read (subject.Pending at))))
          (false_or (has_number (cleared_of past) at) (never_cleared run at named pending stands past orderly.0))
          ∙ ap is_found unheard

      cleared_now : is_cleared (known_of run closing) at ≡ true
      cleared_now =
          cleared-as run closing at
          ∙ ap (λ (answers : List Closed). has_number (cleared_of closing) at || is_found (reply_to answers (op.Read (subject.Pending at))))
          (answers_now ∙ ap (λ (it : Op). closed_with said it ∷ answers_of past) reads)
          ∙ ap (λ (o : Option Reply). has_number (cleared_of past) at
          || is_found (option_or o (reply_if (same_op (op.Read (subject.Pending at)) (op.Read (subject.Pending at))) said))) unheard
          ∙ ap (λ (b : Bool). has_number (cleared_of past) at || is_found (reply_if b said)) (same_op_self (op.Read (subject.Pending at)))
          ∙ ap (λ (b : Bool). has_number (cleared_of past) at || b) found
          ∙ or-true (has_number (cleared_of past) at)

      imported_ends : base_many run closing + 1 ≤ base_many run past
      imported_ends =
          base_closed run (event_of seat (Answered ticket said)) past at pending
          (let plain : 0 + at ≡ at = omega arith in
          subst (λ (n : ℕ). IsAmong (paired n pending) (enumerate_from 0 run.base.pending)) plain
          (numbered_among 0 run.base.pending at pending stands))
          (creating_counts pending (named_creates run at pending named stands)) pending_before cleared_now

    answer_anew : (other : Op) → about ≡ other → parts_of run closing ≤ parts_of run past
    answer_anew (op.Read (subject.Pending at)) is = by (slice_get run.base.pending at) refl
      where
        imports : (o : Option Pending) → slice_get run.base.pending at ≡ o → import_by run (closed_with said about)
            ≡ option_and_then (λ (pending : Pending). found_by pending.entry (Some said)) o
        imports o here =
            ap (λ (it : Op). import_by run (closed_with said it)) is
            ∙ ap (λ (one : Option Pending). option_and_then (λ (pending : Pending). found_by pending.entry (Some said)) one) here

        replied : (pending : Pending) → slice_get run.base.pending at ≡ Some pending → (reply : Reply) → said ≡ reply
            → parts_of run closing ≤ parts_of run past
        replied pending here (reply.Found id inputs outputs) says =
            one_imported (imported_ends at is pending here (ap (λ (one : Reply). is_found (Some one)) says))
        replied pending here _ says =
            none_imported (imports (Some pending) here ∙ ap (λ (one : Reply). found_by pending.entry (Some one)) says)

        by : (o : Option Pending) → slice_get run.base.pending at ≡ o → parts_of run closing ≤ parts_of run past
        by None here = none_imported (imports None here)
        by (Some pending) here = replied pending here said refl
    answer_anew _ is = none_imported (ap (λ (it : Op). import_by run (closed_with said it)) is)

  pub anew-moves : Moves run
  anew-moves = record {
    idle = λ seat past what orderly recorded answered. idle_anew seat past what answered;
    keep = λ seat past number fresh orderly. (let same = idle_anew seat past (Kept number fresh) refl in omega arith);
    leave = λ seat past number fresh orderly h. idle_anew seat past (Kept number fresh) refl;
    answer = λ seat past ticket said orderly. answer_anew seat past ticket said orderly (errand run seat past ticket said orderly).0.op refl;
  }

  start_rows : rows_many run [] ≤ length (rows_of run)
  unfolding rows_many
  start_rows = low 0 0 (rows_of run)
    where
      low : (place n : ℕ) (rows : List Entry) → length (rows_left place rows (map (read_by []) (enumerate_from n rows))) ≤ length rows
      low place n [] = omega arith
      low place n (row ∷ rows) = let rest = low (suc place) (n + 1) rows in omega arith

  start_imports : imports_many run [] ≡ 0
  unfolding imports_many
  start_imports = refl

  pub anew-start : entries_many run [] ≤ length (rows_of run)
  anew-start =
      let whole = entries-anew run [] anew in
      let rows = start_rows in
      let imports = start_imports in
      omega arith
