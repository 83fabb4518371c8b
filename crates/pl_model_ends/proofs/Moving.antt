-- How each event moves the parts of the count, and that the count so stays within the limit.
use Rattle.std.proofs.Common.{◌≡◌, ◌⊎◌, ℕ, ◌+◌, ◌≤◌, ◌==◌, Bool, true, false, not, ◌&&◌, if◌then◌else◌, inl, inr, List, [], ◌∷◌, filter, length, map, nat_lt, Option, None, refl, ap, arith}
use Rattle.std.proofs.lemmas.Bool.Decides.{nat_tests}
use Rattle.std.specs.List.{enumerate_from}
use Rattle.pl_lemmas.proofs.Truth.{and_right}
use Rattle.pl_lemmas.proofs.Numbers.{equal_numbers}
use Rattle.pl_state.specs.declared.pending.Pending.{Pending}
use Rattle.pl_events.specs.declared.event.Event.{Event}
use Rattle.pl_events.specs.declared.event.What.{What}
use Rattle.pl_events.specs.declared.event.What.TheVariants.{Begun, Answered, Kept}
use Rattle.pl_events.specs.declared.operation.Op.{Op}
use Rattle.pl_events.specs.declared.reply.Reply.{Reply}
use Rattle.pl_model.specs.declared.fixed.Fixed.{Fixed}
use Rattle.pl_model.specs.declared.work.Work.TheVariants.{Keep as to_keep, Send as to_send}
use Rattle.pl_model.specs.Run.{rows_of}
use Rattle.pl_state.specs.Formed.{most_resources}
use Rattle.pl_model.specs.Due.{added_by_op, claim_leaves, count_of, is_counted, is_due, is_due_on, is_ready, is_ready_on, passes_limit}
use Rattle.pl_model.specs.History.{known_of}
use Rattle.pl_model.specs.Legal.{IsOrderly, MayHappen}
use Rattle.pl_model.specs.Recording.{recorded_of}
use Rattle.pl_model.specs.State.{entries_now, is_cleared, opened_by, opened_of}
use Rattle.pl_model.specs.Tickets.{answers_of, begun_of}
use Rattle.pl_model_stays.proofs.Lists.Counting.{no_more}
use Rattle.pl_model_stays.proofs.Operations.Once.{not_true}
use Rattle.pl_model_ends.specs.Ends.{start_count}
use Rattle.pl_model_ends.proofs.Fulfilling.{event_of}
use Rattle.pl_model_ends.proofs.Tally.{kept_mapped, numbers_aside}
use Rattle.pl_model_ends.proofs.Weighing.{added_parts, base_else, base_many, count_as, is_base_counted, open_begun, open_else, open_many, own_begun, own_else, own_many}

-- ---- the count in parts

unfoldable pub entries_many : Fixed → List Event → ℕ
entries_many run history = length (entries_now (known_of run history))

unfoldable pub counted : Fixed → List Event → ℕ
counted run history = count_of (known_of run history)

counted-as : (run : Fixed) (history : List Event)
    → counted run history ≡ entries_many run history + (base_many run history + own_many run history) + open_many history
unfolding counted entries_many
counted-as run history = count_as run history

-- the parts together
abbrev pub parts_of : Fixed → List Event → ℕ
parts_of run history = entries_many run history + base_many run history + own_many run history + open_many history

parts-as : (run : Fixed) (history : List Event) → counted run history ≡ parts_of run history
parts-as run history = let whole = counted-as run history in omega arith

-- how the entries of a run are moved by what happens: by nothing but what records a goal or reads anew, by a keep at most
-- by one and not where a claim leaves, and by an answer no more than it takes from the other parts
pub record Moves (run : Fixed) : Type 0 where
  pub idle : (seat : ℕ) (past : List Event) (what : What) → IsOrderly run (event_of seat what ∷ past)
      → recorded_of (event_of seat what ∷ past) ≡ recorded_of past → answers_of (event_of seat what ∷ past) ≡ answers_of past
      → entries_many run (event_of seat what ∷ past) ≤ entries_many run past
  pub keep : (seat : ℕ) (past : List Event) (number : ℕ) (fresh : Option ℕ) → IsOrderly run (event_of seat (Kept number fresh) ∷ past)
      → entries_many run (event_of seat (Kept number fresh) ∷ past) ≤ entries_many run past + 1
  pub leave : (seat : ℕ) (past : List Event) (number : ℕ) (fresh : Option ℕ) → IsOrderly run (event_of seat (Kept number fresh) ∷ past)
      → claim_leaves (known_of run past) number ≡ true
      → entries_many run (event_of seat (Kept number fresh) ∷ past) ≤ entries_many run past
  pub answer : (seat : ℕ) (past : List Event) (ticket : ℕ) (said : Reply) → IsOrderly run (event_of seat (Answered ticket said) ∷ past)
      → parts_of run (event_of seat (Answered ticket said) ∷ past) ≤ parts_of run past

-- ---- the limit

-- what does not pass the limit adds nothing or stays within it
under_limit : (added count : ℕ) → (not (added == 0) && nat_lt most_resources (count + added)) ≡ false
    → (added ≡ 0) ⊎ (count + added ≤ most_resources)
under_limit added count h = by (added == 0) refl h
  where
    by : (b : Bool) → (added == 0) ≡ b → (not b && nat_lt most_resources (count + added)) ≡ false → (added ≡ 0) ⊎ (count + added ≤ most_resources)
    by true is h = inl (equal_numbers added 0 is)
    by false is h = inr (grind (arith, nat_tests))

-- a begin that is due adds nothing or stays within the limit
begun_under : (run : Fixed) (past : List Event) (about : Op) (lane : ℕ) → is_due_on (known_of run past) about lane ≡ true
    → (added_by_op about ≡ 0) ⊎ (counted run past + added_by_op about ≤ most_resources)
unfolding counted
begun_under run past about lane due =
    under_limit (added_by_op about) (count_of (known_of run past))
    (not_true (passes_limit (known_of run past) (to_send about)) (and_right (is_ready_on (known_of run past) about lane) _ due))

-- a keep that is due over no claim that leaves stays within the limit
kept_under : (run : Fixed) (past : List Event) (number : ℕ) → is_due (known_of run past) (to_keep number) ≡ true
    → claim_leaves (known_of run past) number ≡ false → counted run past + 1 ≤ most_resources
unfolding counted
kept_under run past number due stays =
    by (if claim_leaves (known_of run past) number then 0 else 1) (count_of (known_of run past))
    (under_limit (if claim_leaves (known_of run past) number then 0 else 1) (count_of (known_of run past))
    (not_true (passes_limit (known_of run past) (to_keep number)) (and_right (is_ready (known_of run past) (to_keep number)) _ due)))
    (ap (λ (b : Bool). if b then 0 else 1) stays)
  where
    by : (added count : ℕ) → (added ≡ 0) ⊎ (count + added ≤ most_resources) → added ≡ 1 → count + 1 ≤ most_resources
    by added count (inl none) one = absurd (omega arith)
    by added count (inr most) one = omega arith

module _ (run : Fixed) (moves : Moves run) where
  -- the count is no more than it was, or within the limit
  abbrev Holds : List Event → List Event → Type 0
  Holds past now = (counted run now ≤ counted run past) ⊎ (counted run now ≤ most_resources)

  -- the count changes as its parts do
  whole : (past now : List Event) (n : ℕ) → parts_of run now ≤ parts_of run past + n → counted run now ≤ counted run past + n
  whole past now n less =
      let last = parts-as run now in
      let first = parts-as run past in
      omega arith

  -- what records nothing, begins nothing and opens nothing adds nothing
  idle : (seat : ℕ) (past : List Event) (what : What) → IsOrderly run (event_of seat what ∷ past)
      → recorded_of (event_of seat what ∷ past) ≡ recorded_of past → answers_of (event_of seat what ∷ past) ≡ answers_of past
      → begun_of (event_of seat what ∷ past) ≡ begun_of past → opened_by (known_of run past) what ≡ None
      → Holds past (event_of seat what ∷ past)
  idle seat past what orderly recorded answered begun opened =
      inl (let less = whole past (event_of seat what ∷ past) 0 (
      let entries = moves.idle seat past what orderly recorded answered in
      let base = base_else run (event_of seat what) past in
      let own = own_else run seat past what opened in
      let open_ones = open_else seat past what begun in
      omega arith) in omega arith)

  module _ (seat : ℕ) (past : List Event) (ticket lane : ℕ) (about : Op) (orderly : IsOrderly run (event_of seat (Begun ticket lane about) ∷ past)) where
    begun_more : counted run (event_of seat (Begun ticket lane about) ∷ past) ≤ counted run past + added_by_op about
    begun_more =
        whole past (event_of seat (Begun ticket lane about) ∷ past) (added_by_op about) (
        let entries = moves.idle seat past (Begun ticket lane about) orderly refl refl in
        let base = base_else run (event_of seat (Begun ticket lane about)) past in
        let own = own_begun run seat past ticket lane about in
        let open_ones = open_begun seat past ticket lane about in
        let added = added_parts about in
        omega arith)

    begin : Holds past (event_of seat (Begun ticket lane about) ∷ past)
    begin = by (begun_under run past about lane orderly.1.due)
      where
        by : (added_by_op about ≡ 0) ⊎ (counted run past + added_by_op about ≤ most_resources)
            → Holds past (event_of seat (Begun ticket lane about) ∷ past)
        by (inl none) = inl (let low = begun_more in omega arith)
        by (inr within) = inr (let low = begun_more in omega arith)

  module _ (seat : ℕ) (past : List Event) (number : ℕ) (fresh : Option ℕ) (orderly : IsOrderly run (event_of seat (Kept number fresh) ∷ past)) where
    kept_by : (n : ℕ) → entries_many run (event_of seat (Kept number fresh) ∷ past) ≤ entries_many run past + n
        → counted run (event_of seat (Kept number fresh) ∷ past) ≤ counted run past + n
    kept_by n entries =
        whole past (event_of seat (Kept number fresh) ∷ past) n (
        let base = base_else run (event_of seat (Kept number fresh)) past in
        let own = own_else run seat past (Kept number fresh) refl in
        let open_ones = open_else seat past (Kept number fresh) refl in
        omega arith)

    keep : Holds past (event_of seat (Kept number fresh) ∷ past)
    keep = by (claim_leaves (known_of run past) number) refl
      where
        by : (b : Bool) → claim_leaves (known_of run past) number ≡ b → Holds past (event_of seat (Kept number fresh) ∷ past)
        by true is =
            inl (let less = kept_by 0 (let entries = moves.leave seat past number fresh orderly is in omega arith) in omega arith)
        by false is =
            inr (let less = kept_by 1 (moves.keep seat past number fresh orderly) in
            let under = kept_under run past number orderly.1.due is in omega arith)

  answered : (seat : ℕ) (past : List Event) (ticket : ℕ) (said : Reply) → IsOrderly run (event_of seat (Answered ticket said) ∷ past)
      → Holds past (event_of seat (Answered ticket said) ∷ past)
  answered seat past ticket said orderly =
      inl (let less = whole past (event_of seat (Answered ticket said) ∷ past) 0
      (let parts = moves.answer seat past ticket said orderly in omega arith) in omega arith)

  -- ---- all events

  step : (seat : ℕ) (past : List Event) (what : What) → IsOrderly run past → MayHappen (known_of run past) seat what
      → Holds past (event_of seat what ∷ past)
  step seat past (Begun ticket lane about) before may = begin seat past ticket lane about (before, may)
  step seat past (Kept number fresh) before may = keep seat past number fresh (before, may)
  step seat past (Answered ticket said) before may = answered seat past ticket said (before, may)
  step seat past what before may = idle seat past what (before, may) refl refl refl refl

  pub stays-within : (history : List Event) → counted run [] ≤ most_resources → IsOrderly run history → counted run history ≤ most_resources
  stays-within [] low orderly = low
  stays-within (event ∷ past) low orderly =
      by (step event.seat past event.what orderly.0 orderly.1) (stays-within past low orderly.0)
    where
      by : Holds past (event ∷ past) → counted run past ≤ most_resources → counted run (event ∷ past) ≤ most_resources
      by (inl less) before = omega arith
      by (inr within) before = within

-- ---- the start

start_base : (run : Fixed) → base_many run [] ≤ length (filter is_counted run.base.pending)
unfolding base_many
start_base run =
    let low = no_more (λ (one : ℕ × Pending). is_counted one.1) (is_base_counted run [])
    (λ one h. and_right (not (is_cleared (known_of run []) one.0)) (is_counted one.1) h) (enumerate_from 0 run.base.pending) in
    let mapped = kept_mapped is_counted (λ (one : ℕ × Pending). one.1) (enumerate_from 0 run.base.pending) in
    let same : length (filter is_counted (map (λ (one : ℕ × Pending). one.1) (enumerate_from 0 run.base.pending)))
    ≡ length (filter is_counted run.base.pending) =
    ap (λ (all : List Pending). length (filter is_counted all)) (numbers_aside 0 run.base.pending) in
    at_start low mapped same
  where
    at_start : {a b c d : ℕ} → a ≤ b → c ≡ b → c ≡ d → a ≤ d
    at_start low mapped same = omega arith

own_start : (run : Fixed) → own_many run [] ≡ 0
unfolding own_many opened_of
own_start run = refl

open_start : open_many [] ≡ 0
unfolding open_many
open_start = refl

-- where the entries at the start are no more than the rows, the count at the start is
pub counted-start : (run : Fixed) → entries_many run [] ≤ length (rows_of run) → counted run [] ≤ start_count run
counted-start run entries =
    let whole = parts-as run [] in
    let base = start_base run in
    let own = own_start run in
    let open_ones = open_start in
    omega arith

pub counted-is : (run : Fixed) (history : List Event) → counted run history ≡ count_of (known_of run history)
unfolding counted
counted-is run history = refl
