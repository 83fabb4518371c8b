-- What a run that reads everything anew imports: of each pending creation one entry, so that no two have one URN.
use Rattle.std.proofs.Common.{◌≡◌, ◌≢◌, ℕ, ◌+◌, ◌≤◌, ◌==◌, Bool, true, false, not, ◌||◌, if◌then◌else◌, List, [], ◌∷◌, filter, find, length, option_and_then, option_map, reverse, slice_get, Option, Some, None, refl, sym, ◌∙◌, ap, subst, inl, inr, ◌⊎◌, arith}
use Rattle.std.proofs.lemmas.Bool.Decides.{nat_tests}
use Rattle.std.proofs.lemmas.Slice.Eq.{bytes_eq-Decides}
use Rattle.std.specs.List.{cons_option, enumerate_from, filter_map, list_any}
use Rattle.std.specs.Str.{bytes_eq}
use Rattle.std.proofs.Math.Bool.{or-true}
use Rattle.std.proofs.lemmas.Option.{same_Some}
use Rattle.pl_lemmas.proofs.Truth.{and_left, and_right}
use Rattle.pl_lemmas.proofs.Options.{mapped_some, then_some, row_is}
use Rattle.pl_lemmas.proofs.Numbers.{equal_numbers}
use Rattle.pl_lemmas.proofs.Each.{Each, Pairwise, IsAmong, each_weaker, each_reverse}
use Rattle.pl_state.specs.declared.entry.Entry.{Entry}
use Rattle.pl_state.specs.declared.pending.Pending.{Pending}
use Rattle.pl_events.specs.declared.event.Event.{Event}
use Rattle.pl_events.specs.declared.event.What.{What}
use Rattle.pl_events.specs.declared.event.What.TheVariants.{Begun, Answered}
use Rattle.pl_events.specs.declared.operation.Op.{Op}
use Rattle.pl_events.specs.declared.operation.Op.TheVariants as op
use Rattle.pl_events.specs.declared.operation.Subject.TheVariants as subject
use Rattle.pl_events.specs.declared.reply.Reply.{Reply}
use Rattle.pl_events.specs.declared.reply.Reply.TheVariants as reply
use Rattle.pl_model.specs.declared.errand.Closed.{Closed}
use Rattle.pl_model.specs.declared.errand.Errand.{Errand}
use Rattle.pl_model.specs.declared.fixed.Fixed.{Fixed}
use Rattle.pl_model.specs.declared.work.Work.TheVariants.{Send as to_send}
use Rattle.pl_model.specs.Run.{imports_of, is_refresh}
use Rattle.pl_lemmas.specs.Words.{is_row}
use Rattle.pl_model.specs.Due.{is_due_on, is_imported, is_ready_on, passes_limit}
use Rattle.pl_model.specs.History.{known_of}
use Rattle.pl_model.specs.Known.{Known}
use Rattle.pl_model.specs.Legal.{IsOrderly, MayHappen}
use Rattle.pl_model.specs.Problems.{creates_urn, is_creating, pending_create}
use Rattle.pl_model.specs.Rows.{pending_at}
use Rattle.pl_model.specs.State.{found_by, imported_by, imported_entries, pending_read}
use Rattle.pl_model.specs.Tickets.{answers_of, begun_of, closes, errand_at, errand_of, is_closed, same_op}
use Rattle.pl_model_stays.proofs.Lists.Among.{any_found, find_among}
use Rattle.pl_model_stays.proofs.Goals.Claiming.{found_at}
use Rattle.pl_model_stays.proofs.Lists.Growing.{run_of}
use Rattle.pl_model_stays.proofs.Operations.Once.{begun_at_most_once, history_of, unclosed}
use Rattle.pl_model_stays.proofs.Lists.Pairs.{pairs-mapped, pairs-reverse, pairs-with}
use Rattle.pl_model_stays.proofs.Goals.Recorded.{asked_on}
use Rattle.pl_model_stays.proofs.Goals.Standing.{answers_as, closed_with}
use Rattle.pl_model_stays.proofs.Goals.Staying.{same_op_self}
use Rattle.pl_model_laws.specs.Apart.{AreApart}

-- ---- lists

-- one that passes is left by a filter
some_left : {X : Type 0} (test : X → Bool) (xs : List X) (x : X) → IsAmong x xs → test x ≡ true → 1 ≤ length (filter test xs)
some_left test [] x there h = absurd there
some_left {X = X} test (y ∷ ys) x there h = by (test y) refl there (some_left test ys x)
  where
    by : (b : Bool) → test y ≡ b → (x ≡ y) ⊎ IsAmong x ys → (IsAmong x ys → test x ≡ true → 1 ≤ length (filter test ys))
        → 1 ≤ length (filter test (y ∷ ys))
    by true is there rest = rw is (omega arith)
    by false is (inl same) rest =
        absurd (let e : true ≡ false = sym h ∙ ap (λ (z : X). test z) same ∙ is in cc)
    by false is (inr there) rest = rw is (rest there h)

-- where at most one passes, two that do are the same
one_passes : {X : Type 0} (test : X → Bool) (xs : List X) (x y : X) → length (filter test xs) ≤ 1
    → IsAmong x xs → IsAmong y xs → test x ≡ true → test y ≡ true → x ≡ y
one_passes test [] x y few there also h k = absurd there
one_passes {X = X} test (z ∷ zs) x y few there also h k = by there also (test z) refl (one_passes test zs x y)
  where
    passes : (one other : X) → one ≡ z → test one ≡ true → IsAmong other zs → test other ≡ true → ⊥
    passes one other same is later too =
        let here : test z ≡ true = ap (λ (it : X). test it) (sym same) ∙ is in
        let left : 1 ≤ length (filter test zs) = some_left test zs other later too in
        let counted : length (z ∷ filter test zs) ≤ 1 =
        subst (λ (b : Bool). length (if b then z ∷ filter test zs else filter test zs) ≤ 1) here few in
        omega arith

    by : (x ≡ z) ⊎ IsAmong x zs → (y ≡ z) ⊎ IsAmong y zs → (b : Bool) → test z ≡ b
        → (length (filter test zs) ≤ 1 → IsAmong x zs → IsAmong y zs → test x ≡ true → test y ≡ true → x ≡ y) → x ≡ y
    by (inl same) (inl too) b is rest = same ∙ sym too
    by (inl same) (inr later) b is rest = absurd (passes x y same h later k)
    by (inr later) (inl same) b is rest = absurd (passes y x same k later h)
    by (inr one) (inr other) true is rest =
        let counted : length (z ∷ filter test zs) ≤ 1 =
        subst (λ (b : Bool). length (if b then z ∷ filter test zs else filter test zs) ≤ 1) is few in
        rest (omega arith) one other h k
    by (inr one) (inr other) false is rest =
        rest (subst (λ (b : Bool). length (if b then z ∷ filter test zs else filter test zs) ≤ 1) is few) one other h k

-- one of a list is among it with one more
among_more : {X : Type 0} (o : Option X) (xs : List X) (x : X) → IsAmong x xs → IsAmong x (cons_option o xs)
among_more None xs x there = there
among_more (Some y) xs x there = inr there

-- ---- pending operations

-- what reads a pending operation
pub read_of : (about : Op) (at : ℕ) → pending_read about ≡ Some at → about ≡ op.Read (subject.Pending at)
read_of (op.Read (subject.Pending n)) at h = ap (λ (k : ℕ). op.Read (subject.Pending k)) (same_Some n at h)
read_of _ at h = absurd (let e : None ≡ Some at = h in cc)

-- a pending operation that the command names by the first creation of a URN
abbrev pub IsNamedImport : Fixed → ℕ → Type 0
IsNamedImport run at = list_any (λ (pair : List ℕ × List ℕ). is_row (pending_create run pair.1) at) (imports_of run.mode) ≡ true

-- it is the first creation of its own URN
first_creation : (run : Fixed) (at : ℕ) (pending : Pending) → IsNamedImport run at → slice_get run.base.pending at ≡ Some pending
    → pending_create run pending.entry.urn ≡ Some at
first_creation run at pending named stands =
    let pair = any_found (λ (one : List ℕ × List ℕ). is_row (pending_create run one.1) at) (imports_of run.mode) named in
    let urn : List ℕ = pair.0.1 in
    let created : pending_create run urn ≡ Some at = row_is (pending_create run urn) at pair.2 in
    let found = mapped_some (λ (one : ℕ × Pending). one.0) (find (λ (one : ℕ × Pending). creates_urn urn one.1) (enumerate_from 0 run.base.pending)) at created in
    let place = found_at (λ (one : ℕ × Pending). creates_urn urn one.1) 0 run.base.pending found.0 found.1 in
    let k : ℕ = place.0 in
    let there : found.0.0 ≡ 0 + k = place.2 in
    let own : found.0.0 ≡ at = found.2 in
    let same : k ≡ at = omega arith in
    let entry : found.0.1 ≡ pending =
    same_Some found.0.1 pending (sym place.3 ∙ ap (λ (n : ℕ). slice_get run.base.pending n) same ∙ stands) in
    let test : bytes_eq found.0.1.entry.urn urn ≡ true = and_right (is_creating found.0.1.kind) _ place.1 in
    let urns : found.0.1.entry.urn ≡ urn = (bytes_eq-Decides found.0.1.entry.urn urn).0 test in
    ap (λ (name : List ℕ). pending_create run name) (sym (ap (λ (one : Pending). one.entry.urn) entry) ∙ urns) ∙ created

-- ---- what was begun and answered

-- an operation that was begun, under a ticket that is closed
pub record IsShut (history : List Event) (about : Op) : Type 0 where
  pub errand : Errand
  pub begun : IsAmong errand (begun_of history)
  pub does : errand.op ≡ about
  pub shut : is_closed history errand.ticket ≡ true

-- it stays so
shut_more : (event : Event) (past : List Event) (about : Op) → IsShut past about → IsShut (event ∷ past) about
shut_more event past about it = record {
  errand = it.errand;
  begun = among_more (errand_of event) (begun_of past) it.errand it.begun;
  does = it.does;
  shut = ap (λ (b : Bool). closes it.errand.ticket event.what || b) it.shut ∙ or-true (closes it.errand.ticket event.what);
}

-- what was shut before is so
still_shut : (seat : ℕ) (past : List Event) (what : What) → Each (λ (closed : Closed). IsShut past closed.op) (answers_of past)
    → Each (λ (closed : Closed). IsShut (record { seat = seat; what = what } ∷ past) closed.op) (answers_of past)
still_shut seat past what before =
    each_weaker (λ (closed : Closed). IsShut past closed.op)
    (λ (closed : Closed). IsShut (record { seat = seat; what = what } ∷ past) closed.op)
    (λ closed it. shut_more (record { seat = seat; what = what }) past closed.op it) (answers_of past) before

-- an answer shuts the ticket that it is given to
shut_step : (seat : ℕ) (past : List Event) (what : What) → Each (λ (closed : Closed). IsShut past closed.op) (answers_of past)
    → Each (λ (closed : Closed). IsShut (record { seat = seat; what = what } ∷ past) closed.op)
    (answers_of (record { seat = seat; what = what } ∷ past))
shut_step seat past (Answered ticket said) before = by (errand_at past ticket) refl
  where
    by : (o : Option Errand) → errand_at past ticket ≡ o
        → Each (λ (closed : Closed). IsShut (record { seat = seat; what = Answered ticket said } ∷ past) closed.op)
        (cons_option (option_map (closed_with said) (option_map (λ (errand : Errand). errand.op) o)) (answers_of past))
    by None is = still_shut seat past (Answered ticket said) before
    by (Some errand) is =
        let there = find_among (λ (one : Errand). one.ticket == ticket) (begun_of past) errand is in
        let same : errand.ticket ≡ ticket = equal_numbers errand.ticket ticket there.1 in
        let here : (ticket == errand.ticket) ≡ true = grind (arith, nat_tests) in (
          record {
            errand = errand;
            begun = there.0;
            does = refl;
            shut = ap (λ (b : Bool). b || is_closed past errand.ticket) here;
          },
          still_shut seat past (Answered ticket said) before,
        )
shut_step seat past what before = still_shut seat past what before

-- what was answered was begun, under a ticket that is closed
pub each_shut : (history : List Event) → Each (λ (closed : Closed). IsShut history closed.op) (answers_of history)
each_shut [] = tt
each_shut (event ∷ past) = shut_step event.seat past event.what (each_shut past)

-- two answers do not read one pending operation
abbrev pub ReadApart : Closed → Closed → Type 0
ReadApart one other = (first second : ℕ) → pending_read one.op ≡ Some first → pending_read other.op ≡ Some second → first ≢ second

-- an entry keeps the URN of the pending operation that it was found by
found_urn : (entry row : Entry) (o : Option Reply) → found_by entry o ≡ Some row → row.urn ≡ entry.urn
found_urn entry row (Some (reply.Found id inputs outputs)) h = sym (ap (λ (one : Entry). one.urn) (same_Some _ row h))
found_urn entry row _ h = absurd (let e : None ≡ Some row = h in cc)

-- what an answer imports
record Imports (known : Known) (about : Op) (row : Entry) : Type 0 where
  pub at : ℕ
  pub reads : pending_read about ≡ Some at
  pub pending : Pending
  pub stands : pending_at known at ≡ Some pending
  pub urn : row.urn ≡ pending.entry.urn

-- it is of a pending operation that the answer read
imports_of_answer : (known : Known) (closed : Closed) (row : Entry) → imported_by known closed ≡ Some row → Imports known closed.op row
imports_of_answer known closed row h =
    let number = then_some (λ at. option_and_then (λ (pending : Pending). found_by pending.entry (Some closed.reply)) (pending_at known at))
    (pending_read closed.op) row h in
    let pending = then_some (λ (one : Pending). found_by one.entry (Some closed.reply)) (pending_at known number.0) row number.2 in
    record {
      at = number.0;
      reads = number.1;
      pending = pending.0;
      stands = pending.1;
      urn = found_urn pending.0.entry row (Some closed.reply) pending.2;
    }

module _ (run : Fixed) where
  -- a reading that is due is of a pending operation that an import closes
  named_ready : (known : Known) (at lane : ℕ) → is_due_on known (op.Read (subject.Pending at)) lane ≡ true → is_imported known at ≡ true
  named_ready known at lane h =
      and_right (is_refresh known.run.mode) (is_imported known at)
      (asked_on known at (op.Read (subject.Pending at)) lane
      (and_left (is_ready_on known (op.Read (subject.Pending at)) lane) (not (passes_limit known (to_send (op.Read (subject.Pending at))))) h))

  named_step : (seat : ℕ) (past : List Event) (what : What) (errand : Errand) (at : ℕ) → MayHappen (known_of run past) seat what
      → errand.op ≡ op.Read (subject.Pending at) → (IsAmong errand (begun_of past) → IsNamedImport run at)
      → IsAmong errand (begun_of (record { seat = seat; what = what } ∷ past)) → IsNamedImport run at
  named_step seat past (Begun ticket lane about) errand at may does rest (inl same) =
      let reads : about ≡ op.Read (subject.Pending at) = ap (λ (one : Errand). one.op) (sym same) ∙ does in
      let due : is_due_on (known_of run past) (op.Read (subject.Pending at)) lane ≡ true =
      subst (λ (it : Op). is_due_on (known_of run past) it lane ≡ true) reads may.due in
      subst (λ (fixed : Fixed). IsNamedImport fixed at) (run_of run past) (named_ready (known_of run past) at lane due)
  named_step seat past (Begun ticket lane about) errand at may does rest (inr there) = rest there
  named_step seat past _ errand at may does rest there = rest there

  -- a pending operation that is read is one that an import closes
  pub begun_named : (history : List Event) (errand : Errand) (at : ℕ) → IsOrderly run history → errand.op ≡ op.Read (subject.Pending at)
      → IsAmong errand (begun_of history) → IsNamedImport run at
  begun_named [] errand at orderly does there = absurd there
  begun_named (event ∷ past) errand at orderly does there =
      named_step event.seat past event.what errand at orderly.1 does (begun_named past errand at orderly.0 does) there

  -- a reading that is begun once is not answered again
  pub unread : (seat : ℕ) (past : List Event) (ticket : ℕ) (said : Reply) (errand : Errand) → IsOrderly run past
      → MayHappen (known_of run past) seat (Answered ticket said) → errand_at past ticket ≡ Some errand
      → (closed : Closed) → IsShut past closed.op → ReadApart (record { op = errand.op; reply = said }) closed
  unread seat past ticket said errand orderly may is closed shut first second reads also same =
      let about : Op = op.Read (subject.Pending first) in
      let there = find_among (λ (one : Errand). one.ticket == ticket) (begun_of past) errand is in
      let mine : errand.op ≡ about = read_of errand.op first reads in
      let its : shut.errand.op ≡ about =
      shut.does ∙ read_of closed.op second also ∙ ap (λ (n : ℕ). op.Read (subject.Pending n)) (sym same) in
      let passes : (one : Errand) → one.op ≡ about → same_op one.op about ≡ true =
      λ one does. ap (λ (it : Op). same_op it about) does ∙ same_op_self about in
      let one : errand ≡ shut.errand =
      one_passes (λ (it : Errand). same_op it.op about) (begun_of past) errand shut.errand
      (begun_at_most_once run about refl past orderly) there.0 shut.begun (passes errand mine) (passes shut.errand its) in
      let number : shut.errand.ticket ≡ ticket =
      ap (λ (it : Errand). it.ticket) (sym one) ∙ equal_numbers errand.ticket ticket there.1 in
      absurd (let e : true ≡ false = sym shut.shut ∙ ap (λ (n : ℕ). is_closed past n) number ∙ unclosed run seat ticket past may.closes in cc)

  -- one event more
  apart_step : (seat : ℕ) (past : List Event) (what : What) → IsOrderly run past → MayHappen (known_of run past) seat what
      → Pairwise ReadApart (answers_of past) → Pairwise ReadApart (answers_of (record { seat = seat; what = what } ∷ past))
  apart_step seat past (Answered ticket said) orderly may before = by (errand_at past ticket) refl
    where
      by : (o : Option Errand) → errand_at past ticket ≡ o
          → Pairwise ReadApart (cons_option (option_map (closed_with said) (option_map (λ (errand : Errand). errand.op) o)) (answers_of past))
      by None is = before
      by (Some errand) is = (
        each_weaker (λ (closed : Closed). IsShut past closed.op) (ReadApart (record { op = errand.op; reply = said }))
            (λ closed shut. unread seat past ticket said errand orderly may is closed shut) (answers_of past) (each_shut past),
        before,
      )
  apart_step seat past _ orderly may before = before

  -- no two answers read one pending operation
  answers_apart : (history : List Event) → IsOrderly run history → Pairwise ReadApart (answers_of history)
  answers_apart [] orderly = tt
  answers_apart (event ∷ past) orderly = apart_step event.seat past event.what orderly.0 orderly.1 (answers_apart past orderly.0)

  module _ (history : List Event) (orderly : IsOrderly run history) where
    abbrev known : Known
    known = known_of run history

    abbrev ReadsNamed : Closed → Type 0
    ReadsNamed closed = (at : ℕ) → pending_read closed.op ≡ Some at → IsNamedImport run at

    -- each answered reading is of such a pending operation
    answers_named : Each ReadsNamed (answers_of history)
    answers_named = each_weaker (λ (closed : Closed). IsShut history closed.op) ReadsNamed
        (λ closed shut at reads. begun_named history shut.errand at orderly (shut.does ∙ read_of closed.op at reads) shut.begun)
        (answers_of history) (each_shut history)

    -- what an answer imports is of the first creation of its URN
    first_of : (about : Op) (row : Entry) (it : Imports known about row) → IsNamedImport run it.at
        → pending_create run row.urn ≡ Some it.at
    first_of about row it named =
        ap (λ (urn : List ℕ). pending_create run urn) it.urn
        ∙ first_creation run it.at it.pending named
        (sym (ap (λ (fixed : Fixed). slice_get fixed.base.pending it.at) (run_of run history)) ∙ it.stands)

    -- so two answers import entries of different URNs
    import_apart : (one other : Closed) → ReadsNamed one → ReadsNamed other → ReadApart one other
        → (y z : Entry) → imported_by known one ≡ Some y → imported_by known other ≡ Some z → AreApart y z
    import_apart one other named also apart y z is too = λ stays remains same.
        let a = imports_of_answer known one y is in
        let b = imports_of_answer known other z too in
        let first = first_of one.op y a (named a.at a.reads) in
        let second = first_of other.op z b (also b.at b.reads) in
        apart a.at b.at a.reads b.reads
        (same_Some a.at b.at (sym first ∙ ap (λ (urn : List ℕ). pending_create run urn) same ∙ second))

    -- the answers are those of the history
    answered_so : known.answers ≡ answers_of history
    answered_so = answers_as run history ∙ ap (λ (events : List Event). answers_of events) (history_of run history)

    -- no two imported entries have one URN
    pub imported-apart : Pairwise AreApart (imported_entries known)
    imported-apart =
        subst (λ (answers : List Closed). Pairwise AreApart (filter_map (imported_by known) (reverse answers))) (sym answered_so)
        (pairs-mapped (imported_by known) AreApart (reverse (answers_of history))
        (pairs-with ReadApart (λ one other. (y z : Entry) → imported_by known one ≡ Some y → imported_by known other ≡ Some z → AreApart y z)
        ReadsNamed (λ one other named also apart. import_apart one other named also apart) (reverse (answers_of history))
        (each_reverse ReadsNamed (answers_of history) answers_named)
        (pairs-reverse ReadApart (λ one other apart second first also reads same. apart first second reads also (sym same))
        (answers_of history) (answers_apart history orderly))))
