-- What is due after a history that is told.
use Rattle.std.proofs.Common.{◌≡◌, ℕ, zero, suc, ◌+◌, ◌==◌, nat_lt, Bool, true, false, not, ◌&&◌, ◌||◌, cond, List, [], ◌∷◌, filter, find, length, Option, Some, None, is_some, is_none, refl, sym, ◌∙◌, ap, subst, option_and_then, option_map, arith}
use Rattle.std.proofs.Math.Bool.{and-true, or-false, or-true}
use Rattle.std.specs.List.{list_any, range_with_len}
use Rattle.pl_lemmas.specs.Words.{only_if, some_passes}
use Rattle.pl_lemmas.proofs.Lists.{any_same}
use Rattle.pl_lemmas.proofs.Numbers.{range_has, same_number}
use Rattle.pl_state.specs.Chain.{last_provider, provider_row_of}
use Rattle.pl_events.specs.Lanes.{LanesTold}
use Rattle.pl_events.specs.declared.event.Event.{Event}
use Rattle.pl_events.specs.declared.operation.Op.{Op}
use Rattle.pl_events.specs.declared.operation.Op.TheVariants as op
use Rattle.pl_events.specs.declared.operation.Source.{Source}
use Rattle.pl_events.specs.declared.operation.Source.TheVariants as source
use Rattle.pl_events.specs.declared.operation.Subject.{Subject}
use Rattle.pl_events.specs.declared.operation.Subject.TheVariants as subject
use Rattle.pl_columns.specs.Read.{history_by}
use Rattle.pl_model.specs.Choice.{TellsLanes}
use Rattle.pl_model.specs.Claims.{claimer_of}
use Rattle.pl_model.specs.Decisions.{checked_in}
use Rattle.pl_model.specs.Due.{is_checked_lane, is_clear_ready, is_drop_ready, is_due, is_keep_ready, is_lane_of, is_post_due, is_ready_on, is_ready_op, is_wanted_op, may_configure, operations_of, source_of_op, source_of_subject, wants_lane}
use Rattle.pl_model.specs.Known.{Known, has_problem}
use Rattle.pl_model.specs.Rows.{pending_at, recorded_claimer, source_by, source_of_provider}
use Rattle.pl_model.specs.Run.{rows_of}
use Rattle.pl_model.specs.Tickets.{is_coming, is_free, is_lost, is_out, is_source, lane_count, lane_free, lane_source, lanes_from, reply_to, source_begun, was_begun}
use Rattle.pl_model.specs.declared.errand.Errand.{Errand}
use Rattle.pl_model.specs.declared.work.Work.{Work}
use Rattle.pl_model.specs.declared.work.Work.TheVariants.{Clear as to_clear, Drop as to_drop, Keep as to_keep, Post as to_post, Send as to_send}
use Rattle.pl_model_stays.specs.Choosing.{uses_lane}
use Rattle.pl_model_stays.proofs.Operations.Lanes.{next_unused}
use Rattle.pl_due.specs.Now.{DueTold, checked_there, due_now, is_work_of, may_now, passes_now, sends_now, uses_now, wants_for}
use Rattle.pl_due.specs.Seen.{Tells, known_after, known_in}
use Rattle.pl_due.specs.declared.seen.Seen.{Seen}
use Rattle.pl_due.proofs.Limits.{limit_told}

-- ---- tests that stand beside each other

beside_three : (a b c d : Bool) → (((a && b) && c) && d) ≡ (a && ((b && c) && d))
beside_three true b c d = refl
beside_three false b c d = refl

beside_two : (a b c : Bool) → ((a && b) && c) ≡ (a && (b && c))
beside_two true b c = refl
beside_two false b c = refl

none_pass : (ns : List ℕ) → list_any (λ n. false) ns ≡ false
none_pass [] = refl
none_pass (n ∷ ns) = none_pass ns

found_any : (p : ℕ → Bool) (ns : List ℕ) → list_any p ns ≡ is_some (find p ns)
found_any p [] = refl
found_any p (n ∷ ns) = by (p n) (found_any p ns)
  where
    by : (b : Bool) → list_any p ns ≡ is_some (find p ns) → (b || list_any p ns) ≡ is_some (cond b (Some n) (find p ns))
    by true rest = refl
    by false rest = rest

-- what is found behind a filter passes both tests
found_behind : (p q : ℕ → Bool) (xs : List ℕ) → find p (filter q xs) ≡ find (λ x. q x && p x) xs
found_behind p q [] = refl
found_behind p q (x ∷ xs) = by (q x) (found_behind p q xs)
  where
    by : (b : Bool) → find p (filter q xs) ≡ find (λ y. q y && p y) xs
        → find p (cond b (x ∷ filter q xs) (filter q xs)) ≡ cond (b && p x) (Some x) (find (λ y. q y && p y) xs)
    by true rest = ap (λ (o : Option ℕ). cond (p x) (Some x) o) rest
    by false rest = rest

any_beside : (g : Bool) (q : ℕ → Bool) (xs : List ℕ) → list_any (λ x. g && q x) xs ≡ (g && list_any q xs)
any_beside true q xs = refl
any_beside false q xs = none_pass xs

-- ---- the lanes there are, and the next one

-- the next one alone passes
at_end : (g : Bool) (n : ℕ) → list_any (λ lane. g && (lane == n)) (range_with_len 0 (n + 1)) ≡ g
at_end true n = range_has (λ lane. lane == n) 0 (n + 1) n (omega arith) (omega arith) (same_number n)
at_end false n = none_pass (range_with_len 0 (n + 1))

-- the last of a range says nothing where it does not pass
any_but_last : (p : ℕ → Bool) (a n : ℕ) → p (a + n) ≡ false → list_any p (range_with_len a (suc n)) ≡ list_any p (range_with_len a n)
any_but_last p a zero h =
    ap (λ (b : Bool). b || false) (subst (λ (k : ℕ). p k ≡ false) (let e : a + 0 ≡ a = omega arith in e) h)
any_but_last p a (suc n) h =
    ap (λ (b : Bool). p a || b)
    (any_but_last p (a + 1) n (subst (λ (k : ℕ). p k ≡ false) (let e : a + suc n ≡ a + 1 + n = omega arith in e) h))

module _ (checked : ℕ → Bool) (n : ℕ) (next : checked n ≡ false) where
  -- one that was checked, or else the next one
  checked_or_next : (wants : Bool)
      → list_any (λ lane. checked lane || (wants && (lane == n))) (range_with_len 0 (n + 1))
      ≡ (is_some (find checked (range_with_len 0 n)) || wants)
  checked_or_next true =
      range_has (λ lane. checked lane || (lane == n)) 0 (n + 1) n (omega arith) (omega arith)
      (ap (λ (b : Bool). b || (n == n)) next ∙ same_number n)
      ∙ sym (or-true (is_some (find checked (range_with_len 0 n))))
  checked_or_next false =
      any_same (λ lane. checked lane || false) checked (λ lane. or-false (checked lane)) (range_with_len 0 (n + 1))
      ∙ ap (λ (count : ℕ). list_any checked (range_with_len 0 count)) (let e : n + 1 ≡ suc n = omega arith in e)
      ∙ any_but_last checked 0 n (subst (λ (k : ℕ). checked k ≡ false) (let e : n ≡ 0 + n = omega arith in e) next)
      ∙ found_any checked (range_with_len 0 n)
      ∙ sym (or-false (is_some (find checked (range_with_len 0 n))))

  pub ready_there : (g wants : Bool)
      → list_any (λ lane. g && (checked lane || (wants && (lane == n)))) (range_with_len 0 (n + 1))
      ≡ (g && (is_some (find checked (range_with_len 0 n)) || wants))
  ready_there true wants = checked_or_next wants
  ready_there false wants = none_pass (range_with_len 0 (n + 1))

-- no inputs were checked on the next lane
pub next_unchecked : (known : Known) (provider : Source) → is_checked_lane known provider (lane_count known.history) ≡ false
next_unchecked known (source.Row row) = refl
next_unchecked known (source.Goal number) =
    ap (λ (o : Option Errand). some_passes (may_configure known) (checked_in (reply_to known.answers (op.CheckConfig (subject.Goal number))))
    && is_source (option_and_then (λ (errand : Errand). source_begun errand.op) o) (source.Goal number)
    && not (was_begun known.history (op.Configure (source.Goal number)))
    && not (is_out known.history (lane_count known.history)) && not (is_lost known.history (lane_count known.history)))
    (next_unused known.history)
    ∙ by (some_passes (may_configure known) (checked_in (reply_to known.answers (op.CheckConfig (subject.Goal number)))))
  where
    by : (a : Bool) → ((((a && false) && not (was_begun known.history (op.Configure (source.Goal number))))
        && not (is_out known.history (lane_count known.history))) && not (is_lost known.history (lane_count known.history))) ≡ false
    by true = refl
    by false = refl

-- it is of no provider
next_for_none : (known : Known) (about : Op) → is_lane_of known about (lane_count known.history) ≡ false
next_for_none known about = by (source_of_op known about)
  where
    by : (o : Option Source)
        → (some_passes (λ wanted. is_source (lane_source known.history (lane_count known.history)) wanted) o
        && is_free known.history (lane_count known.history)) ≡ false
    by None = refl
    by (Some wanted) =
        ap (λ (o : Option Errand). is_source (option_and_then (λ (errand : Errand). source_begun errand.op) o) wanted
        && is_free known.history (lane_count known.history)) (next_unused known.history)

-- an operation that uses a lane is ready on the free lanes of its provider
uses_ready : (known : Known) (about : Op) (lane : ℕ) → uses_lane about ≡ true
    → is_ready_on known about lane ≡ ((not (has_problem known) && is_wanted_op known about) && is_lane_of known about lane)
uses_ready known (op.CheckConfig on) lane h = absurd (let e : false ≡ true = h in cc)
uses_ready known (op.Configure provider) lane h = absurd (let e : false ≡ true = h in cc)
uses_ready known _ lane h = refl

module _ (seen : Seen) (history : List Event) (tells : Tells seen history) where
  abbrev told : Known
  told = known_after seen history

  abbrev known : Known
  known = known_in seen

  -- ---- sources and lanes

  claimers : recorded_claimer told ≡ recorded_claimer known
  claimers = λ i row. option_and_then (λ goal. only_if (tells.knows.recorded i goal) (Some goal)) (claimer_of known.decided row)

  providers : source_of_provider told ≡ source_of_provider known
  providers = λ i row. source_by row (claimers i row)

  of_subject : (about : Subject) → source_of_subject told about ≡ source_of_subject known about
  of_subject (subject.Goal number) = refl
  of_subject (subject.Row row) = λ i. option_map (providers i) (provider_row_of (rows_of known.run) row)
  of_subject (subject.Pending at) = λ i.
      option_map (providers i)
      (option_and_then (λ pending. last_provider pending.entry.provider (rows_of known.run)) (pending_at known at))

  pub source_told : (about : Op) → source_of_op told about ≡ source_of_op known about
  source_told (op.CheckConfig (subject.Goal number)) = refl
  source_told (op.CheckConfig _) = refl
  source_told (op.Configure provider) = refl
  source_told (op.Check about) = of_subject about
  source_told (op.Diff about) = of_subject about
  source_told (op.Create about) = of_subject about
  source_told (op.Update about) = of_subject about
  source_told (op.Delete about) = of_subject about
  source_told (op.Read about) = of_subject about
  source_told (op.Invoke n) = refl

  outs : is_out history ≡ is_out (history_by seen.columns.now)
  outs = λ i lane. list_any (λ errand. errand.lane == lane) (tells.reads.out i)

  pub checked_told : (provider : Source) (lane : ℕ) → is_checked_lane told provider lane ≡ is_checked_lane known provider lane
  checked_told (source.Goal number) lane = λ i.
      some_passes (may_configure known) (checked_in (reply_to known.answers (op.CheckConfig (subject.Goal number))))
      && is_source (tells.sources i lane) (source.Goal number)
      && not (tells.reads.begun i (op.Configure (source.Goal number)))
      && not (outs i lane) && not (tells.lost i lane)
  checked_told (source.Row row) lane = refl

  pub wants_told : (provider : Source) → wants_lane told provider ≡ wants_for seen (operations_of known) provider
  wants_told provider =
      (λ i. list_any (λ about. is_source (source_told about i) provider && tells.knows.wanted i about
      && not (limit_told seen history tells (to_send about) i)) (operations_of known)
      && is_none (tells.reads.first_free i provider)
      && not (list_any (tells.reads.coming i) (tells.reads.lanes i provider))
      && nat_lt (length (tells.reads.lanes i provider)) known.run.parallel)
      ∙ beside_three (list_any (is_work_of seen provider) (operations_of known)) (is_none (lane_free known.history provider))
      (not (list_any (is_coming known.history) (lanes_from known.history provider)))
      (nat_lt (length (lanes_from known.history provider)) known.run.parallel)

  -- ---- what is due

  module _ (table : LanesTold) (lanes : TellsLanes table told) where
    -- a provider has a free lane where the table has one
    free_there : (o : Option Source)
        → list_any (λ lane. some_passes (λ wanted. is_source (lane_source history lane) wanted) o && is_free history lane)
        (range_with_len 0 (lane_count history)) ≡ is_some (option_and_then table.free o)
    free_there None = none_pass (range_with_len 0 (lane_count history))
    free_there (Some wanted) =
        found_any (λ lane. is_source (lane_source history lane) wanted && is_free history lane) (range_with_len 0 (lane_count history))
        ∙ ap (λ (o : Option ℕ). is_some o)
        (sym (found_behind (is_free history) (λ lane. is_source (lane_source history lane) wanted) (range_with_len 0 (lane_count history)))
        ∙ sym (lanes.free wanted))

    -- an operation that uses a lane is ready where it is wanted and the table has a lane for it
    pub ready_is : (about : Op) → uses_lane about ≡ true
        → is_ready_op told about ≡ ((not (has_problem known) && is_wanted_op known about) && is_some (option_and_then table.free (source_of_op known about)))
    ready_is about uses =
        any_same (is_ready_on told about) (λ lane. (not (has_problem told) && is_wanted_op told about) && is_lane_of told about lane)
        (λ lane. uses_ready told about lane uses) (range_with_len 0 (lane_count history + 1))
        ∙ any_beside (not (has_problem told) && is_wanted_op told about) (is_lane_of told about) (range_with_len 0 (lane_count history + 1))
        ∙ ap (λ (b : Bool). (not (has_problem told) && is_wanted_op told about) && b)
        (ap (λ (n : ℕ). list_any (is_lane_of told about) (range_with_len 0 n)) (let e : lane_count history + 1 ≡ suc (lane_count history) = omega arith in e)
        ∙ any_but_last (is_lane_of told about) 0 (lane_count history)
        (subst (λ (n : ℕ). is_lane_of told about n ≡ false) (let e : lane_count history ≡ 0 + lane_count history = omega arith in e) (next_for_none told about))
        ∙ free_there (source_of_op told about))
        ∙ (λ i. (not (has_problem known) && tells.knows.wanted i about) && is_some (option_and_then table.free (source_told about i)))

    using : (about : Op) → uses_lane about ≡ true → is_due told (to_send about) ≡ (not (has_problem known) && uses_now seen table about)
    using about uses =
        (λ i. ready_is about uses i && not (limit_told seen history tells (to_send about) i))
        ∙ beside_three (not (has_problem known)) (is_wanted_op known about)
        (is_some (option_and_then table.free (source_of_op known about))) (not (passes_now seen (to_send about)))

    checking : (about : Subject) → is_due told (to_send (op.CheckConfig about)) ≡ (not (has_problem known) && is_wanted_op known (op.CheckConfig about))
    checking about =
        and-true (is_ready_op told (op.CheckConfig about))
        ∙ at_end (not (has_problem told) && is_wanted_op told (op.CheckConfig about)) (lane_count history)
        ∙ (λ i. not (has_problem known) && tells.knows.wanted i (op.CheckConfig about))

    configuring : (provider : Source) → is_due told (to_send (op.Configure provider))
        ≡ (not (has_problem known) && (is_some (checked_there known provider) || wants_for seen (operations_of known) provider))
    configuring provider =
        and-true (is_ready_op told (op.Configure provider))
        ∙ ready_there (is_checked_lane told provider) (lane_count history) (next_unchecked told provider) (not (has_problem told)) (wants_lane told provider)
        ∙ (λ i. not (has_problem known)
        && (is_some (find (λ lane. checked_told provider lane i) (range_with_len 0 (tells.reads.count i))) || wants_told provider i))

    sending : (about : Op) → is_due told (to_send about) ≡ (not (has_problem known) && sends_now seen table about)
    sending (op.CheckConfig about) = checking about
    sending (op.Configure provider) = configuring provider
    sending (op.Check about) = using (op.Check about) refl
    sending (op.Diff about) = using (op.Diff about) refl
    sending (op.Create about) = using (op.Create about) refl
    sending (op.Update about) = using (op.Update about) refl
    sending (op.Delete about) = using (op.Delete about) refl
    sending (op.Read about) = using (op.Read about) refl
    sending (op.Invoke n) = using (op.Invoke n) refl

    pub due_is : (work : Work) → is_due told work ≡ (may_now known work && due_now seen table work)
    due_is (to_post n) = (λ i. tells.knows.posts i n && true) ∙ and-true (is_post_due known n)
    due_is (to_keep number) =
        (λ i. (not (has_problem known) && tells.knows.keeps i number) && not (limit_told seen history tells (to_keep number) i))
        ∙ beside_two (not (has_problem known)) (is_keep_ready known number) (not (passes_now seen (to_keep number)))
    due_is (to_clear at) =
        (λ i. (not (has_problem known) && tells.knows.clears i at) && true)
        ∙ and-true (not (has_problem known) && is_clear_ready known at)
    due_is (to_drop row) =
        (λ i. (not (has_problem known) && tells.knows.drops i row) && true)
        ∙ and-true (not (has_problem known) && is_drop_ready known row)
    due_is (to_send about) = sending about

pub due_told : DueTold
due_told seen history table tells lanes work = due_is seen history tells table lanes work
