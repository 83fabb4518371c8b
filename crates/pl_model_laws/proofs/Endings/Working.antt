-- Where nothing is due or over the limit, no work is ready.
use Rattle.std.proofs.Common.{◌≡◌, ℕ, zero, suc, ◌+◌, ◌<◌, ◌≤◌, Bool, true, false, not, ◌&&◌, ◌||◌, cond, List, ◌∷◌, ◌++◌, filter, length, map, reverse, refl, sym, ap, subst, inl, inr, ◌⊎◌, arith, eq-or-lt_of_le, []}
use Rattle.std.proofs.lemmas.List.{reverse-reverse}
use Rattle.std.specs.List.{flat_map, list_any, range_with_len}
use Rattle.pl_lemmas.proofs.Numbers.{same_number}
use Rattle.pl_lemmas.proofs.Each.{Each, each_append, each_reverse}
use Rattle.pl_events.specs.declared.operation.Op.{Op}
use Rattle.pl_events.specs.declared.operation.Op.TheVariants as op
use Rattle.pl_events.specs.declared.operation.Source.TheVariants as source
use Rattle.pl_events.specs.declared.operation.Subject.TheVariants as subject
use Rattle.pl_model.specs.Run.{rows_of}
use Rattle.pl_model.specs.Tickets.{lane_count, same_op}
use Rattle.pl_model.specs.declared.work.Work.{Work}
use Rattle.pl_model.specs.declared.work.Work.TheVariants.{Clear as to_clear, Drop as to_drop, Keep as to_keep, Post as to_post, Send as to_send}
use Rattle.pl_model.specs.Due.{IsQuiet, all_sends, checks_of, configures_of, deletes_of, goal_numbers, imports_read, invokes_of, is_drop_ready, is_due, is_keep_ready, is_next_lane, is_over_limit, is_ready, is_ready_on, is_ready_op, is_wanted_op, operations_of, passes_limit, pending_numbers, reads_of, request_numbers, sends_of, works_of}
use Rattle.pl_model.specs.Known.{Known, has_problem}
use Rattle.pl_model.specs.Rows.{row_numbers}
use Rattle.pl_model_stays.proofs.Operations.Once.{equal_ops, both, never_both}
use Rattle.pl_model_stays.proofs.Lists.Pairs.{each_front, each_back, each_unmap, each_unflat}
use Rattle.pl_model_stays.proofs.Operations.Lanes.{lane-unready}

-- ---- tests

-- a test that passes neither with another one nor without it
either_not : (a b : Bool) → (a && not b) ≡ false → (a && b) ≡ false → a ≡ false
either_not false b h k = refl
either_not true true h k = absurd (let e : true ≡ false = k in cc)
either_not true false h k = absurd (let e : true ≡ false = h in cc)

-- what fails together with one that fails not
second_fails : (a b : Bool) → a ≡ false → (not a && b) ≡ false → b ≡ false
second_fails false b is h = h
second_fails true b is h = absurd (let e : true ≡ false = is in cc)

-- ---- lists

-- each of a list that has two properties has one that both give
pub each-both : {X : Type 0} (P Q R : X → Type 0) → ((x : X) → P x → Q x → R x) → (xs : List X) → Each P xs → Each Q xs → Each R xs
each-both P Q R f [] h k = tt
each-both P Q R f (x ∷ xs) h k = (f x h.0 k.0, each-both P Q R f xs h.1 k.1)

-- what a filter leaves nothing of does not pass
none_left : {X : Type 0} (test : X → Bool) (xs : List X) → filter test xs ≡ [] → Each (λ x. test x ≡ false) xs
none_left test [] h = tt
none_left {X = X} test (x ∷ xs) h = by (test x) refl h (none_left test xs)
  where
    by : (b : Bool) → test x ≡ b → cond b (x ∷ filter test xs) (filter test xs) ≡ []
        → (filter test xs ≡ [] → Each (λ y. test y ≡ false) xs) → Each (λ y. test y ≡ false) (x ∷ xs)
    by true is h rest = absurd (let e : x ∷ filter test xs ≡ [] = h in cc)
    by false is h rest = (is, rest h)

-- what each of a list has in reverse, it has
pub each_unreverse : {X : Type 0} (P : X → Type 0) (xs : List X) → Each P (reverse xs) → Each P xs
each_unreverse {X = X} P xs h =
    subst (λ (ys : List X). Each P ys) (reverse-reverse xs) (each_reverse P (reverse xs) h)

-- what each number of a range has
pub each_range : (P : ℕ → Type 0) (a n k : ℕ) → Each P (range_with_len a n) → a ≤ k → k < a + n → P k
each_range P a zero k h low high = absurd (omega arith)
each_range P a (suc n) k h low high = by (eq-or-lt_of_le low) (λ later. each_range P (a + 1) n k h.1 (omega arith) (omega arith))
  where
    by : (a ≡ k) ⊎ (a < k) → (a < k → P k) → P k
    by (inl same) rest = subst P same h.0
    by (inr later) rest = rest later

-- what each operation of a list has, one that is among them has
pub each_named : (P : Op → Type 0) (about : Op) (list : List Op) → Each P list → list_any (same_op about) list ≡ true → P about
each_named P about [] h named = absurd (let e : false ≡ true = named in cc)
each_named P about (first ∷ list) h named = by (same_op about first) refl named (each_named P about list h.1)
  where
    by : (b : Bool) → same_op about first ≡ b → (b || list_any (same_op about) list) ≡ true
        → (list_any (same_op about) list ≡ true → P about) → P about
    by true is named rest = subst P (sym (equal_ops about first is)) h.0
    by false is named rest = rest named

-- ---- works

module _ (known : Known) (quiet : IsQuiet known) where
  abbrev Unready : Work → Type 0
  Unready work = is_ready known work ≡ false

  -- no work is ready
  pub none-ready : Each Unready (works_of known)
  none-ready =
      each-both (λ work. is_due known work ≡ false) (λ work. is_over_limit known work ≡ false) Unready
      (λ work due over. either_not (is_ready known work) (passes_limit known work) due over) (works_of known)
      (none_left (is_due known) (works_of known) quiet.nothing_due)
      (none_left (is_over_limit known) (works_of known) quiet.nothing_over)

  after_posts : Each Unready (map to_keep (goal_numbers known) ++ (map to_clear (pending_numbers known)
      ++ (map to_drop (reverse (row_numbers known)) ++ map to_send (all_sends known))))
  after_posts = each_back Unready (map to_post (request_numbers known)) _ none-ready

  after_clears : Each Unready (map to_drop (reverse (row_numbers known)) ++ map to_send (all_sends known))
  after_clears =
      each_back Unready (map to_clear (pending_numbers known)) _ (each_back Unready (map to_keep (goal_numbers known)) _ after_posts)

  -- no keep is
  pub no-keep : has_problem known ≡ false → (number : ℕ) → is_keep_ready known number ≡ true → number < length known.goals → ⊥
  no-keep calm number ready low =
      let unready : (not (has_problem known) && is_keep_ready known number) ≡ false =
      each_range (λ n. Unready (to_keep n)) 0 (length known.goals) number
      (each_unmap to_keep Unready (goal_numbers known) (each_front Unready (map to_keep (goal_numbers known)) _ after_posts))
      (omega arith) (omega arith) in
      never_both (is_keep_ready known number) ready (second_fails (has_problem known) (is_keep_ready known number) calm unready)

  -- no drop is
  pub no-drop : has_problem known ≡ false → (row : ℕ) → is_drop_ready known row ≡ true → row < length (rows_of known.run) → ⊥
  no-drop calm row ready low =
      let unready : (not (has_problem known) && is_drop_ready known row) ≡ false =
      each_range (λ n. Unready (to_drop n)) 0 (length (rows_of known.run)) row
      (each_unreverse (λ n. Unready (to_drop n)) (row_numbers known)
      (each_unmap to_drop Unready (reverse (row_numbers known)) (each_front Unready (map to_drop (reverse (row_numbers known))) _ after_clears)))
      (omega arith) (omega arith) in
      never_both (is_drop_ready known row) ready (second_fails (has_problem known) (is_drop_ready known row) calm unready)

  abbrev Unsent : Op → Type 0
  Unsent about = is_ready_op known about ≡ false

  -- no operation is
  pub none-sent : Each Unsent (all_sends known)
  none-sent = each_unmap to_send Unready (all_sends known) (each_back Unready (map to_drop (reverse (row_numbers known))) _ after_clears)

  after_deletes : Each Unsent (configures_of known ++ (checks_of known ++ (sends_of known
      ++ (reads_of known ++ (imports_read known ++ invokes_of known)))))
  after_deletes = each_back Unsent (deletes_of known) _ none-sent

  -- none of those that are sent to a lane which is there
  pub no-operation : (about : Op) → list_any (same_op about) (operations_of known) ≡ true → is_ready_op known about ≡ false
  no-operation about among =
      each_named Unsent about (operations_of known)
      (each_append Unsent (deletes_of known) _ (each_front Unsent (deletes_of known) _ none-sent)
      (each_back Unsent (configures_of known) _ after_deletes))
      among

  configured_each : Each Unsent (configures_of known)
  configured_each = each_front Unsent (configures_of known) _ after_deletes

  abbrev Unconfigured : ℕ → Type 0
  Unconfigured number =
      Each Unsent (op.CheckConfig (subject.Goal number) ∷ op.Configure (source.Goal number) ∷ [])

  configured_goal : (number : ℕ) → number < length known.goals → Unconfigured number
  configured_goal number low =
      each_range Unconfigured 0 (length known.goals) number
      (each_unflat (λ number. op.CheckConfig (subject.Goal number) ∷ op.Configure (source.Goal number) ∷ []) Unsent (goal_numbers known)
      (each_front Unsent _ (map (λ row. op.Configure (source.Row row)) (reverse (row_numbers known))) configured_each))
      (omega arith) (omega arith)

  -- no check of a provider's inputs
  pub no-check-config : (number : ℕ) → number < length known.goals → is_ready_op known (op.CheckConfig (subject.Goal number)) ≡ false
  no-check-config number low = (configured_goal number low).0

  -- no configuration of a lane of a goal
  pub no-configure : (number : ℕ) → number < length known.goals → is_ready_op known (op.Configure (source.Goal number)) ≡ false
  no-configure number low = (configured_goal number low).1.0

  -- nor of a row
  pub no-configure-row : (row : ℕ) → row < length (rows_of known.run) → is_ready_op known (op.Configure (source.Row row)) ≡ false
  no-configure-row row low =
      each_range (λ n. Unsent (op.Configure (source.Row n))) 0 (length (rows_of known.run)) row
      (each_unreverse (λ n. Unsent (op.Configure (source.Row n))) (row_numbers known)
      (each_unmap (λ row. op.Configure (source.Row row)) Unsent (reverse (row_numbers known))
      (each_back Unsent (flat_map (λ number. op.CheckConfig (subject.Goal number) ∷ op.Configure (source.Goal number) ∷ []) (goal_numbers known)) _
      configured_each)))
      (omega arith) (omega arith)

-- the check of a provider's inputs is never waited for
pub config-serves : (known : Known) → IsQuiet known → has_problem known ≡ false → (number : ℕ)
    → is_wanted_op known (op.CheckConfig (subject.Goal number)) ≡ true → number < length known.goals → ⊥
config-serves known quiet calm number wanted low =
    let next : is_next_lane known (lane_count known.history) ≡ true = same_number (lane_count known.history) in
    let ready : is_ready_on known (op.CheckConfig (subject.Goal number)) (lane_count known.history) ≡ true =
    both (not (has_problem known) && is_wanted_op known (op.CheckConfig (subject.Goal number))) _
    (both (not (has_problem known)) _ (ap (λ (b : Bool). not b) calm) wanted) next in
    never_both _ ready (lane-unready known (op.CheckConfig (subject.Goal number)) (lane_count known.history)
    (no-check-config known quiet number low) (omega arith))
