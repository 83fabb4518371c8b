-- What is over the limit after a history that is told.
use Rattle.std.proofs.Common.{◌≡◌, ◌∙◌, ℕ, Bool, true, false, not, ◌&&◌, ◌||◌, cond, List, [], ◌∷◌, ◌++◌, filter, find, map, reverse, Some, None, is_some, slice_get, option_and_then, refl, sym, ap, ap₂}
use Rattle.std.proofs.Math.Bool.{or-false}
use Rattle.std.proofs.lemmas.List.Folds.{list_any-append}
use Rattle.std.proofs.lemmas.Option.{none-some}
use Rattle.std.specs.List.{flat_map, list_any}
use Rattle.pl_lemmas.specs.Words.{has_none}
use Rattle.pl_lemmas.proofs.Lists.{any_mapped, any_same}
use Rattle.pl_events.specs.Lanes.{LanesTold}
use Rattle.pl_events.specs.declared.event.Event.{Event}
use Rattle.pl_events.specs.declared.operation.Op.{Op}
use Rattle.pl_events.specs.declared.operation.Op.TheVariants as op
use Rattle.pl_events.specs.declared.operation.Source.TheVariants as source
use Rattle.pl_events.specs.declared.operation.Subject.TheVariants as subject
use Rattle.pl_model.specs.Choice.{TellsLanes, can_be_taken, is_too_many}
use Rattle.pl_model.specs.Due.{all_sends, checks_of, configures_of, deletes_of, goal_numbers, has_open, imports_read, invokes_of, is_clear_ready, is_drop_ready, is_due, is_keep_ready, is_over_limit, is_post_due, is_ready_op, is_wanted_op, pending_numbers, reads_of, request_numbers, sends_of, source_of_op, works_of}
use Rattle.pl_model.specs.Known.{Known, has_problem}
use Rattle.pl_model.specs.Rows.{row_numbers}
use Rattle.pl_model.specs.declared.work.Work.{Work}
use Rattle.pl_model.specs.declared.work.Work.TheVariants as work
use Rattle.pl_model_stays.specs.Choosing.{uses_lane}
use Rattle.pl_due.specs.Now.{asked_ops, clears_of, due_now, goal_ops, goal_over, make_ops, may_now, others_of, passes_lane, passes_now, provider_ops, reading_ops, removals_of, taken_now, too_many_now}
use Rattle.pl_due.specs.Seen.{Tells, known_after, known_in}
use Rattle.pl_due.specs.declared.seen.Seen.{Seen}
use Rattle.pl_due.proofs.Folding.{any_three, any_two}
use Rattle.pl_due.proofs.Limits.{limit_told}
use Rattle.pl_due.proofs.Told.{due_is, ready_is}

-- ---- lists of which none, or some, pass

never : {X : Type 0} (p : X → Bool) → ((x : X) → p x ≡ false) → (xs : List X) → list_any p xs ≡ false
never p none [] = refl
never p none (x ∷ xs) = ap (λ (b : Bool). b || list_any p xs) (none x) ∙ never p none xs

never_mapped : {X Y : Type 0} (p : Y → Bool) (f : X → Y) → ((x : X) → p (f x) ≡ false) → (xs : List X) → list_any p (map f xs) ≡ false
never_mapped p f none xs = any_mapped p f xs ∙ never (λ x. p (f x)) none xs

-- the first list has none
none_before : {X : Type 0} (p : X → Bool) (xs ys : List X) → list_any p xs ≡ false → list_any p (xs ++ ys) ≡ list_any p ys
none_before p xs ys none = list_any-append p xs ys ∙ ap (λ (b : Bool). b || list_any p ys) none

-- neither has one
none_both : {X : Type 0} (p : X → Bool) (xs ys : List X) → list_any p xs ≡ false → list_any p ys ≡ false → list_any p (xs ++ ys) ≡ false
none_both p xs ys first second = none_before p xs ys first ∙ second

-- the second has none
none_after : {X : Type 0} (p : X → Bool) (xs ys : List X) → list_any p ys ≡ false → list_any p (xs ++ ys) ≡ list_any p xs
none_after p xs ys none = list_any-append p xs ys ∙ ap (λ (b : Bool). list_any p xs || b) none ∙ or-false (list_any p xs)

none_filtered : {X : Type 0} (p : X → Bool) (xs : List X) → has_none (filter p xs) ≡ not (list_any p xs)
none_filtered p [] = refl
none_filtered p (x ∷ xs) = by (p x) (none_filtered p xs)
  where
    by : (b : Bool) → has_none (filter p xs) ≡ not (list_any p xs) → has_none (cond b (x ∷ filter p xs) (filter p xs)) ≡ not (b || list_any p xs)
    by true rest = refl
    by false rest = rest

-- where none is found, none passes
none_found : {X : Type 0} (p : X → Bool) (xs : List X) → find p xs ≡ None → list_any p xs ≡ false
none_found p [] h = refl
none_found p (x ∷ xs) h = by (p x) h (none_found p xs)
  where
    by : (b : Bool) → cond b (Some x) (find p xs) ≡ None → (find p xs ≡ None → list_any p xs ≡ false) → (b || list_any p xs) ≡ false
    by true h rest = absurd (none-some x (sym h))
    by false h rest = rest h

gated_any : {X : Type 0} (g : Bool) (p : X → Bool) (xs : List X) → list_any (λ x. g && p x) xs ≡ (g && list_any p xs)
gated_any true p xs = refl
gated_any false p xs = never (λ x. false) (λ x. refl) xs

any_or : (p q r : ℕ → Bool) (ns : List ℕ) → list_any (λ n. p n || q n || r n) ns ≡ (list_any p ns || (list_any q ns || list_any r ns))
any_or p q r [] = refl
any_or p q r (n ∷ ns) =
    ap (λ (b : Bool). (p n || q n || r n) || b) (any_or p q r ns)
    ∙ by (p n) (q n) (r n) (list_any p ns) (list_any q ns) (list_any r ns)
  where
    by : (a b c aa bb dd : Bool) → ((a || b || c) || (aa || (bb || dd))) ≡ ((a || aa) || ((b || bb) || (c || dd)))
    by true b c aa bb dd = refl
    by false true c true bb dd = refl
    by false true c false bb dd = refl
    by false false true true bb dd = refl
    by false false true false true dd = refl
    by false false true false false dd = refl
    by false false false aa bb dd = refl

and_false : (b : Bool) → (b && false) ≡ false
and_false true = refl
and_false false = refl

module _ (seen : Seen) (history : List Event) (tells : Tells seen history) (table : LanesTold) (lanes : TellsLanes table (known_after seen history)) where
  abbrev told : Known
  told = known_after seen history

  abbrev known : Known
  known = known_in seen

  abbrev over : Work → Bool
  over = is_over_limit told

  -- ---- operations

  sends_over : (about : Op) → uses_lane about ≡ true → over (work.Send about) ≡ (not (has_problem known) && passes_lane seen table about)
  sends_over about uses =
      (λ i. ready_is seen history tells table lanes about uses i && limit_told seen history tells (work.Send about) i)
      ∙ by (not (has_problem known)) (is_wanted_op known about) (is_some (option_and_then table.free (source_of_op known about)))
      (passes_now seen (work.Send about))
    where
      by : (a b c d : Bool) → (((a && b) && c) && d) ≡ (a && ((b && c) && d))
      by true b c d = refl
      by false b c d = refl

  -- what adds nothing is not over the limit
  unlimited : (about : Op) → over (work.Send about) ≡ (is_ready_op told about && false) → over (work.Send about) ≡ false
  unlimited about is = is ∙ and_false (is_ready_op told about)

  abbrev sent : Op → Bool
  sent about = over (work.Send about)

  none_deleted : list_any sent (deletes_of known) ≡ false
  none_deleted = never_mapped sent (λ row. op.Delete (subject.Row row)) (λ row. unlimited (op.Delete (subject.Row row)) refl) (reverse (row_numbers known))

  none_configured : list_any sent (configures_of known) ≡ false
  none_configured =
      none_both sent (flat_map (λ number. op.CheckConfig (subject.Goal number) ∷ op.Configure (source.Goal number) ∷ []) (goal_numbers known))
      (map (λ row. op.Configure (source.Row row)) (reverse (row_numbers known)))
      (sym (any_two sent (λ number. op.CheckConfig (subject.Goal number)) (λ number. op.Configure (source.Goal number)) (goal_numbers known))
      ∙ none_both sent (map (λ number. op.CheckConfig (subject.Goal number)) (goal_numbers known)) (map (λ number. op.Configure (source.Goal number)) (goal_numbers known))
      (never_mapped sent (λ number. op.CheckConfig (subject.Goal number)) (λ number. unlimited (op.CheckConfig (subject.Goal number)) refl) (goal_numbers known))
      (never_mapped sent (λ number. op.Configure (source.Goal number)) (λ number. unlimited (op.Configure (source.Goal number)) refl) (goal_numbers known)))
      (never_mapped sent (λ row. op.Configure (source.Row row)) (λ row. unlimited (op.Configure (source.Row row)) refl) (reverse (row_numbers known)))

  none_checked : list_any sent (checks_of known) ≡ false
  none_checked =
      sym (any_two sent (λ number. op.Check (subject.Goal number)) (λ number. op.Diff (subject.Goal number)) (goal_numbers known))
      ∙ none_both sent (map (λ number. op.Check (subject.Goal number)) (goal_numbers known)) (map (λ number. op.Diff (subject.Goal number)) (goal_numbers known))
      (never_mapped sent (λ number. op.Check (subject.Goal number)) (λ number. unlimited (op.Check (subject.Goal number)) refl) (goal_numbers known))
      (never_mapped sent (λ number. op.Diff (subject.Goal number)) (λ number. unlimited (op.Diff (subject.Goal number)) refl) (goal_numbers known))

  none_read : list_any sent (reading_ops known) ≡ false
  none_read =
      none_both sent (reads_of known) (asked_ops known)
      (never_mapped sent (λ row. op.Read (subject.Row row)) (λ row. unlimited (op.Read (subject.Row row)) refl) (reverse (row_numbers known)))
      (none_both sent (imports_read known) (invokes_of known)
      (never_mapped sent (λ at. op.Read (subject.Pending at)) (λ at. unlimited (op.Read (subject.Pending at)) refl) (pending_numbers known))
      (never_mapped sent op.Invoke (λ n. unlimited (op.Invoke n) refl) (request_numbers known)))

  abbrev gate : Bool
  gate = not (has_problem known)

  made_over : (about : ℕ → Op) → ((n : ℕ) → uses_lane (about n) ≡ true)
      → list_any sent (map about (goal_numbers known)) ≡ (gate && list_any (λ n. passes_lane seen table (about n)) (goal_numbers known))
  made_over about uses =
      any_mapped sent about (goal_numbers known)
      ∙ any_same (λ n. sent (about n)) (λ n. gate && passes_lane seen table (about n)) (λ n. sends_over (about n) (uses n)) (goal_numbers known)
      ∙ gated_any gate (λ n. passes_lane seen table (about n)) (goal_numbers known)

  any_sent : list_any sent (all_sends known)
      ≡ ((gate && list_any (λ n. passes_lane seen table (op.Create (subject.Goal n))) (goal_numbers known))
      || (gate && list_any (λ n. passes_lane seen table (op.Read (subject.Goal n))) (goal_numbers known)))
  any_sent =
      none_before sent (deletes_of known) (provider_ops known) none_deleted
      ∙ none_before sent (configures_of known) (goal_ops known) none_configured
      ∙ none_before sent (checks_of known) (make_ops known) none_checked
      ∙ none_after sent (sends_of known) (reading_ops known) none_read
      ∙ sym (any_three sent (λ n. op.Create (subject.Goal n)) (λ n. op.Update (subject.Goal n)) (λ n. op.Read (subject.Goal n)) (goal_numbers known))
      ∙ list_any-append sent (map (λ n. op.Create (subject.Goal n)) (goal_numbers known))
      (map (λ n. op.Update (subject.Goal n)) (goal_numbers known) ++ map (λ n. op.Read (subject.Goal n)) (goal_numbers known))
      ∙ ap₂ (λ (a b : Bool). a || b)
      (made_over (λ n. op.Create (subject.Goal n)) (λ n. refl))
      (none_before sent (map (λ n. op.Update (subject.Goal n)) (goal_numbers known)) (map (λ n. op.Read (subject.Goal n)) (goal_numbers known))
      (never_mapped sent (λ n. op.Update (subject.Goal n)) (λ n. unlimited (op.Update (subject.Goal n)) refl) (goal_numbers known))
      ∙ made_over (λ n. op.Read (subject.Goal n)) (λ n. refl))

  -- ---- all work

  abbrev keeps : ℕ → Bool
  keeps n = is_keep_ready known n && passes_now seen (work.Keep n)

  kept_over : list_any over (map work.Keep (goal_numbers known)) ≡ (gate && list_any keeps (goal_numbers known))
  kept_over =
      any_mapped over work.Keep (goal_numbers known)
      ∙ any_same (λ n. over (work.Keep n)) (λ n. gate && keeps n)
      (λ n. (λ i. (gate && tells.knows.keeps i n) && limit_told seen history tells (work.Keep n) i) ∙ by gate (is_keep_ready known n) (passes_now seen (work.Keep n)))
      (goal_numbers known)
      ∙ gated_any gate keeps (goal_numbers known)
    where
      by : (a b c : Bool) → ((a && b) && c) ≡ (a && (b && c))
      by true b c = refl
      by false b c = refl

  any_over : list_any over (works_of known) ≡ (gate && list_any (goal_over seen table) (goal_numbers known))
  any_over =
      none_before over (map work.Post (request_numbers known)) (others_of known)
      (never_mapped over work.Post (λ n. and_false (is_post_due told n)) (request_numbers known))
      ∙ list_any-append over (map work.Keep (goal_numbers known)) (clears_of known)
      ∙ ap₂ (λ (a b : Bool). a || b) kept_over
      (none_before over (map work.Clear (pending_numbers known)) (removals_of known)
      (never_mapped over work.Clear (λ at. and_false (not (has_problem told) && is_clear_ready told at)) (pending_numbers known))
      ∙ none_before over (map work.Drop (reverse (row_numbers known))) (map work.Send (all_sends known))
      (never_mapped over work.Drop (λ row. and_false (not (has_problem told) && is_drop_ready told row)) (reverse (row_numbers known)))
      ∙ any_mapped over work.Send (all_sends known)
      ∙ any_sent)
      ∙ by gate (list_any keeps (goal_numbers known)) (list_any (λ n. passes_lane seen table (op.Create (subject.Goal n))) (goal_numbers known))
      (list_any (λ n. passes_lane seen table (op.Read (subject.Goal n))) (goal_numbers known))
      ∙ ap (λ (b : Bool). gate && b)
      (sym (any_or keeps (λ n. passes_lane seen table (op.Create (subject.Goal n))) (λ n. passes_lane seen table (op.Read (subject.Goal n))) (goal_numbers known)))
    where
      by : (g a b c : Bool) → ((g && a) || ((g && b) || (g && c))) ≡ (g && (a || (b || c)))
      by true a b c = refl
      by false a b c = refl

  -- ---- nothing else is due

  abbrev takes : Work → Bool
  takes one = can_be_taken table.half_home one && (may_now known one && due_now seen table one)

  due_posts : list_any (is_due told) (map work.Post (request_numbers known)) ≡ list_any (is_post_due known) seen.requests.now
  due_posts =
      any_mapped (is_due told) work.Post (request_numbers known)
      ∙ any_same (λ n. is_due told (work.Post n)) (is_post_due known) (λ n. due_is seen history tells table lanes (work.Post n)) (request_numbers known)
      ∙ ap (λ (numbers : List ℕ). list_any (is_post_due known) numbers) (sym seen.are_requests)

  -- all but posts can be taken up
  due_others : (works : List Work) → list_any takes (map work.Post (request_numbers known) ++ works) ≡ false
      → list_any takes works ≡ false
  due_others works none =
      by (list_any takes (map work.Post (request_numbers known))) (sym (list_any-append takes (map work.Post (request_numbers known)) works) ∙ none)
    where
      by : (b : Bool) → (b || list_any takes works) ≡ false → list_any takes works ≡ false
      by true h = absurd (let e : true ≡ false = h in cc)
      by false h = h

  same_mapped : {X : Type 0} (f : X → Work) → ((x : X) → can_be_taken table.half_home (f x) ≡ true) → (xs : List X)
      → list_any (is_due told) (map f xs) ≡ list_any takes (map f xs)
  same_mapped f free xs =
      any_mapped (is_due told) f xs
      ∙ any_same (λ x. is_due told (f x)) (λ x. takes (f x))
      (λ x. due_is seen history tells table lanes (f x) ∙ ap (λ (b : Bool). b && (may_now known (f x) && due_now seen table (f x))) (sym (free x))) xs
      ∙ sym (any_mapped takes f xs)

  same_both : (xs ys : List Work) → list_any (is_due told) xs ≡ list_any takes xs → list_any (is_due told) ys ≡ list_any takes ys
      → list_any (is_due told) (xs ++ ys) ≡ list_any takes (xs ++ ys)
  same_both xs ys first second =
      list_any-append (is_due told) xs ys ∙ ap₂ (λ (a b : Bool). a || b) first second ∙ sym (list_any-append takes xs ys)

  same_others : list_any (is_due told) (others_of known) ≡ list_any takes (others_of known)
  same_others =
      same_both (map work.Keep (goal_numbers known)) (clears_of known) (same_mapped work.Keep (λ n. refl) (goal_numbers known))
      (same_both (map work.Clear (pending_numbers known)) (removals_of known) (same_mapped work.Clear (λ at. refl) (pending_numbers known))
      (same_both (map work.Drop (reverse (row_numbers known))) (map work.Send (all_sends known))
      (same_mapped work.Drop (λ row. refl) (reverse (row_numbers known))) (same_mapped work.Send (λ about. refl) (all_sends known))))

  any_due : taken_now seen table ≡ None → list_any (is_due told) (works_of known) ≡ list_any (is_post_due known) seen.requests.now
  any_due none =
      none_after (is_due told) (map work.Post (request_numbers known)) (others_of known)
      (same_others ∙ due_others (others_of known) (none_found takes (works_of known) none))
      ∙ due_posts

  open_same : has_open told ≡ has_open known
  open_same = λ i. is_some (slice_get (tells.reads.out i) 0)

  pub too_many_is : taken_now seen table ≡ None → is_too_many told ≡ too_many_now seen table
  too_many_is none =
      (λ i. none_filtered (is_due told) (works_of known) i && not (open_same i) && not (none_filtered over (works_of known) i))
      ∙ (λ i. not (any_due none i) && not (has_open known) && not (not (any_over i)))
      ∙ by (not (list_any (is_post_due known) seen.requests.now) && not (has_open known)) gate (list_any (goal_over seen table) (goal_numbers known))
    where
      by : (a b c : Bool) → (a && not (not (b && c))) ≡ ((a && b) && c)
      by true true true = refl
      by true true false = refl
      by true false c = refl
      by false b c = refl
