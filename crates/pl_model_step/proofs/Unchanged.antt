-- Which problems an event makes: where it decides nothing only its own, and what is left only where the run is over
-- by it.
use Rattle.std.proofs.Common.{◌≡◌, ℕ, zero, suc, ◌+◌, ◌-◌, ◌≤◌, Bool, true, false, not, ◌&&◌, ◌||◌, if◌then◌else◌, is_none, List, [], ◌++◌, length, reverse, take, None, refl, sym, ◌∙◌, ap, subst, arith}
use Rattle.std.proofs.Math.Nat.{sub_self}
use Rattle.std.proofs.lemmas.List.{append-nil}
use Rattle.std.specs.List.{filter_map, list_all, range_with_len}
use Rattle.pl_lemmas.specs.Words.{first_in, has_number, option_list}
use Rattle.pl_state.specs.declared.goal.Goal.{Goal}
use Rattle.pl_events.specs.declared.event.What.{What}
use Rattle.pl_model.specs.declared.fixed.Fixed.{Fixed}
use Rattle.pl_model.specs.Run.{has_host}
use Rattle.pl_model.specs.Recording.{recorded_of}
use Rattle.pl_model.specs.Known.{Known, all_recorded, has_problem, host_ended, is_over, is_recorded}
use Rattle.pl_model.specs.Problems.{end_problems, ends_well, made_problems, missing_provider, newly_decided, own_problem, problems_at, refusal_in, request_problem}
use Rattle.pl_model.specs.Step.{Summary, known_in, plain_history}
use Rattle.pl_model_step.proofs.Plain.{plain_host, plain_recorded}
use Rattle.pl_model_step.proofs.Settling.{Added, longer}

module _ (run : Fixed) (before later : Summary) where
  abbrev first : Known
  first = known_in run before

  abbrev second : Known
  second = known_in run later

  -- ---- an event that decides nothing

  none_new : later.decided ≡ before.decided → newly_decided first second ≡ []
  none_new same =
      (λ i. reverse (take (length (same i) - length before.decided) (same i)))
      ∙ ap (λ (n : ℕ). reverse (take n before.decided)) (sub_self (length before.decided))

  pub only_own : (what : What) → later.decided ≡ before.decided → request_problem first what ≡ None
      → made_problems first second what ≡ option_list (own_problem first what)
  only_own what same none =
      (λ i. option_list (none i) ++ (filter_map (λ one. refusal_in one.decision) (none_new same i)
      ++ (option_list (own_problem first what) ++ filter_map (missing_provider second) (none_new same i))))
      ∙ append-nil (option_list (own_problem first what))

  -- ---- an event by which the run is not over

  newly : (a b c d : Bool) → (a ≡ true → b ≡ true) → (a && not b && c && d) ≡ false
  newly false b c d h = refl
  newly true b c d h = rw (h refl) refl

  not_over : (what : What) → (is_over second ≡ true → is_over first ≡ true) → ends_well first second what ≡ false
  not_over what h = newly (is_over second) (is_over first) (not (has_problem first)) (is_none (first_in (made_problems first second what))) h

  pub only_made : (what : What) → (is_over second ≡ true → is_over first ≡ true)
      → problems_at first second what ≡ made_problems first second what
  only_made what h =
      (λ i. made_problems first second what ++ (if not_over what h i then end_problems second else []))
      ∙ append-nil (made_problems first second what)

  -- ---- which events these are

  ended_same : later.host_gone ≡ before.host_gone → host_ended second ≡ host_ended first
  ended_same same = λ i. not (has_host run.mode) || (plain_host later ∙ same ∙ sym (plain_host before)) i

  recorded_same : later.recorded ≡ before.recorded → all_recorded second
      ≡ list_all (λ goal. has_number (recorded_of (plain_history before)) goal) (range_with_len 0 (length later.goals))
  recorded_same same = λ i.
      list_all (λ goal. has_number ((plain_recorded later ∙ same ∙ sym (plain_recorded before)) i) goal) (range_with_len 0 (length later.goals))

  both_true : (a b : Bool) (c d : Bool) → a ≡ c → (b ≡ true → d ≡ true) → (a && b) ≡ true → (c && d) ≡ true
  both_true true b c d same h e = rw (sym same, h e) refl
  both_true false b c d same h e = absurd (let no : false ≡ true = e in cc)

  fewer : (test : ℕ → Bool) (n m a : ℕ) → n ≤ m → list_all test (range_with_len a m) ≡ true → list_all test (range_with_len a n) ≡ true
  fewer test zero m a h e = refl
  fewer test (suc n) zero a h e = absurd (omega arith)
  fewer test (suc n) (suc m) a h e =
      both_true (test a) (list_all test (range_with_len (a + 1) m)) (test a) (list_all test (range_with_len (a + 1) n)) refl
      (fewer test n m (a + 1) (omega arith)) e

  -- nothing is recorded, and goals are at most added
  pub stays_over : later.host_gone ≡ before.host_gone → later.recorded ≡ before.recorded → Added before.goals later.goals
      → is_over second ≡ true → is_over first ≡ true
  stays_over host recorded added e =
      both_true (host_ended second) (all_recorded second) (host_ended first) (all_recorded first) (ended_same host) all e
    where
      more : length before.goals ≤ length later.goals
      more = subst (λ (goals : List Goal). length before.goals ≤ length goals) (sym added.1) (longer added.0 before.goals)

      all : all_recorded second ≡ true → all_recorded first ≡ true
      all e = fewer (is_recorded first) (length before.goals) (length later.goals) 0 more (sym (recorded_same recorded) ∙ e)
