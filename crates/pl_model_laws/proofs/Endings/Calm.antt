-- Where no problem stands, no event made one.
use Rattle.std.proofs.Common.{◌≡◌, ℕ, ◌==◌, ◌-◌, ◌+◌, ◌≤◌, ◌<◌, zero, suc, Bool, true, false, not, if◌then◌else◌, List, ◌∷◌, ◌++◌, length, take, reverse, filter_map, Option, Some, None, refl, sym, ◌∙◌, ap, subst, ◌⊎◌, inl, inr, arith, eq-or-lt_of_le, []}
use Rattle.std.proofs.Math.Seq.{take-append_seam}
use Rattle.std.proofs.lemmas.Bool.Decides.{nat_tests}
use Rattle.std.proofs.lemmas.List.{reverse-reverse}
use Rattle.std.specs.List.{cons_option, range_with_len}
use Rattle.std.specs.Option.{option_or}
use Rattle.std.proofs.lemmas.Option.{same_Some}
use Rattle.pl_lemmas.proofs.Lists.{append_none, map_none}
use Rattle.pl_lemmas.proofs.Each.{Each, each_reverse}
use Rattle.pl_events.specs.declared.event.Event.{Event}
use Rattle.pl_events.specs.declared.event.What.{What}
use Rattle.pl_decide.specs.declared.problem.Problem.{Problem}
use Rattle.pl_lemmas.specs.Words.{first_some, numbered, option_list}
use Rattle.pl_model.specs.declared.decided.Decided.{Decided}
use Rattle.pl_model.specs.declared.fixed.Fixed.{Fixed}
use Rattle.pl_model.specs.History.{asked_after, goals_after, known_of}
use Rattle.pl_model.specs.Known.{Known, decided_goal, has_problem, known_by}
use Rattle.pl_model.specs.Problems.{at_position, decision_problems, end_problems, ends_well, made_problems, newly_decided, own_problem, problems_at, provider_problems, request_problem}
use Rattle.pl_model_stays.proofs.Lists.Growing.{Grown, length_added, numbered_below, decided-grown}

-- ---- lists that are empty

-- where nothing is found for any of a list, nothing is found for each
filter_none : {X Y : Type 0} (found : X → Option Y) (xs : List X) → filter_map found xs ≡ [] → Each (λ x. found x ≡ None) xs
filter_none found [] h = tt
filter_none {X = X} {Y = Y} found (x ∷ xs) h = by (found x) refl h (filter_none found xs)
  where
    by : (o : Option Y) → found x ≡ o → cons_option o (filter_map found xs) ≡ []
        → (filter_map found xs ≡ [] → Each (λ (it : X). found it ≡ None) xs) → Each (λ (it : X). found it ≡ None) (x ∷ xs)
    by None is h rest = (is, rest h)
    by (Some y) is h rest =
        let none : List Y = [] in
        let e : y ∷ filter_map found xs ≡ none = h in
        absurd cc

-- so too where no first thing is found
pub first_none : {X Y : Type 0} (found : X → Option Y) (xs : List X) → first_some found xs ≡ None → Each (λ x. found x ≡ None) xs
first_none found [] h = tt
first_none {X = X} {Y = Y} found (x ∷ xs) h = by (found x) refl h (first_none found xs)
  where
    by : (o : Option Y) → found x ≡ o → option_or o (first_some found xs) ≡ None
        → (first_some found xs ≡ None → Each (λ (it : X). found it ≡ None) xs) → Each (λ (it : X). found it ≡ None) (x ∷ xs)
    by None is h rest = (is, rest h)
    by (Some y) is h rest =
        let none : Option Y = None in
        let e : Some y ≡ none = h in
        absurd cc

-- what each number of a range has, a number within it has
pub range_each : (P : ℕ → Type 0) (a n k : ℕ) → a ≤ k → k < a + n → Each P (range_with_len a n) → P k
range_each P a zero k low high each = absurd (omega arith)
range_each P a (suc n) k low high each =
    by (eq-or-lt_of_le low) each.0 (λ later. range_each P (a + 1) n k (omega arith) (omega arith) each.1)
  where
    by : (a ≡ k) ⊎ (a < k) → P a → (a < k → P k) → P k
    by (inl same) here rest = subst P same here
    by (inr later) here rest = rest later

-- ---- what stands before others in a list

-- as many as were added are those that were added
added_taken : {X : Type 0} (added older : List X) → take (length (added ++ older) - length older) (added ++ older) ≡ added
added_taken {X = X} added older =
    let all : length (added ++ older) ≡ length added + length older = length_added added older in
    let count : length (added ++ older) - length older ≡ length added = omega arith in
    ap (λ (n : ℕ). take n (added ++ older)) count ∙ take-append_seam added older

-- one whose number is none of the older ones' is among the added ones
numbered_among : {X : Type 0} (P : X → Type 0) (added older : List X) (n : ℕ) (x : X) → Each P added
    → numbered (added ++ older) n ≡ Some x → length older ≤ n → P x
numbered_among P [] older n x each h low = absurd (let below : n < length older = numbered_below older n x h in omega arith)
numbered_among {X = X} P (y ∷ added) older n x each h low =
    by (length (added ++ older) == n) h (λ later. numbered_among P added older n x each.1 later low)
  where
    by : (b : Bool) → (if b then Some y else numbered (added ++ older) n) ≡ Some x
        → (numbered (added ++ older) n ≡ Some x → P x) → P x
    by true h rest = subst P (same_Some y x h) each.0
    by false h rest = rest h

module _ {X : Type 0} (P : X → Type 0) where
  -- what each of the newest has, one that is none of the older ones has
  newly_added : (added older : List X) (n : ℕ) (x : X)
      → Each P (reverse (take (length (added ++ older) - length older) (added ++ older)))
      → length older ≤ n → numbered (added ++ older) n ≡ Some x → P x
  newly_added added older n x each low h =
      numbered_among P added older n x
      (subst (λ (xs : List X). Each P xs) (added_taken added older)
      (subst (λ (xs : List X). Each P xs) (reverse-reverse (take (length (added ++ older) - length older) (added ++ older)))
      (each_reverse P (reverse (take (length (added ++ older) - length older) (added ++ older))) each)))
      h low

  -- what each of the new ones has, one of a new number has
  newly_all : (older all : List X) (n : ℕ) (x : X) → Grown older all → Each P (reverse (take (length all - length older) all))
      → length older ≤ n → numbered all n ≡ Some x → P x
  newly_all older all n x grown =
      subst (λ (xs : List X). Each P (reverse (take (length xs - length older) xs)) → length older ≤ n → numbered xs n ≡ Some x → P x)
      (sym grown.1) (newly_added grown.0 older n x)

-- ---- what a history has decided

-- before any event nothing is decided
pub none-decided : (run : Fixed) (n : ℕ) (one : Decided) → decided_goal (known_of run []) n ≡ Some one → ⊥
unfolding known_of
none-decided run n one h = let none : Option Decided = None in let e : none ≡ Some one = h in cc

-- where nothing is found for what an event decided, nothing is found for one that it decided
pub newly-none : {Y : Type 0} (found : Decided → Option Y) (run : Fixed) (event : Event) (past : List Event) (n : ℕ) (one : Decided)
    → filter_map found (newly_decided (known_of run past) (known_of run (event ∷ past))) ≡ []
    → length (known_of run past).decided ≤ n → decided_goal (known_of run (event ∷ past)) n ≡ Some one → found one ≡ None
newly-none found run event past n one none =
    newly_all (λ (it : Decided). found it ≡ None) (known_of run past).decided (known_of run (event ∷ past)).decided n one
    (decided-grown run event past)
    (filter_none found (newly_decided (known_of run past) (known_of run (event ∷ past))) none)

-- ---- problems

-- no problem stands where there is none
pub no_problems : (known : Known) → has_problem known ≡ false → known.problems ≡ []
no_problems known h = by known.problems h
  where
    by : (xs : List (ℕ × Problem)) → not (length xs == 0) ≡ false → xs ≡ []
    by [] h = refl
    by (x ∷ xs) h =
        let some : (length (x ∷ xs) == 0) ≡ false = grind (arith, nat_tests) in
        absurd (let e : true ≡ false = sym (ap (λ (b : Bool). not b) some) ∙ h in cc)

-- the problems that stand are of no account for those that an event makes
problems_apart : (before after : Known) (what : What) (placed : List (ℕ × Problem))
    → problems_at before (record after { problems = placed }) what ≡ problems_at before after what
problems_apart before after what placed = refl

-- an event adds its problems
pub problems_grow : (run : Fixed) (event : Event) (past : List Event)
    → (known_of run (event ∷ past)).problems
    ≡ (known_of run past).problems
    ++ at_position (length (known_of run past).history) (problems_at (known_of run past) (known_of run (event ∷ past)) event.what)
unfolding known_of
problems_grow run event past =
    let before : Known = known_of run past in
    let after : Known = known_by before.run (event ∷ before.history) (goals_after before event.what) (asked_after before event.what) before.problems in
    let placed : List (ℕ × Problem) = before.problems ++ at_position (length before.history) (problems_at before after event.what) in
    ap (λ (troubles : List Problem). before.problems ++ at_position (length before.history) troubles)
    (sym (problems_apart before after event.what placed))

-- ---- an event after which no problem stands

module _ (run : Fixed) (event : Event) (past : List Event) (calm : has_problem (known_of run (event ∷ past)) ≡ false) where
  abbrev before : Known
  before = known_of run past

  abbrev after : Known
  after = known_of run (event ∷ past)

  -- none stands of those before, nor of the event's
  parts : (before.problems ≡ []) × (at_position (length before.history) (problems_at before after event.what) ≡ [])
  parts =
      append_none before.problems (at_position (length before.history) (problems_at before after event.what))
      (sym (problems_grow run event past) ∙ no_problems after calm)

  -- none stood before
  pub calm-before : has_problem before ≡ false
  calm-before = ap (λ (placed : List (ℕ × Problem)). not (length placed == 0)) parts.0

  -- the event made none
  pub no-problem : problems_at before after event.what ≡ []
  no-problem = map_none (λ (trouble : Problem). (length before.history, trouble)) (problems_at before after event.what) parts.1

  -- none that does not wait for the run's end
  pub no-made : made_problems before after event.what ≡ []
  no-made = (append_none (made_problems before after event.what) _ no-problem).0

  -- none by the run's end
  pub no-end : (if ends_well before after event.what then end_problems after else []) ≡ []
  no-end = (append_none (made_problems before after event.what) _ no-problem).1

  -- none behind those of a request
  behind_request : decision_problems before after ++ (option_list (own_problem before event.what) ++ provider_problems before after) ≡ []
  behind_request = (append_none (option_list (request_problem before event.what)) _ no-made).1

  -- none by a refusal
  pub no-decision : decision_problems before after ≡ []
  no-decision = (append_none (decision_problems before after) _ behind_request).0

  -- none behind those of a refusal
  behind_decision : option_list (own_problem before event.what) ++ provider_problems before after ≡ []
  behind_decision = (append_none (decision_problems before after) _ behind_request).1

  -- none by a row that lacks its provider
  pub no-provider : provider_problems before after ≡ []
  no-provider = (append_none (option_list (own_problem before event.what)) _ behind_decision).1
