-- How a decision was made: of which goal, after which others, and over which row.
use Rattle.std.proofs.Common.{◌≡◌, ℕ, suc, ◌+◌, ◌==◌, ◌<◌, Bool, true, false, not, ◌&&◌, ◌||◌, if◌then◌else◌, cond, List, [], ◌∷◌, length, Option, Some, None, is_some, find, refl, sym, ◌∙◌, ap, subst, arith, slice_get, option_map, option_and_then}
use Rattle.std.proofs.lemmas.Bool.Decides.{nat_tests}
use Rattle.std.specs.Bool.{beq}
use Rattle.std.specs.List.{cons_option, enumerate_from, list_any}
use Rattle.std.specs.Option.{option_or}
use Rattle.std.proofs.lemmas.Option.{same_Some}
use Rattle.pl_lemmas.proofs.Numbers.{same_number, equal_numbers, numbered_there}
use Rattle.pl_state.specs.Kinds.{is_importing_goal, is_provided, is_provider_goal, is_provider_row, is_reading_goal, kin_of}
use Rattle.pl_state.specs.References.{has_urn}
use Rattle.pl_state.specs.declared.entry.Entry.{Entry}
use Rattle.pl_state.specs.declared.goal.Diffed.{Diffed}
use Rattle.pl_state.specs.declared.goal.Goal.{Goal}
use Rattle.pl_events.specs.declared.event.Event.{Event}
use Rattle.pl_decide.specs.Table.{custom_differs, decide, decide_kin, decide_over, decide_provided, decide_reading, decide_unprovided, is_conflict}
use Rattle.pl_decide.specs.declared.decision.Decision.{Decision}
use Rattle.pl_decide.specs.declared.decision.Decision.TheVariants as decision
use Rattle.pl_decide.specs.declared.decision.ProviderChange.{ProviderChange}
use Rattle.pl_decide.specs.declared.problem.Problem.{Problem}
use Rattle.pl_decide.specs.declared.problem.Problem.TheVariants.{CustomChanged, ImportConflict, ReadOverManaged}
use Rattle.pl_value.specs.Same.{fields_same}
use Rattle.pl_decide.specs.Limited.{final_decision, first_refusal, is_delete_first, is_replacement, own_refusal, refused_by}
use Rattle.pl_model.specs.declared.decided.Decided.{Decided}
use Rattle.pl_model.specs.declared.errand.Closed.{Closed}
use Rattle.pl_model.specs.declared.fixed.Fixed.{Fixed}
use Rattle.pl_model.specs.Run.{Pairs, rows_of}
use Rattle.pl_model.specs.Tickets.{answers_of}
use Rattle.pl_lemmas.specs.Words.{first_some, is_row, number_where, numbered}
use Rattle.pl_lemmas.proofs.Options.{row_is}
use Rattle.pl_model.specs.Claims.{claim_by, is_chained, is_claimed, may_claim}
use Rattle.pl_model.specs.Decisions.{Turn, chain_at, change_at, checked_at, claim_at, claims_at, decided_at, decided_by, decided_next, decided_of, diff_at, turn_of}
use Rattle.pl_model.specs.History.{known_of}
use Rattle.pl_model.specs.Known.{decided_goal}
use Rattle.pl_model_stays.proofs.Lists.Growing.{Grown, decided_as, grown_by, grown_not, numbered_grown, numbered_more, run_of}

-- ---- numbers

-- one of a list has the number of those before it
numbered_first : {X : Type 0} (newest : X) (earlier : List X) → numbered (newest ∷ earlier) (length earlier) ≡ Some newest
numbered_first newest earlier =
    ap (λ (b : Bool). if b then Some newest else numbered earlier (length earlier)) (same_number (length earlier))

-- what some pass, a numbered one passes
pub passing_number : {X : Type 0} (test : X → Bool) (xs : List X) → list_any test xs ≡ true
    → (n : ℕ) × (x : X) × (numbered xs n ≡ Some x) × (test x ≡ true)
passing_number test [] h = absurd (let e : false ≡ true = h in cc)
passing_number {X = X} test (newest ∷ earlier) h = by (test newest) refl h (passing_number test earlier)
  where
    by : (b : Bool) → test newest ≡ b → (b || list_any test earlier) ≡ true
        → (list_any test earlier ≡ true → (n : ℕ) × (x : X) × (numbered earlier n ≡ Some x) × (test x ≡ true))
        → (n : ℕ) × (x : X) × (numbered (newest ∷ earlier) n ≡ Some x) × (test x ≡ true)
    by true is h rest = (length earlier, newest, numbered_first newest earlier, is)
    by false is h rest = let found = rest h in (found.0, found.1, numbered_more newest earlier found.0 found.1 found.2, found.3)

-- the newest that passes has its number
pub where_found : {X : Type 0} (test : X → Bool) (xs : List X) (n : ℕ) → number_where test xs ≡ Some n
    → (x : X) × (numbered xs n ≡ Some x) × (test x ≡ true)
where_found test [] n h = absurd (let e : None ≡ Some n = h in cc)
where_found {X = X} test (newest ∷ earlier) n h = by (test newest) refl h (where_found test earlier n)
  where
    by : (b : Bool) → test newest ≡ b → (if b then Some (length earlier) else number_where test earlier) ≡ Some n
        → (number_where test earlier ≡ Some n → (x : X) × (numbered earlier n ≡ Some x) × (test x ≡ true))
        → (x : X) × (numbered (newest ∷ earlier) n ≡ Some x) × (test x ≡ true)
    by true is h rest = (
      newest,
      subst (λ (k : ℕ). numbered (newest ∷ earlier) k ≡ Some newest) (same_Some (length earlier) n h)
          (numbered_first newest earlier),
      is,
    )
    by false is h rest = let found = rest h in (found.0, numbered_more newest earlier n found.0 found.1, found.2)

-- one whose number is below the count of the older ones is among them
pub numbered_behind : {X : Type 0} (older all : List X) (n : ℕ) (x : X) → Grown older all → numbered all n ≡ Some x
    → n < length older → numbered older n ≡ Some x
numbered_behind older all n x grown h below =
    let there = numbered_there older n below in
    let same : there.0 ≡ x = same_Some there.0 x (sym (numbered_grown older all n there.0 grown there.1) ∙ h) in
    there.1 ∙ ap Some same

-- ---- how a decision was made

-- a decision with its goal, with the goals before that, and with the decisions before it
pub record Made (run : Fixed) (answers : List Closed) (goals : List Goal) (decided : List Decided) (number : ℕ) (one : Decided) : Type 0 where
  pub goal : Goal
  pub earlier : List Goal
  pub before : List Decided
  pub stands : numbered goals number ≡ Some goal
  pub behind : Grown (one ∷ before) decided
  pub count : length before ≡ number
  pub level : length earlier ≡ number
  pub made : decided_at (turn_of run answers earlier before goal) ≡ Some one

module _ (run : Fixed) (answers : List Closed) where
  later_made : (goals : List Goal) (decided : List Decided) (number : ℕ) (one : Decided) (newest : Goal) (o : Option Decided)
      → Made run answers goals decided number one → Made run answers (newest ∷ goals) (cons_option o decided) number one
  later_made goals decided number one newest o h = record {
    goal = h.goal;
    earlier = h.earlier;
    before = h.before;
    stands = numbered_more newest goals number h.goal h.stands;
    behind = grown_by o (one ∷ h.before) decided h.behind;
    count = h.count;
    level = h.level;
    made = h.made;
  }

  newest_made : (goal : Goal) (earlier : List Goal) (number : ℕ) (one : Decided)
      → decided_next run answers earlier (decided_of run answers earlier) goal ≡ Some one
      → (length (decided_of run answers earlier) == number) ≡ true
      → Made run answers (goal ∷ earlier) (one ∷ decided_of run answers earlier) number one
  newest_made goal earlier number one h at = by (length (decided_of run answers earlier) == length earlier) refl h
    where
      by : (b : Bool) → (length (decided_of run answers earlier) == length earlier) ≡ b
          → (if b then decided_at (turn_of run answers earlier (decided_of run answers earlier) goal) else None) ≡ Some one
          → Made run answers (goal ∷ earlier) (one ∷ decided_of run answers earlier) number one
      by true is h =
          let count : length (decided_of run answers earlier) ≡ number = equal_numbers _ number at in
          let far : length earlier ≡ number = sym (equal_numbers _ (length earlier) is) ∙ count in
          record {
            goal = goal;
            earlier = earlier;
            before = decided_of run answers earlier;
            stands = subst (λ (n : ℕ). numbered (goal ∷ earlier) n ≡ Some goal) far (numbered_first goal earlier);
            behind = grown_not (one ∷ decided_of run answers earlier);
            count = count;
            level = far;
            made = h;
          }
      by false is h = absurd (let e : None ≡ Some one = h in cc)

  made_of : (goals : List Goal) (number : ℕ) (one : Decided) → numbered (decided_of run answers goals) number ≡ Some one
      → Made run answers goals (decided_of run answers goals) number one
  made_of [] number one h = absurd (let e : None ≡ Some one = h in cc)
  made_of (goal ∷ earlier) number one h =
      by (decided_next run answers earlier (decided_of run answers earlier) goal) refl (made_of earlier number one) h
    where
      here : (first : Decided) → decided_next run answers earlier (decided_of run answers earlier) goal ≡ Some first
          → (b : Bool) → (length (decided_of run answers earlier) == number) ≡ b
          → (numbered (decided_of run answers earlier) number ≡ Some one
          → Made run answers earlier (decided_of run answers earlier) number one)
          → (if b then Some first else numbered (decided_of run answers earlier) number) ≡ Some one
          → Made run answers (goal ∷ earlier) (first ∷ decided_of run answers earlier) number one
      here first is true at rest h =
          let same : first ≡ one = same_Some first one h in
          subst (λ (it : Decided). Made run answers (goal ∷ earlier) (it ∷ decided_of run answers earlier) number one) (sym same)
          (newest_made goal earlier number one (is ∙ ap Some same) at)
      here first is false at rest h =
          later_made earlier (decided_of run answers earlier) number one goal (Some first) (rest h)

      by : (o : Option Decided) → decided_next run answers earlier (decided_of run answers earlier) goal ≡ o
          → (numbered (decided_of run answers earlier) number ≡ Some one
          → Made run answers earlier (decided_of run answers earlier) number one)
          → numbered (cons_option o (decided_of run answers earlier)) number ≡ Some one
          → Made run answers (goal ∷ earlier) (cons_option o (decided_of run answers earlier)) number one
      by None is rest h = later_made earlier (decided_of run answers earlier) number one goal None (rest h)
      by (Some first) is rest h = here first is (length (decided_of run answers earlier) == number) refl rest h

-- how a decision of a history was made
abbrev pub WasMade : Fixed → List Event → ℕ → Decided → Type 0
WasMade run history number one =
    Made run (answers_of (known_of run history).history) (known_of run history).goals (known_of run history).decided number one

pub was-made : (run : Fixed) (history : List Event) (number : ℕ) (one : Decided)
    → decided_goal (known_of run history) number ≡ Some one → WasMade run history number one
was-made run history number one h =
    subst (λ (ones : List Decided). Made run (answers_of (known_of run history).history) (known_of run history).goals ones number one)
    (sym same)
    (made_of run (answers_of (known_of run history).history) (known_of run history).goals number one
    (subst (λ (ones : List Decided). numbered ones number ≡ Some one) same h))
  where
    same : (known_of run history).decided ≡ decided_of run (answers_of (known_of run history).history) (known_of run history).goals
    same = decided_as run history
        ∙ ap (λ (fixed : Fixed). decided_of fixed (answers_of (known_of run history).history) (known_of run history).goals) (run_of run history)

-- what a decision is made of
pub decided_parts : (turn : Turn) (one : Decided) → decided_at turn ≡ Some one
    → (checked : Pairs) × (diff : Option Diffed) × (decided_by turn checked diff ≡ one)
decided_parts turn one h = by (checked_at turn) (diff_at turn) h
  where
    by : (checked : Option Pairs) (diff : Option (Option Diffed))
        → option_and_then (λ (fields : Pairs). option_map (decided_by turn fields) diff) checked ≡ Some one
        → (fields : Pairs) × (said : Option Diffed) × (decided_by turn fields said ≡ one)
    by None diff h = absurd (let e : None ≡ Some one = h in cc)
    by (Some fields) None h = absurd (let e : None ≡ Some one = h in cc)
    by (Some fields) (Some diff) h = (fields, diff, same_Some (decided_by turn fields diff) one h)

-- ---- claims

-- a row that a goal may claim after these decisions
pub record MayClaim (run : Fixed) (before : List Decided) (goal : Goal) (row : ℕ) : Type 0 where
  pub entry : Entry
  pub at : slice_get (rows_of run) row ≡ Some entry
  pub stays : entry.doomed ≡ false
  pub alike : beq (is_provider_goal goal) (is_provider_row entry) ≡ true
  pub unclaimed : is_claimed before row ≡ false
  pub unchained : is_chained run before row ≡ false

-- what is found among numbered ones passes, and stands at its number
pub found_at : {X : Type 0} (test : ℕ × X → Bool) (n : ℕ) (xs : List X) (found : ℕ × X) → find test (enumerate_from n xs) ≡ Some found
    → (k : ℕ) × (test found ≡ true) × (found.0 ≡ n + k) × (slice_get xs k ≡ Some found.1)
found_at test n [] found h = absurd (let e : None ≡ Some found = h in cc)
found_at {X = X} test n (x ∷ xs) found h = by (test (n, x)) refl (found_at test (n + 1) xs found) h
  where
    by : (b : Bool) → test (n, x) ≡ b
        → (find test (enumerate_from (n + 1) xs) ≡ Some found
        → (k : ℕ) × (test found ≡ true) × (found.0 ≡ n + 1 + k) × (slice_get xs k ≡ Some found.1))
        → cond b (Some (n, x)) (find test (enumerate_from (n + 1) xs)) ≡ Some found
        → (k : ℕ) × (test found ≡ true) × (found.0 ≡ n + k) × (slice_get (x ∷ xs) k ≡ Some found.1)
    by true is rest h =
        let first : ℕ × X = (n, x) in
        subst (λ (one : ℕ × X). (k : ℕ) × (test one ≡ true) × (one.0 ≡ n + k) × (slice_get (x ∷ xs) k ≡ Some one.1))
        (same_Some first found h) (0, is, omega arith, refl)
    by false is rest h =
        let later : (k : ℕ) × (test found ≡ true) × (found.0 ≡ n + 1 + k) × (slice_get xs k ≡ Some found.1) = rest h in
        let k : ℕ = later.0 in
        let at : found.0 ≡ n + 1 + k = later.2 in
        (suc k, later.1, omega arith, later.3)

claim_rules : (doomed named alike claimed chained : Bool) → (not doomed && named && alike && not claimed && not chained) ≡ true
    → (doomed ≡ false) × (alike ≡ true) × (claimed ≡ false) × (chained ≡ false)
claim_rules true named alike claimed chained h = absurd (let e : false ≡ true = h in cc)
claim_rules false false alike claimed chained h = absurd (let e : false ≡ true = h in cc)
claim_rules false true false claimed chained h = absurd (let e : false ≡ true = h in cc)
claim_rules false true true true chained h = absurd (let e : false ≡ true = h in cc)
claim_rules false true true false true h = absurd (let e : false ≡ true = h in cc)
claim_rules false true true false false h = (refl, refl, refl, refl)

module _ (run : Fixed) (before : List Decided) (goal : Goal) (row : ℕ) where
  urn_claims : (urn : List ℕ) → claim_by run before goal urn ≡ Some row → MayClaim run before goal row
  urn_claims urn h = by (find (may_claim run before goal urn) (enumerate_from 0 (rows_of run))) refl h
    where
      by : (o : Option (ℕ × Entry)) → find (may_claim run before goal urn) (enumerate_from 0 (rows_of run)) ≡ o
          → option_map (λ (found : ℕ × Entry). found.0) o ≡ Some row → MayClaim run before goal row
      by None is h = absurd (let e : None ≡ Some row = h in cc)
      by (Some found) is h =
          let place = found_at (may_claim run before goal urn) 0 (rows_of run) found is in
          let rules = claim_rules found.1.doomed (has_urn urn found.1) (beq (is_provider_goal goal) (is_provider_row found.1))
          (is_claimed before found.0) (is_chained run before found.0) place.1 in
          let number : found.0 ≡ row = same_Some found.0 row h in
          let k : ℕ = place.0 in
          let far : found.0 ≡ 0 + k = place.2 in
          let same : k ≡ found.0 = omega arith in
          record {
            entry = found.1;
            at = subst (λ (n : ℕ). slice_get (rows_of run) n ≡ Some found.1) (same ∙ number) place.3;
            stays = rules.0;
            alike = rules.1;
            unclaimed = subst (λ (n : ℕ). is_claimed before n ≡ false) number rules.2;
            unchained = subst (λ (n : ℕ). is_chained run before n ≡ false) number rules.3;
          }

  first_claims : (urns : List (List ℕ)) → first_some (claim_by run before goal) urns ≡ Some row → MayClaim run before goal row
  first_claims [] h = absurd (let e : None ≡ Some row = h in cc)
  first_claims (urn ∷ others) h = by (claim_by run before goal urn) refl h (first_claims others)
    where
      by : (o : Option ℕ) → claim_by run before goal urn ≡ o → option_or o (first_some (claim_by run before goal) others) ≡ Some row
          → (first_some (claim_by run before goal) others ≡ Some row → MayClaim run before goal row) → MayClaim run before goal row
      by None is h rest = rest h
      by (Some own) is h rest = urn_claims urn (is ∙ h)

-- a row that a decided goal claims is one that the goal might claim
pub claims-allowed : (run : Fixed) (history : List Event) (number : ℕ) (one : Decided) (row : ℕ) (made : WasMade run history number one)
    → is_row one.claim row ≡ true → MayClaim run made.before made.goal row
claims-allowed run history number one row made claims =
    let parts = decided_parts (turn_of run (answers_of (known_of run history).history) made.earlier made.before made.goal) one made.made in
    first_claims run made.before made.goal row (made.goal.urn ∷ made.goal.aliases)
    (ap (λ (it : Decided). it.claim) parts.2 ∙ row_is one.claim row claims)

-- ---- what has no provider is never replaced

module _ (goal : Goal) (change : ProviderChange) (checked : Pairs) (diff : Option Diffed) (unprovided : is_provided goal ≡ false) where
  -- over a kin it is kept or changed
  over_stays : (kin : Entry) (same : Bool) → is_replacement (decide_over kin goal change same diff) ≡ false
  over_stays kin same = by (is_conflict kin goal) (is_provided goal) same unprovided
    where
      by : (conflict provided alike : Bool) → provided ≡ false
          → is_replacement (if conflict then decision.Refused (ImportConflict goal.urn)
          else (if provided then decide_provided kin goal change same diff else decide_unprovided alike)) ≡ false
      by true provided alike is = refl
      by false true alike is = absurd (let e : true ≡ false = is in cc)
      by false false true is = refl
      by false false false is = refl

  kin_stays : (kin : Option Entry) → is_replacement (decide_kin kin goal change checked diff) ≡ false
  kin_stays None = by (is_importing_goal goal)
    where
      by : (b : Bool) → is_replacement (if b then decision.Import else decision.Create) ≡ false
      by true = refl
      by false = refl
  kin_stays (Some kin) = over_stays kin (fields_same kin.inputs checked)

  reading_stays : (claim : Option Entry) → is_replacement (decide_reading claim goal) ≡ false
  reading_stays claim = by (is_some (kin_of claim))
    where
      by : (b : Bool) → is_replacement (if b then decision.Refused (ReadOverManaged goal.urn) else decision.ReadOnly) ≡ false
      by true = refl
      by false = refl

  -- the table does not replace it
  table_stays : (claim : Option Entry) → is_replacement (decide claim goal change checked diff) ≡ false
  table_stays claim = by (is_reading_goal goal) (custom_differs claim goal)
    where
      by : (reading differs : Bool)
          → is_replacement (if reading then decide_reading claim goal
          else (if differs then decision.Refused (CustomChanged goal.urn) else decide_kin (kin_of claim) goal change checked diff)) ≡ false
      by true differs = reading_stays claim
      by false true = refl
      by false false = kin_stays (kin_of claim)

-- the chain and the limits leave a decision as it is or refuse it: where a test passes neither, it does not pass
-- what they make of it
pub final_fails : (test : Decision → Bool) (turn : Turn) (choice : Decision) → ((problem : Problem) → test (decision.Refused problem) ≡ false)
    → test choice ≡ false
    → test (final_decision turn.run.limits (claim_at turn) turn.goal (claims_at turn) (chain_at turn) choice) ≡ false
final_fails test turn choice none h =
    by (is_delete_first choice) (first_refusal turn.run.limits (claim_at turn) turn.goal (claims_at turn) (chain_at turn) choice)
    (own_refusal turn.run.limits (claim_at turn) turn.goal choice)
  where
    refused : (o : Option Problem) → test (refused_by o choice) ≡ false
    refused None = h
    refused (Some problem) = none problem

    by : (b : Bool) (first own : Option Problem)
        → test (if b then refused_by first choice else (if b then choice else refused_by own choice)) ≡ false
    by true first own = refused first
    by false first own = refused own

-- no decision replaces what has no provider
pub unprovided-stays : (run : Fixed) (history : List Event) (number : ℕ) (one : Decided) (made : WasMade run history number one)
    → is_provided made.goal ≡ false → is_replacement one.decision ≡ false
unprovided-stays run history number one made unprovided =
    let turn : Turn = turn_of run (answers_of (known_of run history).history) made.earlier made.before made.goal in
    let parts = decided_parts turn one made.made in
    subst (λ (it : Decided). is_replacement it.decision ≡ false) parts.2
    (final_fails is_replacement turn (decide (claim_at turn) made.goal (change_at turn) parts.0 parts.1) (λ problem. refl)
    (table_stays made.goal (change_at turn) parts.0 parts.1 unprovided (claim_at turn)))
