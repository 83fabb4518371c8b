-- Which goals of a component run can be recorded.
use Rattle.std.proofs.Common.{◌≡◌, ℕ, ◌≤◌, ◌==◌, Bool, true, false, not, ◌&&◌, ◌||◌, if◌then◌else◌, List, [], ◌∷◌, length, reverse, filter_map, option_map, Option, Some, None, is_some, refl, sym, ◌∙◌, ap, subst, arith, bytes_eq, nat_lt}
use Rattle.std.proofs.lemmas.Bool.Decides.{nat_tests}
use Rattle.std.proofs.lemmas.Slice.Eq.{bytes_eq-Decides}
use Rattle.std.proofs.lemmas.List.{reverse-append}
use Rattle.std.proofs.lemmas.List.Folds.{list_any-append}
use Rattle.std.specs.List.{cons_option, list_any}
use Rattle.pl_lemmas.specs.Words.{has_number, none_or, number_where, some_passes}
use Rattle.pl_state.specs.Component.{plain_goal}
use Rattle.pl_state.specs.Kinds.{is_of_provider}
use Rattle.pl_state.specs.declared.entry.Entry.{Entry}
use Rattle.pl_state.specs.declared.goal.Goal.{Goal}
use Rattle.pl_events.specs.declared.event.Event.{Event}
use Rattle.pl_events.specs.declared.event.Request.{Request}
use Rattle.pl_events.specs.declared.event.Request.TheVariants.{Register, Outputs, Invoke}
use Rattle.pl_events.specs.declared.event.What.{What}
use Rattle.pl_events.specs.declared.event.What.TheVariants.{Told, HostGone, Begun, Answered, Lost, Kept, Dropped, Cleared, Posted, Stopped}
use Rattle.pl_model.specs.Claims.{goal_number}
use Rattle.pl_model.specs.Recording.{recorded_of}
use Rattle.pl_model.specs.Known.{Known}
use Rattle.pl_model.specs.Due.{is_keep_ready, is_recorded_urn, keeps_goal}
use Rattle.pl_model.specs.Run.{Spelling}
use Rattle.pl_components.specs.Run.{Fixed}
use Rattle.pl_components.specs.Problems.{has_problem}
use Rattle.pl_components.specs.Requests.{goal_at, goal_for, goals_after, goals_of, has_goal, is_acceptable, may_stand}
use Rattle.pl_components.specs.Entries.{entry_of, has_entry, new_entries}
use Rattle.pl_components.specs.Due.{is_placed, is_ready, parent_stands}
use Rattle.pl_components.specs.Legal.{IsLegal, MayHappen}
use Rattle.pl_components.proofs.Lists.{Each, list_any-none, list_any-same, turned_number}
use Rattle.pl_components.proofs.Goals.{IsAcceptable-from_test, IsFit, decided_for, plain_decided}
use Rattle.pl_components.proofs.Knowing.{has_goal-known, known_as, may_stand-next}
use Rattle.pl_components.proofs.Recorded.{IsCounted-legal, goal_at-below, goal_at-each, kept_of, numbered-decided, numbered-goals, recorded_is}
use Rattle.pl_components.proofs.States.{entries_kept, row_of, rows_of}

-- ---- URNs

-- no two of the goals have the same URN
abbrev pub AreApart : List Goal → Type 0
AreApart [] = Unit
AreApart (goal ∷ earlier) = (has_goal earlier goal.urn ≡ false) × AreApart earlier

apart_told : (run : Fixed) (past : List Event) (request : Request) → may_stand run past request ≡ true → AreApart (goals_of run past)
    → AreApart (goals_after run (Told request) (has_problem past) (goals_of run past))
apart_told run past (Outputs n urn outputs) stands h = absurd (let e : false ≡ true = stands in cc)
apart_told run past (Invoke n token args provider version) stands h = absurd (let e : false ≡ true = stands in cc)
apart_told run past (Register n told) stands h = by (has_problem past) stands
  where
    by : (b : Bool) → (b || is_acceptable run (goals_of run past) told) ≡ true → AreApart (if b then goals_of run past else (goal_for run told ∷ goals_of run past))
    by true is = h
    by false is = ((IsAcceptable-from_test run (goals_of run past) told is).fresh, h)

apart_next : (run : Fixed) (spelling : Spelling) (past : List Event) (seat : ℕ) (what : What) → MayHappen run spelling past seat what
    → AreApart (goals_of run past) → AreApart (goals_after run what (has_problem past) (goals_of run past))
apart_next run spelling past seat (Told request) may h = apart_told run past request (may_stand-next run past request may.next) h
apart_next run spelling past seat (HostGone end) may h = h
apart_next run spelling past seat (Begun ticket lane op) may h = h
apart_next run spelling past seat (Answered ticket reply) may h = h
apart_next run spelling past seat (Lost ticket why) may h = h
apart_next run spelling past seat (Kept goal fresh) may h = h
apart_next run spelling past seat (Dropped row) may h = h
apart_next run spelling past seat (Cleared at) may h = h
apart_next run spelling past seat (Posted n) may h = h
apart_next run spelling past seat (Stopped stop) may h = h

pub AreApart-legal : (run : Fixed) (spelling : Spelling) (past : List Event) → IsLegal run spelling past → AreApart (goals_of run past)
AreApart-legal run spelling [] legal = tt
AreApart-legal run spelling (event ∷ past) legal = apart_next run spelling past event.seat event.what legal.1 (AreApart-legal run spelling past legal.0)

number_low : (test : Goal → Bool) (goals : List Goal) (g : ℕ) → length goals ≤ g → some_passes (λ m. m == g) (number_where test goals) ≡ false
number_low test [] g high = refl
number_low test (goal ∷ earlier) g high = by (test goal) (number_low test earlier g (omega arith))
  where
    by : (b : Bool) → some_passes (λ m. m == g) (number_where test earlier) ≡ false
        → some_passes (λ m. m == g) (if b then Some (length earlier) else number_where test earlier) ≡ false
    by true rest = grind (arith, nat_tests)
    by false rest = rest

none_passes : (p : ℕ → Bool) (o : Option ℕ) → is_some o ≡ false → some_passes p o ≡ false
none_passes p None h = refl
none_passes p (Some k) h = absurd (let e : true ≡ false = h in cc)

-- a goal has a URN just where it is the one that the URN finds
pub names_number : (urn : List ℕ) (goals : List Goal) → AreApart goals → (g : ℕ)
    → some_passes (λ (goal : Goal). bytes_eq goal.urn urn) (goal_at goals g) ≡ some_passes (λ m. m == g) (goal_number goals urn)
names_number urn [] h g = refl
names_number urn (goal ∷ earlier) h g = by (length earlier == g) (bytes_eq goal.urn urn) refl refl (names_number urn earlier h.1 g)
  where
    gone : bytes_eq goal.urn urn ≡ true → some_passes (λ m. m == g) (goal_number earlier urn) ≡ false
    gone is = none_passes (λ m. m == g) (goal_number earlier urn) (has_goal-known earlier urn
        ∙ ap (λ (text : List ℕ). has_goal earlier text) (sym ((bytes_eq-Decides goal.urn urn).0 is)) ∙ h.0)

    low : (length earlier == g) ≡ true → some_passes (λ m. m == g) (goal_number earlier urn) ≡ false
    low is = number_low (λ (one : Goal). bytes_eq one.urn urn) earlier g (grind (arith, nat_tests))

    by : (a b : Bool) → (length earlier == g) ≡ a → bytes_eq goal.urn urn ≡ b
        → some_passes (λ (one : Goal). bytes_eq one.urn urn) (goal_at earlier g) ≡ some_passes (λ m. m == g) (goal_number earlier urn)
        → some_passes (λ (one : Goal). bytes_eq one.urn urn) (if a then Some goal else goal_at earlier g)
        ≡ some_passes (λ m. m == g) (if b then Some (length earlier) else goal_number earlier urn)
    by true true at is rest = is ∙ sym at
    by true false at is rest = is ∙ sym (low at)
    by false true at is rest = rest ∙ gone is ∙ sym at
    by false false at is rest = rest

-- ---- entries by their URNs

any_mapped : {X : Type 0} (p : Entry → Bool) (f : X → Option Entry) (xs : List X) → list_any p (filter_map f xs) ≡ list_any (λ x. some_passes p (f x)) xs
any_mapped p f [] = refl
any_mapped p f (x ∷ xs) = by (f x) (any_mapped p f xs)
  where
    by : (o : Option Entry) → list_any p (filter_map f xs) ≡ list_any (λ y. some_passes p (f y)) xs
        → list_any p (cons_option o (filter_map f xs)) ≡ (some_passes p o || list_any (λ y. some_passes p (f y)) xs)
    by None rest = rest
    by (Some entry) rest = ap (λ b. p entry || b) rest

pub any_reversed : {X : Type 0} (p : X → Bool) (xs : List X) → list_any p (reverse xs) ≡ list_any p xs
any_reversed p [] = refl
any_reversed p (x ∷ xs) =
    ap (λ ys. list_any p ys) (reverse-append (x ∷ []) xs) ∙ list_any-append p (reverse xs) (x ∷ [])
    ∙ ap (λ b. b || list_any p (x ∷ [])) (any_reversed p xs) ∙ turned (list_any p xs) (p x)
  where
    turned : (a b : Bool) → (a || (b || false)) ≡ (b || a)
    turned true true = refl
    turned true false = refl
    turned false true = refl
    turned false false = refl

passes_row : (urn : List ℕ) (found : Option Goal)
    → some_passes (λ (entry : Entry). bytes_eq entry.urn urn) (option_map entry_of found) ≡ some_passes (λ (goal : Goal). bytes_eq goal.urn urn) found
passes_row urn None = refl
passes_row urn (Some goal) = refl

among_kept : (o : Option ℕ) (kept : List ℕ) → list_any (λ g. some_passes (λ m. m == g) o) kept ≡ some_passes (λ m. has_number kept m) o
among_kept None kept = list_any-none (λ g. false) (λ g. refl) kept
among_kept (Some m) kept = list_any-same (λ g. m == g) (λ g. g == m) (λ g. turned_number m g) kept

-- an entry of a URN is there just where the goal with the URN is kept
pub entry_kept : (urn : List ℕ) (goals : List Goal) (kept : List ℕ) → AreApart goals
    → has_entry (rows_of goals kept) urn ≡ some_passes (λ m. has_number kept m) (goal_number goals urn)
entry_kept urn goals kept apart =
    any_mapped (λ (entry : Entry). bytes_eq entry.urn urn) (row_of goals) (reverse kept)
    ∙ any_reversed (λ g. some_passes (λ (entry : Entry). bytes_eq entry.urn urn) (row_of goals g)) kept
    ∙ list_any-same (λ g. some_passes (λ (entry : Entry). bytes_eq entry.urn urn) (row_of goals g)) (λ g. some_passes (λ m. m == g) (goal_number goals urn))
    (λ g. passes_row urn (goal_at goals g) ∙ names_number urn goals apart g) kept
    ∙ among_kept (goal_number goals urn) kept

-- ---- goals that can be recorded

module _ (run : Fixed) (parallel : ℕ) (spelling : Spelling) (past : List Event) (legal : IsLegal run spelling past)
    (fit : Each IsFit (goals_of run past)) where
  abbrev known : Known
  known = known_as run parallel past

  pub recorded_urn : (urn : List ℕ) → is_recorded_urn known urn ≡ has_entry (new_entries run past) urn
  recorded_urn urn =
      ap (λ (numbers : List ℕ). some_passes (λ m. has_number numbers m) (goal_number (goals_of run past) urn)) (recorded_is run spelling past legal)
      ∙ sym (entry_kept urn (goals_of run past) (kept_of past) (AreApart-legal run spelling past legal))
      ∙ ap (λ (entries : List Entry). has_entry entries urn) (sym (entries_kept run spelling past legal))

  parent_recorded : (parent : Option (List ℕ)) → none_or (is_recorded_urn known) parent ≡ parent_stands (new_entries run past) parent
  parent_recorded None = refl
  parent_recorded (Some urn) = recorded_urn urn

  keeps_plain : (g : ℕ) (urn kind : List ℕ) (parent : Option (List ℕ)) → is_of_provider urn ≡ false
      → keeps_goal known g (plain_goal urn kind parent) plain_decided
      ≡ (not (has_number (recorded_of past) g) && none_or (is_recorded_urn known) parent)
  keeps_plain g urn kind parent other = rw other (all_true (has_number (recorded_of past) g) (none_or (is_recorded_urn known) parent))
    where
      all_true : (a b : Bool) → (((((not a && ((b && true) && true)) && true) && true) && true)) ≡ (not a && b)
      all_true true b = refl
      all_true false true = refl
      all_true false false = refl

  keeps_fit : (g : ℕ) (goal : Goal) → IsFit goal
      → keeps_goal known g goal plain_decided ≡ (not (has_number (kept_of past) g) && parent_stands (new_entries run past) goal.parent)
  keeps_fit g goal one =
      subst (λ (x : Goal). keeps_goal known g x plain_decided ≡ (not (has_number (recorded_of past) g) && none_or (is_recorded_urn known) x.parent))
      (sym one.plain) (keeps_plain g goal.urn goal.kind goal.parent one.other)
      ∙ ap (λ (numbers : List ℕ). not (has_number numbers g) && none_or (is_recorded_urn known) goal.parent) (recorded_is run spelling past legal)
      ∙ ap (λ b. not (has_number (kept_of past) g) && b) (parent_recorded goal.parent)

  -- a keep is ready in both views
  pub ready_known : (g : ℕ) → (not (has_problem past) && is_keep_ready known g) ≡ is_ready run past g
  ready_known g = rw (numbered-goals (goals_of run past) g, numbered-decided (goals_of run past) g, (IsCounted-legal run spelling past legal).left g)
      (by (goal_at (goals_of run past) g) refl (goal_at-below (goals_of run past) g))
    where
      joined : (p a b : Bool) → (not p && (not a && b)) ≡ ((true && not a) && (b && not p))
      joined true true b = refl
      joined true false true = refl
      joined true false false = refl
      joined false true b = refl
      joined false false true = refl
      joined false false false = refl

      none : (p a : Bool) → (not p && false) ≡ (a && (false && not p))
      none true true = refl
      none true false = refl
      none false true = refl
      none false false = refl

      by : (found : Option Goal) → goal_at (goals_of run past) g ≡ found → is_some found ≡ nat_lt g (length (goals_of run past))
          → (not (has_problem past) && some_passes (λ (goal : Goal). some_passes (keeps_goal known g goal) (option_map decided_for found)) found)
          ≡ ((nat_lt g (length (goals_of run past)) && not (has_number (kept_of past) g)) && (is_placed (new_entries run past) found && not (has_problem past)))
      by None is low = none (has_problem past) (nat_lt g (length (goals_of run past)) && not (has_number (kept_of past) g))
      by (Some goal) is low =
          ap (λ b. not (has_problem past) && b) (keeps_fit g goal (goal_at-each IsFit (goals_of run past) fit g goal is))
          ∙ joined (has_problem past) (has_number (kept_of past) g) (parent_stands (new_entries run past) goal.parent)
          ∙ ap (λ b. (b && not (has_number (kept_of past) g)) && (parent_stands (new_entries run past) goal.parent && not (has_problem past))) low
