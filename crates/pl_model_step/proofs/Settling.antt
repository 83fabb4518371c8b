-- What is decided stays, and more goals and answers decide only what was not decided.
use Rattle.std.proofs.Common.{◌≡◌, ℕ, ◌==◌, ◌≤◌, Bool, true, false, not, if◌then◌else◌, nat_lt, List, [], ◌∷◌, ◌++◌, length, Option, Some, None, Ok, Err, refl, sym, ◌∙◌, ap, subst, arith, option_map, option_and_then}
use Rattle.std.proofs.lemmas.Bool.Decides.{nat_tests}
use Rattle.std.specs.List.{cons_option}
use Rattle.std.specs.Option.{option_or}
use Rattle.pl_lemmas.proofs.Numbers.{less_true}
use Rattle.pl_state.specs.Kinds.{is_provider_goal}
use Rattle.pl_state.specs.declared.goal.Goal.{Goal}
use Rattle.pl_state.specs.declared.goal.Diffed.{Diffed}
use Rattle.pl_state.specs.declared.goal.Registration.{Registration}
use Rattle.pl_options.specs.GoalOf.{GoalResult, given, goal_of}
use Rattle.pl_urn.specs.Grammar.{package_of}
use Rattle.pl_events.specs.declared.event.Request.{Request}
use Rattle.pl_events.specs.declared.event.Request.TheVariants.{Register, Outputs, Invoke}
use Rattle.pl_events.specs.declared.operation.Op.{Op}
use Rattle.pl_events.specs.declared.operation.Op.TheVariants as op
use Rattle.pl_events.specs.declared.operation.Subject.TheVariants as subject
use Rattle.pl_model.specs.declared.fixed.Fixed.{Fixed}
use Rattle.pl_model.specs.Run.{Pairs}
use Rattle.pl_model.specs.declared.errand.Closed.{Closed}
use Rattle.pl_model.specs.Tickets.{reply_if, reply_to, same_op}
use Rattle.pl_model.specs.declared.decided.Decided.{Decided}
use Rattle.pl_model.specs.Decisions.{Turn, checked_at, checked_in, decided_after, decided_at, decided_by, decided_next, decided_of, diff_at, diffed_in, is_provider_unknown, needs_check, turn_of, wants_diff}
use Rattle.pl_model.specs.declared.heard.Fate.{Fate}
use Rattle.pl_model.specs.declared.heard.Fate.TheVariants.{Halted as halted, Refused as refused, Accepted as accepted}
use Rattle.pl_model.specs.Known.{Known}
use Rattle.pl_model.specs.Requests.{default_goal, default_urn, goals_by, goals_made, has_goal, invoked_version, named_provider, uses_default, with_default, with_goal, with_invoked, with_provider, with_result}
use Rattle.pl_model.specs.Step.{settled}

-- ---- what is there stays

-- what is there first is there then
data Stays {X : Type 0} : Option X → Option X → Type 0 where
  absent : {later : Option X} → Stays None later
  there : {x : X} → Stays (Some x) (Some x)

stays_same : {X : Type 0} (o : Option X) → Stays o o
stays_same None = absent
stays_same (Some x) = there

stays_or : {X : Type 0} (o other : Option X) → Stays o (option_or o other)
stays_or None other = absent
stays_or (Some x) other = there

stays_by : {X Y : Type 0} (f : Option X → Option Y) (o later : Option X) → f None ≡ None → Stays o later → Stays (f o) (f later)
stays_by f None later none absent = subst (λ o. Stays o (f later)) (sym none) absent
stays_by f (Some x) later none there = stays_same (f (Some x))

stays_if : {X : Type 0} (b : Bool) (x x' y y' : Option X) → Stays x x' → Stays y y' → Stays (if b then x else y) (if b then x' else y')
stays_if true x x' y y' first second = first
stays_if false x x' y y' first second = second

-- ---- a goal at its turn

module _ (run : Fixed) (answers later : List Closed) (stays : (about : Op) → Stays (reply_to answers about) (reply_to later about))
    (earlier : List Goal) (before : List Decided) (goal : Goal) where
  abbrev at_first : Turn
  at_first = turn_of run answers earlier before goal

  abbrev at_last : Turn
  at_last = turn_of run later earlier before goal

  stays_checked : Stays (checked_at at_first) (checked_at at_last)
  stays_checked =
      stays_if (is_provider_goal goal) _ _ _ _ (by (op.CheckConfig (subject.Goal (length earlier))))
      (stays_if (needs_check at_first) _ _ _ _ (by (op.Check (subject.Goal (length earlier)))) there)
    where
      by : (about : Op) → Stays (checked_in (reply_to answers about)) (checked_in (reply_to later about))
      by about = stays_by checked_in (reply_to answers about) (reply_to later about) refl (stays about)

  stays_diff : Stays (diff_at at_first) (diff_at at_last)
  stays_diff =
      stays_if (not (wants_diff at_first)) _ _ _ _ there
      (stays_if (is_provider_unknown at_first) _ _ _ _ there
      (stays_by (λ o. option_map Some (diffed_in o)) (reply_to answers (op.Diff (subject.Goal (length earlier))))
      (reply_to later (op.Diff (subject.Goal (length earlier)))) refl (stays (op.Diff (subject.Goal (length earlier))))))

  stays_decided : Stays (decided_at at_first) (decided_at at_last)
  stays_decided = by (checked_at at_first) (checked_at at_last) (diff_at at_first) (diff_at at_last) stays_checked stays_diff
    where
      by : (checked checked' : Option Pairs) (diff diff' : Option (Option Diffed)) → Stays checked checked' → Stays diff diff'
          → Stays (option_and_then (λ fields. option_map (decided_by at_first fields) diff) checked)
          (option_and_then (λ fields. option_map (decided_by at_last fields) diff') checked')
      by None checked' diff diff' absent second = absent
      by (Some fields) None diff diff' first second = elim first [ ]
      by (Some fields) (Some fields') None diff' there second = absent
      by (Some fields) (Some fields') (Some one) None there second = elim second [ ]
      by (Some fields) (Some fields') (Some one) (Some one') there there = there

  stays_next : Stays (decided_next run answers earlier before goal) (decided_next run later earlier before goal)
  stays_next = stays_if (length before == length earlier) _ _ _ _ stays_decided absent

-- ---- all that is decided

decided_short : (run : Fixed) (answers : List Closed) (goals : List Goal) → length (decided_of run answers goals) ≤ length goals
decided_short run answers [] = omega arith
decided_short run answers (goal ∷ earlier) =
    by (decided_next run answers earlier (decided_of run answers earlier) goal) (decided_short run answers earlier)
  where
    by : (o : Option Decided) → length (decided_of run answers earlier) ≤ length earlier
        → length (cons_option o (decided_of run answers earlier)) ≤ length (goal ∷ earlier)
    by None short = omega arith
    by (Some one) short = omega arith

not_below : (a b : ℕ) → b ≤ a → nat_lt a b ≡ false
not_below a b h = grind (arith, nat_tests)

pub longer : {X : Type 0} (added xs : List X) → length xs ≤ length (added ++ xs)
longer [] xs = omega arith
longer (x ∷ added) xs = let h : length xs ≤ length (added ++ xs) = longer added xs in omega arith

-- where as much is decided as there are goals, no more is
all_settled : (run : Fixed) (answers : List Closed) (decided : List Decided) (goals : List Goal) → length goals ≤ length decided
    → settled run answers decided goals ≡ decided
all_settled run answers decided [] h = refl
all_settled run answers decided (goal ∷ earlier) h = rw (less_true (length earlier) (length decided) h) refl

-- where less is decided than there are goals before this one, they come first
one_settled : (run : Fixed) (answers : List Closed) (decided : List Decided) (goal : Goal) (earlier : List Goal)
    → length decided ≤ length earlier
    → settled run answers decided (goal ∷ earlier) ≡ decided_after run answers goal earlier (settled run answers decided earlier)
one_settled run answers decided goal earlier h = rw (not_below (length earlier) (length decided) h) refl

module _ (run : Fixed) (answers later : List Closed) (stays : (about : Op) → Stays (reply_to answers about) (reply_to later about)) where
  abbrev first : List Goal → List Decided
  first goals = decided_of run answers goals

  same_length : (goals : List Goal) (goal : Goal) (one : Decided) → decided_next run answers goals (first goals) goal ≡ Some one
      → length (first goals) ≡ length goals
  same_length goals goal one h = by (length (first goals) == length goals) refl h
    where
      by : (b : Bool) → (length (first goals) == length goals) ≡ b
          → (if b then decided_at (turn_of run answers goals (first goals) goal) else None) ≡ Some one
          → length (first goals) ≡ length goals
      by true is h = grind (arith, nat_tests)
      by false is h = absurd (let e : None ≡ Some one = h in cc)

  -- with more answers
  settled_answers : (goals : List Goal) → settled run later (first goals) goals ≡ decided_of run later goals
  settled_answers [] = refl
  settled_answers (goal ∷ goals) =
      by (decided_next run answers goals (first goals) goal) (decided_next run later goals (first goals) goal) refl refl
      (stays_next run answers later stays goals (first goals) goal) (settled_answers goals)
    where
      by : (o later_o : Option Decided) → decided_next run answers goals (first goals) goal ≡ o
          → decided_next run later goals (first goals) goal ≡ later_o → Stays o later_o
          → settled run later (first goals) goals ≡ decided_of run later goals
          → settled run later (cons_option o (first goals)) (goal ∷ goals) ≡ decided_of run later (goal ∷ goals)
      by None later_o is next absent same =
          one_settled run later (first goals) goal goals (decided_short run answers goals)
          ∙ ap (decided_after run later goal goals) same
      by (Some one) None is next stayed same = elim stayed [ ]
      by (Some one) (Some other) is next there same =
          let full : length (first goals) ≡ length goals = same_length goals goal one is in
          let whole : first goals ≡ decided_of run later goals =
          sym (all_settled run later (first goals) goals (omega arith)) ∙ same in
          all_settled run later (one ∷ first goals) (goal ∷ goals) (omega arith)
          ∙ ap (λ (o : Option Decided). cons_option o (first goals)) (sym next)
          ∙ ap (decided_after run later goal goals) whole

  -- with more answers and more goals
  settled_goals : (added goals : List Goal) → settled run later (first goals) (added ++ goals) ≡ decided_of run later (added ++ goals)
  settled_goals [] goals = settled_answers goals
  settled_goals (goal ∷ added) goals =
      one_settled run later (first goals) goal (added ++ goals)
      (let short : length (first goals) ≤ length goals = decided_short run answers goals in
      let more : length goals ≤ length (added ++ goals) = longer added goals in omega arith)
      ∙ ap (decided_after run later goal (added ++ goals)) (settled_goals added goals)

-- ---- the goals that a request makes stand before those that there are

abbrev pub Added : List Goal → List Goal → Type 0
Added goals more = (added : List Goal) × (more ≡ added ++ goals)

add_default : (known : Known) (provided : List ℕ) (version : Option (List ℕ)) → Added known.goals (with_default known provided version)
add_default known provided version = by (has_goal known (default_urn known provided version))
  where
    by : (b : Bool) → Added known.goals (if b then known.goals else default_goal known provided version ∷ known.goals)
    by true = ([], refl)
    by false = (default_goal known provided version ∷ [], refl)

add_one : (goals more : List Goal) (goal : Goal) → Added goals more → Added goals (goal ∷ more)
add_one goals more goal h = (goal ∷ h.0, ap (λ (others : List Goal). goal ∷ others) h.1)

add_goal : (known : Known) (told : Registration) (goal : Goal) → Added known.goals (with_goal known told goal)
add_goal known told goal = by (uses_default told goal)
  where
    urn : List ℕ
    urn = default_urn known (package_of goal.urn) goal.version

    by : (b : Bool) → Added known.goals (if b
        then with_provider (with_default known (package_of goal.urn) goal.version) (default_urn known (package_of goal.urn) goal.version) goal
        else record goal { provider = named_provider known (given told.provider) } ∷ known.goals)
    by true = add_one known.goals _ _ (add_default known (package_of goal.urn) goal.version)
    by false = (_ ∷ [], refl)

add_result : (known : Known) (told : Registration) (result : GoalResult) → Added known.goals (with_result known told result)
add_result known told (Err fault) = ([], refl)
add_result known told (Ok goal) = add_goal known told goal

add_invoked : (known : Known) (token : List ℕ) (provider version : Option (List ℕ)) → Added known.goals (with_invoked known token provider version)
add_invoked known token None version = add_default known _ version
add_invoked known token (Some text) version = ([], refl)

add_made : (known : Known) (request : Request) → Added known.goals (goals_made known request)
add_made known (Register n told) = add_result known told (goal_of known.run.stack known.run.project told)
add_made known (Outputs n urn outputs) = ([], refl)
add_made known (Invoke n token args provider version) = add_invoked known token (given provider) (invoked_version version)

pub added_goals : (known : Known) (request : Request) (fate : Fate) → Added known.goals (goals_by known request fate)
added_goals known request accepted = add_made known request
added_goals known request halted = ([], refl)
added_goals known request (refused problem) = ([], refl)

-- ---- both, for a step

same_replies : (answers : List Closed) (about : Op) → Stays (reply_to answers about) (reply_to answers about)
same_replies answers about = stays_same (reply_to answers about)

more_replies : (closed : Option Closed) (answers : List Closed) (about : Op)
    → Stays (reply_to answers about) (reply_to (cons_option closed answers) about)
more_replies None answers about = stays_same (reply_to answers about)
more_replies (Some closed) answers about = stays_or (reply_to answers about) (reply_if (same_op closed.op about) closed.reply)

pub settled_told : (run : Fixed) (answers : List Closed) (goals more : List Goal) → Added goals more
    → settled run answers (decided_of run answers goals) more ≡ decided_of run answers more
settled_told run answers goals more h =
    subst (λ (all : List Goal). settled run answers (decided_of run answers goals) all ≡ decided_of run answers all) (sym h.1)
    (settled_goals run answers answers (same_replies answers) h.0 goals)

pub settled_answered : (run : Fixed) (closed : Option Closed) (answers : List Closed) (goals : List Goal)
    → settled run (cons_option closed answers) (decided_of run answers goals) goals ≡ decided_of run (cons_option closed answers) goals
settled_answered run closed answers goals =
    settled_answers run answers (cons_option closed answers) (more_replies closed answers) goals
