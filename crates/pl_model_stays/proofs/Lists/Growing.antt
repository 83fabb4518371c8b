-- What grows at its head keeps what stands behind it.
use Rattle.std.proofs.Common.{◌≡◌, ℕ, ◌==◌, ◌≤◌, ◌<◌, ◌+◌, Bool, true, false, not, if◌then◌else◌, List, [], ◌∷◌, ◌++◌, length, Option, Some, None, Ok, Err, refl, sym, ◌∙◌, ap, subst, arith, option_map, option_and_then, ◌-◌}
use Rattle.std.proofs.lemmas.Bool.Decides.{nat_tests}
use Rattle.std.specs.List.{cons_option}
use Rattle.std.proofs.Math.Bool.{or-true}
use Rattle.pl_lemmas.proofs.Numbers.{equal_numbers}
use Rattle.pl_state.specs.Kinds.{is_provider_goal}
use Rattle.pl_state.specs.declared.goal.Goal.{Goal}
use Rattle.pl_state.specs.declared.goal.Diffed.{Diffed}
use Rattle.pl_state.specs.declared.goal.Registration.{Registration}
use Rattle.pl_options.specs.GoalOf.{GoalResult, given, goal_of}
use Rattle.pl_urn.specs.Grammar.{package_of}
use Rattle.pl_events.specs.declared.event.Event.{Event}
use Rattle.pl_events.specs.declared.event.What.{What}
use Rattle.pl_events.specs.declared.event.What.TheVariants.{Told}
use Rattle.pl_events.specs.declared.event.Request.{Request}
use Rattle.pl_events.specs.declared.event.Request.TheVariants.{Register, Outputs, Invoke}
use Rattle.pl_events.specs.declared.operation.Op.{Op}
use Rattle.pl_events.specs.declared.operation.Op.TheVariants as op
use Rattle.pl_events.specs.declared.operation.Subject.TheVariants as subject
use Rattle.pl_events.specs.declared.reply.Reply.{Reply}
use Rattle.pl_model.specs.declared.decided.Decided.{Decided}
use Rattle.pl_model.specs.declared.errand.Closed.{Closed}
use Rattle.pl_model.specs.declared.fixed.Fixed.{Fixed}
use Rattle.pl_model.specs.declared.heard.Fate.{Fate}
use Rattle.pl_model.specs.declared.heard.Fate.TheVariants.{Accepted as accepted, Halted as halted, Refused as refused}
use Rattle.pl_model.specs.Run.{Pairs}
use Rattle.pl_model.specs.Tickets.{answers_of, closed_by, reply_to}
use Rattle.pl_lemmas.specs.Words.{has_number, numbered}
use Rattle.pl_model.specs.Recording.{recorded_by, recorded_of}
use Rattle.pl_model.specs.Decisions.{Turn, checked_at, checked_in, decided_after, decided_at, decided_by, decided_next, decided_of, diff_at, diffed_in, is_provider_unknown, needs_check, turn_of, wants_diff, inputs_at, unknown_diff}
use Rattle.pl_model.specs.History.{goals_after, known_of}
use Rattle.pl_model.specs.Known.{Known, decided_goal, goal_at}
use Rattle.pl_model.specs.Requests.{default_goal, default_urn, fate_of, goals_by, goals_made, has_goal, invoked_version, uses_default, with_default, with_goal, with_invoked, with_provider, with_result}

pub other_numbers : (a b : ℕ) → a < b → (b == a) ≡ false
other_numbers a b h = grind (arith, nat_tests)

-- a list has grown at its head
abbrev pub Grown : {X : Type 0} → List X → List X → Type 0
Grown {X} earlier later = (added : List X) × (later ≡ added ++ earlier)

pub grown_not : {X : Type 0} (xs : List X) → Grown xs xs
grown_not xs = ([], refl)

pub grown_more : {X : Type 0} (x : X) (xs ys : List X) → Grown xs ys → Grown xs (x ∷ ys)
grown_more {X = X} x xs ys h = (x ∷ h.0, ap (λ (zs : List X). x ∷ zs) h.1)

pub grown_by : {X : Type 0} (o : Option X) (xs ys : List X) → Grown xs ys → Grown xs (cons_option o ys)
grown_by None xs ys h = h
grown_by (Some x) xs ys h = grown_more x xs ys h

-- ---- numbers

pub numbered_below : {X : Type 0} (xs : List X) (n : ℕ) (x : X) → numbered xs n ≡ Some x → n < length xs
numbered_below [] n x h = absurd (let e : None ≡ Some x = h in cc)
numbered_below (y ∷ ys) n x h = by (length ys == n) refl (numbered_below ys n x) h
  where
    by : (b : Bool) → (length ys == n) ≡ b → (numbered ys n ≡ Some x → n < length ys)
        → (if b then Some y else numbered ys n) ≡ Some x → n < length (y ∷ ys)
    by true is rest h = let e : length ys ≡ n = equal_numbers (length ys) n is in omega arith
    by false is rest h = let less : n < length ys = rest h in omega arith

pub numbered_more : {X : Type 0} (y : X) (xs : List X) (n : ℕ) (x : X) → numbered xs n ≡ Some x → numbered (y ∷ xs) n ≡ Some x
numbered_more y xs n x h = rw (other_numbers n (length xs) (numbered_below xs n x h)) h

numbered_added : {X : Type 0} (added xs : List X) (n : ℕ) (x : X) → numbered xs n ≡ Some x → numbered (added ++ xs) n ≡ Some x
numbered_added [] xs n x h = h
numbered_added (y ∷ added) xs n x h = numbered_more y (added ++ xs) n x (numbered_added added xs n x h)

pub numbered_grown : {X : Type 0} (xs ys : List X) (n : ℕ) (x : X) → Grown xs ys → numbered xs n ≡ Some x → numbered ys n ≡ Some x
numbered_grown {X = X} xs ys n x grown h = subst (λ (zs : List X). numbered zs n ≡ Some x) (sym grown.1) (numbered_added grown.0 xs n x h)

-- ---- goals

grown_default : (known : Known) (provided : List ℕ) (version : Option (List ℕ)) → Grown known.goals (with_default known provided version)
grown_default known provided version = by (has_goal known (default_urn known provided version))
  where
    by : (b : Bool) → Grown known.goals (if b then known.goals else default_goal known provided version ∷ known.goals)
    by true = grown_not known.goals
    by false = grown_more (default_goal known provided version) known.goals known.goals (grown_not known.goals)

grown_with : (known : Known) (told : Registration) (goal : Goal) → Grown known.goals (with_goal known told goal)
grown_with known told goal = by (uses_default told goal)
  where
    by : (b : Bool) → Grown known.goals (if b
        then with_provider (with_default known (package_of goal.urn) goal.version) (default_urn known (package_of goal.urn) goal.version) goal
        else record goal { provider = Rattle.pl_model.specs.Requests.named_provider known (given told.provider) } ∷ known.goals)
    by true = grown_more _ known.goals (with_default known (package_of goal.urn) goal.version) (grown_default known (package_of goal.urn) goal.version)
    by false = grown_more _ known.goals known.goals (grown_not known.goals)

grown_result : (known : Known) (told : Registration) (result : GoalResult) → Grown known.goals (with_result known told result)
grown_result known told (Err fault) = grown_not known.goals
grown_result known told (Ok goal) = grown_with known told goal

grown_invoked : (known : Known) (token : List ℕ) (provider version : Option (List ℕ)) → Grown known.goals (with_invoked known token provider version)
grown_invoked known token None version = grown_default known _ version
grown_invoked known token (Some text) version = grown_not known.goals

grown_made : (known : Known) (request : Request) → Grown known.goals (goals_made known request)
grown_made known (Register n told) = grown_result known told (goal_of known.run.stack known.run.project told)
grown_made known (Outputs n urn outputs) = grown_not known.goals
grown_made known (Invoke n token args provider version) = grown_invoked known token (given provider) (invoked_version version)

grown_fate : (known : Known) (request : Request) (fate : Fate) → Grown known.goals (goals_by known request fate)
grown_fate known request accepted = grown_made known request
grown_fate known request halted = grown_not known.goals
grown_fate known request (refused problem) = grown_not known.goals

pub grown_goals : (known : Known) (what : What) → Grown known.goals (goals_after known what)
grown_goals known (Told request) = grown_fate known request (fate_of known request)
grown_goals known _ = grown_not known.goals

-- ---- answers

-- an answer that was given stays
abbrev pub Answers : List Closed → List Closed → Type 0
Answers earlier later = (about : Op) (reply : Reply) → reply_to earlier about ≡ Some reply → reply_to later about ≡ Some reply

answers_more : (closed : Closed) (answers : List Closed) → Answers answers (closed ∷ answers)
answers_more closed answers about reply h = rw h refl

pub answers_by : (o : Option Closed) (answers : List Closed) → Answers answers (cons_option o answers)
answers_by None answers about reply h = h
answers_by (Some closed) answers about reply h = answers_more closed answers about reply h

-- ---- decisions

checked_reply : (earlier later : List Closed) (about : Op) (checked : Pairs) → Answers earlier later
    → checked_in (reply_to earlier about) ≡ Some checked → checked_in (reply_to later about) ≡ Some checked
checked_reply earlier later about checked stays h = by (reply_to earlier about) refl h
  where
    by : (o : Option Reply) → reply_to earlier about ≡ o → checked_in o ≡ Some checked → checked_in (reply_to later about) ≡ Some checked
    by None is h = absurd (let e : None ≡ Some checked = h in cc)
    by (Some reply) is h = rw (stays about reply is) h

diffed_reply : (earlier later : List Closed) (about : Op) (diff : Diffed) → Answers earlier later
    → diffed_in (reply_to earlier about) ≡ Some diff → diffed_in (reply_to later about) ≡ Some diff
diffed_reply earlier later about diff stays h = by (reply_to earlier about) refl h
  where
    by : (o : Option Reply) → reply_to earlier about ≡ o → diffed_in o ≡ Some diff → diffed_in (reply_to later about) ≡ Some diff
    by None is h = absurd (let e : None ≡ Some diff = h in cc)
    by (Some reply) is h = rw (stays about reply is) h

module _ (run : Fixed) (earlier later : List Closed) (stays : Answers earlier later) (goals : List Goal) (before : List Decided) (goal : Goal) where
  abbrev at_first : Turn
  at_first = turn_of run earlier goals before goal

  abbrev at_last : Turn
  at_last = turn_of run later goals before goal

  checked_stays : (checked : Pairs) → checked_at at_first ≡ Some checked → checked_at at_last ≡ Some checked
  checked_stays checked h = by (is_provider_goal goal) (needs_check at_first) h
    where
      by : (provider needed : Bool)
          → (if provider then checked_in (reply_to earlier (op.CheckConfig (subject.Goal (length goals))))
          else (if needed then checked_in (reply_to earlier (op.Check (subject.Goal (length goals)))) else Some (inputs_at at_first))) ≡ Some checked
          → (if provider then checked_in (reply_to later (op.CheckConfig (subject.Goal (length goals))))
          else (if needed then checked_in (reply_to later (op.Check (subject.Goal (length goals)))) else Some (inputs_at at_first))) ≡ Some checked
      by true needed h = checked_reply earlier later (op.CheckConfig (subject.Goal (length goals))) checked stays h
      by false true h = checked_reply earlier later (op.Check (subject.Goal (length goals))) checked stays h
      by false false h = h

  diff_asked : (diff : Option Diffed)
      → option_map Some (diffed_in (reply_to earlier (op.Diff (subject.Goal (length goals))))) ≡ Some diff
      → option_map Some (diffed_in (reply_to later (op.Diff (subject.Goal (length goals))))) ≡ Some diff
  diff_asked diff h = by (diffed_in (reply_to earlier (op.Diff (subject.Goal (length goals))))) refl h
    where
      by : (o : Option Diffed) → diffed_in (reply_to earlier (op.Diff (subject.Goal (length goals)))) ≡ o
          → option_map Some o ≡ Some diff → option_map Some (diffed_in (reply_to later (op.Diff (subject.Goal (length goals))))) ≡ Some diff
      by None is h = absurd (let e : None ≡ Some diff = h in cc)
      by (Some one) is h = rw (diffed_reply earlier later (op.Diff (subject.Goal (length goals))) one stays is) h

  diff_stays : (diff : Option Diffed) → diff_at at_first ≡ Some diff → diff_at at_last ≡ Some diff
  diff_stays diff h = by (not (wants_diff at_first)) (is_provider_unknown at_first) h
    where
      by : (unasked unknown : Bool)
          → (if unasked then Some None else (if unknown then Some (Some unknown_diff)
          else option_map Some (diffed_in (reply_to earlier (op.Diff (subject.Goal (length goals))))))) ≡ Some diff
          → (if unasked then Some None else (if unknown then Some (Some unknown_diff)
          else option_map Some (diffed_in (reply_to later (op.Diff (subject.Goal (length goals))))))) ≡ Some diff
      by true unknown h = h
      by false true h = h
      by false false h = diff_asked diff h

  turn_stays : (one : Decided) → decided_at at_first ≡ Some one → decided_at at_last ≡ Some one
  turn_stays one h = by (checked_at at_first) refl (diff_at at_first) refl h
    where
      by : (checked : Option Pairs) → checked_at at_first ≡ checked → (diff : Option (Option Diffed)) → diff_at at_first ≡ diff
          → option_and_then (λ fields. option_map (decided_by at_first fields) diff) checked ≡ Some one → decided_at at_last ≡ Some one
      by None is diff said h = absurd (let e : None ≡ Some one = h in cc)
      by (Some fields) is None said h = absurd (let e : None ≡ Some one = h in cc)
      by (Some fields) is (Some diff) said h = rw (checked_stays fields is, diff_stays diff said) h

  next_stays : (one : Decided) → decided_next run earlier goals before goal ≡ Some one → decided_next run later goals before goal ≡ Some one
  next_stays one h = by (length before == length goals) h
    where
      by : (b : Bool) → (if b then decided_at at_first else None) ≡ Some one → (if b then decided_at at_last else None) ≡ Some one
      by true h = turn_stays one h
      by false h = absurd (let e : None ≡ Some one = h in cc)

-- ---- all that is decided

decided_short : (run : Fixed) (answers : List Closed) (goals : List Goal) → length (decided_of run answers goals) ≤ length goals
decided_short run answers [] = omega arith
decided_short run answers (goal ∷ earlier) =
    by (decided_next run answers earlier (decided_of run answers earlier) goal) (decided_short run answers earlier)
  where
    by : (o : Option Decided) → length (decided_of run answers earlier) ≤ length earlier
        → length (cons_option o (decided_of run answers earlier)) ≤ length (goal ∷ earlier)
    by None short = omega arith
    by (Some one) short = omega arith

pub length_added : {X : Type 0} (added xs : List X) → length (added ++ xs) ≡ length added + length xs
length_added [] xs = omega arith
length_added (x ∷ added) xs = let e = length_added added xs in omega arith

-- nothing stands before a list that is full already
no_more : {X : Type 0} (added xs : List X) (n : ℕ) → length xs ≡ n → length (added ++ xs) ≤ n → added ≡ []
no_more [] xs n full short = refl
no_more (x ∷ added) xs n full short = absurd (let e = length_added added xs in omega arith)

grown_next : (run : Fixed) (earlier later : List Closed) → Answers earlier later → (goals : List Goal) (goal : Goal) (before : List Decided)
    → Grown (cons_option (decided_next run earlier goals before goal) before) (cons_option (decided_next run later goals before goal) before)
grown_next run earlier later stays goals goal before = by (decided_next run earlier goals before goal) refl
  where
    by : (o : Option Decided) → decided_next run earlier goals before goal ≡ o
        → Grown (cons_option o before) (cons_option (decided_next run later goals before goal) before)
    by None is = grown_by (decided_next run later goals before goal) before before (grown_not before)
    by (Some one) is = subst (λ (o : Option Decided). Grown (one ∷ before) (cons_option o before))
        (sym (next_stays run earlier later stays goals before goal one is)) (grown_not (one ∷ before))

-- with more answers more is decided, behind what was
decided_answered : (run : Fixed) (earlier later : List Closed) → Answers earlier later → (goals : List Goal)
    → Grown (decided_of run earlier goals) (decided_of run later goals)
decided_answered run earlier later stays [] = grown_not []
decided_answered run earlier later stays (goal ∷ goals) =
    by (length (decided_of run earlier goals) == length goals) refl (decided_answered run earlier later stays goals)
  where
    first : List Decided
    first = decided_of run earlier goals

    by : (b : Bool) → (length (decided_of run earlier goals) == length goals) ≡ b → Grown (decided_of run earlier goals) (decided_of run later goals)
        → Grown (decided_of run earlier (goal ∷ goals)) (decided_of run later (goal ∷ goals))
    by true is grown =
        let full : length (decided_of run earlier goals) ≡ length goals = equal_numbers _ _ is in
        let short : length (grown.0 ++ decided_of run earlier goals) ≤ length goals =
        subst (λ (ones : List Decided). length ones ≤ length goals) grown.1 (decided_short run later goals) in
        let none : grown.0 ≡ [] = no_more grown.0 (decided_of run earlier goals) (length goals) full short in
        let same : decided_of run later goals ≡ decided_of run earlier goals =
        grown.1 ∙ ap (λ (added : List Decided). added ++ decided_of run earlier goals) none in
        subst (λ (ones : List Decided). Grown (decided_of run earlier (goal ∷ goals)) (decided_after run later goal goals ones))
        (sym same) (grown_next run earlier later stays goals goal (decided_of run earlier goals))
    by false is grown =
        subst (λ (ones : List Decided). Grown ones (decided_of run later (goal ∷ goals))) (sym (rw is refl))
        (grown_by (decided_next run later goals (decided_of run later goals) goal) (decided_of run earlier goals) (decided_of run later goals) grown)

-- with more goals too
decided_added : (run : Fixed) (answers : List Closed) (added goals : List Goal) → Grown (decided_of run answers goals) (decided_of run answers (added ++ goals))
decided_added run answers [] goals = grown_not (decided_of run answers goals)
decided_added run answers (goal ∷ added) goals =
    grown_by (decided_next run answers (added ++ goals) (decided_of run answers (added ++ goals)) goal) (decided_of run answers goals)
    (decided_of run answers (added ++ goals)) (decided_added run answers added goals)

append_twice : {X : Type 0} (xs ys zs : List X) → xs ++ (ys ++ zs) ≡ (xs ++ ys) ++ zs
append_twice [] ys zs = refl
append_twice {X = X} (x ∷ xs) ys zs = ap (λ (rest : List X). x ∷ rest) (append_twice xs ys zs)

grown_twice : {X : Type 0} (xs ys zs : List X) → Grown xs ys → Grown ys zs → Grown xs zs
grown_twice {X = X} xs ys zs first second =
    (second.0 ++ first.0, second.1 ∙ ap (λ (rest : List X). second.0 ++ rest) first.1 ∙ append_twice second.0 first.0 xs)

pub decided_grown : (run : Fixed) (earlier later : List Closed) (goals more : List Goal) → Answers earlier later → Grown goals more
    → Grown (decided_of run earlier goals) (decided_of run later more)
decided_grown run earlier later goals more stays grown =
    grown_twice (decided_of run earlier goals) (decided_of run later goals) (decided_of run later more)
    (decided_answered run earlier later stays goals)
    (subst (λ (all : List Goal). Grown (decided_of run later goals) (decided_of run later all)) (sym grown.1) (decided_added run later grown.0 goals))

-- ---- the laws

pub goals-stay : (run : Fixed) (event : Event) (past : List Event) (number : ℕ) (goal : Goal)
    → goal_at (known_of run past) number ≡ Some goal → goal_at (known_of run (event ∷ past)) number ≡ Some goal
unfolding known_of
goals-stay run event past number goal h =
    numbered_grown (known_of run past).goals (goals_after (known_of run past) event.what) number goal (grown_goals (known_of run past) event.what) h

pub run_of : (run : Fixed) (history : List Event) → (known_of run history).run ≡ run
unfolding known_of
run_of run [] = refl
run_of run (event ∷ past) = run_of run past

pub recordings-stay : (run : Fixed) (event : Event) (past : List Event) (number : ℕ)
    → has_number (recorded_of past) number ≡ true → has_number (recorded_of (event ∷ past)) number ≡ true
recordings-stay run event past number h = by (recorded_by past event.what)
  where
    by : (o : Option ℕ) → has_number (cons_option o (recorded_of past)) number ≡ true
    by None = h
    by (Some other) = rw h (or-true (other == number))

pub decided_as : (run : Fixed) (history : List Event)
    → (known_of run history).decided
    ≡ decided_of (known_of run history).run (answers_of (known_of run history).history) (known_of run history).goals
unfolding known_of
decided_as run [] = refl
decided_as run (event ∷ past) = refl

pub decisions-stay : (run : Fixed) (event : Event) (past : List Event) (number : ℕ) (one : Decided)
    → decided_goal (known_of run past) number ≡ Some one → decided_goal (known_of run (event ∷ past)) number ≡ Some one
unfolding known_of
decisions-stay run event past number one h =
    let known : Known = known_of run past in
    let before : numbered (decided_of known.run (answers_of known.history) known.goals) number ≡ Some one =
    subst (λ (ones : List Decided). numbered ones number ≡ Some one) (decided_as run past) h in
    numbered_grown (decided_of known.run (answers_of known.history) known.goals)
    (decided_of known.run (cons_option (closed_by known.history event.what) (answers_of known.history)) (goals_after known event.what))
    number one
    (decided_grown known.run (answers_of known.history) (cons_option (closed_by known.history event.what) (answers_of known.history))
    known.goals (goals_after known event.what) (answers_by (closed_by known.history event.what) (answers_of known.history))
    (grown_goals known event.what))
    before

-- an event adds to what is decided
pub decided-grown : (run : Fixed) (event : Event) (past : List Event)
    → Grown (known_of run past).decided (known_of run (event ∷ past)).decided
unfolding known_of
decided-grown run event past =
    let known : Known = known_of run past in
    subst (λ (ones : List Decided). Grown ones
    (decided_of known.run (cons_option (closed_by known.history event.what) (answers_of known.history)) (goals_after known event.what)))
    (sym (decided_as run past))
    (decided_grown known.run (answers_of known.history) (cons_option (closed_by known.history event.what) (answers_of known.history))
    known.goals (goals_after known event.what) (answers_by (closed_by known.history event.what) (answers_of known.history))
    (grown_goals known event.what))
