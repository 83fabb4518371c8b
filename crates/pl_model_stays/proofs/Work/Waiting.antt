-- Small facts for the law that nothing waits in a circle: the goal that waits to be decided, what it needs, and rows.
use Rattle.std.proofs.Common.{◌≡◌, ◌≢◌, ℕ, zero, suc, ◌+◌, ◌<◌, ◌≤◌, ◌==◌, Bool, true, false, not, ◌&&◌, ◌||◌, if◌then◌else◌, List, ◌∷◌, ◌++◌, length, nat_lt, option_and_then, option_map, reverse, Option, Some, None, is_some, refl, sym, ◌∙◌, ap, subst, inl, inr, ◌⊎◌, arith, eq-or-lt_of_le, []}
use Rattle.std.proofs.lemmas.Bool.Decides.{nat_tests}
use Rattle.std.proofs.lemmas.List.{reverse-append}
use Rattle.std.specs.List.{cons_option, flat_map, list_all, list_any, range_with_len}
use Rattle.std.proofs.Math.Bool.{or-true}
use Rattle.std.proofs.lemmas.Option.{same_Some}
use Rattle.pl_lemmas.proofs.Truth.{and_left, and_right}
use Rattle.pl_lemmas.proofs.Numbers.{same_number, range_has}
use Rattle.pl_lemmas.proofs.Lists.{any_front, any_back, any_mapped}
use Rattle.pl_state.specs.Chain.{refers_to}
use Rattle.pl_state.specs.Kinds.{is_provided, is_provider_goal, is_reading_goal, kin_of}
use Rattle.pl_state.specs.declared.entry.Entry.{Entry}
use Rattle.pl_state.specs.declared.goal.Goal.{Goal}
use Rattle.pl_events.specs.declared.event.Event.{Event}
use Rattle.pl_events.specs.declared.operation.Call.TheVariants as call
use Rattle.pl_events.specs.declared.operation.Op.{Op}
use Rattle.pl_events.specs.declared.operation.Op.TheVariants as op
use Rattle.pl_events.specs.declared.operation.Subject.TheVariants as subject
use Rattle.pl_events.specs.declared.reply.Reply.{Reply}
use Rattle.pl_events.specs.declared.reply.Reply.TheVariants.{Checked, Diffed as DiffedReply}
use Rattle.pl_decide.specs.declared.decision.Decision.{Decision}
use Rattle.pl_decide.specs.declared.decision.Decision.TheVariants as decision
use Rattle.pl_decide.specs.declared.decision.ProviderChange.{ProviderChange}
use Rattle.pl_decide.specs.Table.{custom_differs, is_conflict, is_other_provider, kin_needs_diff, needs_diff}
use Rattle.pl_events.specs.Replies.{tells_success}
use Rattle.pl_model.specs.declared.decided.Decided.{Decided}
use Rattle.pl_model.specs.declared.errand.Closed.{Closed}
use Rattle.pl_model.specs.declared.fixed.Fixed.{Fixed}
use Rattle.pl_model.specs.Run.{Pairs, is_refresh, rows_of}
use Rattle.pl_lemmas.specs.Words.{has_number, is_row, numbered}
use Rattle.pl_model.specs.Claims.{is_claimed}
use Rattle.pl_model.specs.Decisions.{Turn, decided_by, decided_next, decided_of, checked_at, checked_in, decided_at, diff_at, diffed_in, inputs_at, needs_check, number_at, turn_in, turn_of}
use Rattle.pl_model.specs.Due.{checks_of, deletes_of, for_decided, is_asked, is_carried_out, op_of_decision, op_of_goal, operations_of, sends_goal, sends_of, source_of_op}
use Rattle.pl_model.specs.History.{known_of}
use Rattle.pl_model.specs.Known.{Known, decided_goal, goal_at, is_over}
use Rattle.pl_model.specs.Recording.{goal_of_op}
use Rattle.pl_model.specs.Rows.{is_doomed, is_left, is_target, row_numbers, source_of_goal, takes_along}
use Rattle.pl_model.specs.Tickets.{answers_of, reply_to, same_op, was_begun}
use Rattle.pl_model_stays.proofs.Goals.Claiming.{was-made}
use Rattle.pl_model_stays.proofs.Operations.Configuring.{replied-begun, checked_there}
use Rattle.pl_model_stays.proofs.Lists.Growing.{numbered_below, numbered_more, run_of}
use Rattle.pl_model_stays.proofs.Operations.Once.{history_of, left_parts}

pub false_or : (b : Bool) → (b ≡ true → ⊥) → b ≡ false
false_or true h = absurd (h refl)
false_or false h = refl

pub true_or : (b : Bool) → (b ≡ false → ⊥) → b ≡ true
true_or true h = refl
true_or false h = absurd (h refl)

-- the turn of the first goal that is not decided, and that something is missing at it
pub record Waiting (run : Fixed) (answers : List Closed) (goals : List Goal) (goal : Goal) : Type 0 where
  pub turn : Turn
  pub next : turn_in run answers goals (decided_of run answers goals) ≡ Some turn
  pub whose : turn.goal ≡ goal
  pub count : number_at turn ≡ length (decided_of run answers goals)
  pub heard : turn.answers ≡ answers
  pub fixed : turn.run ≡ run
  pub undecided : decided_at turn ≡ None

pub waiting : (run : Fixed) (answers : List Closed) (goals : List Goal) (goal : Goal)
    → numbered goals (length (decided_of run answers goals)) ≡ Some goal → Waiting run answers goals goal
waiting run answers [] goal h = absurd (let e : None ≡ Some goal = h in cc)
waiting run answers (newest ∷ earlier) goal h =
    by (decided_next run answers earlier (decided_of run answers earlier) newest) refl h (waiting run answers earlier goal)
  where
    -- all are decided, so none waits
    full : (one : Decided) (b : Bool) → (length (decided_of run answers earlier) == length earlier) ≡ b
        → (if b then decided_at (turn_of run answers earlier (decided_of run answers earlier) newest) else None) ≡ Some one
        → numbered (newest ∷ earlier) (length (one ∷ (decided_of run answers earlier))) ≡ Some goal → ⊥
    full one false same next there = let e : None ≡ Some one = next in cc
    full one true same next there =
        let low : length (one ∷ (decided_of run answers earlier)) < length (newest ∷ earlier) = numbered_below (newest ∷ earlier) (length (one ∷ (decided_of run answers earlier))) goal there in
        let count : length (decided_of run answers earlier) ≡ length earlier = grind (arith, nat_tests) in omega arith

    here : (b : Bool) → (length earlier == length (decided_of run answers earlier)) ≡ b → (length (decided_of run answers earlier) == length earlier) ≡ b
        → (if b then decided_at (turn_of run answers earlier (decided_of run answers earlier) newest) else None) ≡ None
        → (if b then Some newest else numbered earlier (length (decided_of run answers earlier))) ≡ Some goal
        → (numbered earlier (length (decided_of run answers earlier)) ≡ Some goal → Waiting run answers earlier goal)
        → (turn : Turn) × ((if b then Some (turn_of run answers earlier (decided_of run answers earlier) newest) else turn_in run answers earlier (decided_of run answers earlier)) ≡ Some turn)
        × (turn.goal ≡ goal) × (number_at turn ≡ length (decided_of run answers earlier)) × (turn.answers ≡ answers) × (turn.run ≡ run) × (decided_at turn ≡ None)
    here true same turned missing there rest =
        (turn_of run answers earlier (decided_of run answers earlier) newest, refl, same_Some newest goal there, grind (arith, nat_tests), refl, refl, missing)
    here false same turned missing there rest =
        let its = rest there in (its.turn, its.next, its.whose, its.count, its.heard, its.fixed, its.undecided)

    by : (o : Option Decided) → decided_next run answers earlier (decided_of run answers earlier) newest ≡ o
        → numbered (newest ∷ earlier) (length (cons_option (decided_next run answers earlier (decided_of run answers earlier) newest) (decided_of run answers earlier))) ≡ Some goal
        → (numbered earlier (length (decided_of run answers earlier)) ≡ Some goal → Waiting run answers earlier goal) → Waiting run answers (newest ∷ earlier) goal
    by (Some one) is there rest =
        absurd (full one (length (decided_of run answers earlier) == length earlier) refl is
        (subst (λ (o : Option Decided). numbered (newest ∷ earlier) (length (cons_option o (decided_of run answers earlier))) ≡ Some goal) is there))
    by None is there rest =
        let at : numbered (newest ∷ earlier) (length (decided_of run answers earlier)) ≡ Some goal =
        subst (λ (o : Option Decided). numbered (newest ∷ earlier) (length (cons_option o (decided_of run answers earlier))) ≡ Some goal) is there in
        let (turn, next, whose, count, heard, fixed, undecided) =
        here (length earlier == length (decided_of run answers earlier)) refl (turned (length earlier) (length (decided_of run answers earlier)))
        (subst (λ (b : Bool). (if b then decided_at (turn_of run answers earlier (decided_of run answers earlier) newest) else None) ≡ None)
        (turned (length earlier) (length (decided_of run answers earlier))) is) at rest in
        let same : decided_of run answers (newest ∷ earlier) ≡ (decided_of run answers earlier) = ap (λ (o : Option Decided). cons_option o (decided_of run answers earlier)) is in
        record {
          turn = turn;
          next = subst (λ (ones : List Decided). turn_in run answers (newest ∷ earlier) ones ≡ Some turn) (sym same) next;
          whose = whose;
          count = count ∙ sym (ap (λ (ones : List Decided). length ones) same);
          heard = heard;
          fixed = fixed;
          undecided = undecided;
        }
      where
        turned : (a b : ℕ) → (b == a) ≡ (a == b)
        turned a b = grind (arith, nat_tests)

-- a count that no number below another reaches is at least the other
pub above : (n : ℕ) {count : ℕ} → ((m : ℕ) → m < n → m < count) → n ≤ count
above zero h = omega arith
above (suc n) h = let e = h n (omega arith) in omega arith

exact_below : (decided : List Decided) (n : ℕ) → n < length decided → numbered decided n ≡ None → ⊥
exact_below [] n low h = omega arith
exact_below (one ∷ decided) n low h = by (length decided == n) refl h (exact_below decided n)
  where
    by : (b : Bool) → (length decided == n) ≡ b → (if b then Some one else numbered decided n) ≡ None
        → (n < length decided → numbered decided n ≡ None → ⊥) → ⊥
    by true is h rest = let e : Some one ≡ None = h in cc
    by false is h rest = rest (let e : n ≢ length decided = (λ same. let f : true ≡ false = sym (let g : (length decided == n) ≡ true = grind (arith, nat_tests) in g) ∙ is in cc) in omega arith) h

-- where a number is the first that is not decided, it is the count
pub exact : (decided : List Decided) (n : ℕ) → n ≤ length decided → numbered decided n ≡ None → length decided ≡ n
exact decided n low h = by (nat_lt n (length decided)) refl
  where
    by : (b : Bool) → nat_lt n (length decided) ≡ b → length decided ≡ n
    by true is = absurd (exact_below decided n (grind (arith, nat_tests)) h)
    by false is = grind (arith, nat_tests)

-- ---- replies

pub checked_well : (reply : Reply) → tells_success call.CheckConfig reply ≡ true → is_some (checked_in (Some reply)) ≡ true
checked_well (Checked fields) h = refl
checked_well _ h = absurd (let e : false ≡ true = h in cc)

pub inputs_well : (reply : Reply) → tells_success call.Check reply ≡ true → is_some (checked_in (Some reply)) ≡ true
inputs_well (Checked fields) h = refl
inputs_well _ h = absurd (let e : false ≡ true = h in cc)

pub diffed_well : (reply : Reply) → tells_success call.Diff reply ≡ true → is_some (diffed_in (Some reply)) ≡ true
diffed_well (DiffedReply diff) h = refl
diffed_well _ h = absurd (let e : false ≡ true = h in cc)

pub mapped_some : {X : Type 0} (o : Option X) → is_some o ≡ true → is_some (option_map (λ (x : X). Some x) o) ≡ true
mapped_some None h = absurd (let e : false ≡ true = h in cc)
mapped_some (Some x) h = refl

-- a choice between two that may be missing and one that is there
pub choose_some : {X : Type 0} (provider needed : Bool) (first second : Option X) (third : X) → (provider ≡ true → is_some first ≡ true)
    → (provider ≡ false → needed ≡ true → is_some second ≡ true) → is_some (if provider then first else (if needed then second else Some third)) ≡ true
choose_some true needed first second third h k = h refl
choose_some false true first second third h k = k refl refl
choose_some false false first second third h k = refl

-- a diff is wanted of a goal that is provided for
pub diff_provided : (claim : Option Entry) (goal : Goal) (change : ProviderChange) → needs_diff claim goal change ≡ true → is_provided goal ≡ true
diff_provided claim goal change h = by (kin_of claim) (and_right (not (is_reading_goal goal) && not (custom_differs claim goal)) (kin_needs_diff (kin_of claim) goal change) h)
  where
    by : (kin : Option Entry) → kin_needs_diff kin goal change ≡ true → is_provided goal ≡ true
    by None h = absurd (let e : false ≡ true = h in cc)
    by (Some kin) h = and_left (is_provided goal) (not (is_conflict kin goal)) (and_left _ (not (is_other_provider change)) h)

-- what is decided was checked
decided_checked : (turn : Turn) (one : Decided) → decided_at turn ≡ Some one → is_some (checked_at turn) ≡ true
decided_checked turn one h = by (checked_at turn) refl
  where
    by : (o : Option Pairs) → checked_at turn ≡ o → is_some (checked_at turn) ≡ true
    by (Some checked) is = ap (λ (o : Option Pairs). is_some o) is
    by None is = absurd (let e : None ≡ Some one = sym (ap (λ (o : Option Pairs). option_and_then (λ (checked : Pairs). option_map (decided_by turn checked) (diff_at turn)) o) is) ∙ h in cc)

-- a provider's goal that is decided had its inputs checked
pub config_begun : (run : Fixed) (history : List Event) (n : ℕ) (goal : Goal) (one : Decided) → goal_at (known_of run history) n ≡ Some goal
    → decided_goal (known_of run history) n ≡ Some one → is_provider_goal goal ≡ true → was_begun history (op.CheckConfig (subject.Goal n)) ≡ true
config_begun run history n goal one stands decided provider =
    let made = was-made run history n one decided in
    let same : made.goal ≡ goal = same_Some made.goal goal (sym made.stands ∙ stands) in
    let provides : is_provider_goal made.goal ≡ true = ap (λ (it : Goal). is_provider_goal it) same ∙ provider in
    let turn = turn_of run (answers_of (known_of run history).history) made.earlier made.before made.goal in
    let checked : is_some (checked_in (reply_to (answers_of (known_of run history).history) (op.CheckConfig (subject.Goal (length made.earlier))))) ≡ true =
    subst (λ (b : Bool). is_some (if b then checked_in (reply_to (answers_of (known_of run history).history) (op.CheckConfig (subject.Goal (length made.earlier))))
    else (if needs_check turn then checked_in (reply_to (answers_of (known_of run history).history) (op.Check (subject.Goal (length made.earlier))))
    else Some (inputs_at turn))) ≡ true) provides (decided_checked turn one made.made) in
    let came = checked_there _ checked in
    let known_now : reply_to (answers_of (known_of run history).history) (op.CheckConfig (subject.Goal n)) ≡ Some came.0 =
    subst (λ (k : ℕ). reply_to (answers_of (known_of run history).history) (op.CheckConfig (subject.Goal k)) ≡ Some came.0) made.level came.1 in
    replied-begun history (op.CheckConfig (subject.Goal n)) came.0
    (subst (λ (events : List Event). reply_to (answers_of events) (op.CheckConfig (subject.Goal n)) ≡ Some came.0) (history_of run history) known_now)

-- ---- rows

-- the goal that claims a claimed row
pub claimed_by : (decided : List Decided) (row : ℕ) → is_claimed decided row ≡ true
    → (m : ℕ) × (one : Decided) × (numbered decided m ≡ Some one) × (is_row one.claim row ≡ true)
claimed_by [] row h = absurd (let e : false ≡ true = h in cc)
claimed_by (one ∷ before) row h = by (is_row one.claim row) refl h (claimed_by before row)
  where
    by : (b : Bool) → is_row one.claim row ≡ b → (b || is_claimed before row) ≡ true
        → (is_claimed before row ≡ true → (m : ℕ) × (other : Decided) × (numbered before m ≡ Some other) × (is_row other.claim row ≡ true))
        → (m : ℕ) × (other : Decided) × (numbered (one ∷ before) m ≡ Some other) × (is_row other.claim row ≡ true)
    by true is h rest = (length before, one, rw (same_number (length before)) refl, is)
    by false is h rest =
        let (m, other, there, claims) = rest h in (m, other, numbered_more one before m other there, claims)

pub refers_above : (rows : List Entry) (later earlier : ℕ) → refers_to rows later earlier ≡ true → earlier < later
refers_above rows later earlier h = let e : nat_lt earlier later ≡ true = and_left (nat_lt earlier later) _ h in grind (arith, nat_tests)

pub left_low : (run : Fixed) (history : List Event) (row : ℕ) → is_left (known_of run history) row ≡ true → row < length (rows_of run)
left_low run history row left =
    let below = (left_parts (nat_lt row (length (rows_of (known_of run history).run))) _ _ left).0 in
    let e : nat_lt row (length (rows_of run)) ≡ true = subst (λ (fixed : Fixed). nat_lt row (length (rows_of fixed)) ≡ true) (run_of run history) below in
    grind (arith, nat_tests)

pub doomed_left : (known : Known) (row : ℕ) → is_doomed known row ≡ true → is_left known row ≡ true
doomed_left known row h =
    and_left (is_left known row) (not (is_refresh known.run.mode)) (and_left _ (is_target known row) (and_left _ (is_over known || list_any (takes_along known row) known.decided) h))

pub all_numbers : (p : ℕ → Bool) (xs : List ℕ) → ((n : ℕ) → has_number xs n ≡ true → p n ≡ true) → list_all p xs ≡ true
all_numbers p [] h = refl
all_numbers p (x ∷ xs) h =
    rw (h x (rw (same_number x) refl)) (all_numbers p xs (λ n there. h n (rw there (or-true (x == n)))))

pub last_or : (n m : ℕ) → m < suc n → (m < n) ⊎ (m ≡ n)
last_or n m low = by (nat_lt m n) refl
  where
    by : (b : Bool) → nat_lt m n ≡ b → (m < n) ⊎ (m ≡ n)
    by true is = inl (grind (arith, nat_tests))
    by false is = inr (grind (arith, nat_tests))

pub at_last : (P : ℕ → Type 0) (n m : ℕ) → m < suc n → ((k : ℕ) → k < n → P k) → P n → P m
at_last P n m low before here = by (last_or n m low)
  where
    by : (m < n) ⊎ (m ≡ n) → P m
    by (inl earlier) = before m earlier
    by (inr same) = subst (λ (k : ℕ). P k) (sym same) here

-- ---- what a goal needs

-- an operation makes, changes or reads the goal's thing
abbrev IsKind : ℕ → Op → Type 0
IsKind n about = (about ≡ op.Create (subject.Goal n)) ⊎ ((about ≡ op.Update (subject.Goal n)) ⊎ (about ≡ op.Read (subject.Goal n)))

for_kinds : (n : ℕ) (P : Op → Type 0) → P (op.Create (subject.Goal n)) → P (op.Update (subject.Goal n)) → P (op.Read (subject.Goal n))
    → (about : Op) → IsKind n about → P about
for_kinds n P made changed read about (inl is) = subst (λ (it : Op). P it) (sym is) made
for_kinds n P made changed read about (inr (inl is)) = subst (λ (it : Op). P it) (sym is) changed
for_kinds n P made changed read about (inr (inr is)) = subst (λ (it : Op). P it) (sym is) read

kind_of_decision : (n : ℕ) (choice : Decision) (about : Op) → op_of_decision n choice ≡ Some about → IsKind n about
kind_of_decision n decision.Create about h = inl (sym (same_Some (op.Create (subject.Goal n)) about h))
kind_of_decision n (decision.Replace first) about h = inl (sym (same_Some (op.Create (subject.Goal n)) about h))
kind_of_decision n decision.Update about h = inr (inl (sym (same_Some (op.Update (subject.Goal n)) about h)))
kind_of_decision n decision.Import about h = inr (inr (sym (same_Some (op.Read (subject.Goal n)) about h)))
kind_of_decision n decision.ReadOnly about h = inr (inr (sym (same_Some (op.Read (subject.Goal n)) about h)))
kind_of_decision n _ about h = absurd (let e : None ≡ Some about = h in cc)

-- what a goal needs is sent for it, and it is provided for
pub carried : (known : Known) (n : ℕ) (goal : Goal) (one : Decided) (about : Op) → op_of_goal known n goal one ≡ Some about
    → (is_provided goal ≡ true) × IsKind n about
carried known n goal one about h = by (is_carried_out known goal one.decision) refl h
  where
    by : (b : Bool) → is_carried_out known goal one.decision ≡ b → (if b then op_of_decision n one.decision else None) ≡ Some about
        → (is_provided goal ≡ true) × IsKind n about
    by true is h = (and_left (is_provided goal) _ is, kind_of_decision n one.decision about h)
    by false is h = absurd (let e : None ≡ Some about = h in cc)

pub kind_goal : (n : ℕ) (about : Op) → IsKind n about → goal_of_op about ≡ Some n
kind_goal n = for_kinds n (λ about. goal_of_op about ≡ Some n) refl refl refl

pub kind_source : (known : Known) (n : ℕ) (about : Op) → IsKind n about → source_of_op known about ≡ source_of_goal known n
kind_source known n = for_kinds n (λ about. source_of_op known about ≡ source_of_goal known n) refl refl refl

pub kind_listed : (n : ℕ) (about : Op) → IsKind n about
    → list_any (same_op about) (op.Create (subject.Goal n) ∷ op.Update (subject.Goal n) ∷ op.Read (subject.Goal n) ∷ []) ≡ true
kind_listed n = for_kinds n (λ about. list_any (same_op about) (op.Create (subject.Goal n) ∷ op.Update (subject.Goal n) ∷ op.Read (subject.Goal n) ∷ []) ≡ true)
    (rw (same_number n) refl) (rw (same_number n) refl) (rw (same_number n) refl)

pub kind_asked : (known : Known) (n : ℕ) (about : Op) → IsKind n about → for_decided known n (sends_goal known n about) ≡ true → is_asked known about ≡ true
kind_asked known n = for_kinds n (λ about. for_decided known n (sends_goal known n about) ≡ true → is_asked known about ≡ true) (λ h. h) (λ h. h) (λ h. h)

-- ---- lists of operations

-- what is made of a number of a range is among what is made of all of them
any_flat : {X : Type 0} (p : X → Bool) (f : ℕ → List X) (a n k : ℕ) → a ≤ k → k < a + n → list_any p (f k) ≡ true
    → list_any p (flat_map f (range_with_len a n)) ≡ true
any_flat p f a zero k low high h = absurd (omega arith)
any_flat p f a (suc n) k low high h = at (eq-or-lt_of_le low) (λ later. any_flat p f (a + 1) n k (omega arith) (omega arith) h)
  where
    at : (a ≡ k) ⊎ (a < k) → (a < k → list_any p (flat_map f (range_with_len (a + 1) n)) ≡ true) → list_any p (flat_map f (range_with_len a (suc n))) ≡ true
    at (inl same) rest = any_front p (f a) (flat_map f (range_with_len (a + 1) n)) (subst (λ (j : ℕ). list_any p (f j) ≡ true) (sym same) h)
    at (inr later) rest = any_back p (f a) (flat_map f (range_with_len (a + 1) n)) (rest later)

pub any_reversed : {X : Type 0} (p : X → Bool) (xs : List X) → list_any p xs ≡ true → list_any p (reverse xs) ≡ true
any_reversed p [] h = absurd (let e : false ≡ true = h in cc)
any_reversed {X} p (x ∷ xs) h =
    ap (λ (ys : List X). list_any p ys) (reverse-append (x ∷ []) xs) ∙ by (p x) refl h (any_reversed p xs)
  where
    by : (b : Bool) → p x ≡ b → (b || list_any p xs) ≡ true → (list_any p xs ≡ true → list_any p (reverse xs) ≡ true)
        → list_any p (reverse xs ++ x ∷ []) ≡ true
    by true is h rest = any_back p (reverse xs) (x ∷ []) (rw is refl)
    by false is h rest = any_front p (reverse xs) (x ∷ []) (rest h)

module _ (known : Known) where
  pub check_listed : (n : ℕ) → n < length known.goals → list_any (same_op (op.Check (subject.Goal n))) (operations_of known) ≡ true
  check_listed n low = any_back (same_op (op.Check (subject.Goal n))) (deletes_of known) _
      (any_front (same_op (op.Check (subject.Goal n))) (checks_of known) _
      (any_flat (same_op (op.Check (subject.Goal n))) (λ number. op.Check (subject.Goal number) ∷ op.Diff (subject.Goal number) ∷ [])
      0 (length known.goals) n (omega arith) (omega arith) (rw (same_number n) refl)))

  pub diff_listed : (n : ℕ) → n < length known.goals → list_any (same_op (op.Diff (subject.Goal n))) (operations_of known) ≡ true
  diff_listed n low = any_back (same_op (op.Diff (subject.Goal n))) (deletes_of known) _
      (any_front (same_op (op.Diff (subject.Goal n))) (checks_of known) _
      (any_flat (same_op (op.Diff (subject.Goal n))) (λ number. op.Check (subject.Goal number) ∷ op.Diff (subject.Goal number) ∷ [])
      0 (length known.goals) n (omega arith) (omega arith) (rw (same_number n) refl)))

  pub sends_listed : (about : Op) (n : ℕ) → n < length known.goals
      → list_any (same_op about) (op.Create (subject.Goal n) ∷ op.Update (subject.Goal n) ∷ op.Read (subject.Goal n) ∷ []) ≡ true
      → list_any (same_op about) (operations_of known) ≡ true
  sends_listed about n low h = any_back (same_op about) (deletes_of known) _ (any_back (same_op about) (checks_of known) _
      (any_front (same_op about) (sends_of known) _
      (any_flat (same_op about) (λ number. op.Create (subject.Goal number) ∷ op.Update (subject.Goal number) ∷ op.Read (subject.Goal number) ∷ [])
      0 (length known.goals) n (omega arith) (omega arith) h)))

  pub delete_listed : (row : ℕ) → row < length (rows_of known.run) → list_any (same_op (op.Delete (subject.Row row))) (operations_of known) ≡ true
  delete_listed row low = any_front (same_op (op.Delete (subject.Row row))) (deletes_of known) _
      (any_mapped (same_op (op.Delete (subject.Row row))) (λ place. op.Delete (subject.Row place)) (reverse (row_numbers known))
      ∙ any_reversed (λ place. same_op (op.Delete (subject.Row row)) (op.Delete (subject.Row place))) (row_numbers known)
      (range_has (λ place. same_op (op.Delete (subject.Row row)) (op.Delete (subject.Row place))) 0 (length (rows_of known.run)) row
      (omega arith) (omega arith) (same_number row)))
