-- What stands of a recorded goal: its claim, what recorded it, and its entry.
use Rattle.std.proofs.Common.{◌≡◌, ℕ, ◌==◌, ◌<◌, Bool, true, false, ◌||◌, if◌then◌else◌, List, [], ◌∷◌, length, Option, Some, None, is_some, refl, sym, ◌∙◌, ap, subst, arith, option_map, option_and_then, not, is_none}
use Rattle.std.proofs.lemmas.Bool.Decides.{nat_tests}
use Rattle.std.specs.List.{cons_option}
use Rattle.std.specs.Option.{option_or}
use Rattle.std.proofs.Math.Bool.{or-true}
use Rattle.pl_lemmas.proofs.Options.{some_there, or_none}
use Rattle.pl_lemmas.proofs.Numbers.{equal_numbers}
use Rattle.pl_options.specs.Names.{id_text}
use Rattle.pl_state.specs.Kinds.{is_component, is_importing_goal, is_provider_goal, is_reading_goal}
use Rattle.pl_state.specs.declared.entry.Entry.{Entry}
use Rattle.pl_state.specs.declared.goal.Diffed.{Diffed}
use Rattle.pl_state.specs.declared.goal.Goal.{Goal}
use Rattle.pl_events.specs.declared.event.Event.{Event}
use Rattle.pl_events.specs.declared.event.What.{What}
use Rattle.pl_events.specs.declared.event.What.TheVariants.{Answered, Kept}
use Rattle.pl_events.specs.declared.operation.Op.{Op}
use Rattle.pl_events.specs.declared.reply.Reply.{Reply}
use Rattle.pl_events.specs.declared.reply.Reply.TheVariants as reply
use Rattle.pl_decide.specs.Table.{decide}
use Rattle.pl_decide.specs.declared.decision.Decision.TheVariants as decision
use Rattle.pl_decide.specs.declared.decision.ProviderChange.{ProviderChange}
use Rattle.pl_model.specs.declared.decided.Decided.{Decided}
use Rattle.pl_model.specs.declared.errand.Closed.{Closed}
use Rattle.pl_model.specs.declared.fixed.Fixed.{Fixed}
use Rattle.pl_model.specs.Run.{Pairs}
use Rattle.pl_model.specs.Tickets.{answers_of, op_at}
use Rattle.pl_lemmas.specs.Words.{has_number, numbered, only_if}
use Rattle.pl_model.specs.Recording.{is_thing, goal_of_op, recorded_by, recorded_by_reply, recorded_of}
use Rattle.pl_model.specs.Claims.{claimed_row, id_of_row}
use Rattle.pl_model.specs.Decisions.{Turn, number_at, turn_in, turn_of, change_at, checked_at, claim_at, decided_at, decided_by, decided_next, decided_of, decision_at, diff_at}
use Rattle.pl_model.specs.Claims.{kept_provider_id}
use Rattle.pl_model.specs.Entries.{Result, entry_of, goal_entry, numbers_in, recorded_entry, recording_of, reference_to, result_answered, result_by, result_from, result_of_keep, result_of_reply, told_outputs, with_outputs, is_keep, is_update, kept_changed, kept_new, kept_planned, kept_same}
use Rattle.pl_model.specs.History.{known_of}
use Rattle.pl_model.specs.Known.{Known, claim_of, decided_goal, goal_at, is_recorded, next_turn, turn_of_goal}
use Rattle.pl_model_stays.proofs.Goals.Claiming.{final_fails}
use Rattle.pl_model_stays.proofs.Lists.Growing.{numbered_below, decided_as}

-- a choice is there where the first is
some_first : {X : Type 0} (first second : Option X) → is_some first ≡ true → is_some (option_or first second) ≡ true
some_first None second h = absurd (let e : false ≡ true = h in cc)
some_first (Some x) second h = refl

-- one of two is there where the second is
some_second : {X : Type 0} (first second : Option X) → is_some second ≡ true → is_some (option_or first second) ≡ true
some_second None second h = h
some_second (Some x) second h = refl

-- ---- claims

-- the first goal without a decision has the count of the decisions for its number
pub turn_number : (run : Fixed) (answers : List Closed) (goals : List Goal) (decided : List Decided) (turn : Turn)
    → turn_in run answers goals decided ≡ Some turn → number_at turn ≡ length decided
turn_number run answers [] decided turn h = absurd (let e : None ≡ Some turn = h in cc)
turn_number run answers (goal ∷ earlier) decided turn h =
    by (length earlier == length decided) refl (turn_number run answers earlier decided turn) h
  where
    by : (b : Bool) → (length earlier == length decided) ≡ b
        → (turn_in run answers earlier decided ≡ Some turn → number_at turn ≡ length decided)
        → (if b then Some (turn_of run answers earlier decided goal) else turn_in run answers earlier decided) ≡ Some turn
        → number_at turn ≡ length decided
    by true is rest h =
        let same : turn_of run answers earlier decided goal ≡ turn = cc in
        subst (λ (it : Turn). number_at it ≡ length decided) same (equal_numbers (length earlier) (length decided) is)
    by false is rest h = rest h

-- a decided goal is not the first without a decision
pub no_turn : (known : Known) (number : ℕ) (one : Decided) → decided_goal known number ≡ Some one → turn_of_goal known number ≡ None
no_turn known number one h = by (next_turn known) refl
  where
    by : (o : Option Turn) → next_turn known ≡ o
        → option_and_then (λ (turn : Turn). if number_at turn == number then Some turn else None) o ≡ None
    by None is = refl
    by (Some turn) is =
        let full : number_at turn ≡ length known.decided = turn_number known.run known.answers known.goals known.decided turn is in
        let below : number < length known.decided = numbered_below known.decided number one h in
        let apart : (number_at turn == number) ≡ false = grind (arith, nat_tests) in
        ap (λ (b : Bool). if b then Some turn else None) apart

-- the claim of a decided goal is the one that its decision has
pub claim-of-decided : (known : Known) (number : ℕ) (one : Decided) → decided_goal known number ≡ Some one → claim_of known number ≡ one.claim
claim-of-decided known number one h =
    ap (λ (decided : Option Decided). option_or (option_and_then (λ (it : Decided). it.claim) decided)
    (option_and_then (λ (turn : Turn). turn.claim) (turn_of_goal known number))) h
    ∙ ap (λ (turn : Option Turn). option_or one.claim (option_and_then (λ (it : Turn). it.claim) turn)) (no_turn known number one h)
    ∙ or_none one.claim

-- ---- what recorded a goal

-- a reply that says that a thing is there gives a result
thing_result : (claim : Option Entry) (said : Reply) → is_thing said ≡ true → is_some (result_of_reply claim said) ≡ true
thing_result claim (reply.Made id outputs) h = refl
thing_result claim (reply.MadePartly id outputs reasons) h = refl
thing_result claim (reply.Changed outputs) h = refl
thing_result claim (reply.ChangedPartly outputs reasons) h = refl
thing_result claim (reply.Found id inputs outputs) h = refl
thing_result claim _ h = absurd (let e : false ≡ true = h in cc)

-- an operation with its reply
abbrev pub closed_with : Reply → Op → Closed
closed_with said about = record { op = about; reply = said }

module _ (known : Known) (number : ℕ) (goal : Goal) (one : Decided) where
  -- what the events of a history gave to the goal's entry
  abbrev pub given_in : List Event → Option Result
  given_in history = result_from known number goal one history

  -- a history that records the goal tells what recorded it
  abbrev Finds : List Event → Type 0
  Finds past = has_number (recorded_of past) number ≡ true → is_some (given_in past) ≡ true

  -- an answer that records the goal gives its result
  closed_finds : (past : List Event) (closed : Closed) → Finds past
      → has_number (cons_option (recorded_by_reply closed) (recorded_of past)) number ≡ true
      → is_some (option_or (given_in past) (result_answered known number one closed)) ≡ true
  closed_finds past closed rest h = by (is_thing closed.reply) refl (goal_of_op closed.op) h
    where
      same : (b : Bool) → is_thing closed.reply ≡ true → (b || has_number (recorded_of past) number) ≡ true
          → is_some (option_or (given_in past) (only_if (b || false) (result_of_reply (claimed_row known.run one.claim) closed.reply))) ≡ true
      same true thing h =
          some_second (given_in past) (result_of_reply (claimed_row known.run one.claim) closed.reply)
          (thing_result (claimed_row known.run one.claim) closed.reply thing)
      same false thing h = some_first (given_in past) None (rest h)

      by : (thing : Bool) → is_thing closed.reply ≡ thing → (o : Option ℕ)
          → has_number (cons_option (only_if thing o) (recorded_of past)) number ≡ true
          → is_some (option_or (given_in past) (only_if (has_number (numbers_in (only_if thing o)) number)
          (result_of_reply (claimed_row known.run one.claim) closed.reply))) ≡ true
      by false is o h = some_first (given_in past) None (rest h)
      by true is None h = some_first (given_in past) None (rest h)
      by true is (Some other) h = same (other == number) is h

  -- so does one event more
  step_finds : (past : List Event) (what : What) → Finds past
      → has_number (cons_option (recorded_by past what) (recorded_of past)) number ≡ true
      → is_some (option_or (given_in past) (result_by known number goal one past what)) ≡ true
  step_finds past (Kept kept fresh) rest h = by (kept == number) h
    where
      by : (b : Bool) → (b || has_number (recorded_of past) number) ≡ true
          → is_some (option_or (given_in past) (option_or (only_if b (Some (result_of_keep goal (claimed_row known.run one.claim) one fresh))) None)) ≡ true
      by true h = some_second (given_in past) (Some (result_of_keep goal (claimed_row known.run one.claim) one fresh)) refl
      by false h = some_first (given_in past) None (rest h)
  step_finds past (Answered ticket said) rest h = by (op_at past ticket) h
    where
      by : (o : Option Op)
          → has_number (cons_option (option_and_then recorded_by_reply (option_map (closed_with said) o)) (recorded_of past)) number ≡ true
          → is_some (option_or (given_in past) (option_and_then (result_answered known number one) (option_map (closed_with said) o))) ≡ true
      by None h = some_first (given_in past) None (rest h)
      by (Some about) h = closed_finds past (closed_with said about) rest h
  step_finds past _ rest h = some_first (given_in past) None (rest h)

  -- what recorded a goal stands in the history
  recorded_finds : (history : List Event) → Finds history
  recorded_finds [] h = absurd (let e : false ≡ true = h in cc)
  recorded_finds (event ∷ past) h = step_finds past event.what (recorded_finds past) h

  -- an event that records another goal gives nothing
  other_gives : (past : List Event) (what : What) → has_number (cons_option (recorded_by past what) []) number ≡ false
      → result_by known number goal one past what ≡ None
  other_gives past (Kept kept fresh) h = by (kept == number) h
    where
      by : (b : Bool) → (b || false) ≡ false
          → option_or (only_if b (Some (result_of_keep goal (claimed_row known.run one.claim) one fresh))) None ≡ None
      by true h = absurd (let e : true ≡ false = h in cc)
      by false h = refl
  other_gives past (Answered ticket said) h = by (op_at past ticket) h
    where
      given : (o : Option ℕ) (r : Option Result) → has_number (cons_option o []) number ≡ false → only_if (has_number (numbers_in o) number) r ≡ None
      given None r h = refl
      given (Some other) r h = ap (λ (b : Bool). only_if b r) h

      by : (o : Option Op) → has_number (cons_option (option_and_then recorded_by_reply (option_map (closed_with said) o)) []) number ≡ false
          → option_and_then (result_answered known number one) (option_map (closed_with said) o) ≡ None
      by None h = refl
      by (Some about) h =
          given (recorded_by_reply (closed_with said about)) (result_of_reply (claimed_row known.run one.claim) said) h
  other_gives past _ h = refl

  -- a history that does not record the goal gives nothing to its entry
  pub unrecorded-gives : (history : List Event) → has_number (recorded_of history) number ≡ false → given_in history ≡ None
  unrecorded-gives [] h = refl
  unrecorded-gives (event ∷ past) h =
      let parts = by (recorded_by past event.what) h in
      ap (λ (o : Option Result). option_or o (result_by known number goal one past event.what)) (unrecorded-gives past parts.1)
      ∙ other_gives past event.what parts.0
    where
      neither : (a b : Bool) → (a || b) ≡ false → ((a || false) ≡ false) × (b ≡ false)
      neither true b h = absurd (let e : true ≡ false = h in cc)
      neither false b h = (refl, h)

      by : (o : Option ℕ) → has_number (cons_option o (recorded_of past)) number ≡ false
          → (has_number (cons_option o []) number ≡ false) × (has_number (recorded_of past) number ≡ false)
      by None h = (refl, h)
      by (Some other) h = neither (other == number) (has_number (recorded_of past) number) h

-- the answers that are told of are those of the history
pub answers_as : (run : Fixed) (history : List Event) → (known_of run history).answers ≡ answers_of (known_of run history).history
unfolding known_of
answers_as run [] = refl
answers_as run (event ∷ past) = refl

-- what recorded a recorded goal is found
pub recording-there : (run : Fixed) (history : List Event) (number : ℕ) (goal : Goal) (one : Decided)
    → is_recorded (known_of run history) number ≡ true
    → (result : Result) × (recording_of (known_of run history) number goal one ≡ Some result)
recording-there run history number goal one h =
    let known : Known = known_of run history in
    some_there (recording_of known number goal one) (recorded_finds known number goal one known.history h)

-- ---- entries

-- what the entry of a recorded goal has of the goal and of what recorded it
pub record Stands (known : Known) (goal : Goal) (result : Result) (row : Entry) : Type 0 where
  pub urn : row.urn ≡ goal.urn
  pub doomed : row.doomed ≡ false
  pub id : row.id ≡ result.id
  pub parent : row.parent ≡ goal.parent
  pub provider : row.provider ≡ option_and_then (reference_to known) goal.provider
  pub dependencies : row.dependencies ≡ goal.dependencies
  pub property_dependencies : row.property_dependencies ≡ goal.property_dependencies
  pub deleted_with : row.deleted_with ≡ goal.deleted_with

-- told outputs change outputs alone
told_stands : (known : Known) (goal : Goal) (one : Decided) (result : Result) (told : Option Pairs)
    → Stands known goal result (with_outputs told (goal_entry known goal one result))
told_stands known goal one result None = record {
  urn = refl;
  doomed = refl;
  id = refl;
  parent = refl;
  provider = refl;
  dependencies = refl;
  property_dependencies = refl;
  deleted_with = refl;
}
told_stands known goal one result (Some outputs) = record {
  urn = refl;
  doomed = refl;
  id = refl;
  parent = refl;
  provider = refl;
  dependencies = refl;
  property_dependencies = refl;
  deleted_with = refl;
}

-- the entry, before outputs are told of it
pub entry_is : (known : Known) (number : ℕ) (goal : Goal) (one : Decided) (result : Result)
    → goal_at known number ≡ Some goal → decided_goal known number ≡ Some one → recording_of known number goal one ≡ Some result
    → entry_of known number ≡ Some (goal_entry known goal one result)
entry_is known number goal one result here decided recorded =
    ap (λ (o : Option Goal). option_and_then (λ (it : Goal). option_and_then (λ (its : Decided).
    option_map (goal_entry known it its) (recording_of known number it its)) (decided_goal known number)) o) here
    ∙ ap (λ (o : Option Decided). option_and_then (λ (its : Decided).
    option_map (goal_entry known goal its) (recording_of known number goal its)) o) decided
    ∙ ap (λ (o : Option Result). option_map (goal_entry known goal one) o) recorded

-- a recorded goal has its entry
pub entry-there : (known : Known) (number : ℕ) (goal : Goal) (one : Decided) (result : Result)
    → goal_at known number ≡ Some goal → decided_goal known number ≡ Some one → recording_of known number goal one ≡ Some result
    → (row : Entry) × (recorded_entry known number ≡ Some row) × Stands known goal result row
entry-there known number goal one result here decided recorded = (
  with_outputs (told_outputs known number) (goal_entry known goal one result),
  ap (λ (o : Option Entry). option_map (with_outputs (told_outputs known number)) o) (entry_is known number goal one result here decided recorded),
  told_stands known goal one result (told_outputs known number),
)

-- nothing else can be there
abbrev pub IsOnly : {X : Type 0} → Option X → X → Type 0
IsOnly {X} o x = (y : X) → o ≡ Some y → y ≡ x

-- what is there is the only one
pub only_there : {X : Type 0} (o : Option X) (x : X) → o ≡ Some x → IsOnly o x
only_there o x h y is = let e : Some y ≡ Some x = sym is ∙ h in cc

-- ---- a goal that is kept as it was has a claim

-- without a claim the table does not keep
table_not_keep : (goal : Goal) (change : ProviderChange) (checked : Pairs) (diff : Option Diffed)
    → is_keep (decide None goal change checked diff) ≡ false
table_not_keep goal change checked diff = by (is_reading_goal goal) (is_importing_goal goal)
  where
    by : (reading importing : Bool)
        → is_keep (if reading then decision.ReadOnly else (if importing then decision.Import else decision.Create)) ≡ false
    by true importing = refl
    by false true = refl
    by false false = refl

-- what is decided to be kept is kept over a row
abbrev pub KeepsClaim : Fixed → Decided → Type 0
KeepsClaim run one = is_keep one.decision ≡ true → is_some (claimed_row run one.claim) ≡ true

-- so it is at a goal's turn
decided_keeps : (turn : Turn) (checked : Pairs) (diff : Option Diffed) → KeepsClaim turn.run (decided_by turn checked diff)
decided_keeps turn checked diff h = by (claim_at turn) refl
  where
    by : (o : Option Entry) → claim_at turn ≡ o → is_some (claim_at turn) ≡ true
    by (Some row) is = ap (λ (o : Option Entry). is_some o) is
    by None is =
        let none : is_keep (decision_at turn checked diff) ≡ false =
        final_fails is_keep turn (decide (claim_at turn) turn.goal (change_at turn) checked diff) (λ problem. refl)
        (ap (λ (o : Option Entry). is_keep (decide o turn.goal (change_at turn) checked diff)) is
        ∙ table_not_keep turn.goal (change_at turn) checked diff) in
        absurd (let e : true ≡ false = sym h ∙ none in cc)

-- so it is once the turn's check and diff have come
turn_keeps : (turn : Turn) (one : Decided) → decided_at turn ≡ Some one → KeepsClaim turn.run one
turn_keeps turn one h = by (checked_at turn) (diff_at turn) h
  where
    by : (checked : Option Pairs) (diff : Option (Option Diffed))
        → option_and_then (λ (fields : Pairs). option_map (decided_by turn fields) diff) checked ≡ Some one → KeepsClaim turn.run one
    by None diff h = absurd (let e : None ≡ Some one = h in cc)
    by (Some fields) None h = absurd (let e : None ≡ Some one = h in cc)
    by (Some fields) (Some diff) h =
        let same : decided_by turn fields diff ≡ one = cc in
        subst (λ (it : Decided). KeepsClaim turn.run it) same (decided_keeps turn fields diff)

-- so it is of the next goal
next_keeps : (run : Fixed) (answers : List Closed) (earlier : List Goal) (before : List Decided) (goal : Goal) (one : Decided)
    → decided_next run answers earlier before goal ≡ Some one → KeepsClaim run one
next_keeps run answers earlier before goal one h = by (length before == length earlier) h
  where
    by : (b : Bool) → (if b then decided_at (turn_of run answers earlier before goal) else None) ≡ Some one → KeepsClaim run one
    by true h = turn_keeps (turn_of run answers earlier before goal) one h
    by false h = absurd (let e : None ≡ Some one = h in cc)

-- so it is of each decided goal
each_keeps : (run : Fixed) (answers : List Closed) (goals : List Goal) (number : ℕ) (one : Decided)
    → numbered (decided_of run answers goals) number ≡ Some one → KeepsClaim run one
each_keeps run answers [] number one h = absurd (let e : None ≡ Some one = h in cc)
each_keeps run answers (goal ∷ earlier) number one h =
    by (decided_next run answers earlier (decided_of run answers earlier) goal) refl (each_keeps run answers earlier number one) h
  where
    here : (first : Decided) → KeepsClaim run first → (b : Bool) → (numbered (decided_of run answers earlier) number ≡ Some one → KeepsClaim run one)
        → (if b then Some first else numbered (decided_of run answers earlier) number) ≡ Some one → KeepsClaim run one
    here first keeps true rest h = let same : first ≡ one = cc in subst (λ (it : Decided). KeepsClaim run it) same keeps
    here first keeps false rest h = rest h

    by : (o : Option Decided) → decided_next run answers earlier (decided_of run answers earlier) goal ≡ o
        → (numbered (decided_of run answers earlier) number ≡ Some one → KeepsClaim run one)
        → numbered (cons_option o (decided_of run answers earlier)) number ≡ Some one → KeepsClaim run one
    by None is rest h = rest h
    by (Some first) is rest h =
        here first (next_keeps run answers earlier (decided_of run answers earlier) goal first is)
        (length (decided_of run answers earlier) == number) rest h

-- a decision to keep is one over a claim
pub keep_has_claim : (run : Fixed) (history : List Event) (number : ℕ) (one : Decided)
    → decided_goal (known_of run history) number ≡ Some one → KeepsClaim (known_of run history).run one
keep_has_claim run history number one h =
    let known : Known = known_of run history in
    each_keeps known.run (answers_of known.history) known.goals number one
    (subst (λ (ones : List Decided). numbered ones number ≡ Some one) (decided_as run history) h)

-- ---- the id that a keep gives to a provider

-- the id of the result that a provider's keep gives
pub keep_id : (goal : Goal) (row : Option Entry) (one : Decided) (fresh : Option ℕ) → is_provider_goal goal ≡ true
    → (is_keep one.decision ≡ true → is_some row ≡ true) → (result_of_keep goal row one fresh).id ≡ kept_provider_id row fresh
keep_id goal row one fresh provider keeps = by (is_keep one.decision) refl
  where
    same : (o : Option Entry) → is_some o ≡ true → (kept_same goal o fresh).id ≡ kept_provider_id o fresh
    same None h = absurd (let e : false ≡ true = h in cc)
    same (Some claim) h = ap (λ (b : Bool). if b then kept_provider_id (Some claim) fresh else claim.id) provider

    other : (b : Bool) → (if b then kept_changed goal row fresh else kept_new goal row fresh).id ≡ kept_provider_id row fresh
    other true = ap (λ (b : Bool). if b then kept_provider_id row fresh else id_of_row row) provider
    other false = ap (λ (b : Bool). if b then kept_provider_id row fresh else None) provider

    alone : (is_component goal || is_provider_goal goal) ≡ true
    alone = ap (λ (b : Bool). is_component goal || b) provider ∙ or-true (is_component goal)

    by : (keep : Bool) → is_keep one.decision ≡ keep → (if keep then kept_same goal row fresh
        else (if not (is_component goal || is_provider_goal goal) then kept_planned goal row one
        else (if is_update one.decision then kept_changed goal row fresh else kept_new goal row fresh))).id ≡ kept_provider_id row fresh
    by true is = same row (keeps is)
    by false is =
        ap (λ (b : Bool). (if not b then kept_planned goal row one
        else (if is_update one.decision then kept_changed goal row fresh else kept_new goal row fresh)).id) alone
        ∙ other (is_update one.decision)

-- an id is there where a number is, exactly if one is needed
pub id_there : (claimed : Option (List ℕ)) (fresh : Option ℕ) → is_some fresh ≡ is_none claimed
    → is_some (option_or claimed (option_map id_text fresh)) ≡ true
id_there (Some id) fresh h = refl
id_there None None h = absurd (let e : false ≡ true = h in cc)
id_there None (Some drawn) h = refl
