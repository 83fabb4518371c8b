-- That the entry of a recorded goal finds what it refers to among the entries recorded before it.
use Rattle.std.proofs.Common.{◌≡◌, ℕ, ◌==◌, Bool, true, false, ◌||◌, if◌then◌else◌, List, [], ◌∷◌, length, Option, Some, None, refl, sym, ◌∙◌, ap, subst, option_map, option_and_then, ◌&&◌, ◌++◌, reverse, filter_map, bytes_eq}
use Rattle.std.proofs.lemmas.List.{reverse-append}
use Rattle.std.proofs.lemmas.List.Elements.{filter_map-append}
use Rattle.std.proofs.lemmas.List.Folds.{list_any-append}
use Rattle.std.specs.List.{cons_option, list_any, list_all}
use Rattle.std.proofs.Math.Bool.{or-true}
use Rattle.pl_lemmas.proofs.Truth.{and_left, and_right}
use Rattle.pl_lemmas.proofs.Options.{some_there, passing}
use Rattle.pl_lemmas.proofs.Numbers.{same_number, equal_numbers}
use Rattle.pl_lemmas.proofs.Lists.{bytes_same, all_weaker}
use Rattle.pl_state.specs.Kinds.{is_provider_goal}
use Rattle.pl_lemmas.specs.Words.{has_number, none_or, numbered, option_list}
use Rattle.pl_state.specs.References.{further_urns, has_urn, is_id, is_provider, optional_refs, property_urns}
use Rattle.pl_sound.specs.Sound.{is_met}
use Rattle.pl_state.specs.declared.entry.Entry.{Entry}
use Rattle.pl_state.specs.declared.fault.Missing.{Missing}
use Rattle.pl_state.specs.declared.fault.Missing.TheVariants.{Parent, Provider}
use Rattle.pl_state.specs.declared.goal.Goal.{Goal}
use Rattle.pl_events.specs.declared.event.Event.{Event}
use Rattle.pl_events.specs.declared.event.What.{What}
use Rattle.pl_events.specs.declared.event.What.TheVariants.{Told}
use Rattle.pl_model.specs.declared.decided.Decided.{Decided}
use Rattle.pl_model.specs.declared.fixed.Fixed.{Fixed}
use Rattle.pl_model.specs.Recording.{recorded_by, recorded_of}
use Rattle.pl_model.specs.Claims.{goal_number}
use Rattle.pl_model.specs.Due.{references_recorded, is_recorded_urn}
use Rattle.pl_model.specs.Entries.{Result, recorded_entry, recording_of, reference_to}
use Rattle.pl_model.specs.History.{known_of, goals_after}
use Rattle.pl_model.specs.Known.{Known, decided_goal, goal_at, is_recorded, provider_id}
use Rattle.pl_model.specs.Legal.{IsOrderly}
use Rattle.pl_model_stays.specs.Order.{RecordedAfterReferences}
use Rattle.pl_model_stays.proofs.Lists.Growing.{goals-stay, numbered_more, recordings-stay}
use Rattle.pl_model_stays.proofs.Operations.Once.{history_of}
use Rattle.pl_model_stays.proofs.Goals.Standing.{Stands, entry-there, only_there, recording-there}
use Rattle.pl_model_laws.proofs.Providing.Providers.{provider-id}

-- ---- where a goal was recorded

-- the event that recorded a goal, with the history before it and the goals recorded before
pub record Origin (history : List Event) (number : ℕ) (older : List ℕ) : Type 0 where
  pub added : List Event
  pub event : Event
  pub past : List Event
  pub whole : history ≡ added ++ (event ∷ past)
  pub records : recorded_by past event.what ≡ Some number
  pub before : recorded_of past ≡ older

-- an event that records is one of a longer history too
later_origin : (newest : Event) (earlier : List Event) (number : ℕ) (older : List ℕ) → Origin earlier number older → Origin (newest ∷ earlier) number older
later_origin newest earlier number older origin = record {
  added = newest ∷ origin.added;
  event = origin.event;
  past = origin.past;
  whole = ap (λ (events : List Event). newest ∷ events) origin.whole;
  records = origin.records;
  before = origin.before;
}

-- each recorded goal was recorded by some event
pub origin_of : (history : List Event) (newer : List ℕ) (number : ℕ) (older : List ℕ) → recorded_of history ≡ newer ++ (number ∷ older)
    → Origin history number older
origin_of [] [] number older h = absurd (let e : [] ≡ number ∷ older = h in cc)
origin_of [] (other ∷ newer) number older h = absurd (let e : [] ≡ other ∷ (newer ++ (number ∷ older)) = h in cc)
origin_of (newest ∷ earlier) newer number older h =
    by (recorded_by earlier newest.what) refl newer (λ front is. origin_of earlier front number older is) h
  where
    by : (o : Option ℕ) → recorded_by earlier newest.what ≡ o → (front : List ℕ)
        → ((others : List ℕ) → recorded_of earlier ≡ others ++ (number ∷ older) → Origin earlier number older)
        → cons_option o (recorded_of earlier) ≡ front ++ (number ∷ older) → Origin (newest ∷ earlier) number older
    by None is front rest h = later_origin newest earlier number older (rest front h)
    by (Some own) is [] rest h =
        let same : own ≡ number = let e : own ∷ recorded_of earlier ≡ number ∷ older = h in cc in
        let behind : recorded_of earlier ≡ older = let e : own ∷ recorded_of earlier ≡ number ∷ older = h in cc in
        record {
          added = [];
          event = newest;
          past = earlier;
          whole = refl;
          records = is ∙ ap (λ (n : ℕ). Some n) same;
          before = behind;
        }
    by (Some own) is (other ∷ front) rest h =
        let behind : recorded_of earlier ≡ front ++ (number ∷ older) =
        let e : own ∷ recorded_of earlier ≡ other ∷ (front ++ (number ∷ older)) = h in cc in
        later_origin newest earlier number older (rest front behind)

-- the histories before are orderly
pub orderly_within : (run : Fixed) (added past : List Event) → IsOrderly run (added ++ past) → IsOrderly run past
orderly_within run [] past orderly = orderly
orderly_within run (event ∷ added) past orderly = orderly_within run added past orderly.0

-- a goal stays while events are added
pub goals_within : (run : Fixed) (added past : List Event) (number : ℕ) (goal : Goal)
    → goal_at (known_of run past) number ≡ Some goal → goal_at (known_of run (added ++ past)) number ≡ Some goal
goals_within run [] past number goal h = h
goals_within run (event ∷ added) past number goal h = goals-stay run event (added ++ past) number goal (goals_within run added past number goal h)

-- what is recorded stays recorded while events are added
pub recorded_within : (run : Fixed) (added past : List Event) (number : ℕ)
    → has_number (recorded_of past) number ≡ true → has_number (recorded_of (added ++ past)) number ≡ true
recorded_within run [] past number h = h
recorded_within run (event ∷ added) past number h = recordings-stay run event (added ++ past) number (recorded_within run added past number h)

-- an event that records a goal makes none
same_goals : (known : Known) (past : List Event) (what : What) (number : ℕ) → recorded_by past what ≡ Some number → goals_after known what ≡ known.goals
same_goals known past (Told request) number h = absurd (let e : None ≡ Some number = h in cc)
same_goals known past _ number h = refl

-- a goal that is recorded stood before it was
goal_before_recording : (run : Fixed) (event : Event) (past : List Event) (number : ℕ) (goal : Goal) → recorded_by past event.what ≡ Some number
    → goal_at (known_of run (event ∷ past)) number ≡ Some goal → goal_at (known_of run past) number ≡ Some goal
unfolding known_of
goal_before_recording run event past number goal records h =
    subst (λ (goals : List Goal). numbered goals number ≡ Some goal) (same_goals (known_of run past) past event.what number records) h

-- ---- goals by their URNs

-- the number of a URN is that of a goal with this URN
pub number_found : (goals : List Goal) (urn : List ℕ) (number : ℕ) → goal_number goals urn ≡ Some number
    → (goal : Goal) × (numbered goals number ≡ Some goal) × (bytes_eq goal.urn urn ≡ true)
number_found [] urn number h = absurd (let e : None ≡ Some number = h in cc)
number_found (goal ∷ earlier) urn number h = by (bytes_eq goal.urn urn) refl (number_found earlier urn number) h
  where
    by : (b : Bool) → bytes_eq goal.urn urn ≡ b
        → (goal_number earlier urn ≡ Some number → (one : Goal) × (numbered earlier number ≡ Some one) × (bytes_eq one.urn urn ≡ true))
        → (if b then Some (length earlier) else goal_number earlier urn) ≡ Some number
        → (one : Goal) × (numbered (goal ∷ earlier) number ≡ Some one) × (bytes_eq one.urn urn ≡ true)
    by true is rest h =
        let same : length earlier ≡ number = cc in (
          goal,
          subst (λ (n : ℕ). numbered (goal ∷ earlier) n ≡ Some goal) same
              (ap (λ (b : Bool). if b then Some goal else numbered earlier (length earlier)) (same_number (length earlier))),
          is,
        )
    by false is rest h = let found = rest h in (found.0, numbered_more goal earlier number found.0 found.1, found.2)

-- ---- tests on the entries of numbers

-- a test that the row of one of the numbers passes is passed among the rows
pub entry_met : (test : Entry → Bool) (row_of : ℕ → Option Entry) (numbers : List ℕ) (number : ℕ) (row : Entry)
    → has_number numbers number ≡ true → row_of number ≡ Some row → test row ≡ true → list_any test (filter_map row_of (reverse numbers)) ≡ true
entry_met test row_of [] number row has is passes = absurd (let e : false ≡ true = has in cc)
entry_met test row_of (first ∷ others) number row has is passes =
    ap (λ (all : List ℕ). list_any test (filter_map row_of all)) (reverse-append (first ∷ []) others)
    ∙ ap (λ (rows : List Entry). list_any test rows) (filter_map-append row_of (reverse others) (first ∷ []))
    ∙ list_any-append test (filter_map row_of (reverse others)) (filter_map row_of (first ∷ []))
    ∙ by (first == number) refl (λ behind. entry_met test row_of others number row behind is passes) has
  where
    here : first ≡ number → list_any test (cons_option (row_of first) []) ≡ true
    here same =
        ap (λ (o : Option Entry). list_any test (cons_option o [])) (ap row_of same ∙ is) ∙ ap (λ (b : Bool). b || false) passes

    by : (b : Bool) → (first == number) ≡ b → (has_number others number ≡ true → list_any test (filter_map row_of (reverse others)) ≡ true)
        → (b || has_number others number) ≡ true
        → (list_any test (filter_map row_of (reverse others)) || list_any test (cons_option (row_of first) [])) ≡ true
    by true same rest has =
        ap (λ (b : Bool). list_any test (filter_map row_of (reverse others)) || b) (here (equal_numbers first number same))
        ∙ or-true (list_any test (filter_map row_of (reverse others)))
    by false same rest has = ap (λ (b : Bool). b || list_any test (cons_option (row_of first) [])) (rest has)

-- ---- references

-- a goal that is recorded stands, is decided, and has its references recorded
abbrev pub Held : Known → ℕ → Type 0
Held known number =
    (goal : Goal) × (one : Decided) × (goal_at known number ≡ Some goal) × (decided_goal known number ≡ Some one)
    × (references_recorded known goal ≡ true)

-- the provider of each goal is a provider
abbrev pub ProvidersProvide : Known → Type 0
ProvidersProvide known =
    (number own : ℕ) (goal other : Goal) → goal_at known number ≡ Some goal → goal.provider ≡ Some own → goal_at known own ≡ Some other
    → is_provider_goal other ≡ true

-- the URNs that a row refers to beside its parent's and its provider's
abbrev pub further_of : Entry → List (List ℕ)
further_of row = row.dependencies ++ (property_urns row.property_dependencies ++ option_list row.deleted_with)

-- each reference of a row is met by the rows before it
pub record MeetsReferences (rows : List Entry) (row : Entry) : Type 0 where
  pub parent : list_all (is_met rows) (optional_refs Parent row.parent) ≡ true
  pub provider : list_all (is_met rows) (optional_refs Provider row.provider) ≡ true
  pub further : list_all (λ urn. list_any (has_urn urn) rows) (further_of row) ≡ true

-- a row with these fields of a goal has the goal's further URNs
pub further_same : (row : Entry) (goal : Goal) → row.dependencies ≡ goal.dependencies → row.property_dependencies ≡ goal.property_dependencies
    → row.deleted_with ≡ goal.deleted_with → further_of row ≡ further_urns goal
further_same row goal direct by_property deleter =
    ap (λ (urns : List (List ℕ)). urns ++ (property_urns row.property_dependencies ++ option_list row.deleted_with)) direct
    ∙ ap (λ (pairs : List (List ℕ × List (List ℕ))). goal.dependencies ++ (property_urns pairs ++ option_list row.deleted_with)) by_property
    ∙ ap (λ (o : Option (List ℕ)). goal.dependencies ++ (property_urns goal.property_dependencies ++ option_list o)) deleter

-- a row with a URN and an id is the provider that the two name
pub is_named : (text own : List ℕ) (row : Entry) → row.urn ≡ text → row.id ≡ Some own → is_provider (record { urn = text; id = own }) row ≡ true
is_named text own row same_urn same_id =
    ap (λ (urn : List ℕ). bytes_eq urn text && is_id row.id own) same_urn
    ∙ ap (λ (b : Bool). b && is_id row.id own) (bytes_same text)
    ∙ ap (λ (o : Option (List ℕ)). is_id o own) same_id
    ∙ bytes_same own

-- the reference to a provider is met where a row is the one that its URN and its id name
pub reference_met : (known : Known) (own : ℕ) (other : Goal) (text : List ℕ) (rows : List Entry) → goal_at known own ≡ Some other
    → provider_id known own ≡ Some text → list_any (is_provider (record { urn = other.urn; id = text })) rows ≡ true
    → list_all (is_met rows) (optional_refs Provider (reference_to known own)) ≡ true
reference_met known own other text rows there named met =
    subst (λ (o : Option Goal). list_all (is_met rows) (optional_refs Provider (option_and_then (λ (it : Goal).
    option_map (λ (id : List ℕ). record { urn = it.urn; id = id }) (provider_id known own)) o)) ≡ true) (sym there)
    (subst (λ (o : Option (List ℕ)). list_all (is_met rows) (optional_refs Provider
    (option_map (λ (id : List ℕ). record { urn = other.urn; id = id }) o)) ≡ true) (sym named)
    (ap (λ (b : Bool). b && true) met))

-- equal references are met alike
pub same_wants : {X : Type 0} (rows : List Entry) (want : X → Missing) (one other : Option X) → one ≡ other
    → list_all (is_met rows) (optional_refs want one) ≡ list_all (is_met rows) (optional_refs want other)
same_wants {X = X} rows want one other same = ap (λ (o : Option X). list_all (is_met rows) (optional_refs want o)) same

-- what a recorded goal has
pub record Standing (known : Known) (number : ℕ) (goal : Goal) : Type 0 where
  pub one : Decided
  pub result : Result
  pub row : Entry
  pub decided : decided_goal known number ≡ Some one
  pub recording : recording_of known number goal one ≡ Some result
  pub entry : recorded_entry known number ≡ Some row
  pub stands : Stands known goal result row

module _ (run : Fixed) (history : List Event) (orderly : IsOrderly run history) (held : (past : List Event) (number : ℕ) → IsOrderly run past → is_recorded (known_of run past) number ≡ true → Held (known_of run past) number) (after : RecordedAfterReferences) (provide : ProvidersProvide (known_of run history)) where
  -- what the history tells
  abbrev known : Known
  known = known_of run history

  -- the entries of numbers that stand newest first
  abbrev rows_of : List ℕ → List Entry
  rows_of older = filter_map (recorded_entry (known_of run history)) (reverse older)

  -- what each recorded goal has
  pub recorded_stands : (number : ℕ) (goal : Goal) → is_recorded (known_of run history) number ≡ true → goal_at (known_of run history) number ≡ Some goal
      → Standing (known_of run history) number goal
  recorded_stands number goal recorded here =
      let holds = held history number orderly recorded in
      let found = recording-there run history number goal holds.1 recorded in
      let standing = entry-there (known_of run history) number goal holds.1 found.0 here holds.3 found.1 in
      record {
        one = holds.1;
        result = found.0;
        row = standing.0;
        decided = holds.3;
        recording = found.1;
        entry = standing.1;
        stands = standing.2;
      }

  module _ (number : ℕ) (older : List ℕ) (origin : Origin history number older) where
    -- what was told before the goal was recorded
    abbrev before : Known
    before = known_of run origin.past

    -- the history was orderly when the goal was recorded
    orderly_here : IsOrderly run (origin.event ∷ origin.past)
    orderly_here =
        orderly_within run origin.added (origin.event ∷ origin.past) (subst (λ (events : List Event). IsOrderly run events) origin.whole orderly)

    -- a goal that stood then stands now
    goal_now : (own : ℕ) (goal : Goal) → goal_at (known_of run (origin.event ∷ origin.past)) own ≡ Some goal → goal_at (known_of run history) own ≡ Some goal
    goal_now own goal h =
        subst (λ (events : List Event). goal_at (known_of run events) own ≡ Some goal) (sym origin.whole)
        (goals_within run origin.added (origin.event ∷ origin.past) own goal h)

    -- the same of one that stood before
    goal_then : (own : ℕ) (goal : Goal) → goal_at before own ≡ Some goal → goal_at (known_of run history) own ≡ Some goal
    goal_then own goal h = goal_now own goal (goals-stay run origin.event origin.past own goal h)

    -- what was recorded before
    recorded_then : (own : ℕ) → is_recorded before own ≡ true → has_number (recorded_of origin.past) own ≡ true
    recorded_then own h = subst (λ (events : List Event). has_number (recorded_of events) own ≡ true) (history_of run origin.past) h

    -- it is among the older numbers
    among_older : (own : ℕ) → is_recorded before own ≡ true → has_number older own ≡ true
    among_older own h = subst (λ (numbers : List ℕ). has_number numbers own ≡ true) origin.before (recorded_then own h)

    -- it is recorded now
    recorded_now : (own : ℕ) → is_recorded before own ≡ true → is_recorded (known_of run history) own ≡ true
    recorded_now own h =
        subst (λ (events : List Event). has_number (recorded_of events) own ≡ true) (sym origin.whole ∙ sym (history_of run history))
        (recorded_within run origin.added (origin.event ∷ origin.past) own
        (recordings-stay run origin.event origin.past own (recorded_then own h)))

    -- a URN whose goal was recorded before is that of an older entry
    urn_met : (urn : List ℕ) → is_recorded_urn before urn ≡ true → list_any (has_urn urn) (rows_of older) ≡ true
    urn_met urn h =
        let found = passing (is_recorded before) (goal_number before.goals urn) h in
        let owner = number_found before.goals urn found.0 found.1 in
        let standing = recorded_stands found.0 owner.0 (recorded_now found.0 found.2) (goal_then found.0 owner.0 owner.1) in
        entry_met (has_urn urn) (recorded_entry (known_of run history)) older found.0 standing.row (among_older found.0 found.2) standing.entry
        (ap (λ (text : List ℕ). bytes_eq text urn) standing.stands.urn ∙ owner.2)

    -- an older provider is found by its id
    named_met : (own : ℕ) (other : Goal) (text : List ℕ) → goal_at (known_of run history) own ≡ Some other → is_recorded before own ≡ true
        → (standing : Standing (known_of run history) own other) → standing.result.id ≡ provider_id (known_of run history) own
        → provider_id (known_of run history) own ≡ Some text
        → list_all (is_met (rows_of older)) (optional_refs Provider (reference_to (known_of run history) own)) ≡ true
    named_met own other text there h standing same named =
        let found : standing.row.id ≡ Some text = standing.stands.id ∙ same ∙ named in
        reference_met (known_of run history) own other text (rows_of older) there named
        (entry_met (is_provider (record { urn = other.urn; id = text })) (recorded_entry (known_of run history)) older own standing.row
        (among_older own h) standing.entry (is_named other.urn text standing.row standing.stands.urn found))

    -- an older provider is found
    older_provider_met : (own : ℕ) (other : Goal) → goal_at (known_of run history) own ≡ Some other → is_recorded before own ≡ true
        → is_provider_goal other ≡ true → Standing (known_of run history) own other
        → list_all (is_met (rows_of older)) (optional_refs Provider (reference_to (known_of run history) own)) ≡ true
    older_provider_met own other there h provider standing =
        let ids = provider-id run history own other standing.one standing.result orderly (recorded_now own h) provider there
        standing.decided standing.recording in
        let text = some_there (provider_id (known_of run history) own) ids.1 in
        named_met own other text.0 there h standing ids.0 text.1

    -- the reference to a provider that was recorded before is met by an older entry
    provider_met : (goal : Goal) (own : ℕ) → goal_at (known_of run history) number ≡ Some goal → goal.provider ≡ Some own → is_recorded before own ≡ true
        → list_all (is_met (rows_of older)) (optional_refs Provider (reference_to (known_of run history) own)) ≡ true
    provider_met goal own here names h =
        let holds = held origin.past own orderly_here.0 h in
        let there : goal_at (known_of run history) own ≡ Some holds.0 = goal_then own holds.0 holds.2 in
        older_provider_met own holds.0 there h (provide number own goal holds.0 here names there)
        (recorded_stands own holds.0 (recorded_now own h) there)

    -- the event records the goal
    recorded_here : has_number (recorded_of (origin.event ∷ origin.past)) number ≡ true
    recorded_here =
        ap (λ (o : Option ℕ). has_number (cons_option o (recorded_of origin.past)) number) origin.records
        ∙ ap (λ (b : Bool). b || has_number (recorded_of origin.past) number) (same_number number)

    -- the goal is recorded now
    recorded_at_last : is_recorded (known_of run history) number ≡ true
    recorded_at_last =
        subst (λ (events : List Event). has_number (recorded_of events) number ≡ true) (sym origin.whole ∙ sym (history_of run history))
        (recorded_within run origin.added (origin.event ∷ origin.past) number recorded_here)

    -- the references of a goal were recorded before it
    references_then : (goal : Goal) → goal_at (known_of run history) number ≡ Some goal → references_recorded before goal ≡ true
    references_then goal here =
        let recorded : is_recorded (known_of run (origin.event ∷ origin.past)) number ≡ true =
        subst (λ (events : List Event). has_number (recorded_of events) number ≡ true) (sym (history_of run (origin.event ∷ origin.past))) recorded_here in
        let holds = held (origin.event ∷ origin.past) number orderly_here recorded in
        let same : holds.0 ≡ goal = only_there (goal_at (known_of run history) number) goal here holds.0 (goal_now number holds.0 holds.2) in
        subst (λ (it : Goal). references_recorded before it ≡ true) same
        (after run origin.event origin.past number holds.0 orderly_here origin.records
        (goal_before_recording run origin.event origin.past number holds.0 origin.records holds.2))

    -- the reference to a parent is met
    parent_met : (o : Option (List ℕ)) → none_or (is_recorded_urn before) o ≡ true → list_all (is_met (rows_of older)) (optional_refs Parent o) ≡ true
    parent_met None h = refl
    parent_met (Some urn) h = ap (λ (b : Bool). b && true) (urn_met urn h)

    -- the reference to a provider is met
    own_provider_met : (goal : Goal) → goal_at (known_of run history) number ≡ Some goal → none_or (is_recorded before) goal.provider ≡ true
        → list_all (is_met (rows_of older)) (optional_refs Provider (option_and_then (reference_to (known_of run history)) goal.provider)) ≡ true
    own_provider_met goal here h = by goal.provider refl h
      where
        by : (o : Option ℕ) → goal.provider ≡ o → none_or (is_recorded before) o ≡ true
            → list_all (is_met (rows_of older)) (optional_refs Provider (option_and_then (reference_to (known_of run history)) o)) ≡ true
        by None is h = refl
        by (Some own) is h = provider_met goal own here is h

    -- whether one of the older entries has a URN
    abbrev is_there : List ℕ → Bool
    is_there urn = list_any (has_urn urn) (rows_of older)

    -- each reference of the goal's entry is met
    goal_met : (goal : Goal) (row : Entry) (result : Result) → goal_at (known_of run history) number ≡ Some goal
        → Stands (known_of run history) goal result row → MeetsReferences (rows_of older) row
    goal_met goal row result here stands =
        let all : references_recorded before goal ≡ true = references_then goal here in
        let first = and_left _ (list_all (is_recorded_urn before) (further_urns goal)) all in
        record {
          parent = ap (λ (o : Option (List ℕ)). list_all (is_met (rows_of older)) (optional_refs Parent o)) stands.parent
              ∙ parent_met goal.parent (and_left (none_or (is_recorded_urn before) goal.parent) (none_or (is_recorded before) goal.provider) first);
          provider = same_wants (rows_of older) Provider row.provider (option_and_then (reference_to (known_of run history)) goal.provider) stands.provider
              ∙ own_provider_met goal here (and_right (none_or (is_recorded_urn before) goal.parent) (none_or (is_recorded before) goal.provider) first);
          further = ap (λ (urns : List (List ℕ)). list_all is_there urns)
              (further_same row goal stands.dependencies stands.property_dependencies stands.deleted_with)
              ∙ all_weaker (is_recorded_urn before) is_there urn_met (further_urns goal)
              (and_right _ (list_all (is_recorded_urn before) (further_urns goal)) all);
        }

  -- the entry of a recorded goal meets its references among the entries recorded before it
  pub new-met : (newer : List ℕ) (number : ℕ) (older : List ℕ) → recorded_of history ≡ newer ++ (number ∷ older)
      → (row : Entry) → recorded_entry (known_of run history) number ≡ Some row → MeetsReferences (rows_of older) row
  new-met newer number older split row is =
      let origin : Origin history number older = origin_of history newer number older split in
      let recorded = recorded_at_last number older origin in
      let holds = held history number orderly recorded in
      let standing = recorded_stands number holds.0 recorded holds.2 in
      let same : standing.row ≡ row = let e : Some standing.row ≡ Some row = sym standing.entry ∙ is in cc in
      subst (λ (it : Entry). MeetsReferences (rows_of older) it) same
      (goal_met number older origin holds.0 standing.row standing.result holds.2 standing.stands)
