-- What is to be done has the provider that it is sent to, where no problem stands.
use Rattle.std.proofs.Common.{◌≡◌, ℕ, ◌==◌, Bool, true, false, not, ◌&&◌, ◌||◌, if◌then◌else◌, List, [], slice_get, Option, Some, None, is_none, is_some, refl, sym, ◌∙◌, ap, subst, option_map, option_and_then}
use Rattle.std.specs.List.{list_any}
use Rattle.std.specs.Option.{option_or}
use Rattle.pl_lemmas.proofs.Truth.{and_left, and_right}
use Rattle.pl_lemmas.proofs.Options.{some_there, mapped_none, passing, row_is, list_none}
use Rattle.pl_lemmas.proofs.Numbers.{equal_numbers}
use Rattle.pl_lemmas.proofs.Lists.{append_none}
use Rattle.pl_lemmas.proofs.Each.{IsAmong, among_each, each_at}
use Rattle.pl_reference.specs.Reference.{reference_text}
use Rattle.pl_reference.specs.declared.reference.ProviderRef.{ProviderRef}
use Rattle.pl_lemmas.specs.Words.{first_some, is_row, numbered, some_passes}
use Rattle.pl_state.specs.Chain.{last_provider, provider_row_of}
use Rattle.pl_state.specs.Kinds.{is_provided, is_provider_goal}
use Rattle.pl_sound.specs.Sound.{IsSound}
use Rattle.pl_state.specs.declared.entry.Entry.{Entry}
use Rattle.pl_state.specs.declared.goal.Goal.{Goal}
use Rattle.pl_state.specs.declared.pending.Pending.{Pending}
use Rattle.pl_events.specs.declared.event.Event.{Event}
use Rattle.pl_events.specs.declared.event.Request.{Request}
use Rattle.pl_events.specs.declared.event.Request.TheVariants.{Register, Outputs, Invoke}
use Rattle.pl_events.specs.declared.operation.Op.{Op}
use Rattle.pl_events.specs.declared.operation.Op.TheVariants as op
use Rattle.pl_events.specs.declared.operation.Source.{Source}
use Rattle.pl_events.specs.declared.operation.Source.TheVariants as source
use Rattle.pl_events.specs.declared.operation.Subject.TheVariants as subject
use Rattle.pl_decide.specs.declared.problem.Problem.{Problem}
use Rattle.pl_decide.specs.declared.problem.Problem.TheVariants as problem
use Rattle.pl_decide.specs.Limited.{is_delete_first}
use Rattle.pl_model.specs.declared.fixed.Fixed.{Fixed}
use Rattle.pl_model.specs.declared.heard.Heard.{Heard}
use Rattle.pl_model.specs.Run.{HasNames, imports_of, is_preview, is_refresh, rows_of}
use Rattle.pl_model.specs.Tickets.{same_op}
use Rattle.pl_model.specs.Decisions.{Turn, checked_at, is_provider_unknown, needs_check, number_at, wants_diff}
use Rattle.pl_model.specs.Due.{asks_check, asks_diff, at_turn, for_decided, is_asked, is_carried_out, is_imported, is_invoke, is_placed, is_removable, is_unsent, op_of_decision, op_of_goal, provider_recorded, sends_goal, source_of_op, way_is_free}
use Rattle.pl_model.specs.History.{known_of}
use Rattle.pl_model.specs.Known.{Known, asked_at, goal_at, has_problem, is_over, is_recorded, next_turn}
use Rattle.pl_model.specs.Legal.{IsOrderly}
use Rattle.pl_model.specs.Problems.{import_problem, imported_entry, is_to_read, lacks_provider, names_none, pending_create, refresh_problems, unmet_provider, unread_row}
use Rattle.pl_model.specs.Rows.{goes_with, has_dependents, is_deletable, is_doomed, is_sent, pending_at, row_at, source_of_goal, source_of_pending, source_of_provider, source_of_row, takes_along, was_removed}
use Rattle.pl_model_stays.proofs.Lists.Among.{any_found}
use Rattle.pl_model_stays.proofs.Goals.Claiming.{passing_number}
use Rattle.pl_model_stays.proofs.Lists.Growing.{run_of}
use Rattle.pl_model_stays.proofs.Work.KeptDue.{imported_there}
use Rattle.pl_model_stays.proofs.Operations.Once.{not_true}
use Rattle.pl_model_stays.proofs.Goals.Recorded.{found}
use Rattle.pl_model_stays.proofs.Goals.Staying.{or_none}
use Rattle.pl_model_stays.proofs.Goals.Subjects.{turn_goal}
use Rattle.pl_model_stays.proofs.Work.Listing.{removable-parts}
use Rattle.pl_model_laws.specs.Kept.{SentSourced}
use Rattle.pl_model_laws.proofs.Endings.Calm.{first_none}
use Rattle.pl_model_laws.proofs.Endings.Ending.{end-provided}
use Rattle.pl_model_laws.proofs.Rows.Going.{IsDoomed, doomed-parts}
use Rattle.pl_model_laws.proofs.References.Places.{provided-named}
use Rattle.pl_model_laws.proofs.Endings.Quieting.{provider_there}
use Rattle.pl_model_laws.proofs.Rereadings.Rereading.{has_provider, none_missing, or_first_none, start_calm}
use Rattle.pl_model_laws.proofs.References.Sounding.{sound-apart}
use Rattle.pl_model_laws.proofs.Endings.Troubles.{lacking-trouble}

-- ---- tests

-- what is there only under a test passes it
under_test : (test : Op → Bool) (b : Bool) (o : Option Op) → some_passes test (if b then o else None) ≡ true → b ≡ true
under_test test true o h = refl
under_test test false o h = absurd (let e : false ≡ true = h in cc)

-- an entry that names its provider is not one that names none
names_one : (entry : Entry) → names_none entry ≡ None → is_none entry.provider ≡ false
names_one entry h = by (is_none entry.provider) h
  where
    by : (b : Bool) → (if b then Some (problem.MissingProvider entry.urn) else None) ≡ None → b ≡ false
    by false h = refl
    by true h = absurd (let none : Option Problem = None in let e : Some (problem.MissingProvider entry.urn) ≡ none = h in cc)

provider_some : (o : Option ProviderRef) → is_none o ≡ false → (reference : ProviderRef) × (o ≡ Some reference)
provider_some None h = absurd (let e : true ≡ false = h in cc)
provider_some (Some reference) h = (reference, refl)

-- a provider that is met has its row
met_row : (run : Fixed) (entry : Entry) (reference : ProviderRef) → entry.provider ≡ Some reference → unmet_provider run entry ≡ None
    → is_some (last_provider (Some reference) (rows_of run)) ≡ true
met_row run entry reference is h = by (is_some (last_provider (Some reference) (rows_of run)))
    (sym (ap (λ (o : Option ProviderRef). option_and_then (λ reference. if is_some (last_provider (Some reference) (rows_of run)) then None
    else Some (reference_text reference)) o) is) ∙ h)
  where
    by : (b : Bool) → (if b then None else Some (reference_text reference)) ≡ None → b ≡ true
    by true h = refl
    by false h = absurd (let none : Option (List ℕ) = None in let e : Some (reference_text reference) ≡ none = h in cc)

module _ (run : Fixed) (history : List Event) (names : HasNames run) (sound : IsSound (rows_of run))
    (orderly : IsOrderly run history) (calm : has_problem (known_of run history) ≡ false) where
  abbrev known : Known
  known = known_of run history

  -- ---- goals

  goal_source : (number : ℕ) (goal : Goal) → goal_at known number ≡ Some goal → is_some goal.provider ≡ true
      → is_some (source_of_goal known number) ≡ true
  goal_source number goal stands h =
      let provider = some_there goal.provider h in
      ap (λ (o : Option Goal). is_some (option_map source.Goal (option_and_then (λ (one : Goal). one.provider) o))) stands
      ∙ ap (λ (o : Option ℕ). is_some (option_map source.Goal o)) provider.1

  turn_source : (number : ℕ) (test : Turn → Bool) → ((turn : Turn) → test turn ≡ true → provider_recorded known turn ≡ true)
      → at_turn known (subject.Goal number) test ≡ true → is_some (source_of_goal known number) ≡ true
  turn_source number test recorded h =
      let turn = passing (λ turn. number_at turn == number && test turn) (next_turn known) h in
      let stands : goal_at known number ≡ Some turn.0.goal =
      subst (λ (n : ℕ). numbered known.goals n ≡ Some turn.0.goal) (equal_numbers (number_at turn.0) number (and_left _ (test turn.0) turn.2))
      (turn_goal known.run known.answers known.goals known.decided turn.0 turn.1) in
      let provider = passing (is_recorded known) turn.0.goal.provider
      (recorded turn.0 (and_right (number_at turn.0 == number) _ turn.2)) in
      goal_source number turn.0.goal stands (ap (λ (o : Option ℕ). is_some o) provider.1)

  -- what is sent for a goal is sent to its provider
  sends_source : (number : ℕ) (about : Op) → for_decided known number (sends_goal known number about) ≡ true
      → is_some (source_of_goal known number) ≡ true
  sends_source number about h =
      let it = found known number (sends_goal known number about) h in
      let needs : some_passes (same_op about) (op_of_goal known number it.0 it.1) ≡ true =
      and_right (is_placed known number it.0 it.1) _ (and_left _ (way_is_free known it.1) it.4) in
      let carried : is_carried_out known it.0 it.1.decision ≡ true =
      under_test (same_op about) (is_carried_out known it.0 it.1.decision) (op_of_decision number it.1.decision) needs in
      let own = provided-named run history number it.0 names orderly it.2 (and_left (is_provided it.0) _ carried) in
      goal_source number it.0 it.2 (ap (λ (o : Option ℕ). is_some o) own.1)

  -- ---- rows

  row_source : (row : ℕ) (entry : Entry) → row_at known row ≡ Some entry → is_none entry.provider ≡ false
      → is_some (source_of_row known row) ≡ true
  row_source row entry at provided =
      let here : slice_get (rows_of run) row ≡ Some entry =
      ap (λ (fixed : Fixed). slice_get (rows_of fixed) row) (sym (run_of run history)) ∙ at in
      let own = provider_there (rows_of run) row entry sound here provided in
      ap (λ (fixed : Fixed). is_some (option_map (source_of_provider known) (provider_row_of (rows_of fixed) row))) (run_of run history)
      ∙ ap (λ (o : Option ℕ). is_some (option_map (source_of_provider known) o)) own.1

  -- a row that can be deleted, and must be sent for, does not lack its provider
  deleted_provided : (row : ℕ) (entry : Entry) → row_at known row ≡ Some entry → is_removable known row ≡ true
      → lacks_provider known row ≡ false
  deleted_provided row entry at removable = by (is_over known) refl parts.cause
    where
      real : is_preview run.mode ≡ false
      real =
          ap (λ (fixed : Fixed). is_preview fixed.mode) (sym (run_of run history))
          ∙ not_true (is_preview known.run.mode)
          (and_right (is_doomed known row && not (was_removed known row) && not (has_dependents known row)) _ removable)

      doomed : is_doomed known row ≡ true
      doomed = (removable-parts known row removable).doomed

      parts : IsDoomed known row
      parts = doomed-parts known row doomed

      by : (over : Bool) → is_over known ≡ over → (over || list_any (takes_along known row) known.decided) ≡ true
          → lacks_provider known row ≡ false
      by true is h = end-provided run history orderly real (sound-apart (rows_of run) sound) calm is row entry doomed at
      by false is h =
          let it = passing_number (takes_along known row) known.decided h in
          lacking-trouble run history it.0 row it.1 entry real (sound-apart (rows_of run) sound) orderly calm it.2
          (and_left (is_delete_first it.1.decision) _ it.3) it.3 at parts.left

  delete_source : (row : ℕ) → (is_removable known row && is_sent known row) ≡ true → is_some (source_of_row known row) ≡ true
  delete_source row h =
      let sent : is_sent known row ≡ true = and_right (is_removable known row) (is_sent known row) h in
      let it = passing (λ entry. is_deletable entry && not entry.pending_replacement) (row_at known row)
      (and_left _ (not (goes_with known row)) sent) in
      let provided : (is_sent known row && some_passes (λ (entry : Entry). is_none entry.provider) (row_at known row)) ≡ false =
      deleted_provided row it.0 it.1 (and_left (is_removable known row) (is_sent known row) h) in
      row_source row it.0 it.1
      (ap (λ (o : Option Entry). some_passes (λ (entry : Entry). is_none entry.provider) o) (sym it.1)
      ∙ subst (λ (b : Bool). (b && some_passes (λ (entry : Entry). is_none entry.provider) (row_at known row)) ≡ false) sent provided)

  -- ---- what is read anew

  module _ (anew : is_refresh known.run.mode ≡ true) where
    none_missed : refresh_problems known.run ≡ []
    none_missed =
        subst (λ (fixed : Fixed). refresh_problems fixed ≡ []) (sym (run_of run history))
        (none_missing run (ap (λ (fixed : Fixed). is_refresh fixed.mode) (sym (run_of run history)) ∙ anew) (start_calm run history calm))

    -- no row and no import lacks its provider
    abbrev unnamed : Option Problem
    unnamed =
        option_or (first_some unread_row (rows_of known.run)) (first_some (import_problem names_none known.run) (imports_of known.run.mode))

    abbrev trouble : Entry → Option Problem
    trouble entry = option_map problem.UnknownReference (unmet_provider known.run entry)

    none_behind : (unnamed ≡ None) × (first_some (import_problem trouble known.run) (imports_of known.run.mode) ≡ None)
    none_behind =
        let both = append_none _ _ (append_none _ _ none_missed).1 in
        (list_none unnamed both.0, list_none _ both.1)

    read_source : (row : ℕ) → some_passes is_to_read (row_at known row) ≡ true → is_some (source_of_row known row) ≡ true
    read_source row h =
        let it = passing is_to_read (row_at known row) h in
        let unread : first_some unread_row (rows_of known.run) ≡ None =
        or_first_none (first_some unread_row (rows_of known.run)) _ none_behind.0 in
        row_source row it.0 it.1
        (has_provider it.0 it.2
        (each_at (λ (one : Entry). unread_row one ≡ None) (rows_of known.run) row it.0
        (first_none unread_row (rows_of known.run) unread) it.1))

    import_source : (at : ℕ) → is_imported known at ≡ true → is_some (source_of_pending known at) ≡ true
    import_source at h =
        ap (λ (o : Option Pending). is_some (option_map (source_of_provider known)
        (option_and_then (λ (pending : Pending). last_provider pending.entry.provider (rows_of known.run)) o))) it.1
        ∙ ap (λ (o : Option ProviderRef). is_some (option_map (source_of_provider known) (last_provider o (rows_of known.run)))) provider.1
        ∙ ap (λ (o : Option ℕ). is_some (option_map (source_of_provider known) o)) own.1
      where
        it : (pending : Pending) × (pending_at known at ≡ Some pending)
        it = imported_there known at h

        pair : (pair : List ℕ × List ℕ) × IsAmong pair (imports_of known.run.mode) × (is_row (pending_create known.run pair.1) at ≡ true)
        pair = any_found (λ pair. is_row (pending_create known.run pair.1) at) (imports_of known.run.mode) h

        entry : Entry
        entry = it.0.entry

        imports : imported_entry known.run pair.0 ≡ Some entry
        imports =
            ap (λ (o : Option ℕ). option_map (λ (pending : Pending). pending.entry)
            (option_and_then (λ (place : ℕ). slice_get known.run.base.pending place) o))
            (row_is (pending_create known.run pair.0.1) at pair.2)
            ∙ ap (λ (o : Option Pending). option_map (λ (pending : Pending). pending.entry) o) it.1

        -- a trouble that no import has, this one has not
        untroubled : (test : Entry → Option Problem) → first_some (import_problem test known.run) (imports_of known.run.mode) ≡ None
            → test entry ≡ None
        untroubled test none =
            ap (λ (o : Option Entry). option_and_then test o) (sym imports)
            ∙ among_each (λ (one : List ℕ × List ℕ). import_problem test known.run one ≡ None) (imports_of known.run.mode) pair.0
            (first_none (import_problem test known.run) (imports_of known.run.mode) none) pair.1

        provider : (reference : ProviderRef) × (entry.provider ≡ Some reference)
        provider =
            provider_some entry.provider (names_one entry (untroubled names_none
            (or_none (first_some unread_row (rows_of known.run)) _ none_behind.0)))

        own : (row : ℕ) × (last_provider (Some provider.0) (rows_of known.run) ≡ Some row)
        own =
            some_there (last_provider (Some provider.0) (rows_of known.run))
            (met_row known.run entry provider.0 provider.1
            (mapped_none problem.UnknownReference (unmet_provider known.run entry) (untroubled trouble none_behind.1)))

  -- ---- all that is asked

  invoked : (request : Request) (about : Option ℕ) → is_invoke known request about ≡ true → is_some about ≡ true
  invoked (Invoke n token args provider version) about h =
      let it = passing (is_recorded known) about
      (and_left (some_passes (is_recorded known) about) (not (is_unsent known (Invoke n token args provider version) about)) h) in
      ap (λ (o : Option ℕ). is_some o) it.1
  invoked (Register n told) about h = absurd (let e : false ≡ true = h in cc)
  invoked (Outputs n urn outputs) about h = absurd (let e : false ≡ true = h in cc)

  asked_source : (about : Op) → is_asked known about ≡ true → is_some (source_of_op known about) ≡ true
  asked_source (op.CheckConfig (subject.Goal number)) h = refl
  asked_source (op.CheckConfig (subject.Row row)) h = absurd (let e : false ≡ true = h in cc)
  asked_source (op.CheckConfig (subject.Pending at)) h = absurd (let e : false ≡ true = h in cc)
  asked_source (op.Configure provider) h = refl
  asked_source (op.Check (subject.Goal number)) h =
      turn_source number (asks_check known) (λ turn asks. and_right (needs_check turn && not (is_provider_goal turn.goal)) _ asks) h
  asked_source (op.Check (subject.Row row)) h = absurd (let e : false ≡ true = h in cc)
  asked_source (op.Check (subject.Pending at)) h = absurd (let e : false ≡ true = h in cc)
  asked_source (op.Diff (subject.Goal number)) h =
      turn_source number (asks_diff known)
      (λ turn asks. and_right (is_some (checked_at turn) && wants_diff turn && not (is_provider_unknown turn)) _ asks) h
  asked_source (op.Diff (subject.Row row)) h = absurd (let e : false ≡ true = h in cc)
  asked_source (op.Diff (subject.Pending at)) h = absurd (let e : false ≡ true = h in cc)
  asked_source (op.Create (subject.Goal number)) h = sends_source number (op.Create (subject.Goal number)) h
  asked_source (op.Create (subject.Row row)) h = absurd (let e : false ≡ true = h in cc)
  asked_source (op.Create (subject.Pending at)) h = absurd (let e : false ≡ true = h in cc)
  asked_source (op.Update (subject.Goal number)) h = sends_source number (op.Update (subject.Goal number)) h
  asked_source (op.Update (subject.Row row)) h = absurd (let e : false ≡ true = h in cc)
  asked_source (op.Update (subject.Pending at)) h = absurd (let e : false ≡ true = h in cc)
  asked_source (op.Delete (subject.Row row)) h = delete_source row h
  asked_source (op.Delete (subject.Goal number)) h = absurd (let e : false ≡ true = h in cc)
  asked_source (op.Delete (subject.Pending at)) h = absurd (let e : false ≡ true = h in cc)
  asked_source (op.Read (subject.Goal number)) h = sends_source number (op.Read (subject.Goal number)) h
  asked_source (op.Read (subject.Row row)) h =
      read_source (and_left (is_refresh known.run.mode) _ h) row (and_right (is_refresh known.run.mode) _ h)
  asked_source (op.Read (subject.Pending at)) h =
      import_source (and_left (is_refresh known.run.mode) (is_imported known at) h) at
      (and_right (is_refresh known.run.mode) (is_imported known at) h)
  asked_source (op.Invoke n) h =
      let asked = passing (λ asked. is_invoke known asked.request asked.about) (asked_at known n) h in
      let about = some_there asked.0.about (invoked asked.0.request asked.0.about asked.2) in
      ap (λ (o : Option Heard). is_some (option_map source.Goal (option_and_then (λ (one : Heard). one.about) o))) asked.1
      ∙ ap (λ (o : Option ℕ). is_some (option_map source.Goal o)) about.1

pub sent-sourced : SentSourced
sent-sourced = λ run history about is orderly asked none.
    troubled run history about is.names is.sound orderly asked none (has_problem (known_of run history)) refl
  where
    troubled : (run : Fixed) (history : List Event) (about : Op) → HasNames run → IsSound (rows_of run)
        → IsOrderly run history → is_asked (known_of run history) about ≡ true → source_of_op (known_of run history) about ≡ None
        → (b : Bool) → has_problem (known_of run history) ≡ b → has_problem (known_of run history) ≡ true
    troubled run history about names sound orderly asked none true is = is
    troubled run history about names sound orderly asked none false is =
        let there : is_some (source_of_op (known_of run history) about) ≡ true =
        asked_source run history names sound orderly is about asked in
        let nothing : is_some (source_of_op (known_of run history) about) ≡ false = ap (λ (o : Option Source). is_some o) none in
        absurd (let e : true ≡ false = sym there ∙ nothing in cc)
