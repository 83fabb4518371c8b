-- The entry of a recorded goal is there, and stays.
use Rattle.std.proofs.Common.{◌≡◌, ℕ, ◌==◌, Bool, true, false, List, [], ◌∷◌, Option, Some, None, is_some, refl, sym, ◌∙◌, ap, subst, option_map, option_and_then}
use Rattle.std.specs.Option.{option_or}
use Rattle.pl_lemmas.proofs.Options.{or_none}
use Rattle.pl_lemmas.proofs.Numbers.{equal_numbers}
use Rattle.pl_reference.specs.declared.reference.ProviderRef.{ProviderRef}
use Rattle.pl_state.specs.declared.entry.Entry.{Entry}
use Rattle.pl_state.specs.declared.goal.Goal.{Goal}
use Rattle.pl_events.specs.declared.event.Event.{Event}
use Rattle.pl_events.specs.declared.event.What.{What}
use Rattle.pl_events.specs.declared.event.What.TheVariants.{Kept}
use Rattle.pl_model.specs.declared.decided.Decided.{Decided}
use Rattle.pl_model.specs.declared.errand.Closed.{Closed}
use Rattle.pl_model.specs.declared.fixed.Fixed.{Fixed}
use Rattle.pl_model.specs.Tickets.{closed_by}
use Rattle.pl_lemmas.specs.Words.{has_number, only_if}
use Rattle.pl_model.specs.Recording.{fresh_by, fresh_of, recorded_by_reply, recorded_of}
use Rattle.pl_model.specs.Claims.{claimed_row, kept_provider_id}
use Rattle.pl_model.specs.Decisions.{checked_at}
use Rattle.pl_model.specs.Entries.{Result, entry_of, goal_entry, numbers_in, recording_of, reference_to, result_answered, result_by, result_from, result_kept, result_of_keep, result_of_reply}
use Rattle.pl_model.specs.History.{known_of}
use Rattle.pl_model.specs.Known.{Known, checked_of, claim_of, claim_row, decided_goal, goal_at, is_recorded, provider_id, turn_of_goal}
use Rattle.pl_model.specs.Legal.{IsOrderly, MayHappen}
use Rattle.pl_model_stays.specs.Kept.{EntriesStay, RecordedHasEntry}
use Rattle.pl_model_stays.proofs.Lists.Growing.{decisions-stay, goals-stay, run_of}
use Rattle.pl_model_stays.proofs.Operations.Once.{history_of}
use Rattle.pl_model_stays.proofs.Goals.Recorded.{recorded-held, recording-new}
use Rattle.pl_model_stays.proofs.Goals.Standing.{claim-of-decided, entry-there, entry_is, recording-there}
use Rattle.pl_model_stays.proofs.Goals.Staying.{IsThere, provider_recorded, recorded-as}

pub recorded-has-entry : RecordedHasEntry
recorded-has-entry = λ run history number orderly h.
    let known : Known = known_of run history in
    let there = recorded-held run history number orderly h in
    let result = recording-there run history number there.0 there.1 h in
    let row = entry-there known number there.0 there.1 result.0 there.2.stands there.2.decided result.1 in
    ap (λ (o : Option Entry). is_some o) row.1

-- ---- what recorded a goal

-- the checked inputs of a decided goal
pub checked-of-decided : (known : Known) (number : ℕ) (one : Decided) → decided_goal known number ≡ Some one
    → checked_of known number ≡ Some one.checked
checked-of-decided known number one h =
    ap (λ (o : Option Decided). option_or (option_map (λ (it : Decided). it.checked) o)
    (option_and_then checked_at (turn_of_goal known number))) h

module _ (first last : Known) (runs : last.run ≡ first.run) (number : ℕ) (goal : Goal) (one : Decided) where
  kept_same : (what : What) → result_kept last number goal one what ≡ result_kept first number goal one what
  kept_same (Kept kept fresh) =
      ap (λ (run : Fixed). only_if (kept == number) (Some (result_of_keep goal (claimed_row run one.claim) one fresh))) runs
  kept_same _ = refl

  answered_same : (o : Option Closed)
      → option_and_then (result_answered last number one) o ≡ option_and_then (result_answered first number one) o
  answered_same None = refl
  answered_same (Some closed) =
      ap (λ (run : Fixed). only_if (has_number (numbers_in (recorded_by_reply closed)) number)
      (result_of_reply (claimed_row run one.claim) closed.reply)) runs

  -- what the events of a history gave to a goal's entry is the same for two histories of one run
  from_same : (past : List Event) → result_from last number goal one past ≡ result_from first number goal one past
  from_same [] = refl
  from_same (event ∷ past) =
      ap (λ (o : Option Result). option_or o (result_by last number goal one past event.what)) (from_same past)
      ∙ ap (λ (o : Option Result). option_or (result_from first number goal one past) o)
      (ap (λ (o : Option Result). option_or o (option_and_then (result_answered last number one) (closed_by past event.what)))
      (kept_same event.what)
      ∙ ap (λ (o : Option Result). option_or (result_kept first number goal one event.what) o) (answered_same (closed_by past event.what)))

-- ---- a recorded goal

abbrev reference_by : Goal → Option (List ℕ) → Option ProviderRef
reference_by goal id = option_map (λ one. record { urn = goal.urn; id = one }) id

abbrev pub provided_by : Option ProviderRef → Entry → Entry
provided_by provider entry = record entry { provider = provider }

module _ (run : Fixed) (event : Event) (past : List Event) (orderly : IsOrderly run (event ∷ past)) where
  abbrev before : Known
  before = known_of run past

  abbrev after : Known
  after = known_of run (event ∷ past)

  runs_same : after.run ≡ before.run
  runs_same = run_of run (event ∷ past) ∙ sym (run_of run past)

  -- no event gives a number to a goal that is recorded
  none_fresh : (number : ℕ) → has_number (recorded_of past) number ≡ true → (what : What)
      → MayHappen before event.seat what → fresh_by number what ≡ None
  none_fresh number h (Kept kept fresh) may = by (kept == number) refl
    where
      by : (b : Bool) → (kept == number) ≡ b → only_if b fresh ≡ None
      by false is = refl
      by true is =
          let new : has_number (recorded_of past) number ≡ false =
          subst (λ (n : ℕ). has_number (recorded_of past) n ≡ false) (equal_numbers kept number is)
          (recording-new run event.seat past (Kept kept fresh) kept orderly.0 may refl) in
          absurd (let e : true ≡ false = sym h ∙ new in cc)
  none_fresh number h _ may = refl

  module _ (number : ℕ) (recorded : is_recorded before number ≡ true) where
    there : IsThere before number
    there = recorded-held run past number orderly.0 recorded

    stands_after : goal_at after number ≡ Some there.0
    stands_after = goals-stay run event past number there.0 there.2.stands

    decided_after : decided_goal after number ≡ Some there.1
    decided_after = decisions-stay run event past number there.1 there.2.decided

    pub claim-stays : claim_of after number ≡ claim_of before number
    claim-stays = claim-of-decided after number there.1 decided_after ∙ sym (claim-of-decided before number there.1 there.2.decided)

    pub claim-row-stays : claim_row after number ≡ claim_row before number
    claim-row-stays =
        ap (λ (claim : Option ℕ). claimed_row after.run claim) claim-stays
        ∙ ap (λ (fixed : Fixed). claimed_row fixed (claim_of before number)) runs_same

    checked_stays : checked_of after number ≡ checked_of before number
    checked_stays = checked-of-decided after number there.1 decided_after ∙ sym (checked-of-decided before number there.1 there.2.decided)

    fresh_stays : fresh_of after.history number ≡ fresh_of before.history number
    fresh_stays =
        ap (λ (events : List Event). fresh_of events number) (history_of run (event ∷ past))
        ∙ ap (λ (o : Option ℕ). option_or (fresh_of past number) o)
        (none_fresh number (sym (recorded-as run past number) ∙ recorded) event.what orderly.1)
        ∙ or_none (fresh_of past number)
        ∙ ap (λ (events : List Event). fresh_of events number) (sym (history_of run past))

    reference_stays : reference_to after number ≡ reference_to before number
    reference_stays =
        ap (λ (o : Option Goal). option_and_then (λ (goal : Goal). reference_by goal (provider_id after number)) o) stands_after
        ∙ ap (λ (claim : Option Entry). reference_by there.0 (kept_provider_id claim (fresh_of after.history number))) claim-row-stays
        ∙ ap (λ (fresh : Option ℕ). reference_by there.0 (kept_provider_id (claim_row before number) fresh)) fresh_stays
        ∙ ap (λ (o : Option Goal). option_and_then (λ (goal : Goal). reference_by goal (provider_id before number)) o)
        (sym there.2.stands)

  module _ (number : ℕ) (recorded : is_recorded before number ≡ true) where
    abbrev goal : Goal
    goal = (there number recorded).0

    abbrev one : Decided
    one = (there number recorded).1

    provider_stays : option_and_then (reference_to after) goal.provider ≡ option_and_then (reference_to before) goal.provider
    provider_stays = by goal.provider refl
      where
        by : (o : Option ℕ) → goal.provider ≡ o → option_and_then (reference_to after) o ≡ option_and_then (reference_to before) o
        by None is = refl
        by (Some other) is =
            reference_stays other (provider_recorded before goal other (there number recorded).2.references is)

    goal_entry_stays : (result : Result) → goal_entry after goal one result ≡ goal_entry before goal one result
    goal_entry_stays result =
        ap (λ (provider : Option ProviderRef). provided_by provider (goal_entry before goal one result)) provider_stays

    recording_stays : (result : Result) → recording_of before number goal one ≡ Some result → recording_of after number goal one ≡ Some result
    recording_stays result h =
        ap (λ (events : List Event). result_from after number goal one events) (history_of run (event ∷ past))
        ∙ ap (λ (o : Option Result). option_or o (result_by after number goal one past event.what))
        (from_same before after runs_same number goal one past
        ∙ ap (λ (events : List Event). result_from before number goal one events) (sym (history_of run past)) ∙ h)

    entry_stays : entry_of after number ≡ entry_of before number
    entry_stays =
        let found = recording-there run past number goal one recorded in
        entry_is after number goal one found.0 (stands_after number recorded) (decided_after number recorded)
        (recording_stays found.0 found.1)
        ∙ ap (λ (entry : Entry). Some entry) (goal_entry_stays found.0)
        ∙ sym (entry_is before number goal one found.0 (there number recorded).2.stands (there number recorded).2.decided found.1)

pub entries-stay : EntriesStay
entries-stay = λ run event past number orderly recorded. record {
  claim = claim-stays run event past orderly number recorded;
  checked = checked_stays run event past orderly number recorded;
  entry = entry_stays run event past orderly number recorded;
}
