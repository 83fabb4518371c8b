-- Where a run is over and no problem stands, nothing that is to go is kept from it.
use Rattle.std.proofs.Common.{◌≡◌, ℕ, ◌≤◌, ◌<◌, Bool, true, false, not, ◌&&◌, ◌||◌, if◌then◌else◌, List, [], ◌∷◌, ◌++◌, get_or, length, nat_lt, slice_get, Option, Some, None, is_none, refl, sym, ◌∙◌, ap, subst, inl, inr, ◌⊎◌, arith, option_and_then}
use Rattle.std.proofs.lemmas.Bool.Decides.{nat_tests}
use Rattle.std.proofs.lemmas.Option.{slice_get_cases, slice_get_within}
use Rattle.std.specs.List.{list_any}
use Rattle.pl_lemmas.proofs.Truth.{and_left, and_fails}
use Rattle.pl_lemmas.proofs.Numbers.{range_has}
use Rattle.pl_lemmas.proofs.Lists.{append_none, map_none}
use Rattle.pl_lemmas.specs.Words.{first_in, option_list, some_passes}
use Rattle.pl_lemmas.proofs.Options.{list_none}
use Rattle.pl_state.specs.Chain.{refers_to}
use Rattle.pl_state.specs.declared.entry.Entry.{Entry}
use Rattle.pl_events.specs.declared.event.Event.{Event}
use Rattle.pl_decide.specs.Permits.{is_wanted}
use Rattle.pl_decide.specs.declared.problem.Problem.{Problem}
use Rattle.pl_decide.specs.declared.problem.Problem.TheVariants as problem
use Rattle.pl_model.specs.declared.fixed.Fixed.{Fixed}
use Rattle.pl_model.specs.Run.{is_destroy, is_preview, is_refresh, rows_of}
use Rattle.pl_model.specs.History.{known_of}
use Rattle.pl_model.specs.Known.{Known, has_problem, host_ended, is_over, known_by}
use Rattle.pl_model.specs.Legal.{IsOrderly}
use Rattle.pl_model.specs.Problems.{end_problems, ends_well, first_row, holds_doomed, is_unpermitted, lacks_provider, limit_problem, made_problems, refresh_problems, row_problem, start_problems}
use Rattle.pl_model.specs.Rows.{is_doomed, is_left, is_taken_out, is_taken_over, is_target, row_at, row_numbers}
use Rattle.pl_model_stays.proofs.Lists.Growing.{run_of}
use Rattle.pl_model_stays.proofs.Operations.Once.{left_parts, both}
use Rattle.pl_model_laws.specs.Apart.{KeepsApart}
use Rattle.pl_model_laws.proofs.Endings.Calm.{calm-before, first_none, no-end, no-made, no_problems, range_each}
use Rattle.pl_model_laws.proofs.Rows.Going.{doomed-parts, provided-later}
use Rattle.pl_model_laws.proofs.Rows.Removing.{Later, later-before, later-now, later-through}
use Rattle.pl_model_laws.proofs.Rows.TakenOut.{left-before}
use Rattle.pl_model_laws.proofs.Endings.Troubles.{or_first}

-- ---- where the run became over

-- a history before this one at which the run is over without a problem; what is left now was left there
pub record IsEnded (run : Fixed) (past : List Event) (known : Known) : Type 0 where
  pub later : Later run past known
  pub orderly : IsOrderly run past
  pub over : is_over (known_of run past) ≡ true
  pub left : (row : ℕ) → is_left known row ≡ true → is_left (known_of run past) row ≡ true
  pub clean : end_problems (known_of run past) ≡ []

-- the problems that stand are of no account for those of the end
end_apart : (known : Known) (placed : List (ℕ × Problem)) → end_problems (record known { problems = placed }) ≡ end_problems known
end_apart known placed = refl

-- a run that is over from the start without a problem
start_clean : (run : Fixed) → is_refresh run.mode ≡ false → has_problem (known_of run []) ≡ false → is_over (known_of run []) ≡ true
    → end_problems (known_of run []) ≡ []
unfolding known_of
start_clean run other calm over =
    end_apart (known_by run [] [] [] []) (start_problems run)
    ∙ sym (ap (λ (b : Bool). if b then refresh_problems run else troubles_over) other
    ∙ ap (λ (b : Bool). if b then end_problems (known_by run [] [] [] []) else []) over)
    ∙ map_none (λ (trouble : Problem). (0, trouble)) (if is_refresh run.mode then refresh_problems run else troubles_over)
    (no_problems (known_of run []) calm)
  where
    troubles_over : List Problem
    troubles_over = if is_over (known_by run [] [] [] []) then end_problems (known_by run [] [] [] []) else []

-- a run ends well by the event by which it is over where no problem stands
well_made : (after before troubled none : Bool) → after ≡ true → before ≡ false → troubled ≡ false → none ≡ true
    → (after && not before && not troubled && none) ≡ true
well_made true false false true over going calm made = refl
well_made true false false false over going calm made = absurd (let e : false ≡ true = made in cc)
well_made true false true none over going calm made = absurd (let e : true ≡ false = calm in cc)
well_made true true troubled none over going calm made = absurd (let e : true ≡ false = going in cc)
well_made false before troubled none over going calm made = absurd (let e : false ≡ true = over in cc)

-- the event by which a run is over
newly_clean : (run : Fixed) (event : Event) (past : List Event) → has_problem (known_of run (event ∷ past)) ≡ false
    → is_over (known_of run (event ∷ past)) ≡ true → is_over (known_of run past) ≡ false → end_problems (known_of run (event ∷ past)) ≡ []
newly_clean run event past calm over going =
    let before : Known = known_of run past in
    let after : Known = known_of run (event ∷ past) in
    let well : ends_well before after event.what ≡ true =
    well_made (is_over after) (is_over before) (has_problem before) (is_none (first_in (made_problems before after event.what)))
    over going (calm-before run event past calm)
    (ap (λ (troubles : List Problem). is_none (first_in troubles)) (no-made run event past calm)) in
    sym (ap (λ (b : Bool). if b then end_problems after else []) well) ∙ no-end run event past calm

-- where no problem stands, a run that is over became so without one
pub over-clean : (run : Fixed) (history : List Event) → IsOrderly run history → is_refresh run.mode ≡ false
    → has_problem (known_of run history) ≡ false → is_over (known_of run history) ≡ true
    → (past : List Event) × IsEnded run past (known_of run history)
over-clean run [] orderly other calm over = (
  [],
  record {
    later = later-now run [];
    orderly = orderly;
    over = over;
    left = λ row h. h;
    clean = start_clean run other calm over;
  },
)
over-clean run (event ∷ past) orderly other calm over =
    by (is_over (known_of run past)) refl (over-clean run past orderly.0 other (calm-before run event past calm))
  where
    by : (b : Bool) → is_over (known_of run past) ≡ b
        → (is_over (known_of run past) ≡ true → (first : List Event) × IsEnded run first (known_of run past))
        → (first : List Event) × IsEnded run first (known_of run (event ∷ past))
    by true is rest =
        let found = rest is in (
          found.0,
          record {
            later = later-through run past found.0 (known_of run (event ∷ past)) (and_left (host_ended (known_of run past)) _ is) found.1.later
                (later-before run event past (known_of run (event ∷ past)) orderly.1 (later-now run (event ∷ past)));
            orderly = found.1.orderly;
            over = found.1.over;
            left = λ row h. found.1.left row (left-before run event past orderly row h);
            clean = found.1.clean;
          },
        )
    by false is rest = (
      event ∷ past,
      record {
        later = later-now run (event ∷ past);
        orderly = orderly;
        over = over;
        left = λ row h. h;
        clean = newly_clean run event past calm over is;
      },
    )

-- ---- what is to go there

-- a first row that is missing passes no test
row_fails : (known : Known) (trouble : List ℕ → Problem) (test : ℕ → Entry → Bool) (row : ℕ) (entry : Entry)
    → first_row known trouble test ≡ None → row_at known row ≡ Some entry → test row entry ≡ false
row_fails known trouble test row entry none at = by (test row entry) refl
  where
    missing : row_problem known trouble test row ≡ None
    missing =
        let inside : row < length (rows_of known.run) = slice_get_within (rows_of known.run) row entry at in
        range_each (λ (it : ℕ). row_problem known trouble test it ≡ None) 0 (length (rows_of known.run)) row (omega arith) (omega arith)
        (first_none (row_problem known trouble test) (row_numbers known) none)

    by : (b : Bool) → test row entry ≡ b → b ≡ false
    by false is = refl
    by true is =
        let there : row_problem known trouble test row ≡ Some (trouble entry.urn) =
        ap (λ (o : Option Entry). option_and_then (λ (it : Entry). if test row it then Some (trouble it.urn) else None) o) at
        ∙ ap (λ (b : Bool). if b then Some (trouble entry.urn) else None) is in
        let nothing : Option Problem = None in
        absurd (let e : Some (trouble entry.urn) ≡ nothing = sym there ∙ missing in cc)

-- the problems of the end, none of which stands
pub record IsClean (known : Known) : Type 0 where
  pub unprotected : first_row known problem.Protected (λ row entry. is_doomed known row && entry.protect) ≡ None
  pub provided : first_row known problem.MissingProvider (λ row entry. is_doomed known row && lacks_provider known row) ≡ None
  pub permitted : limit_problem known ≡ None

-- a run that ends without a problem has none of them
pub clean_parts : (known : Known) → end_problems known ≡ [] → IsClean known
clean_parts known h =
    let unprotected : Option Problem = first_row known problem.Protected (λ row entry. is_doomed known row && entry.protect) in
    let provided : Option Problem = first_row known problem.MissingProvider (λ row entry. is_doomed known row && lacks_provider known row) in
    let first = append_none (option_list unprotected) (option_list provided ++ option_list (limit_problem known)) h in
    let second = append_none (option_list provided) (option_list (limit_problem known)) first.1 in
    record {
      unprotected = list_none unprotected first.0;
      provided = list_none provided second.0;
      permitted = list_none (limit_problem known) second.1;
    }

-- a row that is left is one of the rows
pub left_within : (known : Known) (row : ℕ) → is_left known row ≡ true → row < length (rows_of known.run)
left_within known row h =
    let below : nat_lt row (length (rows_of known.run)) ≡ true =
    (left_parts (nat_lt row (length (rows_of known.run))) (is_taken_out known row) (is_taken_over known row) h).0 in
    grind (arith, nat_tests)

-- where the limits let go what is to go, a row that refers to it is to go too
held_target : (known : Known) (later earlier : ℕ) → limit_problem known ≡ None → is_left known later ≡ true
    → refers_to (rows_of known.run) later earlier ≡ true → is_doomed known earlier ≡ true → is_target known later ≡ true
held_target known later earlier permitted left refers doomed = by (is_destroy known.run.mode) refl
  where
    some_doomed : list_any (λ (row : ℕ). refers_to (rows_of known.run) later row && is_doomed known row) (row_numbers known) ≡ true
    some_doomed =
        let inside : earlier < length (rows_of known.run) = left_within known earlier (doomed-parts known earlier doomed).left in
        range_has (λ (row : ℕ). refers_to (rows_of known.run) later row && is_doomed known row) 0 (length (rows_of known.run)) earlier
        (omega arith) (omega arith)
        (both (refers_to (rows_of known.run) later earlier) (is_doomed known earlier) refers doomed)

    wanted : (entry : Entry) (b : Bool) → is_wanted known.run.limits entry.urn ≡ b → holds_doomed known later entry ≡ false → b ≡ true
    wanted entry true is none = refl
    wanted entry false is none =
        let held : holds_doomed known later entry ≡ true =
        both (not (is_wanted known.run.limits entry.urn)) _ (ap (λ (b : Bool). not b) is) some_doomed in
        absurd (let e : true ≡ false = sym held ∙ none in cc)

    at : first_row known problem.NotPermitted (holds_doomed known) ≡ None → (o : Option Entry) → row_at known later ≡ o
        → ((length (rows_of known.run) ≤ later) × (o ≡ None)) ⊎ ((entry : Entry) × (o ≡ Some entry))
        → some_passes (λ (entry : Entry). is_wanted known.run.limits entry.urn) o ≡ true
    at none o is (inl past) =
        absurd (let inside : later < length (rows_of known.run) = left_within known later left in
        let far : length (rows_of known.run) ≤ later = past.0 in omega arith)
    at none o is (inr found) =
        ap (λ (it : Option Entry). some_passes (λ (entry : Entry). is_wanted known.run.limits entry.urn) it) found.1
        ∙ wanted found.0 (is_wanted known.run.limits (found.0).urn) refl
        (row_fails known problem.NotPermitted (holds_doomed known) later found.0 none (is ∙ found.1))

    cases : (xs : List Entry) (k : ℕ) → ((length xs ≤ k) × (slice_get xs k ≡ None)) ⊎ ((entry : Entry) × (slice_get xs k ≡ Some entry))
    cases xs k = turn (slice_get_cases xs k).1
      where
        turn : ((x : Entry) × (k < length xs) × (slice_get xs k ≡ Some x) × (get_or xs k x ≡ x)) ⊎ ((length xs ≤ k) × (slice_get xs k ≡ None))
            → ((length xs ≤ k) × (slice_get xs k ≡ None)) ⊎ ((entry : Entry) × (slice_get xs k ≡ Some entry))
        turn (inl found) = inr (found.0, found.2)
        turn (inr past) = inl past

    by : (b : Bool) → is_destroy known.run.mode ≡ b
        → (not b || some_passes (λ (entry : Entry). is_wanted known.run.limits entry.urn) (row_at known later)) ≡ true
    by false is = refl
    by true is =
        at (sym (ap (λ (b : Bool). if b then first_row known problem.NotPermitted (holds_doomed known)
        else (if is_refresh known.run.mode then None
        else first_row known problem.NotPermitted (is_unpermitted known))) is) ∙ permitted)
        (row_at known later) refl (cases (rows_of known.run) later)

module _ (run : Fixed) (history : List Event) (orderly : IsOrderly run history) where
  abbrev known : Known
  known = known_of run history

  -- the rows were the same before
  row_then : (past : List Event) (row : ℕ) → row_at (known_of run past) row ≡ row_at known row
  row_then past row = ap (λ (fixed : Fixed). slice_get (rows_of fixed) row) (run_of run past ∙ sym (run_of run history))

  -- a doomed row was doomed where the run became over
  doomed_then : (past : List Event) → IsEnded run past known → (row : ℕ) → is_doomed known row ≡ true
      → is_doomed (known_of run past) row ≡ true
  doomed_then past ended row h =
      let parts = doomed-parts known row h in
      let same : known.run ≡ (known_of run past).run = run_of run history ∙ sym (run_of run past) in
      let other : not (is_refresh (known_of run past).run.mode) ≡ true =
      ap (λ (b : Bool). not b) (subst (λ (fixed : Fixed). is_refresh fixed.mode ≡ false) same parts.other) in
      let target : is_target (known_of run past) row ≡ true =
      subst (λ (fixed : Fixed). (not (is_destroy fixed.mode)
      || some_passes (λ (entry : Entry). is_wanted fixed.limits entry.urn) (slice_get (rows_of fixed) row)) ≡ true) same parts.target in
      both (is_left (known_of run past) row && not (is_refresh (known_of run past).run.mode) && is_target (known_of run past) row) _
      (both (is_left (known_of run past) row && not (is_refresh (known_of run past).run.mode)) _
      (both (is_left (known_of run past) row) _ (ended.left row parts.left) other) target)
      (or_first (is_over (known_of run past)) _ ended.over)

  -- where a row is doomed not everything is read anew
  other_mode : (row : ℕ) → is_doomed known row ≡ true → is_refresh run.mode ≡ false
  other_mode row h =
      subst (λ (fixed : Fixed). is_refresh fixed.mode ≡ false) (run_of run history) (doomed-parts known row h).other

  -- and it has its provider, where it must be sent for
  pub end-provided : is_preview run.mode ≡ false → KeepsApart (rows_of run) → has_problem known ≡ false → is_over known ≡ true
      → (row : ℕ) (entry : Entry) → is_doomed known row ≡ true → row_at known row ≡ Some entry → lacks_provider known row ≡ false
  end-provided real apart calm over row entry doomed at =
      let found = over-clean run history orderly (other_mode row doomed) calm over in
      let told : Known = known_of run found.0 in
      let clean = clean_parts told found.1.clean in
      provided-later run history orderly found.0 found.1.later found.1.orderly real apart row (doomed-parts known row doomed).left
      (and_fails (is_doomed told row) (lacks_provider told row)
      (row_fails told problem.MissingProvider (λ number it. is_doomed told number && lacks_provider told number) row entry clean.provided
      (row_then found.0 row ∙ at))
      (doomed_then found.0 found.1 row doomed))

  -- and a row that is left and refers to it is one that is to be deleted
  pub end-held : has_problem known ≡ false → is_over known ≡ true → (later earlier : ℕ) → is_left known later ≡ true
      → refers_to (rows_of run) later earlier ≡ true → is_doomed known earlier ≡ true → is_target known later ≡ true
  end-held calm over later earlier left refers doomed =
      let found = over-clean run history orderly (other_mode earlier doomed) calm over in
      let told : Known = known_of run found.0 in
      let clean = clean_parts (known_of run found.0) found.1.clean in
      let there : refers_to (rows_of told.run) later earlier ≡ true =
      subst (λ (fixed : Fixed). refers_to (rows_of fixed) later earlier ≡ true) (sym (run_of run found.0)) refers in
      let same : told.run ≡ known.run = run_of run found.0 ∙ sym (run_of run history) in
      subst (λ (fixed : Fixed). (not (is_destroy fixed.mode)
      || some_passes (λ (entry : Entry). is_wanted fixed.limits entry.urn) (slice_get (rows_of fixed) later)) ≡ true) same
      (held_target told later earlier clean.permitted (found.1.left later left) there (doomed_then found.0 found.1 earlier doomed))
