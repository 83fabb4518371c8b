-- What is to go is so until it went, and so is what goes along with it.
use Rattle.std.proofs.Common.{◌≡◌, ℕ, zero, suc, ◌+◌, ◌<◌, Bool, true, false, not, ◌&&◌, ◌||◌, List, [], ◌∷◌, if◌then◌else◌, length, map, nat_lt, option_and_then, slice_get, take, Option, Some, None, is_none, refl, sym, ◌∙◌, ap, subst, arith, inl}
use Rattle.std.proofs.lemmas.Bool.Decides.{nat_tests}
use Rattle.std.specs.List.{list_all, list_any, range_with_len}
use Rattle.std.proofs.Math.Bool.{or-true}
use Rattle.std.proofs.lemmas.Option.{same_Some}
use Rattle.pl_lemmas.proofs.Truth.{and_left, and_right, or_first}
use Rattle.pl_lemmas.proofs.Lists.{any_back, numbered_passes}
use Rattle.pl_lemmas.specs.Words.{has_number, is_row, some_passes}
use Rattle.pl_lemmas.proofs.Options.{row_is}
use Rattle.pl_state.specs.Chain.{deleter_row_of, last_from, last_of_urn, or_else_place, refers_to}
use Rattle.pl_state.specs.References.{has_urn, meets, names_row, optional_refs, property_urns}
use Rattle.pl_state.specs.declared.entry.Entry.{Entry}
use Rattle.pl_state.specs.declared.fault.Missing.{Missing}
use Rattle.pl_state.specs.declared.fault.Missing.TheVariants.{DeletedWith, Dependency, Parent, Provider}
use Rattle.pl_state.specs.declared.goal.Goal.{Goal}
use Rattle.pl_events.specs.declared.event.Event.{Event}
use Rattle.pl_decide.specs.Permits.{is_wanted}
use Rattle.pl_decide.specs.Limited.{is_create_first, is_delete_first}
use Rattle.pl_model.specs.declared.decided.Decided.{Decided}
use Rattle.pl_model.specs.declared.fixed.Fixed.{Fixed}
use Rattle.pl_model.specs.Run.{is_destroy, is_preview, is_refresh, rows_of}
use Rattle.pl_model.specs.Claims.{chain_of_claim, chain_of_goal, claimer_of, is_claimed}
use Rattle.pl_model.specs.History.{known_of}
use Rattle.pl_model.specs.Known.{Known, all_recorded, decided_goal, host_ended, is_over, is_recorded}
use Rattle.pl_model.specs.Legal.{IsOrderly}
use Rattle.pl_model.specs.Problems.{lacks_provider}
use Rattle.pl_model.specs.Recording.{recorded_of, removed_of}
use Rattle.pl_model.specs.Rows.{goes_now, goes_with, is_deletable, is_deleted_first, is_doomed, is_left, is_marked, is_replaced, is_taken_out, is_taken_over, is_target, row_at, stands_beside, takes_along, was_removed}
use Rattle.pl_model_stays.proofs.Goals.Claiming.{passing_number, where_found}
use Rattle.pl_model_stays.proofs.Lists.Growing.{run_of}
use Rattle.pl_model_stays.proofs.Operations.Once.{history_of, not_true, left_parts, both}
use Rattle.pl_model_stays.proofs.Goals.Staying.{recorded-as}
use Rattle.pl_model_laws.specs.Apart.{KeepsApart}
use Rattle.pl_model_laws.proofs.Rows.Along.{along-so, along-there, along-told}
use Rattle.pl_model_laws.proofs.Rows.Chains.{chain-closed}
use Rattle.pl_model_laws.proofs.Rows.Dependents.{gone_last}
use Rattle.pl_model_laws.proofs.Urns.Freed.{free-recorded}
use Rattle.pl_model_laws.proofs.Rows.Leaving.{claimed-once, claimer_is, claimer_parts, claimer_passes, known-apart, left_made}
use Rattle.pl_model_laws.proofs.Rows.Removing.{Later, claimed-then, never-marked, over_recorded, recorded-gone}
use Rattle.pl_model_laws.proofs.Rows.TakenOver.{Taker, all-decided, taker}

-- ---- the row that another one is deleted with

-- the last row that passes is one of the rows, and passes
last_passes : (test : Entry → Bool) (place : ℕ) (rows : List Entry) (found : ℕ) → last_from test place rows ≡ Some found
    → (k : ℕ) × (row : Entry) × (found ≡ place + k) × (slice_get rows k ≡ Some row) × (test row ≡ true)
last_passes test place [] found h = absurd (let e : None ≡ Some found = h in cc)
last_passes test place (row ∷ rows) found h =
    by (last_from test (suc place) rows) (test row) refl h (last_passes test (suc place) rows found)
  where
    by : (o : Option ℕ) (b : Bool) → test row ≡ b → or_else_place o b place ≡ Some found
        → (o ≡ Some found → (k : ℕ) × (other : Entry) × (found ≡ suc place + k) × (slice_get rows k ≡ Some other) × (test other ≡ true))
        → (k : ℕ) × (other : Entry) × (found ≡ place + k) × (slice_get (row ∷ rows) k ≡ Some other) × (test other ≡ true)
    by (Some later) b is h rest =
        let its : (k : ℕ) × (other : Entry) × (found ≡ suc place + k) × (slice_get rows k ≡ Some other) × (test other ≡ true) = rest h in
        let k : ℕ = its.0 in
        let far : found ≡ suc place + k = its.2 in
        (suc k, its.1, omega arith, its.3, its.4)
    by None true is h rest =
        let same : place ≡ found = same_Some place found h in
        (0, row, omega arith, refl, is)
    by None false is h rest = absurd (let e : None ≡ Some found = h in cc)

-- a row among the first ones stands there in the whole
taken_at : (n k : ℕ) (rows : List Entry) (row : Entry) → slice_get (take n rows) k ≡ Some row → (k < n) × (slice_get rows k ≡ Some row)
taken_at zero k rows row h = absurd (let e : None ≡ Some row = h in cc)
taken_at (suc n) k [] row h = absurd (let e : None ≡ Some row = h in cc)
taken_at (suc n) zero (first ∷ rows) row h = (omega arith, h)
taken_at (suc n) (suc k) (first ∷ rows) row h =
    let rest = taken_at n k rows row h in
    let low : k < n = rest.0 in
    (omega arith, rest.1)

-- whether another row meets a reference
abbrev met_by : Entry → Missing → Bool
met_by other reference = meets reference other

-- a row refers to the one that it is deleted with
names_deleter : (row other : Entry) (named : List ℕ) → row.deleted_with ≡ Some named → has_urn named other ≡ true → names_row row other ≡ true
names_deleter row other named is has =
    any_back (met_by other) (optional_refs Parent row.parent) _
    (any_back (met_by other) (optional_refs Provider row.provider) _
    (any_back (met_by other) (map Dependency row.dependencies) _
    (any_back (met_by other) (map Dependency (property_urns row.property_dependencies)) _ last)))
  where
    last : list_any (met_by other) (optional_refs DeletedWith row.deleted_with) ≡ true
    last = rw is (rw has refl)

pub deleter-refers : (rows : List Entry) (at other : ℕ) → deleter_row_of rows at ≡ Some other → refers_to rows at other ≡ true
deleter-refers rows at other h = by (slice_get rows at) refl h
  where
    found : (row : Entry) → slice_get rows at ≡ Some row → (named : Option (List ℕ)) → row.deleted_with ≡ named
        → last_of_urn named (take at rows) ≡ Some other → refers_to rows at other ≡ true
    found row is None with_none h = absurd (let e : None ≡ Some other = h in cc)
    found row is (Some named) with_named h =
        let last = last_passes (has_urn named) 0 (take at rows) other h in
        let k : ℕ = last.0 in
        let far : other ≡ 0 + k = last.2 in
        let same : k ≡ other = omega arith in
        let there = taken_at at k rows last.1 last.3 in
        let low : k < at = there.0 in
        let less : nat_lt other at ≡ true = grind (arith, nat_tests) in
        let here : slice_get rows other ≡ Some last.1 = subst (λ (n : ℕ). slice_get rows n ≡ Some last.1) same there.1 in
        rw less (rw is (rw here (names_deleter row last.1 named with_named last.4)))

    by : (o : Option Entry) → slice_get rows at ≡ o
        → option_and_then (λ (row : Entry). last_of_urn row.deleted_with (take at rows)) o ≡ Some other → refers_to rows at other ≡ true
    by None is h = absurd (let e : None ≡ Some other = h in cc)
    by (Some row) is h = found row is row.deleted_with refl h

-- ---- what is to go

-- the parts of a row that is to go
pub record IsDoomed (known : Known) (row : ℕ) : Type 0 where
  pub left : is_left known row ≡ true
  pub other : is_refresh known.run.mode ≡ false
  pub target : is_target known row ≡ true
  pub cause : (is_over known || list_any (takes_along known row) known.decided) ≡ true

pub doomed-parts : (known : Known) (row : ℕ) → is_doomed known row ≡ true → IsDoomed known row
doomed-parts known row h =
    let three = and_left (is_left known row && not (is_refresh known.run.mode) && is_target known row) _ h in
    let two = and_left (is_left known row && not (is_refresh known.run.mode)) (is_target known row) three in
    record {
      left = and_left (is_left known row) (not (is_refresh known.run.mode)) two;
      other = not_true (is_refresh known.run.mode) (and_right (is_left known row) _ two);
      target = and_right (is_left known row && not (is_refresh known.run.mode)) _ three;
      cause = and_right (is_left known row && not (is_refresh known.run.mode) && is_target known row) _ h;
    }

-- whether the row that another one is deleted with goes, by a provider
abbrev takes_it : Known → Option ℕ → Bool
takes_it known o = some_passes (λ other. is_doomed known other && some_passes is_deletable (row_at known other)) o

-- whether the deletion of a row may be sent
abbrev may_be_sent : Entry → Bool
may_be_sent entry = is_deletable entry && not entry.pending_replacement

abbrev has_none : Entry → Bool
has_none entry = is_none entry.provider

-- each number of a range passes what all of them pass
all_pass : (test other : ℕ → Bool) (a n : ℕ) → ((k : ℕ) → test k ≡ true → other k ≡ true)
    → list_all test (range_with_len a n) ≡ true → list_all other (range_with_len a n) ≡ true
all_pass test other a zero weaker h = refl
all_pass test other a (suc n) weaker h =
    rw (weaker a (and_left (test a) _ h)) (all_pass test other (a + 1) n weaker (and_right (test a) _ h))

module _ (run : Fixed) (history : List Event) (orderly : IsOrderly run history)
    (past : List Event) (later : Later run past (known_of run history)) (orderly_then : IsOrderly run past) where
  abbrev known : Known
  known = known_of run history

  abbrev told_then : Known
  told_then = known_of run past

  same_run : told_then.run ≡ known.run
  same_run = run_of run past ∙ sym (run_of run history)

  -- a run that is over stays so
  over_later : is_over told_then ≡ true → is_over known ≡ true
  over_later h =
      let ended : host_ended told_then ≡ true = and_left (host_ended told_then) (all_recorded told_then) h in
      let all : all_recorded told_then ≡ true = and_right (host_ended told_then) (all_recorded told_then) h in
      let now : all_recorded known ≡ true =
      ap (λ (goals : List Goal). list_all (is_recorded known) (range_with_len 0 (length goals))) (later.ended ended)
      ∙ all_pass (is_recorded told_then) (is_recorded known) 0 (length told_then.goals) later.recordings all in
      rw (later.closed ended) now

  -- a row that was replaced stays so
  replaced_later : (row : ℕ) → is_replaced told_then row ≡ true → is_replaced known row ≡ true
  replaced_later row h =
      let parts = claimer_parts told_then row (stands_beside told_then) h in
      let found = where_found (λ (one : Decided). is_row one.claim row) told_then.decided parts.0 parts.1 in
      let decided : decided_goal known parts.0 ≡ Some found.0 = later.decisions parts.0 found.0 found.1 in
      let claimer : claimer_of known.decided row ≡ Some parts.0 =
      claimer_is run known.decided parts.0 row found.0 (known-apart run history) decided found.2 in
      claimer_passes known row parts.0 (stands_beside known) claimer (later.recordings parts.0 parts.2)
      ∙ ap (λ (o : Option Decided). some_passes (λ (one : Decided). is_create_first one.decision) o) (decided ∙ sym found.1)
      ∙ parts.3

  -- and so does a row that is marked
  marked_later : (row : ℕ) → is_marked told_then row ≡ true → is_marked known row ≡ true
  marked_later row h = by (some_passes (λ (entry : Entry). entry.doomed) (row_at known row)) refl
    where
      base : some_passes (λ (entry : Entry). entry.doomed) (row_at told_then row) ≡ some_passes (λ (entry : Entry). entry.doomed) (row_at known row)
      base = ap (λ (fixed : Fixed). some_passes (λ (entry : Entry). entry.doomed) (slice_get (rows_of fixed) row)) same_run

      by : (b : Bool) → some_passes (λ (entry : Entry). entry.doomed) (row_at known row) ≡ b → (b || is_replaced known row) ≡ true
      by true is = refl
      by false is =
          replaced_later row
          (ap (λ (b : Bool). b || is_replaced told_then row) (sym (base ∙ is)) ∙ h)

  module _ (row : ℕ) (doomed : is_doomed told_then row ≡ true) where
    -- no goal claims it later
    unclaimed_later : is_claimed told_then.decided row ≡ false → is_claimed known.decided row ≡ false
    unclaimed_later none = by (is_claimed known.decided row) refl
      where
        by : (b : Bool) → is_claimed known.decided row ≡ b → b ≡ false
        by false is = refl
        by true is =
            let found = passing_number (λ (one : Decided). is_row one.claim row) known.decided is in
            let at : decided_goal told_then found.0 ≡ Some found.1 =
            claimed-then run history found.0 row found.1 found.2 found.3 past later orderly_then doomed in
            let some : is_claimed told_then.decided row ≡ true =
            numbered_passes (λ (one : Decided). is_row one.claim row) told_then.decided found.0 found.1 at found.3 in
            absurd (let e : true ≡ false = sym some ∙ none in cc)

    -- a goal that takes it along does so later
    takes_later : (one : Decided) → takes_along told_then row one ≡ true → takes_along known row one ≡ true
    takes_later one h =
        let first = and_left (is_delete_first one.decision) _ h in
        both (is_delete_first one.decision) _ first (by (is_row one.claim row) (and_right (is_delete_first one.decision) _ h))
      where
        goes : (b : Bool) → is_claimed told_then.decided row ≡ b → (not b || is_marked told_then row) ≡ true
            → (not (is_claimed known.decided row) || is_marked known row) ≡ true
        goes true is h = rw (marked_later row h) (or-true (not (is_claimed known.decided row)))
        goes false is h = rw (unclaimed_later is) refl

        goes_later : goes_now told_then row ≡ true → goes_now known row ≡ true
        goes_later h =
            let there = along-there told_then row h in
            along-so known row there.0 (ap (λ (fixed : Fixed). slice_get (rows_of fixed) row) (sym same_run) ∙ there.1)
            (goes (is_claimed told_then.decided row) refl (along-told told_then row h))

        by : (b : Bool)
            → (b || (has_number (chain_of_goal told_then.run one) row && goes_now told_then row)) ≡ true
            → (b || (has_number (chain_of_goal known.run one) row && goes_now known row)) ≡ true
        by true h = refl
        by false h =
            let chained : has_number (chain_of_goal known.run one) row ≡ true =
            ap (λ (fixed : Fixed). has_number (chain_of_goal fixed one) row) (sym same_run)
            ∙ and_left (has_number (chain_of_goal told_then.run one) row) _ h in
            rw chained (goes_later (and_right (has_number (chain_of_goal told_then.run one) row) _ h))

    -- a row that is to go is so later, as long as it is left
    pub doomed-later : is_left known row ≡ true → is_doomed known row ≡ true
    doomed-later left =
        let parts = doomed-parts told_then row doomed in
        let reads : is_refresh known.run.mode ≡ false = ap (λ (fixed : Fixed). is_refresh fixed.mode) (sym same_run) ∙ parts.other in
        let target : is_target known row ≡ true =
        ap (λ (fixed : Fixed). not (is_destroy fixed.mode)
        || some_passes (λ (entry : Entry). is_wanted fixed.limits entry.urn) (slice_get (rows_of fixed) row)) (sym same_run) ∙ parts.target in
        rw left (rw reads (rw target (by (is_over told_then) refl parts.cause)))
      where
        by : (b : Bool) → is_over told_then ≡ b → (b || list_any (takes_along told_then row) told_then.decided) ≡ true
            → (is_over known || list_any (takes_along known row) known.decided) ≡ true
        by true is h = rw (over_later is) refl
        by false is h =
            let found = passing_number (takes_along told_then row) told_then.decided h in
            let some : list_any (takes_along known row) known.decided ≡ true =
            numbered_passes (takes_along known row) known.decided found.0 found.1 (later.decisions found.0 found.1 found.2)
            (takes_later found.1 found.3) in
            rw some (or-true (is_over known))

  -- ---- what a row that is left refers to

  module _ (real : is_preview run.mode ≡ false) (apart : KeepsApart (rows_of run)) (row earlier : ℕ)
      (refers : refers_to (rows_of run) row earlier ≡ true) (left : is_left known row ≡ true) where
    -- it was not taken over, if it was to go
    not_taken : is_doomed told_then earlier ≡ true → Taker run history (all-decided run history orderly) earlier → ⊥
    not_taken doomed own =
        by (is_over told_then) refl parts.cause
      where
        parts : IsDoomed told_then earlier
        parts = doomed-parts told_then earlier doomed

        at : decided_goal told_then own.number ≡ Some own.one
        at = claimed-then run history own.number earlier own.one own.decided own.claims past later orderly_then doomed

        unmarked : is_marked told_then earlier ≡ false
        unmarked = never-marked run history own.number earlier own.one own.decided own.claims own.creates_none past later

        claimed : is_claimed told_then.decided earlier ≡ true
        claimed = numbered_passes (λ (it : Decided). is_row it.claim earlier) told_then.decided own.number own.one at own.claims

        -- the goal's chain is gone
        way : is_delete_first own.one.decision ≡ true → ⊥
        way first =
            let listed : has_number (recorded_of history) own.number ≡ true = sym (recorded-as run history own.number) ∙ own.recorded in
            let free = free-recorded run real apart history own.number orderly listed in
            let same : free.one ≡ own.one = same_Some free.one own.one (sym free.decided ∙ own.decided) in
            let claim : own.one.claim ≡ Some earlier = row_is own.one.claim earlier own.claims in
            let low : row < length (rows_of run) = below in
            let chained : has_number (chain_of_goal run own.one) row ≡ true =
            ap (λ (b : Bool). has_number (if b then chain_of_claim run own.one.claim else []) row) first
            ∙ ap (λ (o : Option ℕ). has_number (chain_of_claim run o) row) claim
            ∙ chain-closed (rows_of run) earlier row earlier refers low (inl refl) in
            let gone : is_left known row ≡ false =
            free.gone row (ap (λ (it : Decided). has_number (chain_of_goal run it) row) same ∙ chained) in
            let e : true ≡ false = sym left ∙ gone in cc
          where
            below : row < length (rows_of run)
            below =
                let within = (left_parts (nat_lt row (length (rows_of known.run))) (is_taken_out known row) (is_taken_over known row) left).0 in
                let less : nat_lt row (length (rows_of run)) ≡ true = ap (λ (fixed : Fixed). nat_lt row (length (rows_of fixed))) (sym (run_of run history)) ∙ within in
                grind (arith, nat_tests)

        taken : (n : ℕ) (it : Decided) → decided_goal told_then n ≡ Some it → (b : Bool) → is_row it.claim earlier ≡ b
            → is_delete_first it.decision ≡ true
            → (b || (has_number (chain_of_goal told_then.run it) earlier && goes_now told_then earlier)) ≡ true → ⊥
        taken n it there true is first h =
            let number : n ≡ own.number =
            claimed-once run past n own.number it own.one earlier there at is own.claims in
            let same : it ≡ own.one =
            same_Some it own.one (sym (subst (λ (k : ℕ). decided_goal told_then k ≡ Some it) number there) ∙ at) in
            way (ap (λ (other : Decided). is_delete_first other.decision) (sym same) ∙ first)
        taken n it there false is first h =
            let free : not (is_claimed told_then.decided earlier) ≡ true =
            or_first (not (is_claimed told_then.decided earlier)) (is_marked told_then earlier)
            (along-told told_then earlier (and_right (has_number (chain_of_goal told_then.run it) earlier) _ h)) unmarked in
            let e : true ≡ false = sym claimed ∙ not_true (is_claimed told_then.decided earlier) free in cc

        by : (b : Bool) → is_over told_then ≡ b → (b || list_any (takes_along told_then earlier) told_then.decided) ≡ true → ⊥
        by true is h =
            recorded-gone run history own.number earlier own.one own.decided own.claims own.creates_none past later orderly_then
            (over_recorded run history own.number earlier own.one own.decided own.claims past later is) parts.left
        by false is h =
            let found = passing_number (takes_along told_then earlier) told_then.decided h in
            taken found.0 found.1 found.2 (is_row found.1.claim earlier) refl
            (and_left (is_delete_first found.1.decision) _ found.3) (and_right (is_delete_first found.1.decision) _ found.3)

    -- so it is left, if it was to go
    pub kept-later : is_doomed told_then earlier ≡ true → is_left known earlier ≡ true
    kept-later doomed =
        let parts = left_parts (nat_lt earlier (length (rows_of told_then.run))) (is_taken_out told_then earlier) (is_taken_over told_then earlier)
        (doomed-parts told_then earlier doomed).left in
        let kept : was_removed known earlier ≡ false =
        ap (λ (events : List Event). has_number (removed_of events) earlier) (history_of run history)
        ∙ gone_last run row earlier refers history orderly left in
        left_made (nat_lt earlier (length (rows_of known.run))) (is_taken_out known earlier) (is_taken_over known earlier)
        (ap (λ (fixed : Fixed). nat_lt earlier (length (rows_of fixed))) (sym same_run) ∙ parts.0)
        (ap (λ (b : Bool). b && not (is_deleted_first known earlier)) kept)
        (by (is_taken_over known earlier) refl)
      where
        by : (b : Bool) → is_taken_over known earlier ≡ b → b ≡ false
        by false is = refl
        by true is = absurd (not_taken doomed (taker run history (all-decided run history orderly) earlier is))

  -- ---- what goes along

  module _ (real : is_preview run.mode ≡ false) (apart : KeepsApart (rows_of run)) (row : ℕ) (left : is_left known row ≡ true) where
    -- a row that goes along with another does so later
    goes_later : goes_with told_then row ≡ true → goes_with known row ≡ true
    goes_later h = by (deleter_row_of (rows_of run) row) refl
        (ap (λ (fixed : Fixed). takes_it told_then (deleter_row_of (rows_of fixed) row)) (sym (run_of run past)) ∙ h)
      where
        by : (o : Option ℕ) → deleter_row_of (rows_of run) row ≡ o → takes_it told_then o ≡ true → goes_with known row ≡ true
        by None is h = absurd (let e : false ≡ true = h in cc)
        by (Some other) is h =
            let doomed : is_doomed told_then other ≡ true = and_left (is_doomed told_then other) _ h in
            let kept : is_left known other ≡ true = kept-later real apart row other (deleter-refers (rows_of run) row other is) left doomed in
            let now : is_doomed known other ≡ true = doomed-later other doomed kept in
            let deletable : some_passes is_deletable (row_at known other) ≡ true =
            ap (λ (fixed : Fixed). some_passes is_deletable (slice_get (rows_of fixed) other)) (sym same_run)
            ∙ and_right (is_doomed told_then other) _ h in
            ap (λ (fixed : Fixed). takes_it known (deleter_row_of (rows_of fixed) row)) (run_of run history)
            ∙ ap (takes_it known) is ∙ rw now deletable

    -- a row that has its provider, where it must be sent for, has it later
    pub provided-later : lacks_provider told_then row ≡ false → lacks_provider known row ≡ false
    provided-later h = by (goes_with told_then row) refl h
      where
        along : (a c : Bool) → ((a && false) && c) ≡ false
        along true c = refl
        along false c = refl

        alone : (a g c : Bool) → ((a && true) && c) ≡ false → ((a && not g) && c) ≡ false
        alone true true c h = refl
        alone true false c h = h
        alone false g c h = refl

        by : (b : Bool) → goes_with told_then row ≡ b
            → ((some_passes may_be_sent (row_at told_then row) && not b) && some_passes has_none (row_at told_then row)) ≡ false
            → lacks_provider known row ≡ false
        by true is h =
            ap (λ (b : Bool). (some_passes may_be_sent (row_at known row) && not b) && some_passes has_none (row_at known row)) (goes_later is)
            ∙ along (some_passes may_be_sent (row_at known row)) (some_passes has_none (row_at known row))
        by false is h =
            alone (some_passes may_be_sent (row_at known row)) (goes_with known row) (some_passes has_none (row_at known row))
            (ap (λ (fixed : Fixed). (some_passes may_be_sent (slice_get (rows_of fixed) row) && true)
            && some_passes has_none (slice_get (rows_of fixed) row)) (sym same_run) ∙ h)
