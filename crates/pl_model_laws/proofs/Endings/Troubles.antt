-- What is refused, and what is to go and lacks its provider, is a problem.
use Rattle.std.proofs.Common.{◌≡◌, ℕ, ◌≤◌, ◌<◌, Bool, true, false, not, ◌&&◌, ◌||◌, if◌then◌else◌, List, [], ◌∷◌, length, nat_lt, slice_get, Option, Some, None, refl, sym, ◌∙◌, ap, subst, arith, option_map, option_and_then}
use Rattle.std.proofs.lemmas.Bool.Decides.{nat_tests}
use Rattle.std.proofs.lemmas.Option.{slice_get_within, same_Some}
use Rattle.std.proofs.lemmas.Bool.{or_right}
use Rattle.pl_lemmas.proofs.Truth.{and_left, and_right}
use Rattle.pl_lemmas.proofs.Options.{mapped_none}
use Rattle.pl_lemmas.specs.Words.{first_some, has_number, is_row, numbered, some_passes}
use Rattle.pl_lemmas.proofs.Lists.{numbered_passes}
use Rattle.pl_lemmas.proofs.Numbers.{numbered_there}
use Rattle.pl_state.specs.declared.entry.Entry.{Entry}
use Rattle.pl_events.specs.declared.event.Event.{Event}
use Rattle.pl_decide.specs.declared.decision.Decision.{Decision}
use Rattle.pl_decide.specs.declared.decision.Decision.TheVariants.{Refused}
use Rattle.pl_decide.specs.declared.problem.Problem.{Problem}
use Rattle.pl_decide.specs.declared.problem.Problem.TheVariants as problem
use Rattle.pl_decide.specs.Limited.{is_create_first, is_delete_first, is_refused}
use Rattle.pl_model.specs.declared.decided.Decided.{Decided}
use Rattle.pl_model.specs.declared.fixed.Fixed.{Fixed}
use Rattle.pl_model.specs.Run.{is_preview, rows_of}
use Rattle.pl_model.specs.Claims.{chain_of_goal, claimer_of, is_chained, is_claimed}
use Rattle.pl_model.specs.History.{known_of}
use Rattle.pl_model.specs.Known.{Known, decided_goal, has_problem}
use Rattle.pl_model.specs.Legal.{IsOrderly}
use Rattle.pl_model.specs.Problems.{has_deleted, is_claimed_beside, lacking_in, lacks_provider, missing_provider, refusal_in}
use Rattle.pl_model.specs.Rows.{goes_now, is_left, is_marked, is_replaced, row_at, row_numbers, stands_beside, takes_along}
use Rattle.pl_model_stays.proofs.Goals.Claiming.{claims-allowed, numbered_behind, passing_number, was-made, where_found}
use Rattle.pl_model_stays.proofs.Lists.Growing.{Grown, numbered_below, run_of, decided-grown}
use Rattle.pl_model_stays.proofs.Operations.Once.{both}
use Rattle.pl_model_laws.specs.Apart.{KeepsApart}
use Rattle.pl_model_laws.proofs.Rows.Along.{along-so, along-there, along-told}
use Rattle.pl_model_laws.proofs.Endings.Calm.{calm-before, first_none, newly-none, no-decision, no-provider, none-decided, range_each}
use Rattle.pl_model_laws.proofs.Rows.Going.{provided-later}
use Rattle.pl_model_laws.proofs.Rows.Leaving.{claimer_is, claimer_parts, known-apart}
use Rattle.pl_model_laws.proofs.Rows.Removing.{Later, grown_behind, later-before, later-now}

-- ---- refusals

-- a decision without a refusal is not refused
unrefused : (choice : Decision) → refusal_in choice ≡ None → is_refused choice ≡ false
unrefused (Refused trouble) h = let none : Option Problem = None in absurd (let e : Some trouble ≡ none = h in cc)
unrefused _ h = refl

-- where no problem stands, no decision is refused
pub refused-trouble : (run : Fixed) (history : List Event) (n : ℕ) (one : Decided) → has_problem (known_of run history) ≡ false
    → decided_goal (known_of run history) n ≡ Some one → is_refused one.decision ≡ false
refused-trouble run [] n one calm h = absurd (none-decided run n one h)
refused-trouble run (event ∷ past) n one calm h =
    by (nat_lt n (length (known_of run past).decided)) refl (refused-trouble run past n one (calm-before run event past calm))
  where
    by : (b : Bool) → nat_lt n (length (known_of run past).decided) ≡ b
        → (decided_goal (known_of run past) n ≡ Some one → is_refused one.decision ≡ false) → is_refused one.decision ≡ false
    by true is rest =
        rest (numbered_behind (known_of run past).decided (known_of run (event ∷ past)).decided n one (decided-grown run event past) h
        (grind (arith, nat_tests)))
    by false is rest =
        unrefused one.decision
        (newly-none (λ (it : Decided). refusal_in it.decision) run event past n one (no-decision run event past calm)
        (grind (arith, nat_tests)) h)

-- ---- tests

-- one of two
pub or_first : (a b : Bool) → a ≡ true → (a || b) ≡ true
or_first true b h = refl
or_first false b h = absurd (let e : false ≡ true = h in cc)

-- ---- rows that lack their provider

-- a row that goes has its provider where its lack is not found
has_provider : (known : Known) (one : Decided) (row : ℕ) (entry : Entry) → lacking_in known one row ≡ None
    → row_at known row ≡ Some entry → has_deleted known one row ≡ true → lacks_provider known row ≡ false
has_provider known one row entry none at goes = by (lacks_provider known row) refl
  where
    by : (b : Bool) → lacks_provider known row ≡ b → b ≡ false
    by false is = refl
    by true is =
        let lacking : lacking_in known one row ≡ Some entry.urn =
        ap (λ (b : Bool). if b && lacks_provider known row
        then option_map (λ (it : Entry). it.urn) (row_at known row) else None) goes
        ∙ ap (λ (b : Bool). if b then option_map (λ (it : Entry). it.urn) (row_at known row) else None) is
        ∙ ap (λ (o : Option Entry). option_map (λ (it : Entry). it.urn) o) at in
        let nothing : Option (List ℕ) = None in
        absurd (let e : Some entry.urn ≡ nothing = sym lacking ∙ none in cc)

-- so has each row that a goal has deleted which makes no problem
provider_there : (known : Known) (one : Decided) (row : ℕ) (entry : Entry) → missing_provider known one ≡ None
    → row_at known row ≡ Some entry → has_deleted known one row ≡ true → lacks_provider known row ≡ false
provider_there known one row entry none at goes =
    let inside : row < length (rows_of known.run) = slice_get_within (rows_of known.run) row entry at in
    has_provider known one row entry
    (range_each (λ (it : ℕ). lacking_in known one it ≡ None) 0 (length (rows_of known.run)) row (omega arith) (omega arith)
    (first_none (lacking_in known one) (row_numbers known)
    (mapped_none problem.MissingProvider (first_some (lacking_in known one) (row_numbers known)) none)))
    at goes

module _ (run : Fixed) (history : List Event) (n row : ℕ) (one : Decided)
    (decided : decided_goal (known_of run history) n ≡ Some one) (deletes : is_delete_first one.decision ≡ true) where
  abbrev known : Known
  known = known_of run history

  abbrev claims_row : Decided → Bool
  claims_row it = is_row it.claim row

  -- a row is claimed ever after
  claimed_later : (past : List Event) → Later run past known → is_claimed (known_of run past).decided row ≡ true
      → is_claimed known.decided row ≡ true
  claimed_later past later h =
      let found = passing_number claims_row (known_of run past).decided h in
      numbered_passes claims_row known.decided found.0 found.1 (later.decisions found.0 found.1 found.2) found.3

  -- a goal that claims a row of the chain was decided before the goal that takes the chain along
  claimed_first : (c : ℕ) (other : Decided) → decided_goal known c ≡ Some other → is_row other.claim row ≡ true
      → has_number (chain_of_goal run one) row ≡ true → c ≤ n
  claimed_first c other at claims chained = by (nat_lt n c) refl
    where
      by : (b : Bool) → nat_lt n c ≡ b → c ≤ n
      by false is = grind (arith, nat_tests)
      by true is =
          let made = was-made run history c other at in
          let allowed = claims-allowed run history c other row made claims in
          let count : length made.before ≡ c = made.count in
          let below : n < c = grind (arith, nat_tests) in
          let older : Grown made.before known.decided = grown_behind other made.before known.decided made.behind in
          let there : numbered made.before n ≡ Some one =
          numbered_behind made.before known.decided n one older decided (omega arith) in
          let some : is_chained run made.before row ≡ true =
          numbered_passes (λ (it : Decided). has_number (chain_of_goal run it) row) made.before n one there chained in
          absurd (let e : true ≡ false = sym some ∙ allowed.unchained in cc)

  -- a row of the chain that is replaced was claimed beside already where the goal was decided
  beside_then : (past : List Event) → Later run past known → decided_goal (known_of run past) n ≡ Some one
      → has_number (chain_of_goal run one) row ≡ true → is_replaced known row ≡ true → is_claimed_beside (known_of run past) row ≡ true
  beside_then past later there chained replaced =
      let parts = claimer_parts known row (stands_beside known) replaced in
      let c : ℕ = parts.0 in
      let found = where_found claims_row known.decided c parts.1 in
      let other : Decided = found.0 in
      let claims : is_row other.claim row ≡ true = found.2 in
      let creates : is_create_first other.decision ≡ true =
      sym (ap (λ (o : Option Decided). some_passes (λ (it : Decided). is_create_first it.decision) o) found.1) ∙ parts.3 in
      let first : c ≤ n = claimed_first c other found.1 claims chained in
      let below : n < length (known_of run past).decided = numbered_below (known_of run past).decided n one there in
      let own = numbered_there (known_of run past).decided c (omega arith) in
      let same : own.0 ≡ other = same_Some own.0 other (sym (later.decisions c own.0 own.1) ∙ found.1) in
      let at : decided_goal (known_of run past) c ≡ Some other = own.1 ∙ ap (λ (it : Decided). Some it) same in
      let claimer : claimer_of (known_of run past).decided row ≡ Some c =
      claimer_is run (known_of run past).decided c row other (known-apart run past) at claims in
      ap (λ (o : Option ℕ). some_passes (λ (it : Decided). is_create_first it.decision)
      (option_and_then (decided_goal (known_of run past)) o)) claimer
      ∙ ap (λ (o : Option Decided). some_passes (λ (it : Decided). is_create_first it.decision) o) at
      ∙ creates

  module _ (past : List Event) (later : Later run past known) (there : decided_goal (known_of run past) n ≡ Some one) where
    abbrev told_then : Known
    told_then = known_of run past

    abbrev is_marked_base : Known → Bool
    is_marked_base told = some_passes (λ (it : Entry). it.doomed) (row_at told row)

    abbrev chained_then : Bool
    chained_then = has_number (chain_of_goal told_then.run one) row

    abbrev goes_then : Bool
    goes_then = not (is_claimed told_then.decided row) || is_marked told_then row

    -- a row of the chain that nobody claims or that is marked
    chain_taken : goes_now known row ≡ true → chained_then ≡ true → goes_then ≡ true → has_deleted told_then one row ≡ true
    chain_taken along chained goes =
        let (entry, at) = along-there known row along in
        let at_then : row_at told_then row ≡ Some entry =
        ap (λ (fixed : Fixed). slice_get (rows_of fixed) row) (run_of run past ∙ sym (run_of run history)) ∙ at in
        or_first (takes_along told_then row one) (chained_then && is_claimed_beside told_then row)
        (both (is_delete_first one.decision) (is_row one.claim row || (chained_then && goes_now told_then row)) deletes
        (or_right (is_row one.claim row) (chained_then && goes_now told_then row)
        (both chained_then (goes_now told_then row) chained (along-so told_then row entry at_then goes))))

    -- a row of the chain that is marked later
    marked_later : goes_now known row ≡ true → (b : Bool) → is_marked_base known ≡ b → has_number (chain_of_goal run one) row ≡ true
        → chained_then ≡ true → (b || is_replaced known row) ≡ true → has_deleted told_then one row ≡ true
    marked_later along true is chained now h =
        let base : is_marked_base told_then ≡ true =
        ap (λ (fixed : Fixed). some_passes (λ (it : Entry). it.doomed) (slice_get (rows_of fixed) row))
        (run_of run past ∙ sym (run_of run history)) ∙ is in
        chain_taken along now (or_right (not (is_claimed told_then.decided row)) (is_marked told_then row)
        (or_first (is_marked_base told_then) (is_replaced told_then row) base))
    marked_later along false is chained now h =
        or_right (takes_along told_then row one) (chained_then && is_claimed_beside told_then row)
        (both chained_then (is_claimed_beside told_then row) now (beside_then past later there chained h))

    -- a row that nobody claims later
    unclaimed_then : (b : Bool) → is_claimed told_then.decided row ≡ b → is_claimed known.decided row ≡ false → not b ≡ true
    unclaimed_then false at none = refl
    unclaimed_then true at none = absurd (let e : true ≡ false = sym (claimed_later past later at) ∙ none in cc)

    -- a row of the chain that nobody claims later or that is marked told_then
    chain_later : goes_now known row ≡ true → (b : Bool) → is_claimed known.decided row ≡ b → has_number (chain_of_goal run one) row ≡ true
        → chained_then ≡ true → (not b || is_marked known row) ≡ true → has_deleted told_then one row ≡ true
    chain_later along true is chained now h = marked_later along (is_marked_base known) refl chained now h
    chain_later along false is chained now h =
        chain_taken along now (or_first (not (is_claimed told_then.decided row)) (is_marked told_then row)
        (unclaimed_then (is_claimed told_then.decided row) refl is))

    -- a row that the goal takes along is one that it had deleted where it was decided
    deleted_then : takes_along known row one ≡ true → has_deleted told_then one row ≡ true
    deleted_then takes = by (is_row one.claim row) refl (and_right (is_delete_first one.decision) _ takes)
      where
        by : (b : Bool) → is_row one.claim row ≡ b
            → (b || (has_number (chain_of_goal known.run one) row && goes_now known row)) ≡ true
            → has_deleted told_then one row ≡ true
        by true is h =
            or_first (takes_along told_then row one) (chained_then && is_claimed_beside told_then row)
            (both (is_delete_first one.decision) (is_row one.claim row || (chained_then && goes_now told_then row)) deletes
            (or_first (is_row one.claim row) (chained_then && goes_now told_then row) is))
        by false is h =
            let chain : has_number (chain_of_goal known.run one) row ≡ true =
            and_left (has_number (chain_of_goal known.run one) row) _ h in
            let chained : has_number (chain_of_goal run one) row ≡ true =
            subst (λ (fixed : Fixed). has_number (chain_of_goal fixed one) row ≡ true) (run_of run history) chain in
            let along : goes_now known row ≡ true = and_right (has_number (chain_of_goal known.run one) row) _ h in
            chain_later along (is_claimed known.decided row) refl chained
            (subst (λ (fixed : Fixed). has_number (chain_of_goal fixed one) row ≡ true) (sym (run_of run past)) chained)
            (along-told known row along)

  -- so its lack of a provider was a problem there, and it has one for as long as it is left
  module _ (orderly : IsOrderly run history) (real : is_preview run.mode ≡ false) (apart : KeepsApart (rows_of run)) (entry : Entry)
      (at : row_at known row ≡ Some entry) (left : is_left known row ≡ true) (takes : takes_along known row one ≡ true) where
    provided_then : (past : List Event) → Later run past known → IsOrderly run past → has_problem (known_of run past) ≡ false
        → decided_goal (known_of run past) n ≡ Some one → lacks_provider known row ≡ false
    provided_then [] later orderly_then calm h = absurd (none-decided run n one h)
    provided_then (event ∷ past) later orderly_then calm h =
        by (nat_lt n (length (known_of run past).decided)) refl
        (provided_then past (later-before run event past known orderly_then.1 later) orderly_then.0 (calm-before run event past calm))
      where
        by : (b : Bool) → nat_lt n (length (known_of run past).decided) ≡ b
            → (decided_goal (known_of run past) n ≡ Some one → lacks_provider known row ≡ false) → lacks_provider known row ≡ false
        by true is rest =
            rest (numbered_behind (known_of run past).decided (known_of run (event ∷ past)).decided n one (decided-grown run event past) h
            (grind (arith, nat_tests)))
        by false is rest =
            provided-later run history orderly (event ∷ past) later orderly_then real apart row left
            (provider_there (known_of run (event ∷ past)) one row entry
            (newly-none (missing_provider (known_of run (event ∷ past))) run event past n one (no-provider run event past calm)
            (grind (arith, nat_tests)) h)
            (ap (λ (fixed : Fixed). slice_get (rows_of fixed) row) (run_of run (event ∷ past) ∙ sym (run_of run history)) ∙ at)
            (deleted_then (event ∷ past) later h takes))

-- where no problem stands, each row that a goal takes along and that is left has the provider that it must be sent to
pub lacking-trouble : (run : Fixed) (history : List Event) (n row : ℕ) (one : Decided) (entry : Entry)
    → is_preview run.mode ≡ false → KeepsApart (rows_of run) → IsOrderly run history → has_problem (known_of run history) ≡ false
    → decided_goal (known_of run history) n ≡ Some one → is_delete_first one.decision ≡ true
    → takes_along (known_of run history) row one ≡ true → row_at (known_of run history) row ≡ Some entry
    → is_left (known_of run history) row ≡ true → lacks_provider (known_of run history) row ≡ false
lacking-trouble run history n row one entry real apart orderly calm decided deletes takes at left =
    provided_then run history n row one decided deletes orderly real apart entry at left takes history (later-now run history) orderly calm decided
