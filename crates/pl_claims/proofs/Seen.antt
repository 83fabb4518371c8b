-- What is kept, read off the columns.
use Rattle.std.proofs.Common.{◌≡◌, ◌∙◌, ℕ, Bool, true, false, ◌&&◌, not, ◌||◌, cond, if◌then◌else◌, List, [], ◌∷◌, length, map, Option, Some, None, is_some, find, option_map, refl, sym, ap, subst}
use Rattle.std.proofs.lemmas.Option.{same_Some, slice_get-map}
use Rattle.std.specs.Bool.{beq}
use Rattle.std.specs.List.{enumerate_from, slice_get}
use Rattle.pl_lemmas.specs.Words.{has_number, is_row, numbered}
use Rattle.pl_lemmas.proofs.Lists.{same_bytes}
use Rattle.pl_lemmas.proofs.Options.{mapped_none, mapped_some}
use Rattle.pl_lemmas.proofs.Truth.{and_right}
use Rattle.pl_state.specs.Kinds.{is_of_provider, is_provider_goal, is_provider_row}
use Rattle.pl_state.specs.References.{has_urn, keeps_urn}
use Rattle.pl_state.specs.declared.entry.Entry.{Entry}
use Rattle.pl_state.specs.declared.goal.Goal.{Goal}
use Rattle.pl_sound.specs.Sound.{IsSound}
use Rattle.pl_model.specs.declared.decided.Decided.{Decided}
use Rattle.pl_model.specs.declared.fixed.Fixed.{Fixed}
use Rattle.pl_model.specs.Run.{rows_of}
use Rattle.pl_model.specs.Claims.{chain_of_goal, claim_by, claimer_of, is_chained, is_claimed, may_claim}
use Rattle.pl_claims.specs.declared.claims.Claims.TheInside.{Inside}
use Rattle.pl_claims.specs.declared.settled.Settled.{Settled}
use Rattle.pl_base.specs.Keeper.{keeper_in}
use Rattle.pl_claims.specs.Columns.{Kept, is_left_over}
use Rattle.pl_claims.specs.Kept.{IsKept, kept_by}
use Rattle.pl_claims.specs.Marks.{chained_with, first_chained}
use Rattle.pl_lemmas.proofs.Numbered.{numbered_reverse}
use Rattle.pl_claims.proofs.Lists.{find_both, if_passes}
use Rattle.pl_claims.proofs.Places.{once_numbered}
use Rattle.pl_claims.proofs.Sound.{kept_once}

-- ---- decisions

module _ (inside : Inside) (holds : IsKept inside) (value : Kept) (seen : kept_by inside ≡ value) where
  pub decided_seen : (goal : ℕ) → numbered value.decided goal ≡ option_map (λ one. one.decided) (slice_get inside.settled.items goal)
  decided_seen goal =
      ap (λ (kept : Kept). numbered kept.decided goal) (sym seen)
      ∙ numbered_reverse (map (λ one. one.decided) inside.settled.items) goal
      ∙ slice_get-map (λ one. one.decided) inside.settled.items goal

  pub sound_seen : IsSound (rows_of value.run)
  sound_seen = subst (λ (kept : Kept). IsSound (rows_of kept.run)) seen holds.sound

  -- the chain of each goal stands beside its decision
  with_chain : (o : Option Settled) → ((one : Settled) → o ≡ Some one → one.chain ≡ chain_of_goal inside.base one.decided)
      → option_map (chain_of_goal inside.base) (option_map (λ one. one.decided) o) ≡ option_map (λ one. one.chain) o
  with_chain None each = refl
  with_chain (Some one) each = ap (λ (rows : List ℕ). Some rows) (sym (each one refl))

  pub chain_seen : (goal : ℕ) → option_map (chain_of_goal value.run) (numbered value.decided goal) ≡ option_map (λ one. one.chain) (slice_get inside.settled.items goal)
  chain_seen goal =
      ap (option_map (chain_of_goal value.run)) (decided_seen goal)
      ∙ ap (λ (kept : Kept). option_map (chain_of_goal kept.run) (option_map (λ one. one.decided) (slice_get inside.settled.items goal))) (sym seen)
      ∙ with_chain (slice_get inside.settled.items goal) (λ one is. holds.chained goal one is)

-- a row has a claimer where a goal claims it
pub claimed_by_one : (decided : List Decided) (row : ℕ) → is_some (claimer_of decided row) ≡ is_claimed decided row
claimed_by_one [] row = refl
claimed_by_one (newest ∷ earlier) row = by (is_row newest.claim row) (claimed_by_one earlier row)
  where
    by : (b : Bool) → is_some (claimer_of earlier row) ≡ is_claimed earlier row
        → is_some (if b then Some (length earlier) else claimer_of earlier row) ≡ (b || is_claimed earlier row)
    by true rest = refl
    by false rest = rest

-- a row is marked with a goal where it is in the chain of one
pub chained_by_one : (run : Fixed) (decided : List Decided) (row : ℕ) → is_some (first_chained run decided row) ≡ is_chained run decided row
chained_by_one run [] row = refl
chained_by_one run (newest ∷ earlier) row =
    by (first_chained run earlier row) (has_number (chain_of_goal run newest) row) (length earlier)
    ∙ ap (λ (b : Bool). has_number (chain_of_goal run newest) row || b) (chained_by_one run earlier row)
  where
    by : (o : Option ℕ) (b : Bool) (goal : ℕ) → is_some (chained_with o b goal) ≡ (b || is_some o)
    by (Some first) true goal = refl
    by (Some first) false goal = refl
    by None true goal = refl
    by None false goal = refl

-- ---- claims

regrouped : (a b c d : Bool) → (((a && b) && c) && d) ≡ (a && (b && (c && d)))
regrouped true true c d = refl
regrouped true false c d = refl
regrouped false b c d = refl

number_if : (test : Bool) (one : ℕ × Entry) → option_map (λ it. it.0) (if test then Some one else None) ≡ (if test then Some one.0 else None)
number_if true one = refl
number_if false one = refl

pub find_passes : {X : Type 0} (test : X → Bool) (xs : List X) (x : X) → find test xs ≡ Some x → test x ≡ true
find_passes test [] x is = absurd (let none : None ≡ Some x = is in cc)
find_passes {X = X} test (first ∷ xs) x is = by (test first) refl is (find_passes test xs x)
  where
    by : (b : Bool) → test first ≡ b → cond b (Some first) (find test xs) ≡ Some x → (find test xs ≡ Some x → test x ≡ true) → test x ≡ true
    by true passes here rest =
        let same : first ≡ x = same_Some first x here in
        ap test (sym same) ∙ passes
    by false fails later rest = rest later

module _ (run : Fixed) (before : List Decided) (goal : Goal) (urn : List ℕ) (sound : IsSound (rows_of run)) where
  abbrev further : ℕ × Entry → Bool
  further one = beq (is_provider_goal goal) (is_provider_row one.1) && is_left_over run before one.0

  abbrev kept_first : Option (ℕ × Entry)
  kept_first = find (λ one. keeps_urn urn one.1) (enumerate_from 0 (rows_of run))

  by_parts : (one : ℕ × Entry) → may_claim run before goal urn one ≡ (keeps_urn urn one.1 && further one)
  by_parts one =
      regrouped (keeps_urn urn one.1) (beq (is_provider_goal goal) (is_provider_row one.1)) (not (is_claimed before one.0))
      (not (is_chained run before one.0))

  claim_found : claim_by run before goal urn ≡ option_map (λ found. found.0) (if_passes further kept_first)
  claim_found =
      (λ i. option_map (λ found. found.0) (find (λ one. by_parts one i) (enumerate_from 0 (rows_of run))))
      ∙ ap (option_map (λ found. found.0))
      (find_both (λ one. keeps_urn urn one.1) further (enumerate_from 0 (rows_of run))
      (once_numbered (keeps_urn urn) 0 (rows_of run) (kept_once (rows_of run) urn sound)))

  pub claim_none : keeper_in (rows_of run) urn ≡ None → claim_by run before goal urn ≡ None
  claim_none none = claim_found ∙ ap (λ found. option_map (λ found. found.0) (if_passes further found)) (mapped_none (λ found. found.0) kept_first none)

  -- the row that keeps the URN is claimed if it is a provider where the goal is one, and is left over
  pub claim_some : (row : ℕ) → keeper_in (rows_of run) urn ≡ Some row
      → claim_by run before goal urn
      ≡ (if beq (is_of_provider goal.urn) (is_of_provider urn) && is_left_over run before row then Some row else None)
  claim_some row is =
      let found = mapped_some (λ one. one.0) kept_first row is in
      let one : ℕ × Entry = found.0 in
      let keeps : keeps_urn urn one.1 ≡ true = find_passes (λ it. keeps_urn urn it.1) (enumerate_from 0 (rows_of run)) one found.1 in
      let same : one.1.urn ≡ urn = same_bytes one.1.urn urn (and_right (not one.1.doomed) (has_urn urn one.1) keeps) in
      claim_found ∙ ap (λ (o : Option (ℕ × Entry)). option_map (λ it. it.0) (if_passes further o)) found.1
      ∙ number_if (further one) one
      ∙ (λ i. if beq (is_of_provider goal.urn) (is_of_provider (same i)) && is_left_over run before (found.2 i) then Some (found.2 i) else None)
