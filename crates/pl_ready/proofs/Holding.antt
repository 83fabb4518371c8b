-- Only the row that kept a goal's URN at the start can have it now.
use Rattle.std.proofs.Common.{◌≡◌, ◌<◌, ◌+◌, ℕ, Bool, true, false, not, ◌&&◌, List, length, Option, Some, None, option_map, refl, sym, ap, ◌∙◌, bytes_eq, arith}
use Rattle.std.specs.List.{list_any}
use Rattle.pl_base.specs.Keeper.{keeper_in}
use Rattle.pl_lemmas.specs.Words.{is_row, none_or, some_passes}
use Rattle.pl_lemmas.proofs.Numbers.{below_length, range_has}
use Rattle.pl_lemmas.proofs.Options.{mapped_some, passing}
use Rattle.pl_lemmas.proofs.Truth.{and_left, and_right}
use Rattle.pl_model_stays.proofs.Goals.Claiming.{passing_number}
use Rattle.pl_model_stays.proofs.Operations.Once.{not_true}
use Rattle.pl_sound.specs.Sound.{IsSound}
use Rattle.pl_state.specs.declared.entry.Entry.{Entry}
use Rattle.pl_state.specs.declared.goal.Goal.{Goal}
use Rattle.pl_model.specs.declared.decided.Decided.{Decided}
use Rattle.pl_model.specs.Due.{holds_urn, urn_is_free}
use Rattle.pl_model.specs.Entries.{old_row, row_now}
use Rattle.pl_model.specs.Known.{Known}
use Rattle.pl_model.specs.Rows.{is_left, is_marked, is_taken_out, is_taken_over, row_at, row_numbers}
use Rattle.pl_model.specs.Run.{rows_of}
use Rattle.pl_ready.specs.Keepers.{AreKeepers}
use Rattle.pl_ready.proofs.Keeping.{keeper_is, keeper_keeps}
use Rattle.pl_ready.proofs.Unturned.{stays, urn_stays}

-- whether a row is left and not flagged, and is not the goal's claim
abbrev pub stands : Known → Decided → ℕ → Bool
stands known one row = is_left known row && not (is_marked known row) && not (is_row one.claim row)

module _ (known : Known) (goal : Goal) (one : Decided) (sound : IsSound (rows_of known.run)) (keepers : AreKeepers known) where
  abbrev in_the_way : ℕ → Bool
  in_the_way row = stands known one row

  abbrev has_own : ℕ → Bool
  has_own row = some_passes (λ entry. bytes_eq entry.urn goal.urn) (old_row known row)

  is_here : (row : ℕ) → in_the_way row ≡ true → is_left known row ≡ true
  is_here row h =
      and_left (is_left known row) (not (is_marked known row))
      (and_left (is_left known row && not (is_marked known row)) (not (is_row one.claim row)) h)

  is_unmarked : (row : ℕ) → in_the_way row ≡ true → is_marked known row ≡ false
  is_unmarked row h =
      not_true (is_marked known row)
      (and_right (is_left known row) (not (is_marked known row))
      (and_left (is_left known row && not (is_marked known row)) (not (is_row one.claim row)) h))

  -- what such a row had at the start, it has now
  own_now : (row : ℕ) (entry : Entry) → row_at known row ≡ Some entry → in_the_way row ≡ true → has_own row ≡ bytes_eq entry.urn goal.urn
  own_now row entry at h =
      ap (λ (o : Option Entry). some_passes (λ (it : Entry). bytes_eq it.urn goal.urn) (option_map (row_now known row) o)) at
      ∙ ap (λ (urn : List ℕ). bytes_eq urn goal.urn)
      (urn_stays known sound keepers row entry at (is_here row h) (is_unmarked row h))

  -- so it kept the goal's URN, if it has it now
  holder_keeps : (row : ℕ) → holds_urn known goal one row ≡ true → keeper_in (rows_of known.run) goal.urn ≡ Some row
  holder_keeps row holds =
      let h : in_the_way row ≡ true = and_left (in_the_way row) (has_own row) holds in
      let own : has_own row ≡ true = and_right (in_the_way row) (has_own row) holds in
      let later = passing (λ (it : Entry). bytes_eq it.urn goal.urn) (old_row known row) own in
      let entry = mapped_some (row_now known row) (row_at known row) later.0 later.1 in
      let kept : entry.0.doomed ≡ false =
      stays known sound keepers row entry.0 entry.1 (is_here row h) (is_unmarked row h) in
      let same : bytes_eq entry.0.urn goal.urn ≡ true = sym (own_now row entry.0 entry.1 h) ∙ own in
      keeper_is (rows_of known.run) goal.urn row entry.0 sound entry.1
      (ap (λ (b : Bool). not b && bytes_eq entry.0.urn goal.urn) kept ∙ same)

  -- and has it now, if it kept it
  keeper_holds : (row : ℕ) → keeper_in (rows_of known.run) goal.urn ≡ Some row → in_the_way row ≡ true
      → list_any (holds_urn known goal one) (row_numbers known) ≡ true
  keeper_holds row is h =
      let kept = keeper_keeps (rows_of known.run) goal.urn row is in
      let own : has_own row ≡ true = own_now row kept.0 kept.1 h ∙ and_right (not kept.0.doomed) (bytes_eq kept.0.urn goal.urn) kept.2 in
      let low : row < 0 + length (rows_of known.run) =
      below_length row (length (rows_of known.run))
      (and_left _ (not (is_taken_out known row)) (and_left _ (not (is_taken_over known row)) (is_here row h))) in
      range_has (holds_urn known goal one) 0 (length (rows_of known.run)) row (omega arith) low
      (ap (λ (b : Bool). b && has_own row) h ∙ own)

  -- so it is enough to look at the row that kept it
  pub free_by_keeper : urn_is_free known goal one ≡ none_or (λ row. not (stands known one row)) (keeper_in (rows_of known.run) goal.urn)
  free_by_keeper =
      by (list_any (holds_urn known goal one) (row_numbers known)) refl (keeper_in (rows_of known.run) goal.urn) refl
    where
      here : (row : ℕ) → keeper_in (rows_of known.run) goal.urn ≡ Some row
          → list_any (holds_urn known goal one) (row_numbers known) ≡ false → (b : Bool) → in_the_way row ≡ b → true ≡ not b
      here row is none false h = refl
      here row is none true h = absurd (let e : true ≡ false = sym (keeper_holds row is h) ∙ none in cc)

      by : (b : Bool) → list_any (holds_urn known goal one) (row_numbers known) ≡ b
          → (o : Option ℕ) → keeper_in (rows_of known.run) goal.urn ≡ o → not b ≡ none_or (λ row. not (in_the_way row)) o
      by false none None is = refl
      by false none (Some row) is = here row is none (in_the_way row) refl
      by true some o is =
          let found = passing_number (holds_urn known goal one) (row_numbers known) some in
          let way : in_the_way found.1 ≡ true = and_left (in_the_way found.1) (has_own found.1) found.3 in
          sym (ap (λ (it : Option ℕ). none_or (λ row. not (in_the_way row)) it) (sym is ∙ holder_keeps found.1 found.3)
          ∙ ap (λ (b : Bool). not b) way)
