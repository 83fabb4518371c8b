-- The marks of rows: what the decided goals do with each.
use Rattle.std.specs.Prelude.{◌≡◌, ℕ, ◌==◌, Bool, false, not, ◌&&◌, ◌||◌, if◌then◌else◌, Option, None, Some, List, [], ◌∷◌, length, option_and_then, slice_get}
use Rattle.std.specs.List.{list_any}
use Rattle.std.specs.Option.{option_or}
use Rattle.pl_lemmas.specs.Words.{has_number, is_row, some_passes}
use Rattle.pl_decide.specs.Limited.{is_delete_first}
use Rattle.pl_model.specs.declared.decided.Decided.{Decided}
use Rattle.pl_model.specs.declared.fixed.Fixed.{Fixed}
use Rattle.pl_model.specs.Run.{rows_of}
use Rattle.pl_model.specs.Claims.{chain_of_goal, claimer_of}
use Rattle.pl_claims.specs.declared.mark.Mark.{Mark}

abbrev pub no_mark : Mark
no_mark = record { claimer = None; chained = None; deleted_first = false }

-- the mark of a row after a claim by a goal, which may have it deleted first
abbrev pub claimed_by : ℕ → Option ℕ → Bool → ℕ → Mark → Mark
claimed_by goal claim first row mark = record {
  claimer = if is_row claim row then Some goal else mark.claimer;
  chained = mark.chained;
  deleted_first = (is_row claim row && first) || mark.deleted_first;
}

-- the goal that a row is marked with once it is, or else this one where the row is in its chain
abbrev pub chained_with : Option ℕ → Bool → ℕ → Option ℕ
chained_with marked within goal = option_or marked (if within then Some goal else None)

-- the mark of a row after one row of a goal's chain
abbrev pub joined_by : ℕ → ℕ → ℕ → Mark → Mark
joined_by goal at row mark = record mark { chained = chained_with mark.chained (at == row) goal }

-- the mark of a row after a goal's chain
abbrev pub chained_by : ℕ → List ℕ → ℕ → Mark → Mark
chained_by goal chain row mark = record mark { chained = chained_with mark.chained (has_number chain row) goal }

-- the goal that a row is marked with, unless it is this one
abbrev pub unmarked : Option ℕ → ℕ → Option ℕ
unmarked marked goal = if is_row marked goal then None else marked

-- the same where the row is in the goal's chain
abbrev pub chained_without : Option ℕ → Bool → ℕ → Option ℕ
chained_without marked within goal = if within then unmarked marked goal else marked

-- the mark of a row after one row of a goal's chain is taken back
abbrev pub left_by : ℕ → ℕ → ℕ → Mark → Mark
left_by goal at row mark = record mark { chained = chained_without mark.chained (at == row) goal }

-- the mark of a row after a goal's chain is taken back
abbrev pub unchained_by : ℕ → List ℕ → ℕ → Mark → Mark
unchained_by goal chain row mark = record mark { chained = chained_without mark.chained (has_number chain row) goal }

-- the mark of a row after a claim is taken back
abbrev pub freed_of : Option ℕ → ℕ → Mark → Mark
freed_of claim row mark = record mark {
  claimer = if is_row claim row then None else mark.claimer;
  deleted_first = not (is_row claim row) && mark.deleted_first;
}

-- the first goal that has a row in its chain
abbrev pub first_chained : Fixed → List Decided → ℕ → Option ℕ
first_chained run [] row = None
first_chained run (newest ∷ before) row =
    chained_with (first_chained run before row) (has_number (chain_of_goal run newest) row) (length before)

-- each row of the state at the start has its mark, which says what the decided goals do with it
pub record AreMarked (run : Fixed) (decided : List Decided) (marks : List Mark) : Type 0 where
  pub count : length marks ≡ length (rows_of run)
  pub claimers : (row : ℕ) → claimer_of decided row ≡ option_and_then (λ mark. mark.claimer) (slice_get marks row)
  pub chains : (row : ℕ) → first_chained run decided row ≡ option_and_then (λ mark. mark.chained) (slice_get marks row)
  pub deletions : (row : ℕ) → list_any (λ one. is_delete_first one.decision && is_row one.claim row) decided
      ≡ some_passes (λ mark. mark.deleted_first) (slice_get marks row)
