-- At the start of a run all rows are left and stand as they are.
use Rattle.std.proofs.Common.{◌≡◌, ◌<◌, ◌+◌, ◌&&◌, ◌||◌, ℕ, suc, Bool, true, false, cond, List, [], ◌∷◌, length, map, filter, filter_map, Option, Some, option_map, refl, sym, ap, ◌∙◌, arith}
use Rattle.std.proofs.Math.Bool.{or-false}
use Rattle.std.specs.List.{cons_option, enumerate_from, range_with_len}
use Rattle.std.specs.Prelude.{slice_get}
use Rattle.pl_lemmas.specs.Words.{some_passes}
use Rattle.pl_lemmas.proofs.Numbers.{less_true}
use Rattle.pl_model.specs.Entries.{old_row, row_now}
use Rattle.pl_model.specs.History.{known_of}
use Rattle.pl_model.specs.Known.{Known, known_by}
use Rattle.pl_model.specs.Problems.{start_problems}
use Rattle.pl_model.specs.Rows.{is_left, is_marked, is_to_be_made}
use Rattle.pl_model.specs.Run.{rows_of}
use Rattle.pl_model.specs.declared.fixed.Fixed.{Fixed}
use Rattle.pl_snap.specs.Calls.{merged_of}
use Rattle.pl_state.specs.declared.entry.Entry.{Entry}
use Rattle.pl_turn_asks.specs.Kept.{KeepsRows, KeptAtStart, numbered_entry, numbered_row}

module _ (run : Fixed) where
  abbrev start : Known
  start = known_by run [] [] [] (start_problems run)

  left_start : (row : ℕ) → row < length (rows_of run) → is_left start row ≡ true
  left_start row within = ap (λ (b : Bool). b && true && true) (less_true row (length (rows_of run)) within)

  module _ (row : ℕ) (entry : Entry) (there : slice_get (rows_of run) row ≡ Some entry) where
    marked_start : is_marked start row ≡ entry.doomed
    marked_start = ap (λ (o : Option Entry). some_passes (λ one. one.doomed) o || false) there ∙ or-false entry.doomed

    made_start : is_to_be_made start row ≡ entry.pending_replacement
    made_start = ap (λ (o : Option Entry). some_passes (λ one. one.pending_replacement) o || false) there ∙ or-false entry.pending_replacement

    row_start : old_row start row ≡ Some entry
    row_start =
        ap (option_map (row_now start row)) there
        ∙ (λ i. Some (record entry { doomed = marked_start i; pending_replacement = made_start i }))

  -- the rows from one on
  rows_start : (from : ℕ) (entries : List Entry)
      → ((k : ℕ) (entry : Entry) → slice_get entries k ≡ Some entry → old_row start (from + k) ≡ Some entry)
      → ((k : ℕ) → k < length entries → is_left start (from + k) ≡ true)
      → map (λ one. (Some one.0, one.1)) (enumerate_from from entries)
      ≡ filter_map (numbered_row start) (filter (is_left start) (range_with_len from (length entries)))
  rows_start from [] rows left = refl
  rows_start from (entry ∷ entries) rows left =
      let none : from + 0 ≡ from = omega arith in
      let own : old_row start from ≡ Some entry = ap (old_row start) (sym none) ∙ rows 0 entry refl in
      let here : is_left start from ≡ true = ap (is_left start) (sym none) ∙ left 0 (omega arith) in
      let later = rows_start (from + 1) entries
      (λ k other at. let next : from + 1 + k ≡ from + suc k = omega arith in ap (old_row start) next ∙ rows (suc k) other at)
      (λ k within. let next : from + 1 + k ≡ from + suc k = omega arith in ap (is_left start) next ∙ left (suc k) (omega arith)) in
      let more : List ℕ = filter (is_left start) (range_with_len (from + 1) (length entries)) in
      ap (λ (rest : List (Option ℕ × Entry)). (Some from, entry) ∷ rest) later
      ∙ sym (ap (λ (b : Bool). filter_map (numbered_row start) (cond b (from ∷ more) more)) here
      ∙ ap (λ (o : Option Entry). cons_option (option_map (λ one. (Some from, one)) o) (filter_map (numbered_row start) more)) own)

  pub kept_start : KeepsRows start (merged_of run.base)
  kept_start =
      first_numbered 0 (rows_of run)
      ∙ rows_start 0 (rows_of run)
      (λ k entry at. let same : 0 + k ≡ k = omega arith in ap (old_row start) same ∙ row_start k entry at)
      (λ k within. let same : 0 + k ≡ k = omega arith in ap (is_left start) same ∙ left_start k within)
    where
      first_numbered : (from : ℕ) (entries : List Entry)
          → map numbered_entry (map (λ one. record { number = Some one.0; stamp = one.0; entry = one.1 }) (enumerate_from from entries))
          ≡ map (λ one. (Some one.0, one.1)) (enumerate_from from entries)
      first_numbered from [] = refl
      first_numbered from (entry ∷ entries) = ap (λ (rest : List (Option ℕ × Entry)). (Some from, entry) ∷ rest) (first_numbered (from + 1) entries)

pub kept_at_start : KeptAtStart
unfolding known_of
kept_at_start run = kept_start run
