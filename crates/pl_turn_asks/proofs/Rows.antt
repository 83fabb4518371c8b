-- The rows that a merged snapshot keeps, found by their numbers.
use Rattle.std.proofs.Common.{◌≡◌, ◌==◌, ℕ, Bool, true, false, not, nat_lt, ◌&&◌, ◌||◌, cond, if◌then◌else◌, List, [], ◌∷◌, length, map, find, filter, filter_map, Option, Some, None, option_and_then, option_map, refl, sym, ap, ◌∙◌, arith}
use Rattle.std.specs.List.{cons_option, list_any, range_with_len}
use Rattle.pl_entries.specs.Opened.{IsRowNow}
use Rattle.pl_events.specs.declared.operation.Op.{Op}
use Rattle.pl_events.specs.declared.operation.Op.TheVariants as op
use Rattle.pl_events.specs.declared.operation.Subject.TheVariants as subject
use Rattle.pl_lemmas.specs.Words.{has_number}
use Rattle.pl_lemmas.proofs.Numbers.{below_length, equal_numbers, range_has, same_number}
use Rattle.pl_lemmas.proofs.Truth.{and_left}
use Rattle.pl_model.specs.Entries.{old_row}
use Rattle.pl_model.specs.Known.{Known}
use Rattle.pl_model.specs.Recording.{row_of_delete}
use Rattle.pl_model.specs.Rows.{is_left, is_taken_out, is_taken_over, left_rows, row_numbers}
use Rattle.pl_model.specs.Run.{rows_of}
use Rattle.pl_snap.specs.Model.{Merged, Row}
use Rattle.pl_snap.specs.Rows.{is_number, is_row}
use Rattle.pl_state.specs.declared.entry.Entry.{Entry}
use Rattle.pl_turn_asks.specs.Kept.{KeepsDeleted, KeepsRows, KeptAlike, KeptAreOld, kept_entry, numbered_entry, numbered_row}

-- ---- lists

any_filtered : {X : Type 0} (test wanted : X → Bool) (xs : List X) → list_any wanted (filter test xs) ≡ list_any (λ x. test x && wanted x) xs
any_filtered test wanted [] = refl
any_filtered {X = X} test wanted (x ∷ xs) = by (test x) (any_filtered test wanted xs)
  where
    by : (b : Bool) → list_any wanted (filter test xs) ≡ list_any (λ x. test x && wanted x) xs
        → list_any wanted (cond b (x ∷ filter test xs) (filter test xs)) ≡ (b && wanted x || list_any (λ x. test x && wanted x) xs)
    by true rest = ap (λ (b : Bool). wanted x || b) rest
    by false rest = rest

-- ---- a row by its number

-- the entry of the first pair of a number
abbrev entry_in : ℕ → List (Option ℕ × Entry) → Option Entry
entry_in number pairs = option_map (λ pair. pair.1) (find (λ pair. is_number number pair.0) pairs)

found_pair : (number : ℕ) (rows : List Row) → option_map (λ one. one.entry) (find (is_row number) rows) ≡ entry_in number (map numbered_entry rows)
found_pair number [] = refl
found_pair number (row ∷ rows) = by (is_row number row) (found_pair number rows)
  where
    by : (b : Bool) → option_map (λ one. one.entry) (find (is_row number) rows) ≡ entry_in number (map numbered_entry rows)
        → option_map (λ one. one.entry) (cond b (Some row) (find (is_row number) rows))
        ≡ option_map (λ pair. pair.1) (cond b (Some (numbered_entry row)) (find (λ pair. is_number number pair.0) (map numbered_entry rows)))
    by true rest = refl
    by false rest = rest

module _ (known : Known) where
  -- of one of these numbers
  abbrev row_if : ℕ → Bool → Option Entry
  row_if number among = if among then old_row known number else None

  found_number : (number : ℕ) (numbers : List ℕ) → entry_in number (filter_map (numbered_row known) numbers) ≡ row_if number (has_number numbers number)
  found_number number [] = refl
  found_number number (n ∷ numbers) =
      by (old_row known n) refl (n == number) refl (has_number numbers number) (found_number number numbers)
    where
      by : (o : Option Entry) → old_row known n ≡ o → (b : Bool) → (n == number) ≡ b → (among : Bool)
          → entry_in number (filter_map (numbered_row known) numbers) ≡ row_if number among
          → entry_in number (cons_option (option_map (λ entry. (Some n, entry)) o) (filter_map (numbered_row known) numbers))
          ≡ row_if number ((n == number) || among)
      by None none true same true rest = rest ∙ ap (λ (b : Bool). row_if number (b || true)) (sym same)
      by None none true same false rest =
          rest ∙ sym none ∙ ap (old_row known) (equal_numbers n number same) ∙ ap (λ (b : Bool). row_if number (b || false)) (sym same)
      by None none false other among rest = rest ∙ ap (λ (b : Bool). row_if number (b || among)) (sym other)
      by (Some entry) there true same among rest =
          ap (λ (b : Bool). option_map (λ pair. pair.1) (cond b (Some (Some n, entry)) (find (λ pair. is_number number pair.0) (filter_map (numbered_row known) numbers)))) same
          ∙ sym there ∙ ap (old_row known) (equal_numbers n number same) ∙ ap (λ (b : Bool). row_if number (b || among)) (sym same)
      by (Some entry) there false other among rest =
          ap (λ (b : Bool). option_map (λ pair. pair.1) (cond b (Some (Some n, entry)) (find (λ pair. is_number number pair.0) (filter_map (numbered_row known) numbers)))) other
          ∙ rest ∙ ap (λ (b : Bool). row_if number (b || among)) (sym other)

  -- a row that is left is among those that are
  among_left : (row : ℕ) → is_left known row ≡ true → has_number (left_rows known) row ≡ true
  among_left row left =
      any_filtered (is_left known) (λ other. other == row) (row_numbers known)
      ∙ range_has (λ other. is_left known other && (other == row)) 0 (length (rows_of known.run)) row (omega arith)
      (below_length row (length (rows_of known.run))
      (and_left (nat_lt row (length (rows_of known.run))) (not (is_taken_out known row))
      (and_left (nat_lt row (length (rows_of known.run)) && not (is_taken_out known row)) (not (is_taken_over known row)) left)))
      (ap (λ (b : Bool). b && (row == row)) left ∙ same_number row)

  module _ (merged : Merged) where
    pub left_kept : KeepsRows known merged → (row : ℕ) → is_left known row ≡ true → kept_entry merged row ≡ old_row known row
    left_kept keeps row left =
        found_pair row merged.rows ∙ ap (entry_in row) keeps ∙ found_number row (left_rows known) ∙ ap (row_if row) (among_left row left)

    -- the row of a deletion, as it stands now
    pub row_is_now : (about : Op) → KeepsDeleted known merged about → IsRowNow known about (option_and_then (kept_entry merged) (row_of_delete about))
    row_is_now (op.Delete (subject.Row row)) (keeps, left) = left_kept keeps row left
    row_is_now (op.Delete (subject.Goal goal)) kept = refl
    row_is_now (op.Delete (subject.Pending at)) kept = refl
    row_is_now (op.CheckConfig about) kept = tt
    row_is_now (op.Configure provider) kept = tt
    row_is_now (op.Check about) kept = tt
    row_is_now (op.Diff about) kept = tt
    row_is_now (op.Create about) kept = tt
    row_is_now (op.Update about) kept = tt
    row_is_now (op.Read about) kept = tt
    row_is_now (op.Invoke n) kept = tt

  -- ---- all of them

  numbered_old : (numbers : List ℕ) → map (λ pair. pair.1) (filter_map (numbered_row known) numbers) ≡ filter_map (old_row known) numbers
  numbered_old [] = refl
  numbered_old (n ∷ numbers) = by (old_row known n) (numbered_old numbers)
    where
      by : (o : Option Entry) → map (λ pair. pair.1) (filter_map (numbered_row known) numbers) ≡ filter_map (old_row known) numbers
          → map (λ pair. pair.1) (cons_option (option_map (λ entry. (Some n, entry)) o) (filter_map (numbered_row known) numbers))
          ≡ cons_option o (filter_map (old_row known) numbers)
      by None rest = rest
      by (Some entry) rest = ap (λ (entries : List Entry). entry ∷ entries) rest

entries_numbered : (rows : List Row) → map (λ row. row.entry) rows ≡ map (λ pair. pair.1) (map numbered_entry rows)
entries_numbered [] = refl
entries_numbered (row ∷ rows) = ap (λ (entries : List Entry). row.entry ∷ entries) (entries_numbered rows)

pub kept_are_old : KeptAreOld
kept_are_old known merged keeps =
    entries_numbered merged.rows ∙ ap (map (λ (pair : Option ℕ × Entry). pair.1)) keeps ∙ numbered_old known (left_rows known)

pub kept_alike : KeptAlike
kept_alike a b merged run same keeps =
    keeps
    ∙ (λ i. filter_map (λ row. option_map (λ entry. (Some row, entry)) (same.old i row))
    (filter (same.left i) (range_with_len 0 (length (rows_of (run i))))))
