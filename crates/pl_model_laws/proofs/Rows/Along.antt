-- Which rows go along with one whose chain they are in.
use Rattle.std.proofs.Common.{◌≡◌, ◌⊎◌, ◌<◌, ◌≤◌, ℕ, true, not, ◌||◌, List, get_or, inl, inr, length, nat_lt, slice_get, Option, Some, None, refl, sym, ◌∙◌, ap, arith}
use Rattle.std.proofs.lemmas.Bool.Decides.{nat_tests}
use Rattle.std.proofs.lemmas.Option.{slice_get_cases}
use Rattle.std.proofs.Math.Bool.{or_comm}
use Rattle.pl_lemmas.specs.Words.{some_passes}
use Rattle.pl_lemmas.proofs.Options.{passing}
use Rattle.pl_state.specs.Chain.{goes_along}
use Rattle.pl_state.specs.declared.entry.Entry.{Entry}
use Rattle.pl_model.specs.Run.{rows_of}
use Rattle.pl_model.specs.Claims.{is_claimed}
use Rattle.pl_model.specs.Known.{Known}
use Rattle.pl_model.specs.Rows.{goes_now, is_left, is_marked, is_taken_out, is_taken_over, row_at}
use Rattle.pl_model_stays.proofs.Operations.Once.{left_parts}

-- nothing is missing below the length of a list
none_past : (rows : List Entry) (row : ℕ) → slice_get rows row ≡ None → row < length rows → ⊥
none_past rows row none low = by (slice_get_cases rows row).1
  where
    by : ((entry : Entry) × (row < length rows) × (slice_get rows row ≡ Some entry) × (get_or rows row entry ≡ entry))
        ⊎ ((length rows ≤ row) × (slice_get rows row ≡ None)) → ⊥
    by (inl there) = let e : None ≡ Some there.0 = sym none ∙ there.2 in cc
    by (inr past) = let high : length rows ≤ row = past.0 in omega arith

-- a row that goes along is there
pub along-there : (known : Known) (row : ℕ) → goes_now known row ≡ true → (entry : Entry) × (row_at known row ≡ Some entry)
along-there known row h =
    let it = passing (λ entry. goes_along (is_claimed known.decided) (row, record entry { doomed = is_marked known row }))
    (row_at known row) h in (it.0, it.1)

-- as is a row that is left
pub left-row : (known : Known) (row : ℕ) → is_left known row ≡ true → (entry : Entry) × (row_at known row ≡ Some entry)
left-row known row left = by (row_at known row) refl
  where
    by : (o : Option Entry) → row_at known row ≡ o → (entry : Entry) × (row_at known row ≡ Some entry)
    by (Some entry) is = (entry, is)
    by None is =
        let low = (left_parts (nat_lt row (length (rows_of known.run))) (is_taken_out known row) (is_taken_over known row) left).0 in
        absurd (none_past (rows_of known.run) row is (grind (arith, nat_tests)))

-- and nobody claims it, or it is marked
pub along-told : (known : Known) (row : ℕ) → goes_now known row ≡ true → (not (is_claimed known.decided row) || is_marked known row) ≡ true
along-told known row h =
    let it = passing (λ entry. goes_along (is_claimed known.decided) (row, record entry { doomed = is_marked known row }))
    (row_at known row) h in or_comm (not (is_claimed known.decided row)) (is_marked known row) ∙ it.2

-- a row that is there goes along where that is so
pub along-so : (known : Known) (row : ℕ) (entry : Entry) → row_at known row ≡ Some entry
    → (not (is_claimed known.decided row) || is_marked known row) ≡ true → goes_now known row ≡ true
along-so known row entry at h =
    ap (λ o. some_passes (λ entry. goes_along (is_claimed known.decided) (row, record entry { doomed = is_marked known row })) o) at
    ∙ or_comm (is_marked known row) (not (is_claimed known.decided row)) ∙ h
