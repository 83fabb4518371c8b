-- The first row that passes a test, as a problem.
use Rattle.std.proofs.Common.{◌≡◌, ℕ, Bool, true, false, cond, if◌then◌else◌, List, [], ◌∷◌, find, Option, Some, None, option_map, option_and_then, refl, sym, ap, ◌∙◌}
use Rattle.std.specs.Option.{option_or}
use Rattle.pl_decide.specs.declared.problem.Problem.{Problem}
use Rattle.pl_lemmas.specs.Words.{first_some, some_passes}
use Rattle.pl_model.specs.Known.{Known}
use Rattle.pl_model.specs.Problems.{first_row}
use Rattle.pl_model.specs.Rows.{row_at, row_numbers}
use Rattle.pl_state.specs.declared.entry.Entry.{Entry}

module _
    {A B : Type 0}
    (at : ℕ → Option A)
    (give : A → B)
    (test : ℕ → A → Bool)
  where
    found_among : (rows : List ℕ) → first_some (λ row. option_and_then (λ one. if test row one then Some (give one) else None) (at row)) rows
        ≡ option_map give (option_and_then at (find (λ row. some_passes (test row) (at row)) rows))
    found_among [] = refl
    found_among (row ∷ rows) = one (found_among rows) (at row) refl
      where
        rest : Option B
        rest = first_some (λ other. option_and_then (λ thing. if test other thing then Some (give thing) else None) (at other)) rows

        later : Option ℕ
        later = find (λ other. some_passes (test other) (at other)) rows

        by : rest ≡ option_map give (option_and_then at later) → (thing : A) (b : Bool) → at row ≡ Some thing
            → option_or (if b then Some (give thing) else None) rest ≡ option_map give (option_and_then at (cond b (Some row) later))
        by others thing true is = ap (λ (o : Option A). option_map give o) (sym is)
        by others thing false is = others

        one : rest ≡ option_map give (option_and_then at later) → (o : Option A) → at row ≡ o
            → option_or (option_and_then (λ thing. if test row thing then Some (give thing) else None) (at row)) rest
            ≡ option_map give (option_and_then at (cond (some_passes (test row) (at row)) (Some row) later))
        one others None is =
            ap (λ (o : Option A). option_or (option_and_then (λ thing. if test row thing then Some (give thing) else None) o) rest) is
            ∙ others
            ∙ ap (λ (o : Option A). option_map give (option_and_then at (cond (some_passes (test row) o) (Some row) later))) (sym is)
        one others (Some thing) is =
            ap (λ (o : Option A). option_or (option_and_then (λ other. if test row other then Some (give other) else None) o) rest) is
            ∙ by others thing (test row thing) is
            ∙ ap (λ (o : Option A). option_map give (option_and_then at (cond (some_passes (test row) o) (Some row) later))) (sym is)

mapped_twice : (trouble : List ℕ → Problem) (o : Option Entry)
    → option_map trouble (option_map (λ entry. entry.urn) o) ≡ option_map (λ (entry : Entry). trouble entry.urn) o
mapped_twice trouble None = refl
mapped_twice trouble (Some entry) = refl

-- the URN of the first row that passes, as a problem
pub first_problem : (known : Known) (trouble : List ℕ → Problem) (test : ℕ → Entry → Bool) (first : Option ℕ) (urn : Option (List ℕ))
    → first ≡ find (λ row. some_passes (test row) (row_at known row)) (row_numbers known)
    → urn ≡ option_map (λ entry. entry.urn) (option_and_then (row_at known) first)
    → option_map trouble urn ≡ first_row known trouble test
first_problem known trouble test first urn is_first is_urn =
    ap (λ (o : Option (List ℕ)). option_map trouble o) is_urn
    ∙ mapped_twice trouble (option_and_then (row_at known) first)
    ∙ ap (λ (o : Option ℕ). option_map (λ (entry : Entry). trouble entry.urn) (option_and_then (row_at known) o)) is_first
    ∙ sym (found_among (row_at known) (λ entry. trouble entry.urn) test (row_numbers known))
