-- The first row that a goal has deleted and that lacks its provider.
use Rattle.std.proofs.Common.{◌≡◌, ℕ, Bool, true, false, not, ◌&&◌, ◌||◌, cond, if◌then◌else◌, List, [], ◌∷◌, find, Option, Some, None, is_none, option_map, option_and_then, refl, sym, ap, ◌∙◌}
use Rattle.std.specs.Option.{option_or}
use Rattle.pl_decide.specs.Limited.{is_delete_first}
use Rattle.pl_decide.specs.declared.problem.Problem.TheVariants as problem
use Rattle.pl_lemmas.specs.Words.{first_some, has_number, is_row, some_passes}
use Rattle.pl_lemmas.proofs.Truth.{and_right}
use Rattle.pl_model.specs.Claims.{chain_of_claim}
use Rattle.pl_model.specs.Known.{Known}
use Rattle.pl_model.specs.Problems.{has_deleted, is_claimed_beside, lacking_in, lacks_provider, missing_provider}
use Rattle.pl_model.specs.Rows.{goes_now, is_sent, row_at, row_numbers}
use Rattle.pl_model.specs.declared.decided.Decided.{Decided}
use Rattle.pl_state.specs.declared.entry.Entry.{Entry}

-- a goal that is not deleted first has no row deleted
none_of : (known : Known) (one : Decided) (row : ℕ) → is_delete_first one.decision ≡ false → lacking_in known one row ≡ None
none_of known one row is =
    ap (λ (b : Bool). if ((b && (is_row one.claim row || (has_number (if b then chain_of_claim known.run one.claim else []) row && goes_now known row)))
    || (has_number (if b then chain_of_claim known.run one.claim else []) row && is_claimed_beside known row)) && lacks_provider known row
    then option_map (λ (entry : Entry). entry.urn) (row_at known row) else None) is

none_among : (known : Known) (one : Decided) → is_delete_first one.decision ≡ false → (rows : List ℕ) → first_some (lacking_in known one) rows ≡ None
none_among known one is [] = refl
none_among known one is (row ∷ rows) = λ i. option_or (none_of known one row is i) (none_among known one is rows i)

pub none_missing : (known : Known) (one : Decided) → is_delete_first one.decision ≡ false → None ≡ missing_provider known one
none_missing known one is =
    ap (λ (o : Option (List ℕ)). option_map problem.MissingProvider o) (sym (none_among known one is (row_numbers known)))

module _
    {A B : Type 0}
    (at : ℕ → Option A)
    (give : A → B)
    (test : ℕ → Bool)
    (there : (row : ℕ) → test row ≡ true → (thing : A) × (at row ≡ Some thing))
  where
    found_among : (rows : List ℕ) → first_some (λ row. if test row then option_map give (at row) else None) rows
        ≡ option_map give (option_and_then at (find test rows))
    found_among [] = refl
    found_among (row ∷ rows) = by (found_among rows) (test row) refl
      where
        rest : Option B
        rest = first_some (λ other. if test other then option_map give (at other) else None) rows

        by : rest ≡ option_map give (option_and_then at (find test rows)) → (b : Bool) → test row ≡ b
            → option_or (if b then option_map give (at row) else None) rest ≡ option_map give (option_and_then at (cond b (Some row) (find test rows)))
        by others false is = others
        by others true is =
            let some : (thing : A) × (at row ≡ Some thing) = there row is in
            ap (λ (o : Option A). option_or (option_map give o) rest) some.1 ∙ ap (λ (o : Option A). option_map give o) (sym some.1)

passes_there : {A : Type 0} (test : A → Bool) (o : Option A) → some_passes test o ≡ true → (thing : A) × (o ≡ Some thing)
passes_there test None is = absurd (let e : false ≡ true = is in cc)
passes_there test (Some thing) is = (thing, refl)

pub first_missing : (known : Known) (one : Decided) (first : Option ℕ) (urn : Option (List ℕ))
    → first ≡ find (λ row. has_deleted known one row && lacks_provider known row) (row_numbers known)
    → urn ≡ option_map (λ entry. entry.urn) (option_and_then (row_at known) first)
    → option_map problem.MissingProvider urn ≡ missing_provider known one
first_missing known one first urn is_first is_urn =
    ap (λ (o : Option (List ℕ)). option_map problem.MissingProvider o)
    (is_urn
    ∙ ap (λ (o : Option ℕ). option_map (λ (entry : Entry). entry.urn) (option_and_then (row_at known) o)) is_first
    ∙ sym (found_among (row_at known) (λ entry. entry.urn) (λ row. has_deleted known one row && lacks_provider known row) there (row_numbers known)))
  where
    there : (row : ℕ) → (has_deleted known one row && lacks_provider known row) ≡ true → (entry : Entry) × (row_at known row ≡ Some entry)
    there row is =
        passes_there (λ entry. is_none entry.provider) (row_at known row)
        (and_right (is_sent known row) (some_passes (λ entry. is_none entry.provider) (row_at known row))
        (and_right (has_deleted known one row) (lacks_provider known row) is))

pub not_true : {b : Bool} → not b ≡ true → b ≡ false
not_true {b = true} is = sym is
not_true {b = false} is = refl
