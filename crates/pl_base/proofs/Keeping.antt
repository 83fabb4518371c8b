-- The first row that keeps a URN, with one row more.
use Rattle.std.proofs.Common.{◌≡◌, ◌<◌, ◌+◌, ℕ, Bool, true, false, cond, if◌then◌else◌, List, [], ◌∷◌, ◌++◌, length, take, get_or, Option, Some, None, is_some, option_map, String, refl, sym, ap, ◌∙◌, arith}
use Rattle.std.proofs.lemmas.List.{length-take-le}
use Rattle.std.specs.BTreeMap.{BTreeMap, get_by_text}
use Rattle.std.specs.List.{enumerate_from, find}
use Rattle.std.specs.Option.{option_or}
use Rattle.std.specs.Str.{bytes_eq}
use Rattle.pl_lemmas.proofs.Lists.{same_bytes}
use Rattle.pl_lemmas.proofs.Options.{or_none}
use Rattle.pl_state.specs.References.{keeps_urn}
use Rattle.pl_state.specs.declared.entry.Entry.{Entry}
use Rattle.pl_base.specs.Index.{LeadsToKeepers}
use Rattle.pl_base.specs.Keeper.{keeper_in}
use Rattle.pl_base.proofs.Told.{rows_more}

-- the first place, from a number on, at which a row passes a test
abbrev first_from : (Entry → Bool) → ℕ → List Entry → Option ℕ
first_from test from rows = option_map (λ (one : ℕ × Entry). one.0) (find (λ one. test one.1) (enumerate_from from rows))

first_more : (test : Entry → Bool) (from : ℕ) (rows : List Entry) (row : Entry)
    → first_from test from (rows ++ row ∷ []) ≡ option_or (first_from test from rows) (if test row then Some (from + length rows) else None)
first_more test from [] row = by (test row)
  where
    same : from ≡ from + length {A = Entry} []
    same = omega arith

    by : (b : Bool) → option_map (λ (one : ℕ × Entry). one.0) (cond b (Some (from, row)) None) ≡ (if b then Some (from + length {A = Entry} []) else None)
    by true = ap (λ (n : ℕ). Some n) same
    by false = refl
first_more test from (first ∷ rows) row = by (test first) (first_more test (from + 1) rows row)
  where
    same : from + 1 + length rows ≡ from + length (first ∷ rows)
    same = omega arith

    by : (b : Bool)
        → first_from test (from + 1) (rows ++ row ∷ [])
        ≡ option_or (first_from test (from + 1) rows) (if test row then Some (from + 1 + length rows) else None)
        → option_map (λ (one : ℕ × Entry). one.0) (cond b (Some (from, first)) (find (λ one. test one.1) (enumerate_from (from + 1) (rows ++ row ∷ []))))
        ≡ option_or (option_map (λ (one : ℕ × Entry). one.0) (cond b (Some (from, first)) (find (λ one. test one.1) (enumerate_from (from + 1) rows))))
        (if test row then Some (from + length (first ∷ rows)) else None)
    by true rest = refl
    by false rest = rest ∙ ap (λ (n : ℕ). option_or (first_from test (from + 1) rows) (if test row then Some n else None)) same

keeper_more : (rows : List Entry) (row : Entry) (urn : List ℕ)
    → keeper_in (rows ++ row ∷ []) urn ≡ option_or (keeper_in rows urn) (if keeps_urn urn row then Some (length rows) else None)
keeper_more rows row urn =
    let same : 0 + length rows ≡ length rows = omega arith in
    first_more (keeps_urn urn) 0 rows row
    ∙ ap (λ (n : ℕ). option_or (keeper_in rows urn) (if keeps_urn urn row then Some n else None)) same

-- the index with one row more
pub keepers_more : {Y : Type 0} (old new : BTreeMap (String Y) ℕ) (rows : List Entry) (i : ℕ) (row : Entry) → i < length rows
    → row ≡ get_or rows i row → LeadsToKeepers old (take i rows)
    → ((urn : List ℕ) → get_by_text new urn ≡ option_or (get_by_text old urn) (if keeps_urn urn row then Some i else None))
    → LeadsToKeepers new (take (i + 1) rows)
keepers_more old new rows i row inside is leads added urn =
    let long : length (take i rows) ≡ i = length-take-le i rows (omega arith) in
    added urn
    ∙ ap (λ (o : Option ℕ). option_or o (if keeps_urn urn row then Some i else None)) (leads urn)
    ∙ ap (λ (n : ℕ). option_or (keeper_in (take i rows) urn) (if keeps_urn urn row then Some n else None)) (sym long)
    ∙ sym (keeper_more (take i rows) row urn)
    ∙ ap (λ (l : List Entry). keeper_in l urn) (sym (rows_more rows i row inside is))

-- where no place stands under a URN yet, one is put there
pub stands_first : (old new : List ℕ → Option ℕ) (urn : List ℕ) (place : ℕ) → is_some (old urn) ≡ false
    → ((other : List ℕ) → new other ≡ cond (bytes_eq urn other) (Some place) (old other)) → (other : List ℕ)
    → new other ≡ option_or (old other) (if bytes_eq urn other then Some place else None)
stands_first old new urn place free put other = put other ∙ by (bytes_eq urn other) refl
  where
    none : (o : Option ℕ) → is_some o ≡ false → Some place ≡ option_or o (Some place)
    none None h = refl
    none (Some there) h = absurd (let e : true ≡ false = h in cc)

    by : (b : Bool) → bytes_eq urn other ≡ b → cond b (Some place) (old other) ≡ option_or (old other) (if b then Some place else None)
    by true is = none (old other) (ap (λ (text : List ℕ). is_some (old text)) (sym (same_bytes urn other is)) ∙ free)
    by false is = sym (or_none (old other))
