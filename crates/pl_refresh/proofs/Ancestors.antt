-- The nearest ancestor that is there, from one row to the row of its parent.
use Rattle.std.proofs.Common.{◌≡◌, ◌<◌, ◌≤◌, ◌+◌, ◌||◌, ℕ, zero, suc, Bool, true, false, cond, List, [], ◌∷◌, ◌++◌, length, take, get_or, reverse, Option, Some, None, refl, sym, ap, ◌∙◌, arith}
use Rattle.std.proofs.Math.Seq.{take-suc}
use Rattle.std.proofs.lemmas.Bool.{false≢true}
use Rattle.std.proofs.lemmas.List.{length-take-le, reverse-append}
use Rattle.std.specs.Option.{is_none}
use Rattle.pl_lemmas.specs.Words.{some_passes}
use Rattle.pl_state.specs.Chain.{last_from, last_of_urn, last_place, or_else_place}
use Rattle.pl_state.specs.Component.{component_entry}
use Rattle.pl_state.specs.References.{has_urn}
use Rattle.pl_state.specs.declared.entry.Entry.{Entry}
use Rattle.pl_refresh.specs.Refreshed.{if_there, nearest, past_row}

-- whether nothing more is looked for
abbrev pub is_found : (List ℕ → Bool) → Option (List ℕ) → Bool
is_found there urn = is_none urn || some_passes there urn

-- no URN, and one that is there, is the nearest one
pub nearest_found : (there : List ℕ → Bool) (before : List Entry) (urn : Option (List ℕ)) → is_found there urn ≡ true → nearest there before urn ≡ urn
nearest_found there [] None h = refl
nearest_found there (row ∷ before) None h = nearest_found there before None refl
nearest_found there [] (Some urn) h = ap (λ (b : Bool). cond b (Some urn) None) h
nearest_found there (row ∷ before) (Some urn) h = ap (λ (b : Bool). cond b (Some urn) (nearest there before (past_row row (Some urn)))) h

-- the last row that passes a test, with a row more
last_from-more : (test : Entry → Bool) (place : ℕ) (rows : List Entry) (row : Entry) → last_from test place (rows ++ row ∷ []) ≡ cond (test row) (Some (place + length rows)) (last_from test place rows)
last_from-more test place [] row =
    let same : place ≡ place + length {A = Entry} [] = omega arith in
    ap (λ (n : ℕ). cond (test row) (Some n) None) same
last_from-more test place (first ∷ rows) row = ap (λ (o : Option ℕ). or_else_place o (test first) place) (last_from-more test (suc place) rows row) ∙ by (test row)
  where
    by : (b : Bool) → or_else_place (cond b (Some (suc place + length rows)) (last_from test (suc place) rows)) (test first) place ≡ cond b (Some (place + length (first ∷ rows))) (last_from test place (first ∷ rows))
    by true = let same : suc place + length rows ≡ place + length (first ∷ rows) = omega arith in ap (λ (n : ℕ). Some n) same
    by false = refl

pub last_place-more : (test : Entry → Bool) (rows : List Entry) (row : Entry) → last_place test (rows ++ row ∷ []) ≡ cond (test row) (Some (length rows)) (last_place test rows)
last_place-more test rows row =
    let same : 0 + length rows ≡ length rows = omega arith in
    last_from-more test 0 rows row ∙ ap (λ (n : ℕ). cond (test row) (Some n) (last_place test rows)) same

some_same : (a b : ℕ) → Some a ≡ Some b → a ≡ b
some_same a b h = cc

last_below : (test : Entry → Bool) (place : ℕ) (rows : List Entry) (row : ℕ) → last_from test place rows ≡ Some row → row < place + length rows
last_below test place [] row h = absurd (let e : None ≡ Some row = h in cc)
last_below test place (entry ∷ rows) row h = by (last_from test (suc place) rows) (test entry) (last_below test (suc place) rows row) h
  where
    by : (o : Option ℕ) (b : Bool) → (o ≡ Some row → row < suc place + length rows) → or_else_place o b place ≡ Some row → row < place + length (entry ∷ rows)
    by (Some later) b rest h = let low : row < suc place + length rows = rest h in omega arith
    by None true rest h = let same : place ≡ row = some_same place row h in omega arith
    by None false rest h = absurd (let e : None ≡ Some row = h in cc)

last_of_urn-below : (urn : Option (List ℕ)) (rows : List Entry) (at : ℕ) → last_of_urn urn rows ≡ Some at → at < length rows
last_of_urn-below None rows at h = absurd (let e : None ≡ Some at = h in cc)
last_of_urn-below (Some named) rows at h =
    let low : at < 0 + length rows = last_below (has_urn named) 0 rows at h in omega arith

-- what is left to look for once the last row of a URN was found, or none
abbrev from_place : (List ℕ → Bool) → List Entry → Entry → Option ℕ → Option (List ℕ)
from_place there rows other None = None
from_place there rows other (Some at) = nearest there (reverse (take at rows)) (get_or rows at other).parent

-- a URN that is not there leads to the parent of its last row
from_last : (there : List ℕ → Bool) (rows : List Entry) (other : Entry) (urn : List ℕ) (count : ℕ) → there urn ≡ false → count ≤ length rows → nearest there (reverse (take count rows)) (Some urn) ≡ from_place there rows other (last_place (has_urn urn) (take count rows))
from_last there rows other urn zero away inside = ap (λ (b : Bool). cond b (Some urn) None) away
from_last there rows other urn (suc count) away inside =
    let row : Entry = get_or rows count other in
    let before : List Entry = reverse (take count rows) in
    let within : count < length rows = omega arith in
    let more : take (suc count) rows ≡ take count rows ++ row ∷ [] = take-suc rows count other within in
    let long : length (take count rows) ≡ count = length-take-le count rows (omega arith) in
    ap (λ (l : List Entry). nearest there (reverse l) (Some urn)) more
    ∙ ap (λ (l : List Entry). nearest there l (Some urn)) (reverse-append (take count rows) (row ∷ []))
    ∙ ap (λ (b : Bool). cond b (Some urn) (nearest there before (past_row row (Some urn)))) away
    ∙ by (has_urn urn row) (from_last there rows other urn count away (omega arith))
    ∙ ap (λ (n : ℕ). from_place there rows other (cond (has_urn urn row) (Some n) (last_place (has_urn urn) (take count rows)))) (sym long)
    ∙ ap (from_place there rows other) (sym (last_place-more (has_urn urn) (take count rows) row))
    ∙ ap (λ (l : List Entry). from_place there rows other (last_place (has_urn urn) l)) (sym more)
  where
    by : (b : Bool) → nearest there (reverse (take count rows)) (Some urn) ≡ from_place there rows other (last_place (has_urn urn) (take count rows))
        → nearest there (reverse (take count rows)) (cond b (get_or rows count other).parent (Some urn)) ≡ from_place there rows other (cond b (Some count) (last_place (has_urn urn) (take count rows)))
    by true rest = refl
    by false rest = rest

-- the wanted one is the nearest one of a URN among the first rows, where the last row of that URN stands at the place
pub record Climbing (there : List ℕ → Bool) (rows : List Entry) (urn : Option (List ℕ)) (place : Option ℕ) (wanted : Option (List ℕ)) : Type 0 where
  pub count : ℕ
  pub inside : count ≤ length rows
  pub here : place ≡ last_of_urn urn (take count rows)
  pub same : nearest there (reverse (take count rows)) urn ≡ wanted

pub climbing_inside : (there : List ℕ → Bool) (rows : List Entry) (urn : Option (List ℕ)) (at : ℕ) (wanted : Option (List ℕ)) → Climbing there rows urn (Some at) wanted → at < length rows
climbing_inside there rows urn at wanted c =
    let long : length (take c.count rows) ≡ c.count = length-take-le c.count rows c.inside in
    let low : at < length (take c.count rows) = last_of_urn-below urn (take c.count rows) at (sym c.here) in
    let inside : c.count ≤ length rows = c.inside in
    omega arith

-- a URN that is there is the wanted one
pub climbing_found : (there : List ℕ → Bool) (rows : List Entry) (urn : Option (List ℕ)) (place : Option ℕ) (wanted : Option (List ℕ)) → is_found there urn ≡ true → Climbing there rows urn place wanted → urn ≡ wanted
climbing_found there rows urn place wanted h c = sym (nearest_found there (reverse (take c.count rows)) urn h) ∙ c.same

-- from a URN that is not there to that of its parent
pub climbing_on : (there : List ℕ → Bool) (rows : List Entry) (row : Entry) (urn : Option (List ℕ)) (at : ℕ) (above : Option ℕ) (wanted : Option (List ℕ)) → is_found there urn ≡ false → row ≡ get_or rows at row → above ≡ last_of_urn row.parent (take at rows) → Climbing there rows urn (Some at) wanted → Climbing there rows row.parent above wanted
climbing_on there rows row None at above wanted h is up c = absurd (false≢true (sym h))
climbing_on there rows row (Some urn) at above wanted h is up c =
    let inside : at < length rows = climbing_inside there rows (Some urn) at wanted c in
    record {
      count = at;
      inside = omega arith;
      here = up;
      same =
          ap (λ (r : Entry). nearest there (reverse (take at rows)) r.parent) is
          ∙ ap (from_place there rows row) c.here
          ∙ sym (from_last there rows row urn c.count h c.inside)
          ∙ c.same;
    }

-- an entry to look at where there is none
abbrev nobody : Entry
nobody = component_entry [] [] None

-- where no row has the URN, it is the wanted one if it is there
pub climbing_ended : (there : List ℕ → Bool) (rows : List Entry) (urn : Option (List ℕ)) (wanted : Option (List ℕ)) → Climbing there rows urn None wanted → if_there there urn ≡ wanted
climbing_ended there rows None wanted c = sym (nearest_found there (reverse (take c.count rows)) None refl) ∙ c.same
climbing_ended there rows (Some urn) wanted c = by (there urn) refl
  where
    by : (b : Bool) → there urn ≡ b → cond (there urn) (Some urn) None ≡ wanted
    by true is = ap (λ (b : Bool). cond b (Some urn) None) is ∙ climbing_found there rows (Some urn) None wanted is c
    by false is =
        ap (λ (b : Bool). cond b (Some urn) None) is
        ∙ sym (from_last there rows nobody urn c.count is c.inside ∙ ap (from_place there rows nobody) (sym c.here))
        ∙ c.same

-- the rows up to a place
abbrev pub rows_to : Option ℕ → ℕ
rows_to None = 0
rows_to (Some at) = suc at

-- a parent stands before its row
pub parent_lower : (urn : Option (List ℕ)) (rows : List Entry) (at : ℕ) (above : Option ℕ) → above ≡ last_of_urn urn (take at rows) → at < length rows → rows_to above < rows_to (Some at)
parent_lower urn rows at None h inside = omega arith
parent_lower urn rows at (Some higher) h inside =
    let long : length (take at rows) ≡ at = length-take-le at rows (omega arith) in
    let low : higher < length (take at rows) = last_of_urn-below urn (take at rows) higher (sym h) in
    omega arith
