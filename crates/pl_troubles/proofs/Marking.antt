-- What is in memory tells the first problems of a list with one more.
use Rattle.std.proofs.Common.{◌≡◌, ℕ, suc, ◌==◌, Bool, true, false, not, ◌||◌, List, [], ◌∷◌, ◌++◌, length, find, Option, Some, None, is_some, option_map, if◌then◌else◌, refl, sym, ap, subst, ◌∙◌, arith}
use Rattle.std.proofs.lemmas.Bool.Decides.{nat_tests}
use Rattle.std.proofs.lemmas.List.{append-nil}
use Rattle.std.proofs.lemmas.List.Folds.{find-append}
use Rattle.std.specs.Option.{option_or}
use Rattle.pl_lemmas.specs.Words.{only_if, option_list}
use Rattle.pl_lemmas.proofs.Options.{mapped_or}
use Rattle.pl_decide.specs.declared.problem.Problem.{Problem}
use Rattle.pl_model.specs.History.{is_no_want}
use Rattle.pl_model.specs.Problems.{at_position}
use Rattle.pl_troubles.specs.First.{FirstTells, IsKeptOf, least_place, place_of, problem_of_row, want_place}
use Rattle.pl_troubles.specs.Kept.{AreMarked}
use Rattle.pl_troubles.specs.Marks.{with_mark, with_mark_of, with_row_mark}
use Rattle.pl_troubles.specs.declared.first.First.{First}
use Rattle.pl_troubles.specs.declared.first.First.TheVariants.{Made, OfEvent, OfRow}
use Rattle.pl_troubles.specs.declared.first.RowProblem.{RowProblem}
use Rattle.pl_troubles.specs.declared.first.RowProblem.TheVariants as row_problem
use Rattle.pl_troubles.specs.declared.marks.Marks.{Marks}

abbrev no_want : ℕ × Problem → Bool
no_want placed = is_no_want placed.1

abbrev want : ℕ × Problem → Bool
want placed = not (is_no_want placed.1)

tells_or : (first made : Option First) (one other : Option (ℕ × Problem)) → FirstTells first one → FirstTells made other
    → FirstTells (option_or first made) (option_or one other)
tells_or None made None other tells later = later
tells_or None made (Some one) other tells later = absurd tells
tells_or (Some first) made None other tells later = absurd tells
tells_or (Some first) made (Some one) other tells later = tells

tells_one : (first : First) (placed : ℕ × Problem) (b : Bool) → IsKeptOf first placed
    → FirstTells (only_if b (Some first)) (if b then Some placed else None)
tells_one first placed true kept = kept
tells_one first placed false kept = tt

place_one : (placed : ℕ × Problem) (b : Bool)
    → only_if b (Some placed.0) ≡ option_map (λ (one : ℕ × Problem). one.0) (if b then Some placed else None)
place_one placed true = refl
place_one placed false = refl

-- one problem more
pub marked : (made : First) (marks : Marks) (at : ℕ) (problem : Problem) (problems : List (ℕ × Problem))
    → place_of made ≡ at → IsKeptOf made (at, problem) → AreMarked marks problems
    → AreMarked (with_mark made problem marks) (problems ++ (at, problem) ∷ [])
marked made marks at problem problems is_at kept are = record {
  first = subst (λ (found : Option (ℕ × Problem)). FirstTells (option_or marks.first (only_if (is_no_want problem) (Some made))) found)
      (sym (find-append no_want problems ((at, problem) ∷ [])))
      (tells_or marks.first (only_if (is_no_want problem) (Some made)) (find no_want problems) (find no_want ((at, problem) ∷ []))
      are.first (tells_one made (at, problem) (is_no_want problem) kept));
  wanted =
      (λ i. option_or (are.wanted i) (only_if (not (is_no_want problem)) (Some (is_at i))))
      ∙ ap (λ (o : Option ℕ). option_or (want_place problems) o) (place_one (at, problem) (not (is_no_want problem)))
      ∙ sym (mapped_or (λ (one : ℕ × Problem). one.0) (find want problems) (find want ((at, problem) ∷ [])))
      ∙ ap (λ (found : Option (ℕ × Problem)). option_map (λ (one : ℕ × Problem). one.0) found) (sym (find-append want problems ((at, problem) ∷ [])));
}

-- a problem more, or none
pub marked_of : (made : First) (marks : Marks) (at : ℕ) (trouble : Option Problem) (problems : List (ℕ × Problem))
    → place_of made ≡ at → ((problem : Problem) → trouble ≡ Some problem → IsKeptOf made (at, problem)) → AreMarked marks problems
    → AreMarked (with_mark_of made trouble marks) (problems ++ at_position at (option_list trouble))
marked_of made marks at None problems is_at kept are =
    subst (λ (more : List (ℕ × Problem)). AreMarked marks more) (sym (append-nil problems)) are
marked_of made marks at (Some problem) problems is_at kept are =
    marked made marks at problem problems is_at (kept problem refl) are

row_no_want : (what : RowProblem) (urn : List ℕ) → is_no_want (problem_of_row what urn) ≡ true
row_no_want row_problem.Protected urn = refl
row_no_want row_problem.MissingProvider urn = refl
row_no_want row_problem.NotPermitted urn = refl

or_none : (o : Option ℕ) → option_or o None ≡ o
or_none None = refl
or_none (Some n) = refl

-- the problem of a row more
pub row_marked : (what : RowProblem) (row : ℕ) (marks : Marks) (at : ℕ) (urn : List ℕ) (problems : List (ℕ × Problem))
    → AreMarked marks problems → AreMarked (with_row_mark (OfRow at what row) marks) (problems ++ (at, problem_of_row what urn) ∷ [])
row_marked what row marks at urn problems are =
    subst (λ (these : Marks). AreMarked these (problems ++ (at, problem_of_row what urn) ∷ [])) same
    (marked (OfRow at what row) marks at (problem_of_row what urn) problems refl (refl, urn, refl) are)
  where
    same : with_mark (OfRow at what row) (problem_of_row what urn) marks ≡ with_row_mark (OfRow at what row) marks
    same = λ i. record {
      first = option_or marks.first (only_if (row_no_want what urn i) (Some (OfRow at what row)));
      wanted = (ap (λ (b : Bool). option_or marks.wanted (only_if (not b) (Some at))) (row_no_want what urn) ∙ or_none marks.wanted) i;
    }

-- other words for the marks and the list
pub moved : {marks other : Marks} {problems more : List (ℕ × Problem)} → other ≡ marks → more ≡ problems → AreMarked marks problems
    → AreMarked other more
moved {marks = marks} {other = other} {more = more} same told are =
    subst (λ (these : Marks). AreMarked these more) (sym same)
    (subst (λ (these : List (ℕ × Problem)). AreMarked marks these) (sym told) are)

-- ---- what the marks tell

some_first : (first : Option First) (placed : ℕ × Problem) → FirstTells first (Some placed) → is_some first ≡ true
some_first None placed tells = absurd tells
some_first (Some first) placed tells = refl

none_first : (first : Option First) → FirstTells first None → first ≡ None
none_first None tells = refl
none_first (Some first) tells = absurd tells

one_stands : (b : Bool) (marks : Marks) (placed : ℕ × Problem) (one other : Option (ℕ × Problem))
    → FirstTells marks.first (if b then Some placed else one)
    → marks.wanted ≡ option_map (λ (found : ℕ × Problem). found.0) (if not b then Some placed else other)
    → (is_some marks.first || is_some marks.wanted) ≡ true
one_stands true marks placed one other first wanted = ap (λ (b : Bool). b || is_some marks.wanted) (some_first marks.first placed first)
one_stands false marks placed one other first wanted =
    ap (λ (o : Option ℕ). is_some marks.first || is_some o) wanted ∙ or_true (is_some marks.first)
  where
    or_true : (b : Bool) → (b || true) ≡ true
    or_true true = refl
    or_true false = refl

suc_zero : (k : ℕ) → (suc k == 0) ≡ false
suc_zero k = grind (arith, nat_tests)

-- a problem stands where one is marked
pub any_marked : (marks : Marks) (problems : List (ℕ × Problem)) → AreMarked marks problems
    → (is_some marks.first || is_some marks.wanted) ≡ not (length problems == 0)
any_marked marks [] are =
    (λ i. is_some (none_first marks.first are.first i) || is_some (are.wanted i))
any_marked marks (placed ∷ later) are =
    one_stands (is_no_want placed.1) marks placed (find no_want later) (find want later) are.first are.wanted
    ∙ ap not (sym (suc_zero (length later)))

place_told : (first : First) (placed : ℕ × Problem) → IsKeptOf first placed → place_of first ≡ placed.0
place_told (Made at problem) placed kept = ap (λ (one : ℕ × Problem). one.0) (sym kept)
place_told (OfEvent at) placed kept = sym kept.0
place_told (OfRow at what row) placed kept = sym kept.0

places_told : (first : Option First) (found : Option (ℕ × Problem)) → FirstTells first found
    → option_map place_of first ≡ option_map (λ (one : ℕ × Problem). one.0) found
places_told None None tells = refl
places_told None (Some placed) tells = absurd tells
places_told (Some first) None tells = absurd tells
places_told (Some first) (Some placed) tells = ap (λ (at : ℕ). Some at) (place_told first placed tells)

-- the position of the least problem
pub least_marked : (marks : Marks) (problems : List (ℕ × Problem)) → AreMarked marks problems
    → option_or (option_map place_of marks.first) marks.wanted ≡ least_place problems
least_marked marks problems are =
    λ i. option_or (places_told marks.first (find no_want problems) are.first i) (are.wanted i)
