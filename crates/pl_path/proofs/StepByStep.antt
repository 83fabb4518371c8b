-- The reading of a path, step by step.
use Rattle.std.proofs.Common.{◌≡◌, ℕ, ◌+◌, ◌<◌, ◌≤◌, List, [], ◌∷◌, length, drop, get_or, Option, None, Some, Result, Ok, Err, refl, sym, ap, ◌∙◌}
use Rattle.std.proofs.lemmas.List.{drop_more, drop_all}
use Rattle.pl_path.specs.declared.reading.Reading.{Reading}
use Rattle.pl_path.specs.declared.segment.Segment.{Segment}
use Rattle.pl_path.specs.Grammar.{bad_place, path_in, segments_of}
use Rattle.pl_path.specs.Steps.{ended, or_refused, reads_on, refused_at, step}

abbrev pub answer : Reading → ℕ → List ℕ → Option Reading → Result (List Segment) ℕ
answer reading at more stepped = elim stepped [ None ↦ Err (refused_at reading.place at) | Some after ↦ reads_on after (at + 1) more ]

pub reads_first : (reading : Reading) (at byte : ℕ) (more : List ℕ) → reads_on reading at (byte ∷ more) ≡ answer reading at more (step reading byte)
unfolding reads_on
reads_first reading at byte more = refl

pub reads_one : (reading : Reading) (at : ℕ) (text : List ℕ) (stepped : Option Reading) → at < length text
    → stepped ≡ step reading (get_or text at 0) → reads_on reading at (drop at text) ≡ answer reading at (drop (at + 1) text) stepped
reads_one reading at text stepped within same =
    ap (reads_on reading at) (drop_more text at 0 within) ∙ reads_first reading at (get_or text at 0) (drop (at + 1) text)
    ∙ ap (answer reading at (drop (at + 1) text)) (sym same)

pub reads_nothing : (reading : Reading) (at : ℕ) → reads_on reading at [] ≡ or_refused (ended reading) (refused_at reading.place at)
unfolding reads_on
reads_nothing reading at = refl

pub reads_end : (reading : Reading) (at : ℕ) (text : List ℕ) (path : Option (List Segment)) → length text ≤ at → path ≡ ended reading
    → reads_on reading at (drop at text) ≡ or_refused path (refused_at reading.place at)
reads_end reading at text path all same =
    ap (reads_on reading at) (drop_all at text all) ∙ reads_nothing reading at
    ∙ ap (λ path. or_refused path (refused_at reading.place at)) (sym same)

pub is_read : (text : List ℕ) (path : List Segment) → path_in text ≡ Ok path → segments_of text ≡ Some path
unfolding segments_of
is_read text path read = ap (λ (r : Result (List Segment) ℕ). elim r [ Ok segments ↦ Some segments | Err place ↦ None ]) read

pub is_refused : (text : List ℕ) (place : ℕ) → path_in text ≡ Err place → bad_place text ≡ Some place
unfolding bad_place
is_refused text place refused = ap (λ (r : Result (List Segment) ℕ). elim r [ Ok segments ↦ None | Err place ↦ Some place ]) refused

pub read_back : (text : List ℕ) (path : List Segment) → segments_of text ≡ Some path → path_in text ≡ Ok path
unfolding segments_of
read_back text path read =
    (elim (path_in text) as (λ (r : Result (List Segment) ℕ). elim r [ Ok segments ↦ Some segments | Err place ↦ None ] ≡ Some path → r ≡ Ok path) [
      | Ok segments ↦ λ is. let same : segments ≡ path = cc in ap Ok same
      | Err place ↦ λ is. cc
    ]) read

pub refused_back : (text : List ℕ) (place : ℕ) → bad_place text ≡ Some place → path_in text ≡ Err place
unfolding bad_place
refused_back text place refused =
    (elim (path_in text) as (λ (r : Result (List Segment) ℕ). elim r [ Ok segments ↦ None | Err place ↦ Some place ] ≡ Some place → r ≡ Err place) [
      | Ok segments ↦ λ is. cc
      | Err found ↦ λ is. let same : found ≡ place = cc in ap Err same
    ]) refused
