-- What a reading answers, by the grammar: the segments that are written as the text, or the one place for a refusal.
use Rattle.std.proofs.Common.{◌≡◌, ℕ, ◌+◌, ◌<◌, ◌≤◌, Bool, true, false, cond, not, List, [], ◌∷◌, ◌++◌, length, take, drop, ◌⊎◌, inl, inr, Option, None, Some, Result, Ok, Err, is_ok, IsTrue, refl, sym, ap, subst, ◌∙◌, arith, length-append}
use Rattle.std.proofs.Math.Seq.{take-append-add, take-append_seam}
use Rattle.std.proofs.lemmas.List.{append_assoc, take-append-drop, take-take}
use Rattle.std.specs.Fmt.{decimal}
use Rattle.pl_path.specs.declared.segment.Segment.{Segment}
use Rattle.pl_path.specs.declared.segment.Segment.TheVariants.{Key, Index}
use Rattle.pl_path.specs.declared.reading.Place.{Place}
use Rattle.pl_path.specs.declared.reading.Place.TheVariants.{Start, Dot, Star, Name, Open, Zero, Digits, Quoted, Escaped, Unquoted, Closed}
use Rattle.pl_path.specs.declared.reading.Reading.{Reading}
use Rattle.pl_path.specs.Grammar.{path_in}
use Rattle.pl_path.specs.Steps.{ended, ended_at, nothing_read, or_refused, reads_on, refused_at, step, step_at}
use Rattle.pl_path.specs.Written.{dot, opening, closing, quote, star, is_name_byte, IsName, escaped, in_brackets, IsBracketed, IsWritten, IsPath, BeginsPath, GoesOnNoMoreAt, NameMayFollow, IsStarAlone, IsRefusedPlace}
use Rattle.pl_path.proofs.ReadIsWritten.{Behind, IsBefore, IsBeforeName, IsRead, WasRead, append_nothing, bracketed_more, named_more, escaped_other, read_end, read_steps, steps}
use Rattle.pl_path.proofs.StepByStep.{answer, reads_first, reads_nothing}
use Rattle.pl_path.proofs.WrittenIsRead.{dot_begins, dot_read, first_byte, standing, start_begins, step-is, steps_on, written_ends}

-- ---- what a reading answers

-- all bytes may stand: what the end says
reads_all : (reading after : Reading) (at : ℕ) (text : List ℕ) → steps reading text ≡ Some after
    → reads_on reading at text ≡ or_refused (ended after) (refused_at after.place (at + length text))
reads_all reading after at [] is =
    let same : reading ≡ after = cc in
    let count : at ≡ at + length {A = ℕ} [] = omega arith in
    reads_nothing reading at ∙ ap (λ (reading : Reading). or_refused (ended reading) (refused_at reading.place at)) same
    ∙ ap (λ count. or_refused (ended after) (refused_at after.place count)) count
reads_all reading after at (byte ∷ more) is =
    let count : (at + 1) + length more ≡ at + length (byte ∷ more) = omega arith in
    reads_first reading at byte more
    ∙ (elim (step reading byte) as (λ stepped. elim stepped [ None ↦ None | Some next ↦ steps next more ] ≡ Some after
    → answer reading at more stepped ≡ or_refused (ended after) (refused_at after.place (at + length (byte ∷ more)))) [
      | None ↦ λ is. cc
      | Some next ↦ λ is. reads_all next after (at + 1) more is ∙ ap (λ count. or_refused (ended after) (refused_at after.place count)) count
    ]) is

-- a byte that may not stand: its place
reads_bad : (reading after : Reading) (at : ℕ) (before : List ℕ) (byte : ℕ) (more : List ℕ) → steps reading before ≡ Some after → step after byte ≡ None
    → reads_on reading at (before ++ byte ∷ more) ≡ Err (refused_at after.place (at + length before))
reads_bad reading after at [] byte more is none =
    let same : reading ≡ after = cc in
    let count : at ≡ at + length {A = ℕ} [] = omega arith in
    reads_first reading at byte more
    ∙ ap (answer reading at more) (ap (λ reading. step reading byte) same ∙ none)
    ∙ ap (λ (reading : Reading). Err (refused_at reading.place at)) same
    ∙ ap (λ count. Err (refused_at after.place count)) count
reads_bad reading after at (first ∷ before) byte more is none =
    let count : (at + 1) + length before ≡ at + length (first ∷ before) = omega arith in
    reads_first reading at first (before ++ byte ∷ more)
    ∙ (elim (step reading first) as (λ stepped. elim stepped [ None ↦ None | Some next ↦ steps next before ] ≡ Some after
    → answer reading at (before ++ byte ∷ more) stepped ≡ Err (refused_at after.place (at + length (first ∷ before)))) [
      | None ↦ λ is. cc
      | Some next ↦ λ is. reads_bad next after (at + 1) before byte more is none ∙ ap (λ count. Err (refused_at after.place count)) count
    ]) is

-- the text may stand as a whole
abbrev pub Stands : Reading → List ℕ → Type 0
Stands reading text = (after : Reading) × (steps reading text ≡ Some after)

-- or up to a byte
abbrev StandsUpTo : Reading → List ℕ → Type 0
StandsUpTo reading text =
    (before : List ℕ) × (byte : ℕ) × (more : List ℕ) × (after : Reading)
    × (text ≡ before ++ byte ∷ more) × (steps reading before ≡ Some after) × (step after byte ≡ None)

stands_one : (reading next : Reading) (byte : ℕ) (more : List ℕ) → step reading byte ≡ Some next → steps reading (byte ∷ more) ≡ steps next more
stands_one reading next byte more is = ap (λ (stepped : Option Reading). elim stepped [ None ↦ None | Some next ↦ steps next more ]) is

all_or_up_to : (reading : Reading) (text : List ℕ) → Stands reading text ⊎ StandsUpTo reading text
all_or_up_to reading [] = inl (reading, refl)
all_or_up_to reading (byte ∷ more) =
    (elim (step reading byte) as (λ stepped. step reading byte ≡ stepped → Stands reading (byte ∷ more) ⊎ StandsUpTo reading (byte ∷ more)) [
      | None ↦ λ none. inr ([], byte, more, reading, refl, refl, none)
      | Some next ↦ λ some. elim (all_or_up_to next more) [
        | inl (after, is) ↦ inl (after, stands_one reading next byte more some ∙ is)
        | inr (before, bad, rest, after, whole, is, none) ↦
            inr (byte ∷ before, bad, rest, after, ap (λ xs. byte ∷ xs) whole, stands_one reading next byte before some ∙ is, none)
      ]
    ]) refl

not_on : (reading after : Reading) (before : List ℕ) (byte : ℕ) (more : List ℕ) → steps reading before ≡ Some after → step after byte ≡ None
    → steps reading (before ++ byte ∷ more) ≡ None
not_on reading after before byte more is none =
    steps_on reading after before (byte ∷ more) is ∙ ap (λ (stepped : Option Reading). elim stepped [ None ↦ None | Some next ↦ steps next more ]) none

nothing_is_read : IsRead nothing_read []
nothing_is_read = (refl, refl)

-- ---- a text that may stand begins a path

letter_name : IsName (97 ∷ [])
letter_name = ((λ h. cc), (λ (h : 97 ∷ [] ≡ star ∷ []). let same : ◌≡◌ {A = ℕ} 97 42 = cc in omega arith), refl)

star_name : IsName (star ∷ (97 ∷ []))
star_name = ((λ h. cc), (λ h. cc), refl)

-- the segment of a name, or of brackets, that is ended
name_goes_on : (segments : List Segment) (text here more name : List ℕ) → Behind (IsBeforeName segments) here text → here ++ more ≡ name → IsName name
    → BeginsPath text
name_goes_on segments text here more name (before, is_before, whole) is named = (
  more,
  (
    segments ++ Key name ∷ [],
    subst (IsWritten (segments ++ Key name ∷ []))
        (ap (λ xs. before ++ xs) (sym is) ∙ sym (append_assoc before here more) ∙ ap (λ xs. xs ++ more) (sym whole))
        (named_more segments before (Key name) name is_before (named, refl)),
  ),
)

bracket_goes_on : (segments : List Segment) (segment : Segment) (text here more inner : List ℕ) → Behind (IsBefore segments) here text
    → here ++ more ≡ in_brackets inner → IsBracketed segment (in_brackets inner) → BeginsPath text
bracket_goes_on segments segment text here more inner (before, is_before, whole) is bracketed = (
  more,
  (
    segments ++ segment ∷ [],
    subst (IsWritten (segments ++ segment ∷ []))
        (ap (λ xs. before ++ xs) (sym is) ∙ sym (append_assoc before here more) ∙ ap (λ xs. xs ++ more) (sym whole))
        (bracketed_more segments before segment (in_brackets inner) is_before bracketed),
  ),
)

goes_on_at : (place : Place) (segments : List Segment) (key : List ℕ) (index : ℕ) (text : List ℕ) → WasRead place segments key index text → BeginsPath text
goes_on_at Start segments key index text (none, nothing) =
    name_goes_on [] text [] (97 ∷ []) (97 ∷ []) ([], inl (refl, refl), nothing) refl letter_name
goes_on_at Dot segments key index text (path, written, whole) =
    name_goes_on segments text [] (97 ∷ []) (97 ∷ []) (text, inr (path, written, whole), append_nothing text) refl letter_name
goes_on_at Star segments key index text (behind, is) =
    name_goes_on segments text (star ∷ []) (97 ∷ []) (star ∷ (97 ∷ [])) behind refl star_name
goes_on_at Name segments key index text (behind, name) =
    name_goes_on segments text key [] key behind (sym (append_nothing key)) name
goes_on_at Open segments key index text behind =
    bracket_goes_on segments (Key []) text (opening ∷ []) (quote ∷ (quote ∷ (closing ∷ []))) (quote ∷ (quote ∷ [])) behind refl refl
goes_on_at Zero segments key index text behind =
    bracket_goes_on segments (Index 0) text (opening ∷ decimal 0) (closing ∷ []) (decimal 0) behind refl (omega arith, refl)
goes_on_at Digits segments key index text (behind, some, small) =
    bracket_goes_on segments (Index index) text (opening ∷ decimal index) (closing ∷ []) (decimal index) behind refl (small, refl)
goes_on_at Quoted segments key index text behind =
    bracket_goes_on segments (Key key) text (opening ∷ quote ∷ escaped key) (quote ∷ (closing ∷ [])) (quote ∷ (escaped key ++ quote ∷ [])) behind
    (ap (λ xs. opening ∷ quote ∷ xs) (sym (append_assoc (escaped key) (quote ∷ []) (closing ∷ [])))) refl
goes_on_at Escaped segments key index text (before, is, whole) =
    let escaped_quote : escaped (key ++ quote ∷ []) ≡ (escaped key ++ 92 ∷ []) ++ quote ∷ [] = escaped_other key quote refl in
    bracket_goes_on segments (Key (key ++ quote ∷ [])) text (opening ∷ quote ∷ (escaped key ++ 92 ∷ [])) (quote ∷ (quote ∷ (closing ∷ [])))
    (quote ∷ (escaped (key ++ quote ∷ []) ++ quote ∷ [])) (before, is, whole)
    (ap (λ xs. opening ∷ quote ∷ xs) (
    sym (append_assoc (escaped key ++ 92 ∷ []) (quote ∷ []) (quote ∷ (closing ∷ [])))
    ∙ ap (λ xs. xs ++ quote ∷ (closing ∷ [])) (sym escaped_quote)
    ∙ sym (append_assoc (escaped (key ++ quote ∷ [])) (quote ∷ []) (closing ∷ [])))) refl
goes_on_at Unquoted segments key index text behind =
    bracket_goes_on segments (Key key) text (opening ∷ quote ∷ (escaped key ++ quote ∷ [])) (closing ∷ []) (quote ∷ (escaped key ++ quote ∷ [])) behind refl refl
goes_on_at Closed segments key index text written = ([], (segments, subst (IsWritten segments) (append_nothing text) written))

stands_begins : (text : List ℕ) (after : Reading) → steps nothing_read text ≡ Some after → BeginsPath text
stands_begins text after is =
    goes_on_at after.place after.segments after.key after.index text (read_steps nothing_read after [] text nothing_is_read is)

-- what begins a path may stand
begins_stands : (text more : List ℕ) → steps nothing_read text ≡ None → IsPath (text ++ more) → ⊥
begins_stands text more none (segments, written) =
    let whole = written_ends segments (text ++ more) written in
    let both : steps nothing_read (text ++ more) ≡ None =
    elim (all_or_up_to nothing_read text) [
      | inl (after, is) ↦ cc
      | inr (before, byte, rest, after, is, stands, bad) ↦
          ap (λ xs. steps nothing_read (xs ++ more)) is ∙ ap (steps nothing_read) (append_assoc before (byte ∷ rest) more)
          ∙ not_on nothing_read after before byte (rest ++ more) stands bad
    ] in
    let some : steps nothing_read (text ++ more) ≡ Some whole.0 = whole.1 in
    cc

-- ---- where a name is `*` alone

ended_star : (reading : Reading) → reading.place ≡ Star → ended reading ≡ None
unfolding ended
ended_star reading is = ap (λ place. ended_at place reading) is

star_refuses : (reading : Reading) (byte : ℕ) → reading.place ≡ Star → IsTrue (not (is_name_byte byte)) → step reading byte ≡ None
star_refuses reading byte is over =
    step-is reading byte ∙ ap (λ place. step_at place reading byte) is
    ∙ (elim (is_name_byte byte) as (λ b. not b ≡ true → cond b (Some (record reading { key = reading.key ++ byte ∷ []; place = Name })) None ≡ None) [
      | true ↦ λ h. cc
      | false ↦ λ h. refl
    ]) over

-- the reading of a text behind which a name may begin, and of a `*` there
star_stands : (text : List ℕ) → NameMayFollow text → (after : Reading) × (steps nothing_read (text ++ star ∷ []) ≡ Some after) × (after.place ≡ Star)
star_stands text (inl nothing) =
    (standing Star [] (star ∷ []) 0, ap (λ xs. steps nothing_read (xs ++ star ∷ [])) nothing ∙ first_byte nothing_read star [] start_begins refl, refl)
star_stands text (inr (path, (segments, written), whole)) =
    let all = written_ends segments path written in
    let behind : Reading = standing Dot segments all.0.key all.0.index in (
      standing Star segments (star ∷ []) all.0.index,
      ap (λ xs. steps nothing_read (xs ++ star ∷ [])) whole ∙ ap (steps nothing_read) (append_assoc path (dot ∷ []) (star ∷ []))
          ∙ steps_on nothing_read all.0 path (dot ∷ (star ∷ [])) all.1
          ∙ dot_read all.0 segments (star ∷ []) all.2
          ∙ first_byte behind star [] (dot_begins segments all.0.key all.0.index) refl,
      refl,
    )

star_before : (before : List ℕ) → refused_at Star (0 + length (before ++ star ∷ [])) ≡ length before
star_before before = omega (arith, length-append before (star ∷ []))

-- such a text is refused there
pub star_is_refused : (text : List ℕ) (place : ℕ) → IsStarAlone text place → path_in text ≡ Err place
star_is_refused text place (before, [], whole, at, follows, over) =
    let stands = star_stands before follows in
    ap path_in whole ∙ reads_all nothing_read stands.0 0 (before ++ star ∷ []) stands.1
    ∙ ap (λ end. or_refused end (refused_at stands.0.place (0 + length (before ++ star ∷ [])))) (ended_star stands.0 stands.2)
    ∙ ap (λ place. Err (refused_at place (0 + length (before ++ star ∷ [])))) stands.2
    ∙ ap Err (star_before before ∙ sym at)
star_is_refused text place (before, byte ∷ after, whole, at, follows, over) =
    let stands = star_stands before follows in
    ap path_in (whole ∙ sym (append_assoc before (star ∷ []) (byte ∷ after)))
    ∙ reads_bad nothing_read stands.0 0 (before ++ star ∷ []) byte after stands.1 (star_refuses stands.0 byte stands.2 over)
    ∙ ap (λ place. Err (refused_at place (0 + length (before ++ star ∷ [])))) stands.2
    ∙ ap Err (star_before before ∙ sym at)

-- ---- the place of a refusal

star_over : (reading : Reading) (byte : ℕ) → reading.place ≡ Star → step reading byte ≡ None → IsTrue (not (is_name_byte byte))
star_over reading byte is none =
    let at_star : step_at Star reading byte ≡ None = ap (λ place. step_at place reading byte) (sym is) ∙ sym (step-is reading byte) ∙ none in
    (elim (is_name_byte byte) as (λ b. cond b (Some (record reading { key = reading.key ++ byte ∷ []; place = Name })) None ≡ None → not b ≡ true) [
      | true ↦ λ h. cc
      | false ↦ λ h. refl
    ]) at_star

follows_from : (segments : List Segment) (text : List ℕ) → IsBeforeName segments text → NameMayFollow text
follows_from segments text (inl (none, nothing)) = inl nothing
follows_from segments text (inr (path, written, whole)) = inr (path, (segments, written), whole)

star_read : (text : List ℕ) (after : Reading) → steps nothing_read text ≡ Some after → after.place ≡ Star
    → (before : List ℕ) × NameMayFollow before × (text ≡ before ++ star ∷ [])
star_read text after is at =
    let read : IsRead after text = read_steps nothing_read after [] text nothing_is_read is in
    let star_here : WasRead Star after.segments after.key after.index text = subst (λ place. WasRead place after.segments after.key after.index text) at read in
    (star_here.0.0, follows_from after.segments star_here.0.0 star_here.0.1, star_here.0.2)

take_all : (xs : List ℕ) → take (length xs) xs ≡ xs
take_all xs = ap (take (length xs)) (append_nothing xs) ∙ take-append_seam xs []

take_before : (xs : List ℕ) (x : ℕ) (more : List ℕ) → take (length xs + 1) (xs ++ x ∷ more) ≡ xs ++ x ∷ []
take_before xs x more = take-append-add xs (x ∷ more) 1

-- whether a place is that of a `*`
is_star : Place → Bool
is_star Star = true
is_star _ = false

star_is : (place : Place) → is_star place ≡ true → place ≡ Star
unfolding is_star
star_is Star is = refl
star_is Start is = cc
star_is Dot is = cc
star_is Name is = cc
star_is Open is = cc
star_is Zero is = cc
star_is Digits is = cc
star_is Quoted is = cc
star_is Escaped is = cc
star_is Unquoted is = cc
star_is Closed is = cc

other_place : (place : Place) (at : ℕ) → is_star place ≡ false → refused_at place at ≡ at
unfolding is_star
other_place Star at is = cc
other_place Start at is = refl
other_place Dot at is = refl
other_place Name at is = refl
other_place Open at is = refl
other_place Zero at is = refl
other_place Digits at is = refl
other_place Quoted at is = refl
other_place Escaped at is = refl
other_place Unquoted at is = refl
other_place Closed at is = refl

-- a text that is cut off: what is read of it may stand, but may not end
cut_off : (text : List ℕ) (place : ℕ) (after : Reading) → steps nothing_read text ≡ Some after → ended after ≡ None
    → path_in text ≡ Err place → IsRefusedPlace text place
cut_off text place after is none refused =
    let all : path_in text ≡ Err (refused_at after.place (0 + length text)) =
    reads_all nothing_read after 0 text is ∙ ap (λ end. or_refused end (refused_at after.place (0 + length text))) none in
    let at : place ≡ refused_at after.place (0 + length text) = cc in
    (elim (is_star after.place) as (λ b. is_star after.place ≡ b → IsRefusedPlace text place) [
      | true ↦ λ e.
          let here : after.place ≡ Star = star_is after.place e in
          let found = star_read text after is here in
          inl (
            found.0,
            [],
            found.2,
            at ∙ ap (λ place. refused_at place (0 + length text)) here
                ∙ ap (λ xs. refused_at Star (0 + length xs)) found.2 ∙ star_before found.0,
            found.1,
            tt,
          )
      | false ↦ λ e.
          let end : place ≡ length text = at ∙ other_place after.place (0 + length text) e ∙ (omega arith) in
          inr (
            (
              subst BeginsPath (sym (ap (λ n. take n text) end ∙ take_all text)) (stands_begins text after is),
              inr (
                end,
                (λ path. let whole = written_ends path.0 text path.1 in
                    let same : whole.0 ≡ after = cc in
                    let other : ended whole.0 ≡ None = ap ended same ∙ none in cc),
              ),
            ),
            (λ other alone. let first : path_in text ≡ Err other = star_is_refused text other alone in
                let same : other ≡ place = cc in
                let count : length text ≡ length alone.0 + (length alone.1 + 1) = ap length alone.2 ∙ length-append alone.0 (star ∷ alone.1) ∙ (omega arith) in
                absurd (omega (arith, alone.3))),
          )
    ]) refl

-- a text with a byte that may not stand
bad_byte : (text : List ℕ) (place : ℕ) (before : List ℕ) (byte : ℕ) (more : List ℕ) (after : Reading) → text ≡ before ++ byte ∷ more
    → steps nothing_read before ≡ Some after → step after byte ≡ None → path_in text ≡ Err place → IsRefusedPlace text place
bad_byte text place before byte more after whole is none refused =
    let all : path_in text ≡ Err (refused_at after.place (0 + length before)) =
    ap path_in whole ∙ reads_bad nothing_read after 0 before byte more is none in
    let at : place ≡ refused_at after.place (0 + length before) = cc in
    (elim (is_star after.place) as (λ b. is_star after.place ≡ b → IsRefusedPlace text place) [
      | true ↦ λ e.
          let here : after.place ≡ Star = star_is after.place e in
          let found = star_read before after is here in
          inl (
            found.0,
            byte ∷ more,
            whole ∙ ap (λ xs. xs ++ byte ∷ more) found.2 ∙ append_assoc found.0 (star ∷ []) (byte ∷ more),
            at ∙ ap (λ place. refused_at place (0 + length before)) here
                ∙ ap (λ xs. refused_at Star (0 + length xs)) found.2 ∙ star_before found.0,
            found.1,
            star_over after byte here none,
          )
      | false ↦ λ e.
          let end : place ≡ length before = at ∙ other_place after.place (0 + length before) e ∙ (omega arith) in
          let first : take place text ≡ before = (λ i. take (end i) (whole i)) ∙ take-append_seam before (byte ∷ more) in
          let next : take (place + 1) text ≡ before ++ byte ∷ [] = (λ i. take (end i + 1) (whole i)) ∙ take_before before byte more in
          let stops : steps nothing_read (before ++ byte ∷ []) ≡ None = not_on nothing_read after before byte [] is none in
          let count : length text ≡ length before + (length more + 1) = ap length whole ∙ length-append before (byte ∷ more) ∙ (omega arith) in
          inr (
            (
              subst BeginsPath (sym first) (stands_begins before after is),
              inl (
                omega arith,
                (λ begun. let there : BeginsPath (before ++ byte ∷ []) = subst BeginsPath next begun in
                    begins_stands (before ++ byte ∷ []) there.0 stops there.1),
              ),
            ),
            (λ other alone. let star_first : path_in text ≡ Err other = star_is_refused text other alone in
                let same : other ≡ place = cc in
                let stands = star_stands alone.0 alone.4 in
                let prefix : alone.0 ++ star ∷ [] ≡ before ++ byte ∷ [] =
                sym (take_before alone.0 star alone.1) ∙ (λ i. take (sym alone.3 i + 1) (sym alone.2 i)) ∙ ap (λ n. take (n + 1) text) same ∙ next in
                let read : steps nothing_read (alone.0 ++ star ∷ []) ≡ Some stands.0 = stands.1 in
                let lost : steps nothing_read (alone.0 ++ star ∷ []) ≡ None = ap (steps nothing_read) prefix ∙ stops in cc),
          )
    ]) refl

ok_or_not : (end : Option (List Segment)) (place : ℕ) → (end ≡ None) ⊎ ((segments : List Segment) × (end ≡ Some segments))
ok_or_not None place = inl refl
ok_or_not (Some segments) place = inr (segments, refl)

-- segments that are read are written as the text
pub read_is_written : (text : List ℕ) (segments : List Segment) → path_in text ≡ Ok segments → IsWritten segments text
read_is_written text segments read =
    elim (all_or_up_to nothing_read text) [
      | inl (after, is) ↦
          let all : path_in text ≡ or_refused (ended after) (refused_at after.place (0 + length text)) = reads_all nothing_read after 0 text is in
          elim (ok_or_not (ended after) 0) [
            | inl none ↦ let no : path_in text ≡ Err (refused_at after.place (0 + length text)) =
                all ∙ ap (λ end. or_refused end (refused_at after.place (0 + length text))) none in cc
            | inr (found, some) ↦
                let yes : path_in text ≡ Ok found = all ∙ ap (λ end. or_refused end (refused_at after.place (0 + length text))) some in
                let same : found ≡ segments = cc in
                subst (λ segments. IsWritten segments text) same (read_end after found text (read_steps nothing_read after [] text nothing_is_read is) some)
          ]
      | inr (before, byte, more, after, whole, is, none) ↦
          let no : path_in text ≡ Err (refused_at after.place (0 + length before)) =
          ap path_in whole ∙ reads_bad nothing_read after 0 before byte more is none in cc
    ]

-- a text that segments are written as is read as these
pub written_is_read : (text : List ℕ) (segments : List Segment) → IsWritten segments text → path_in text ≡ Ok segments
written_is_read text segments written =
    let whole = written_ends segments text written in
    reads_all nothing_read whole.0 0 text whole.1 ∙ ap (λ end. or_refused end (refused_at whole.0.place (0 + length text))) whole.2

-- another text is refused at the place for it
pub refused_is_place : (text : List ℕ) (place : ℕ) → path_in text ≡ Err place → IsRefusedPlace text place
refused_is_place text place refused =
    elim (all_or_up_to nothing_read text) [
      | inl (after, is) ↦ elim (ok_or_not (ended after) 0) [
        | inl none ↦ cut_off text place after is none refused
        | inr (found, some) ↦
            let yes : path_in text ≡ Ok found = reads_all nothing_read after 0 text is ∙ ap (λ end. or_refused end (refused_at after.place (0 + length text))) some in
            cc
      ]
      | inr (before, byte, more, after, whole, is, none) ↦ bad_byte text place before byte more after whole is none refused
    ]

-- ---- no other place

pub path_is_read : (text : List ℕ) → IsPath text → is_ok (path_in text) ≡ true
path_is_read text (segments, written) = ap (λ (r : Result (List Segment) ℕ). is_ok r) (written_is_read text segments written)

pub read_is_path : (text : List ℕ) → is_ok (path_in text) ≡ true → IsPath text
read_is_path text is =
    (elim (path_in text) as (λ (r : Result (List Segment) ℕ). path_in text ≡ r → is_ok r ≡ true → IsPath text) [
      | Ok segments ↦ λ read is. (segments, read_is_written text segments read)
      | Err place ↦ λ read is. cc
    ]) refl is

-- what a path begins with begins one up to each place
begins_before : (text : List ℕ) (place : ℕ) → BeginsPath text → BeginsPath (take place text)
begins_before text place (more, path) =
    (drop place text ++ more, subst IsPath (ap (λ xs. xs ++ more) (sym (take-append-drop place text)) ∙ append_assoc (take place text) (drop place text) more) path)

begins_up_to : (text : List ℕ) (one other : ℕ) → one ≤ other → BeginsPath (take other text) → BeginsPath (take one text)
begins_up_to text one other below begun =
    subst BeginsPath (take-take one other text below) (begins_before (take other text) one begun)

path_begins : (text : List ℕ) → IsPath text → BeginsPath text
path_begins text path = ([], subst IsPath (append_nothing text) path)

not_path : (text : List ℕ) (place : ℕ) → GoesOnNoMoreAt text place → IsPath text → ⊥
not_path text place (begun, inl (within, stops)) path = stops (begins_before text (place + 1) (path_begins text path))
not_path text place (begun, inr (end, no_path)) path = no_path path

not_below : (text : List ℕ) (one other : ℕ) → GoesOnNoMoreAt text one → GoesOnNoMoreAt text other → other ≤ length text → one < other → ⊥
not_below text one other (begun, inl (within, stops)) (also, rest) bound below =
    stops (begins_up_to text (one + 1) other (omega arith) also)
not_below text one other (begun, inr (end, no_path)) (also, rest) bound below = omega arith

within_text : (text : List ℕ) (place : ℕ) → GoesOnNoMoreAt text place → place ≤ length text
within_text text place (begun, inl (within, stops)) = omega arith
within_text text place (begun, inr (end, no_path)) = omega arith

-- a text with a place for its refusal is refused there
pub place_is_refused : (text : List ℕ) (place : ℕ) → IsRefusedPlace text place → path_in text ≡ Err place
place_is_refused text place (inl alone) = star_is_refused text place alone
place_is_refused text place (inr (stops, no_star)) =
    (elim (path_in text) as (λ (r : Result (List Segment) ℕ). path_in text ≡ r → r ≡ Err place) [
      | Ok segments ↦ λ read. absurd (not_path text place stops (segments, read_is_written text segments read))
      | Err found ↦ λ read. elim (refused_is_place text found read) [
        | inl alone ↦ absurd (no_star found alone)
        | inr (others, none) ↦
            let below : place < found → ⊥ = not_below text place found stops others (within_text text found others) in
            let above : found < place → ⊥ = not_below text found place others stops (within_text text place stops) in
            let same : found ≡ place = omega arith in
            ap Err same
      ]
    ]) refl
