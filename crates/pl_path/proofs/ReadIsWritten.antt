-- What is read of a text is written as it: what each place of the reading tells of the bytes so far.
use Rattle.std.proofs.Common.{◌≡◌, ℕ, ◌+◌, ◌-◌, ◌/◌, ◌%◌, ◌<◌, ◌≤◌, ◌==◌, Bool, true, false, cond, nat_le, List, [], ◌∷◌, ◌++◌, ◌⊎◌, inl, inr, Option, None, Some, refl, sym, ap, subst, ◌∙◌, arith}
use Rattle.std.proofs.lemmas.Bool.{and_parts, and_from}
use Rattle.std.proofs.lemmas.Fmt.{decimal_step, decimal_digit}
use Rattle.std.proofs.lemmas.List.{append_assoc}
use Rattle.std.proofs.lemmas.Nat.{div-add-mod', div-mul-add}
use Rattle.std.proofs.lemmas.List.Folds.{list_all-append}
use Rattle.std.specs.Char.{is_ascii_digit}
use Rattle.std.specs.Fmt.{decimal}
use Rattle.pl_lemmas.proofs.Numbers.{equal_numbers}
use Rattle.pl_path.specs.declared.segment.Segment.{Segment}
use Rattle.pl_path.specs.declared.segment.Segment.TheVariants.{Key, Index}
use Rattle.pl_path.specs.declared.reading.Place.{Place}
use Rattle.pl_path.specs.declared.reading.Place.TheVariants.{Start, Dot, Star, Name, Open, Zero, Digits, Quoted, Escaped, Unquoted, Closed}
use Rattle.pl_path.specs.declared.reading.Reading.{Reading}
use Rattle.pl_path.specs.Steps.{digit_zero, ended, ended_at, goes_on, name_place, step, step_at, with_digit}
use Rattle.pl_path.specs.Written.{dot, opening, closing, quote, backslash, star, greatest_index, is_name_byte, is_escaped, IsName, escaped, in_brackets, IsNamed, IsBracketed, IsFirst, IsFurther, AreFurther, IsWritten}

-- ---- one segment more

pub append_nothing : (xs : List ℕ) → xs ≡ xs ++ []
append_nothing [] = refl
append_nothing (x ∷ xs) = ap (λ more. x ∷ more) (append_nothing xs)

one_further : (segment : Segment) (text : List ℕ) → IsFurther segment text → AreFurther (segment ∷ []) text
one_further segment text is = (text, [], is, refl, append_nothing text)

further_more : (segments : List Segment) (before : List ℕ) (segment : Segment) (text : List ℕ) → AreFurther segments before
    → IsFurther segment text → AreFurther (segments ++ segment ∷ []) (before ++ text)
further_more [] before segment text none is =
    subst (AreFurther (segment ∷ [])) (ap (λ xs. xs ++ text) (sym none)) (one_further segment text is)
further_more (first ∷ segments) before segment text (here, rest, is_first, more, whole) is =
    (here, rest ++ text, is_first, further_more segments rest segment text more is, ap (λ xs. xs ++ text) whole ∙ append_assoc here rest text)

pub written_more : (segments : List Segment) (before : List ℕ) (segment : Segment) (text : List ℕ) → IsWritten segments before
    → IsFurther segment text → IsWritten (segments ++ segment ∷ []) (before ++ text)
written_more [] before segment text none is = absurd none
written_more (first ∷ segments) before segment text (here, rest, is_first, more, whole) is =
    (here, rest ++ text, is_first, further_more segments rest segment text more is, ap (λ xs. xs ++ text) whole ∙ append_assoc here rest text)

pub written_first : (segment : Segment) (text : List ℕ) → IsFirst segment text → IsWritten (segment ∷ []) text
written_first segment text is = (text, [], is, refl, append_nothing text)

-- ---- what stands before a segment

-- nothing, or a path
abbrev pub IsBefore : List Segment → List ℕ → Type 0
IsBefore segments text = ((segments ≡ []) × (text ≡ [])) ⊎ IsWritten segments text

-- a name may begin behind it: nothing, or a path and a `.`
abbrev pub IsBeforeName : List Segment → List ℕ → Type 0
IsBeforeName segments text =
    ((segments ≡ []) × (text ≡ [])) ⊎ ((path : List ℕ) × IsWritten segments path × (text ≡ path ++ dot ∷ []))

pub bracketed_more : (segments : List Segment) (before : List ℕ) (segment : Segment) (text : List ℕ) → IsBefore segments before
    → IsBracketed segment text → IsWritten (segments ++ segment ∷ []) (before ++ text)
bracketed_more segments before segment text (inl (none, nothing)) is =
    subst (λ (p : List Segment × List ℕ). IsWritten (p.0 ++ segment ∷ []) (p.1 ++ text)) (λ i. (sym none i, sym nothing i))
    (written_first segment text (inr is))
bracketed_more segments before segment text (inr written) is = written_more segments before segment text written (inr is)

pub named_more : (segments : List Segment) (before : List ℕ) (segment : Segment) (text : List ℕ) → IsBeforeName segments before
    → IsNamed segment text → IsWritten (segments ++ segment ∷ []) (before ++ text)
named_more segments before segment text (inl (none, nothing)) is =
    subst (λ (p : List Segment × List ℕ). IsWritten (p.0 ++ segment ∷ []) (p.1 ++ text)) (λ i. (sym none i, sym nothing i))
    (written_first segment text (inl is))
named_more segments before segment text (inr (path, written, whole)) is =
    subst (IsWritten (segments ++ segment ∷ [])) (sym (ap (λ xs. xs ++ text) whole ∙ append_assoc path (dot ∷ []) text))
    (written_more segments path segment (dot ∷ text) written (inl (text, is, refl)))

-- ---- what each place tells

-- a text and what it goes on with
abbrev pub Behind : (List ℕ → Type 0) → List ℕ → List ℕ → Type 0
Behind Before more text = (before : List ℕ) × Before before × (text ≡ before ++ more)

abbrev pub WasRead : Place → List Segment → List ℕ → ℕ → List ℕ → Type 0
WasRead Start segments key index text = (segments ≡ []) × (text ≡ [])
WasRead Dot segments key index text = Behind (IsWritten segments) (dot ∷ []) text
WasRead Star segments key index text = Behind (IsBeforeName segments) (star ∷ []) text × (key ≡ star ∷ [])
WasRead Name segments key index text = Behind (IsBeforeName segments) key text × IsName key
WasRead Open segments key index text = Behind (IsBefore segments) (opening ∷ []) text
WasRead Zero segments key index text = Behind (IsBefore segments) (opening ∷ decimal 0) text
WasRead Digits segments key index text = Behind (IsBefore segments) (opening ∷ decimal index) text × (0 < index) × (index ≤ greatest_index)
WasRead Quoted segments key index text = Behind (IsBefore segments) (opening ∷ quote ∷ escaped key) text
WasRead Escaped segments key index text = Behind (IsBefore segments) (opening ∷ quote ∷ (escaped key ++ backslash ∷ [])) text
WasRead Unquoted segments key index text = Behind (IsBefore segments) (opening ∷ quote ∷ (escaped key ++ quote ∷ [])) text
WasRead Closed segments key index text = IsWritten segments text

abbrev pub IsRead : Reading → List ℕ → Type 0
IsRead reading text = WasRead reading.place reading.segments reading.key reading.index text

behind_more : (Before : List ℕ → Type 0) (more : List ℕ) (text : List ℕ) (byte : ℕ) → Behind Before more text → Behind Before (more ++ byte ∷ []) (text ++ byte ∷ [])
behind_more Before more text byte (before, is, whole) =
    (before, is, ap (λ xs. xs ++ byte ∷ []) whole ∙ append_assoc before more (byte ∷ []))

-- ---- tests

-- a choice that is there: the first by its test, or what follows
chosen : (test : Bool) (first after : Reading) (rest : Option Reading) → cond test (Some first) rest ≡ Some after
    → ((test ≡ true) × (first ≡ after)) ⊎ ((test ≡ false) × (rest ≡ Some after))
chosen true first after rest is = inl (refl, cc)
chosen false first after rest is = inr (refl, is)

last_chosen : (test : Bool) (first after : Reading) → cond test (Some first) None ≡ Some after → (test ≡ true) × (first ≡ after)
last_chosen true first after is = (refl, cc)
last_chosen false first after is = cc

-- ---- names

name_begins : (byte : ℕ) → is_name_byte byte ≡ true → (byte == star) ≡ false → IsName (byte ∷ [])
name_begins byte is other =
    ((λ h. cc), (λ (h : byte ∷ [] ≡ star ∷ []). let same : byte ≡ star = cc in grind arith), and_from _ _ is refl)

name_goes_on : (byte : ℕ) (key : List ℕ) → is_name_byte byte ≡ true → IsName key → IsName (key ++ byte ∷ [])
name_goes_on byte [] is name = absurd (name.0 refl)
name_goes_on byte (first ∷ []) is name =
    ((λ h. cc), (λ h. cc), list_all-append is_name_byte (first ∷ []) (byte ∷ []) ∙ and_from _ _ name.2 (and_from _ _ is refl))
name_goes_on byte (first ∷ (second ∷ more)) is name =
    ((λ h. cc), (λ h. cc), list_all-append is_name_byte (first ∷ (second ∷ more)) (byte ∷ []) ∙ and_from _ _ name.2 (and_from _ _ is refl))

star_goes_on : (byte : ℕ) → is_name_byte byte ≡ true → IsName (star ∷ (byte ∷ []))
star_goes_on byte is = ((λ h. cc), (λ h. cc), and_from _ _ is refl)

begun : (segments : List Segment) (index byte : ℕ) (key text : List ℕ) (after : Reading) → IsBeforeName segments text
    → cond (is_name_byte byte) (Some (record { segments = segments; key = byte ∷ []; index = index; place = name_place byte })) None ≡ Some after
    → IsRead after (text ++ byte ∷ [])
begun segments index byte key text after before is =
    let first : Reading = record { segments = segments; key = byte ∷ []; index = index; place = name_place byte } in
    let found = last_chosen (is_name_byte byte) first after is in
    let here : IsRead first (text ++ byte ∷ []) =
    (elim (byte == star) as (λ b. (byte == star) ≡ b → WasRead (cond b Star Name) segments (byte ∷ []) index (text ++ byte ∷ [])) [
      | true ↦ λ e. let same : byte ≡ star = equal_numbers byte star e in
          ((text, before, ap (λ one. text ++ one ∷ []) same), ap (λ one. one ∷ []) same)
      | false ↦ λ e. ((text, before, refl), name_begins byte found.0 e)
    ]) refl in
    subst (λ reading. IsRead reading (text ++ byte ∷ [])) found.1 here

-- what follows a segment
followed : (reading after : Reading) (byte : ℕ) (text : List ℕ) → IsWritten reading.segments text
    → cond (byte == dot) (Some (record reading { place = Dot })) (cond (byte == opening) (Some (record reading { place = Open })) None) ≡ Some after
    → IsRead after (text ++ byte ∷ [])
followed reading after byte text written is =
    elim (chosen (byte == dot) (record reading { place = Dot }) after (cond (byte == opening) (Some (record reading { place = Open })) None) is) [
      | inl h ↦ subst (λ reading. IsRead reading (text ++ byte ∷ [])) h.1 (text, written, ap (λ one. text ++ one ∷ []) (equal_numbers byte dot h.0))
      | inr h ↦ let found = last_chosen (byte == opening) (record reading { place = Open }) after h.1 in
          subst (λ reading. IsRead reading (text ++ byte ∷ [])) found.1 (text, inr written, ap (λ one. text ++ one ∷ []) (equal_numbers byte opening found.0))
    ]

-- the `]` of a segment in brackets
closed : (reading after : Reading) (segment : Segment) (byte : ℕ) (text inner : List ℕ) → Behind (IsBefore reading.segments) (opening ∷ inner) text
    → IsBracketed segment (in_brackets inner)
    → cond (byte == closing) (Some (record reading { segments = reading.segments ++ segment ∷ []; place = Closed })) None ≡ Some after
    → IsRead after (text ++ byte ∷ [])
closed reading after segment byte text inner (before, is_before, whole) bracketed is =
    let found = last_chosen (byte == closing) (record reading { segments = reading.segments ++ segment ∷ []; place = Closed }) after is in
    let all : before ++ in_brackets inner ≡ text ++ byte ∷ [] =
    sym ((λ i. whole i ++ equal_numbers byte closing found.0 i ∷ []) ∙ append_assoc before (opening ∷ inner) (closing ∷ [])) in
    subst (λ reading. IsRead reading (text ++ byte ∷ [])) found.1
    (subst (IsWritten (reading.segments ++ segment ∷ [])) all
    (bracketed_more reading.segments before segment (in_brackets inner) is_before bracketed))

-- ---- digits

abbrev IsDigit : ℕ → Type 0
IsDigit byte = (digit_zero ≤ byte) × (byte < digit_zero + 10)

digit_is : (byte : ℕ) → is_ascii_digit byte ≡ true → IsDigit byte
digit_is byte is = let parts = and_parts (nat_le 48 byte) (nat_le byte 57) is in (grind arith, grind arith)

zero_digit : decimal 0 ≡ digit_zero ∷ []
zero_digit = decimal_digit 0 (omega arith)

one_digit : (byte : ℕ) → IsDigit byte → decimal (byte - digit_zero) ≡ byte ∷ []
one_digit byte is =
    let back : digit_zero + (byte - digit_zero) ≡ byte = omega arith in
    decimal_digit (byte - digit_zero) (omega arith) ∙ ap (λ one. one ∷ []) back

more_digits : (index byte : ℕ) → 0 < index → with_digit index byte ≤ greatest_index → IsDigit byte
    → decimal (with_digit index byte) ≡ decimal index ++ byte ∷ []
more_digits index byte some small is =
    let tenth : with_digit index byte / 10 ≡ index = div-mul-add index 10 (byte - digit_zero) (omega arith) in
    let last : 48 + with_digit index byte % 10 ≡ byte = omega (arith, div-add-mod' (with_digit index byte) 10) in
    decimal_step (with_digit index byte) (omega arith) (omega arith) ∙ (λ i. decimal (tenth i) ++ last i ∷ [])

-- ---- quoted texts

escaped-append : (key : List ℕ) (byte : ℕ) → escaped (key ++ byte ∷ []) ≡ escaped key ++ escaped (byte ∷ [])
escaped-append [] byte = refl
escaped-append (first ∷ key) byte =
    elim (is_escaped first) as (λ b. cond b (backslash ∷ first ∷ escaped (key ++ byte ∷ [])) (first ∷ escaped (key ++ byte ∷ []))
    ≡ cond b (backslash ∷ first ∷ escaped key) (first ∷ escaped key) ++ escaped (byte ∷ [])) [
      | true ↦ ap (λ more. backslash ∷ first ∷ more) (escaped-append key byte)
      | false ↦ ap (λ more. first ∷ more) (escaped-append key byte)
    ]

escaped_plain : (key : List ℕ) (byte : ℕ) → is_escaped byte ≡ false → escaped (key ++ byte ∷ []) ≡ escaped key ++ byte ∷ []
escaped_plain key byte is =
    escaped-append key byte ∙ ap (λ b. escaped key ++ cond b (backslash ∷ byte ∷ []) (byte ∷ [])) is

pub escaped_other : (key : List ℕ) (byte : ℕ) → is_escaped byte ≡ true → escaped (key ++ byte ∷ []) ≡ (escaped key ++ backslash ∷ []) ++ byte ∷ []
escaped_other key byte is =
    escaped-append key byte ∙ ap (λ b. escaped key ++ cond b (backslash ∷ byte ∷ []) (byte ∷ [])) is
    ∙ sym (append_assoc (escaped key) (backslash ∷ []) (byte ∷ []))

-- ---- one byte more

behind_other : (Before : List ℕ → Type 0) (more other text : List ℕ) (byte : ℕ) → more ++ byte ∷ [] ≡ other → Behind Before more text
    → Behind Before other (text ++ byte ∷ [])
behind_other Before more other text byte is behind =
    subst (λ xs. Behind Before xs (text ++ byte ∷ [])) is (behind_more Before more text byte behind)

pub read_step : (place : Place) (reading after : Reading) (byte : ℕ) (text : List ℕ) → reading.place ≡ place
    → WasRead place reading.segments reading.key reading.index text → step_at place reading byte ≡ Some after → IsRead after (text ++ byte ∷ [])
read_step Start reading after byte text at (none, nothing) is =
    elim (chosen (byte == opening) (record reading { place = Open }) after _ is) [
      | inl h ↦ subst (λ reading. IsRead reading (text ++ byte ∷ [])) h.1
          (text, inl (none, nothing), ap (λ one. text ++ one ∷ []) (equal_numbers byte opening h.0))
      | inr h ↦ begun reading.segments reading.index byte reading.key text after (inl (none, nothing)) h.1
    ]
read_step Dot reading after byte text at behind is =
    begun reading.segments reading.index byte reading.key text after (inr behind) is
read_step Star reading after byte text at (behind, star_is) is =
    let found = last_chosen (is_name_byte byte) (record reading { key = reading.key ++ byte ∷ []; place = Name }) after is in
    let key : star ∷ (byte ∷ []) ≡ reading.key ++ byte ∷ [] = ap (λ xs. xs ++ byte ∷ []) (sym star_is) in
    subst (λ reading. IsRead reading (text ++ byte ∷ [])) found.1
    (behind_other (IsBeforeName reading.segments) (star ∷ []) (reading.key ++ byte ∷ []) text byte key behind, subst IsName key (star_goes_on byte found.0))
read_step Name reading after byte text at (behind, name) is =
    elim (chosen (is_name_byte byte) (record reading { key = reading.key ++ byte ∷ []; place = Name }) after _ is) [
      | inl h ↦ subst (λ reading. IsRead reading (text ++ byte ∷ [])) h.1
          (behind_more (IsBeforeName reading.segments) reading.key text byte behind, name_goes_on byte reading.key h.0 name)
      | inr h ↦ followed (record reading { segments = reading.segments ++ Key reading.key ∷ []; place = Closed }) after byte text
          (subst (IsWritten (reading.segments ++ Key reading.key ∷ [])) (sym behind.2)
          (named_more reading.segments behind.0 (Key reading.key) reading.key behind.1 (name, refl))) h.1
    ]
read_step Open reading after byte text at behind is =
    elim (chosen (byte == quote) (record reading { key = []; place = Quoted }) after _ is) [
      | inl h ↦ subst (λ reading. IsRead reading (text ++ byte ∷ [])) h.1
          (behind_other (IsBefore reading.segments) (opening ∷ []) (opening ∷ quote ∷ []) text byte (ap (λ one. opening ∷ one ∷ []) (equal_numbers byte quote h.0)) behind)
      | inr h ↦ elim (chosen (byte == digit_zero) (record reading { index = 0; place = Zero }) after _ h.1) [
        | inl k ↦ subst (λ reading. IsRead reading (text ++ byte ∷ [])) k.1
            (behind_other (IsBefore reading.segments) (opening ∷ []) (opening ∷ decimal 0) text byte (ap (λ one. opening ∷ one ∷ []) (equal_numbers byte digit_zero k.0) ∙ ap (λ xs. opening ∷ xs) (sym zero_digit)) behind)
        | inr k ↦
            let found = last_chosen (is_ascii_digit byte) (record reading { index = byte - digit_zero; place = Digits }) after k.1 in
            let digit : IsDigit byte = digit_is byte found.0 in
            let no_zero : (byte == digit_zero) ≡ false = k.0 in
            let some : 0 < byte - digit_zero = grind arith in
            let small : byte - digit_zero ≤ greatest_index = omega arith in
            subst (λ reading. IsRead reading (text ++ byte ∷ [])) found.1 (
              behind_other (IsBefore reading.segments) (opening ∷ []) (opening ∷ decimal (byte - digit_zero)) text byte
                  (ap (λ xs. opening ∷ xs) (sym (one_digit byte digit))) behind,
              some,
              small,
            )
      ]
    ]
read_step Zero reading after byte text at behind is =
    closed reading after (Index 0) byte text (decimal 0) behind ((omega arith), refl) is
read_step Digits reading after byte text at (behind, some, small) is =
    elim (chosen (goes_on reading.index byte) (record reading { index = with_digit reading.index byte }) after _ is) [
      | inl h ↦
          let parts = and_parts (is_ascii_digit byte) (nat_le (with_digit reading.index byte) greatest_index) h.0 in
          let digit : IsDigit byte = digit_is byte parts.0 in
          let fits : with_digit reading.index byte ≤ greatest_index = grind arith in
          let here : WasRead Digits reading.segments reading.key (with_digit reading.index byte) (text ++ byte ∷ []) = (
            behind_other (IsBefore reading.segments) (opening ∷ decimal reading.index) (opening ∷ decimal (with_digit reading.index byte)) text byte
                (ap (λ xs. opening ∷ xs) (sym (more_digits reading.index byte some fits digit))) behind,
            omega arith,
            fits,
          ) in
          subst (λ reading. IsRead reading (text ++ byte ∷ [])) h.1
          (subst (λ place. WasRead place reading.segments reading.key (with_digit reading.index byte) (text ++ byte ∷ [])) (sym at) here)
      | inr h ↦ closed reading after (Index reading.index) byte text (decimal reading.index) behind (small, refl) h.1
    ]
read_step Quoted reading after byte text at behind is =
    elim (chosen (byte == quote) (record reading { place = Unquoted }) after _ is) [
      | inl h ↦ subst (λ reading. IsRead reading (text ++ byte ∷ [])) h.1
          (behind_other (IsBefore reading.segments) (opening ∷ quote ∷ escaped reading.key) (opening ∷ quote ∷ (escaped reading.key ++ quote ∷ [])) text byte
          (ap (λ one. opening ∷ quote ∷ (escaped reading.key ++ one ∷ [])) (equal_numbers byte quote h.0)) behind)
      | inr h ↦ elim (chosen (byte == backslash) (record reading { place = Escaped }) after _ h.1) [
        | inl k ↦ subst (λ reading. IsRead reading (text ++ byte ∷ [])) k.1
            (behind_other (IsBefore reading.segments) (opening ∷ quote ∷ escaped reading.key) (opening ∷ quote ∷ (escaped reading.key ++ backslash ∷ [])) text byte
            (ap (λ one. opening ∷ quote ∷ (escaped reading.key ++ one ∷ [])) (equal_numbers byte backslash k.0)) behind)
        | inr k ↦
            let plain : is_escaped byte ≡ false = rw h.0 k.0 in
            let same : record reading { key = reading.key ++ byte ∷ []; place = Quoted } ≡ after = cc in
            subst (λ reading. IsRead reading (text ++ byte ∷ [])) same
            (behind_other (IsBefore reading.segments) (opening ∷ quote ∷ escaped reading.key) (opening ∷ quote ∷ escaped (reading.key ++ byte ∷ [])) text byte
            (ap (λ xs. opening ∷ quote ∷ xs) (sym (escaped_plain reading.key byte plain))) behind)
      ]
    ]
read_step Escaped reading after byte text at behind is =
    let found = last_chosen (is_escaped byte) (record reading { key = reading.key ++ byte ∷ []; place = Quoted }) after is in
    subst (λ reading. IsRead reading (text ++ byte ∷ [])) found.1
    (behind_other (IsBefore reading.segments) (opening ∷ quote ∷ (escaped reading.key ++ backslash ∷ [])) (opening ∷ quote ∷ escaped (reading.key ++ byte ∷ [])) text byte
    (ap (λ xs. opening ∷ quote ∷ xs) (sym (escaped_other reading.key byte found.0))) behind)
read_step Unquoted reading after byte text at behind is =
    closed reading after (Key reading.key) byte text (quote ∷ (escaped reading.key ++ quote ∷ [])) behind refl is
read_step Closed reading after byte text at written is = followed reading after byte text written is

-- ---- all bytes

-- what was read after more bytes, if they may stand there
abbrev pub steps : Reading → List ℕ → Option Reading
steps reading [] = Some reading
steps reading (byte ∷ more) = elim (step reading byte) [ None ↦ None | Some after ↦ steps after more ]

opened_step : (reading after : Reading) (byte : ℕ) → step reading byte ≡ Some after → step_at reading.place reading byte ≡ Some after
unfolding step
opened_step reading after byte is = is

pub read_steps : (reading after : Reading) (text more : List ℕ) → IsRead reading text → steps reading more ≡ Some after → IsRead after (text ++ more)
read_steps reading after text [] read is =
    let same : reading ≡ after = cc in subst (λ reading. IsRead reading (text ++ [])) same (subst (IsRead reading) (append_nothing text) read)
read_steps reading after text (byte ∷ more) read is =
    (elim (step reading byte) as (λ stepped. step reading byte ≡ stepped → elim stepped [ None ↦ None | Some next ↦ steps next more ] ≡ Some after
    → IsRead after (text ++ byte ∷ more)) [
      | None ↦ λ stepped is. cc
      | Some next ↦ λ stepped is.
          let here : IsRead next (text ++ byte ∷ []) = read_step reading.place reading next byte text refl read (opened_step reading next byte stepped) in
          subst (IsRead after) (append_assoc text (byte ∷ []) more) (read_steps next after (text ++ byte ∷ []) more here is)
    ]) refl is

-- ---- the end

ended_at_place : (place : Place) (reading : Reading) (segments : List Segment) (text : List ℕ)
    → WasRead place reading.segments reading.key reading.index text → ended_at place reading ≡ Some segments → IsWritten segments text
ended_at_place Start reading segments text read is = cc
ended_at_place Dot reading segments text read is = cc
ended_at_place Star reading segments text read is = cc
ended_at_place Name reading segments text (behind, name) is =
    let same : reading.segments ++ Key reading.key ∷ [] ≡ segments = cc in
    subst (λ segments. IsWritten segments text) same
    (subst (IsWritten (reading.segments ++ Key reading.key ∷ [])) (sym behind.2)
    (named_more reading.segments behind.0 (Key reading.key) reading.key behind.1 (name, refl)))
ended_at_place Open reading segments text read is = cc
ended_at_place Zero reading segments text read is = cc
ended_at_place Digits reading segments text read is = cc
ended_at_place Quoted reading segments text read is = cc
ended_at_place Escaped reading segments text read is = cc
ended_at_place Unquoted reading segments text read is = cc
ended_at_place Closed reading segments text written is =
    let same : reading.segments ≡ segments = cc in subst (λ segments. IsWritten segments text) same written

pub read_end : (reading : Reading) (segments : List Segment) (text : List ℕ) → IsRead reading text → ended reading ≡ Some segments → IsWritten segments text
unfolding ended
read_end reading segments text read is = ended_at_place reading.place reading segments text read is
