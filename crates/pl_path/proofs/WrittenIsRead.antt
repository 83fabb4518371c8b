-- A text that segments are written as is read as these: the reading goes through each form of a segment.
use Rattle.std.proofs.Common.{◌≡◌, ℕ, ◌+◌, ◌-◌, ◌*◌, ◌/◌, ◌%◌, ◌<◌, ◌≤◌, ◌==◌, Bool, true, false, cond, nat_le, List, [], ◌∷◌, ◌++◌, inl, inr, Option, None, Some, refl, sym, ap, ◌∙◌, arith}
use Rattle.std.proofs.lemmas.Bool.{and_parts, and_from}
use Rattle.std.proofs.lemmas.Fmt.{decimal_by_steps}
use Rattle.std.proofs.lemmas.List.{append_assoc}
use Rattle.std.proofs.lemmas.Nat.{div-add-mod'}
use Rattle.std.specs.Char.{is_ascii_digit}
use Rattle.std.specs.Fmt.{decimal}
use Rattle.std.specs.List.{list_all}
use Rattle.pl_path.specs.declared.segment.Segment.{Segment}
use Rattle.pl_path.specs.declared.segment.Segment.TheVariants.{Key, Index}
use Rattle.pl_path.specs.declared.reading.Place.{Place}
use Rattle.pl_path.specs.declared.reading.Place.TheVariants.{Start, Dot, Star, Name, Open, Zero, Digits, Quoted, Escaped, Unquoted, Closed}
use Rattle.pl_path.specs.declared.reading.Reading.{Reading}
use Rattle.pl_path.specs.Steps.{begins_name, digit_zero, ended, ended_at, goes_on, name_place, nothing_read, opens, step, step_at, with_digit}
use Rattle.pl_path.specs.Written.{dot, opening, closing, quote, backslash, star, greatest_index, is_name_byte, is_escaped, IsName, escaped, IsNamed, IsBracketed, IsFirst, IsFurther, AreFurther, IsWritten}
use Rattle.pl_path.proofs.ReadIsWritten.{append_nothing, steps}

-- a reading with these parts
abbrev pub standing : Place → List Segment → List ℕ → ℕ → Reading
standing place segments key index = record { segments = segments; key = key; index = index; place = place }

-- ---- steps

pub steps_on : (reading after : Reading) (text more : List ℕ) → steps reading text ≡ Some after → steps reading (text ++ more) ≡ steps after more
steps_on reading after [] more is = let same : reading ≡ after = cc in ap (λ reading. steps reading more) same
steps_on reading after (byte ∷ text) more is =
    (elim (step reading byte) as (λ stepped. elim stepped [ None ↦ None | Some next ↦ steps next text ] ≡ Some after
    → elim stepped [ None ↦ None | Some next ↦ steps next (text ++ more) ] ≡ steps after more) [
      | None ↦ λ is. cc
      | Some next ↦ λ is. steps_on next after text more is
    ]) is

pub step-is : (reading : Reading) (byte : ℕ) → step reading byte ≡ step_at reading.place reading byte
unfolding step
step-is reading byte = refl

-- where one byte is read
pub one_step : (reading after : Reading) (byte : ℕ) (more : List ℕ) → step_at reading.place reading byte ≡ Some after → steps reading (byte ∷ more) ≡ steps after more
one_step reading after byte more is =
    ap (λ (stepped : Option Reading). elim stepped [ None ↦ None | Some next ↦ steps next more ]) (step-is reading byte ∙ is)

taken : (test : Bool) (one other : Option Reading) → test ≡ true → cond test one other ≡ one
taken test one other is = ap (λ b. cond b one other) is

left : (test : Bool) (one other : Option Reading) → test ≡ false → cond test one other ≡ other
left test one other is = ap (λ b. cond b one other) is

-- ---- names

names_on : (segments : List Segment) (key : List ℕ) (index : ℕ) (more : List ℕ) → list_all is_name_byte more ≡ true
    → steps (standing Name segments key index) more ≡ Some (standing Name segments (key ++ more) index)
names_on segments key index [] all = ap (λ key. Some (standing Name segments key index)) (append_nothing key)
names_on segments key index (byte ∷ more) all =
    let parts = and_parts (is_name_byte byte) (list_all is_name_byte more) all in
    one_step (standing Name segments key index) (standing Name segments (key ++ byte ∷ []) index) byte more (taken (is_name_byte byte) _ _ parts.0)
    ∙ names_on segments (key ++ byte ∷ []) index more parts.1
    ∙ ap (λ key. Some (standing Name segments key index)) (append_assoc key (byte ∷ []) more)

other_byte : (byte other : ℕ) → (byte ≡ other → ⊥) → (byte == other) ≡ false
other_byte byte other apart = grind arith

second_byte : (segments : List Segment) (byte second : ℕ) (index : ℕ) (more : List ℕ) (is_star : Bool) → list_all is_name_byte (second ∷ more) ≡ true
    → steps (standing (cond is_star Star Name) segments (byte ∷ []) index) (second ∷ more) ≡ Some (standing Name segments (byte ∷ (second ∷ more)) index)
second_byte segments byte second index more true all =
    let parts = and_parts (is_name_byte second) (list_all is_name_byte more) all in
    one_step (standing Star segments (byte ∷ []) index) (standing Name segments (byte ∷ (second ∷ [])) index) second more (taken (is_name_byte second) _ _ parts.0)
    ∙ names_on segments (byte ∷ (second ∷ [])) index more parts.1
second_byte segments byte second index more false all = names_on segments (byte ∷ []) index (second ∷ more) all

-- a reading at which a name may begin
abbrev pub BeginsName : Reading → Type 0
BeginsName reading = (byte : ℕ) → is_name_byte byte ≡ true → step_at reading.place reading byte ≡ begins_name reading byte

pub first_byte : (reading : Reading) (byte : ℕ) (more : List ℕ) → BeginsName reading → is_name_byte byte ≡ true
    → steps reading (byte ∷ more) ≡ steps (standing (name_place byte) reading.segments (byte ∷ []) reading.index) more
first_byte reading byte more begins is =
    one_step reading (standing (name_place byte) reading.segments (byte ∷ []) reading.index) byte more (begins byte is ∙ taken (is_name_byte byte) _ _ is)

name_read : (reading : Reading) (name : List ℕ) → BeginsName reading → IsName name
    → steps reading name ≡ Some (standing Name reading.segments name reading.index)
name_read reading [] begins name = absurd (name.0 refl)
name_read reading (byte ∷ []) begins name =
    let parts = and_parts (is_name_byte byte) true name.2 in
    let no_star : (byte == star) ≡ false = other_byte byte star (λ h. name.1 (ap (λ one. one ∷ []) h)) in
    first_byte reading byte [] begins parts.0 ∙ ap (λ (b : Bool). Some (standing (cond b Star Name) reading.segments (byte ∷ []) reading.index)) no_star
name_read reading (byte ∷ (second ∷ more)) begins name =
    let parts = and_parts (is_name_byte byte) (list_all is_name_byte (second ∷ more)) name.2 in
    first_byte reading byte (second ∷ more) begins parts.0
    ∙ second_byte reading.segments byte second reading.index more (byte == star) parts.1

-- ---- brackets

plain_byte : (byte : ℕ) → is_escaped byte ≡ false → ((byte == quote) ≡ false) × ((byte == backslash) ≡ false)
plain_byte byte is =
    (elim (byte == quote) as (λ b. (byte == quote) ≡ b → ((byte == quote) ≡ false) × ((byte == backslash) ≡ false)) [
      | true ↦ λ e. let no : is_escaped byte ≡ true = rw e refl in cc
      | false ↦ λ e. let other : (byte == backslash) ≡ false = rw e at is in (e, other)
    ]) refl

quoted_on : (segments : List Segment) (key : List ℕ) (index : ℕ) (more : List ℕ)
    → steps (standing Quoted segments key index) (escaped more) ≡ Some (standing Quoted segments (key ++ more) index)
quoted_on segments key index [] = ap (λ key. Some (standing Quoted segments key index)) (append_nothing key)
quoted_on segments key index (byte ∷ more) =
    let rest : steps (standing Quoted segments (key ++ byte ∷ []) index) (escaped more) ≡ Some (standing Quoted segments (key ++ byte ∷ more) index) =
    quoted_on segments (key ++ byte ∷ []) index more ∙ ap (λ key. Some (standing Quoted segments key index)) (append_assoc key (byte ∷ []) more) in
    (elim (is_escaped byte) as (λ b. is_escaped byte ≡ b → steps (standing Quoted segments key index) (cond b (backslash ∷ byte ∷ escaped more) (byte ∷ escaped more))
    ≡ Some (standing Quoted segments (key ++ byte ∷ more) index)) [
      | true ↦ λ e.
          one_step (standing Quoted segments key index) (standing Escaped segments key index) backslash (byte ∷ escaped more) refl
          ∙ one_step (standing Escaped segments key index) (standing Quoted segments (key ++ byte ∷ []) index) byte (escaped more) (taken (is_escaped byte) _ _ e)
          ∙ rest
      | false ↦ λ e.
          let plain : ((byte == quote) ≡ false) × ((byte == backslash) ≡ false) = plain_byte byte e in
          one_step (standing Quoted segments key index) (standing Quoted segments (key ++ byte ∷ []) index) byte (escaped more)
          (left (byte == quote) _ _ plain.0 ∙ left (byte == backslash) _ _ plain.1)
          ∙ rest
    ]) refl

abbrev AreDigits : List Segment → List ℕ → ℕ → ℕ → List ℕ → Type 0
AreDigits segments key index number digits =
    number ≤ greatest_index → steps (standing Open segments key index) digits ≡ Some (standing (cond (number == 0) Zero Digits) segments key number)

one_digit_read : (segments : List Segment) (key : List ℕ) (index number : ℕ) → number < 10 → AreDigits segments key index number ((digit_zero + number) ∷ [])
one_digit_read segments key index number few small =
    let byte : ℕ = digit_zero + number in
    let no_quote : (byte == quote) ≡ false = grind arith in
    (elim (number == 0) as (λ b. (number == 0) ≡ b → steps (standing Open segments key index) (byte ∷ []) ≡ Some (standing (cond b Zero Digits) segments key number)) [
      | true ↦ λ e.
          let none : number ≡ 0 = grind arith in
          let zero : (byte == digit_zero) ≡ true = grind arith in
          one_step (standing Open segments key index) (standing Zero segments key 0) byte []
          (left (byte == quote) _ _ no_quote ∙ taken (byte == digit_zero) _ _ zero)
          ∙ ap (λ index. Some (standing Zero segments key index)) (sym none)
      | false ↦ λ e.
          let some : (byte == digit_zero) ≡ false = grind arith in
          let digit : is_ascii_digit byte ≡ true = grind arith in
          let value : byte - digit_zero ≡ number = omega arith in
          one_step (standing Open segments key index) (standing Digits segments key (byte - digit_zero)) byte []
          (left (byte == quote) _ _ no_quote ∙ left (byte == digit_zero) _ _ some ∙ taken (is_ascii_digit byte) _ _ digit)
          ∙ ap (λ index. Some (standing Digits segments key index)) value
    ]) refl

more_digits_read : (segments : List Segment) (key : List ℕ) (index number : ℕ) (digits : List ℕ) → 10 ≤ number
    → AreDigits segments key index (number / 10) digits → AreDigits segments key index number (digits ++ (digit_zero + number % 10) ∷ [])
more_digits_read segments key index number digits many before small =
    let byte : ℕ = digit_zero + number % 10 in
    let whole : number / 10 * 10 + number % 10 ≡ number = div-add-mod' number 10 in
    let some : (number / 10 == 0) ≡ false = grind arith in
    let value : with_digit (number / 10) byte ≡ number = omega arith in
    let digit : is_ascii_digit byte ≡ true = grind arith in
    let fits : nat_le (with_digit (number / 10) byte) greatest_index ≡ true = rw value (grind arith) in
    let all : (number == 0) ≡ false = grind arith in
    steps_on (standing Open segments key index) (standing (cond (number / 10 == 0) Zero Digits) segments key (number / 10)) digits (byte ∷ []) (before (omega arith))
    ∙ ap (λ (b : Bool). steps (standing (cond b Zero Digits) segments key (number / 10)) (byte ∷ [])) some
    ∙ one_step (standing Digits segments key (number / 10)) (standing Digits segments key (with_digit (number / 10) byte)) byte []
    (taken (goes_on (number / 10) byte) _ _ (and_from _ _ digit fits))
    ∙ ap (λ index. Some (standing Digits segments key index)) value
    ∙ ap (λ (b : Bool). Some (standing (cond b Zero Digits) segments key number)) (sym all)

digits_read : (segments : List Segment) (key : List ℕ) (index number : ℕ) → AreDigits segments key index number (decimal number)
digits_read segments key index number small =
    decimal_by_steps (AreDigits segments key index) (one_digit_read segments key index) (more_digits_read segments key index) number (omega arith) small

-- the reading behind a segment in brackets
abbrev pub ClosesAs : Reading → List ℕ → List Segment → Type 0
ClosesAs reading text segments =
    (key : List ℕ) × (index : ℕ) × (steps reading text ≡ Some (standing Closed segments key index))

index_closed : (segments : List Segment) (key : List ℕ) (index : ℕ) (b : Bool)
    → (b ≡ true → index ≡ 0) → steps (standing (cond b Zero Digits) segments key index) (closing ∷ []) ≡ Some (standing Closed (segments ++ Index index ∷ []) key index)
index_closed segments key index true none =
    one_step (standing Zero segments key index) (standing Closed (segments ++ Index 0 ∷ []) key index) closing [] refl
    ∙ ap (λ place. Some (standing Closed (segments ++ Index place ∷ []) key index)) (sym (none refl))
index_closed segments key index false none =
    one_step (standing Digits segments key index) (standing Closed (segments ++ Index index ∷ []) key index) closing [] refl

bracketed_read : (segment : Segment) (text : List ℕ) (reading : Reading) (segments : List Segment) (key : List ℕ) (index : ℕ)
    → step_at reading.place reading opening ≡ Some (standing Open segments key index) → IsBracketed segment text
    → ClosesAs reading text (segments ++ segment ∷ [])
bracketed_read (Key name) text reading segments key index opens is =
    let inner : List ℕ = escaped name ++ (quote ∷ (closing ∷ [])) in
    let same : text ≡ opening ∷ quote ∷ inner = is ∙ ap (λ xs. opening ∷ quote ∷ xs) (append_assoc (escaped name) (quote ∷ []) (closing ∷ [])) in (
      name,
      index,
      ap (steps reading) same
          ∙ one_step reading (standing Open segments key index) opening (quote ∷ inner) opens
          ∙ one_step (standing Open segments key index) (standing Quoted segments [] index) quote inner refl
          ∙ steps_on (standing Quoted segments [] index) (standing Quoted segments name index) (escaped name) (quote ∷ (closing ∷ [])) (quoted_on segments [] index name)
          ∙ one_step (standing Quoted segments name index) (standing Unquoted segments name index) quote (closing ∷ []) refl
          ∙ one_step (standing Unquoted segments name index) (standing Closed (segments ++ Key name ∷ []) name index) closing [] refl,
    )
bracketed_read (Index place) text reading segments key index opens (small, is) = (
  key,
  place,
  ap (steps reading) is
      ∙ one_step reading (standing Open segments key index) opening (decimal place ++ closing ∷ []) opens
      ∙ steps_on (standing Open segments key index) (standing (cond (place == 0) Zero Digits) segments key place) (decimal place) (closing ∷ [])
      (digits_read segments key index place small)
      ∙ index_closed segments key place (place == 0) (λ h. grind arith),
)

-- ---- segments

-- the reading ends as these segments
abbrev pub EndsAs : Reading → List ℕ → List Segment → Type 0
EndsAs reading text segments = (after : Reading) × (steps reading text ≡ Some after) × (ended after ≡ Some segments)

named_end : (segments : List Segment) (key : List ℕ) (index : ℕ) → ended (standing Name segments key index) ≡ Some (segments ++ Key key ∷ [])
unfolding ended
named_end segments key index = refl

closed_end : (segments : List Segment) (key : List ℕ) (index : ℕ) → ended (standing Closed segments key index) ≡ Some segments
unfolding ended
closed_end segments key index = refl

closes_ends : (reading : Reading) (text : List ℕ) (segments : List Segment) → ClosesAs reading text segments → EndsAs reading text segments
closes_ends reading text segments (key, index, is) = (standing Closed segments key index, is, closed_end segments key index)

named_ends : (segment : Segment) (text : List ℕ) (reading : Reading) → BeginsName reading → IsNamed segment text → EndsAs reading text (reading.segments ++ segment ∷ [])
named_ends (Index place) text reading begins is = absurd is
named_ends (Key key) text reading begins (name, is) =
    (standing Name reading.segments key reading.index, ap (steps reading) is ∙ name_read reading key begins name, named_end reading.segments key reading.index)

-- behind a whole segment a `.` or a `[` may follow
ended_opened : (reading : Reading) (segments : List Segment) → ended reading ≡ Some segments → ended_at reading.place reading ≡ Some segments
unfolding ended
ended_opened reading segments is = is

behind_end : (place : Place) (reading : Reading) (segments : List Segment) → ended_at place reading ≡ Some segments
    → (step_at place reading dot ≡ Some (standing Dot segments reading.key reading.index))
    × (step_at place reading opening ≡ Some (standing Open segments reading.key reading.index))
behind_end Start reading segments is = cc
behind_end Dot reading segments is = cc
behind_end Star reading segments is = cc
behind_end Name reading segments is =
    let same : reading.segments ++ Key reading.key ∷ [] ≡ segments = cc in
    (ap (λ segments. Some (standing Dot segments reading.key reading.index)) same, ap (λ segments. Some (standing Open segments reading.key reading.index)) same)
behind_end Open reading segments is = cc
behind_end Zero reading segments is = cc
behind_end Digits reading segments is = cc
behind_end Quoted reading segments is = cc
behind_end Escaped reading segments is = cc
behind_end Unquoted reading segments is = cc
behind_end Closed reading segments is =
    let same : reading.segments ≡ segments = cc in
    (ap (λ segments. Some (standing Dot segments reading.key reading.index)) same, ap (λ segments. Some (standing Open segments reading.key reading.index)) same)

-- the reading goes on with a `.` behind a path
pub dot_read : (reading : Reading) (segments : List Segment) (more : List ℕ) → ended reading ≡ Some segments
    → steps reading (dot ∷ more) ≡ steps (standing Dot segments reading.key reading.index) more
dot_read reading segments more is =
    one_step reading (standing Dot segments reading.key reading.index) dot more (behind_end reading.place reading segments (ended_opened reading segments is)).0

pub dot_begins : (segments : List Segment) (key : List ℕ) (index : ℕ) → BeginsName (standing Dot segments key index)
dot_begins segments key index byte is = refl

further_read : (segment : Segment) (text : List ℕ) (reading : Reading) (segments : List Segment) → ended reading ≡ Some segments → IsFurther segment text
    → EndsAs reading text (segments ++ segment ∷ [])
further_read segment text reading segments is (inl (name, named, same)) =
    let rest : EndsAs (standing Dot segments reading.key reading.index) name (segments ++ segment ∷ []) =
    named_ends segment name (standing Dot segments reading.key reading.index) (dot_begins segments reading.key reading.index) named in
    (rest.0, ap (steps reading) same ∙ dot_read reading segments name is ∙ rest.1, rest.2)
further_read segment text reading segments is (inr bracketed) =
    closes_ends reading text (segments ++ segment ∷ [])
    (bracketed_read segment text reading segments reading.key reading.index (behind_end reading.place reading segments (ended_opened reading segments is)).1 bracketed)

segments_nothing : (segments : List Segment) → segments ≡ segments ++ []
segments_nothing [] = refl
segments_nothing (segment ∷ segments) = ap (λ more. segment ∷ more) (segments_nothing segments)

all_read : (more : List Segment) (text : List ℕ) (reading : Reading) (segments : List Segment) → ended reading ≡ Some segments → AreFurther more text
    → EndsAs reading text (segments ++ more)
all_read [] text reading segments is none = (reading, ap (steps reading) none, is ∙ ap (λ (s : List Segment). Some s) (segments_nothing segments))
all_read (segment ∷ more) text reading segments is (here, rest, further, are, whole) =
    let first : EndsAs reading here (segments ++ segment ∷ []) = further_read segment here reading segments is further in
    let last : EndsAs first.0 rest ((segments ++ segment ∷ []) ++ more) = all_read more rest first.0 (segments ++ segment ∷ []) first.2 are in
    (last.0, ap (steps reading) whole ∙ steps_on reading first.0 here rest first.1 ∙ last.1, last.2 ∙ ap (λ (s : List Segment). Some s) (append_assoc segments (segment ∷ []) more))

no_opening : (byte : ℕ) → is_name_byte byte ≡ true → (byte == opening) ≡ false
no_opening byte is =
    other_byte byte opening (λ h. let no : is_name_byte byte ≡ false = ap is_name_byte h in cc)

pub start_begins : BeginsName nothing_read
start_begins byte is = left (byte == opening) _ _ (no_opening byte is)

first_read : (segment : Segment) (text : List ℕ) → IsFirst segment text → EndsAs nothing_read text (segment ∷ [])
first_read segment text (inl named) = named_ends segment text nothing_read start_begins named
first_read segment text (inr bracketed) =
    closes_ends nothing_read text (segment ∷ []) (bracketed_read segment text nothing_read [] [] 0 refl bracketed)

-- a text that segments are written as is read as these
pub written_ends : (segments : List Segment) (text : List ℕ) → IsWritten segments text → EndsAs nothing_read text segments
written_ends [] text written = absurd written
written_ends (segment ∷ more) text (here, rest, is_first, are, whole) =
    let first : EndsAs nothing_read here (segment ∷ []) = first_read segment here is_first in
    let last : EndsAs first.0 rest (segment ∷ more) = all_read more rest first.0 (segment ∷ []) first.2 are in
    (last.0, ap (steps nothing_read) whole ∙ steps_on nothing_read first.0 here rest first.1 ∙ last.1, last.2)
