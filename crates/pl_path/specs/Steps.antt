-- How the reading of a path goes, byte by byte: what may follow where. It goes as the code does; the law
-- `paths_are_written` of src/laws.rt ties it to the grammar, which stands in Written.
use Rattle.std.specs.Prelude.{ℕ, ◌+◌, ◌-◌, ◌*◌, ◌==◌, Bool, ◌&&◌, nat_le, if◌then◌else◌, List, [], ◌∷◌, ◌++◌, Option, None, Some, Result, Ok, Err}
use Rattle.std.specs.Char.{is_ascii_digit}
use Rattle.pl_path.specs.declared.segment.Segment.{Segment}
use Rattle.pl_path.specs.declared.segment.Segment.TheVariants.{Key, Index}
use Rattle.pl_path.specs.declared.reading.Place.{Place}
use Rattle.pl_path.specs.declared.reading.Place.TheVariants.{Start, Dot, Star, Name, Open, Zero, Digits, Quoted, Escaped, Unquoted, Closed}
use Rattle.pl_path.specs.declared.reading.Reading.{Reading}
use Rattle.pl_path.specs.Written.{dot, opening, closing, quote, backslash, star, greatest_index, is_name_byte, is_escaped}

-- `0`
abbrev pub digit_zero : ℕ
digit_zero = 48

-- the index with one digit more
abbrev pub with_digit : ℕ → ℕ → ℕ
with_digit index byte = index * 10 + (byte - digit_zero)

-- whether an index goes on with this byte
abbrev pub goes_on : ℕ → ℕ → Bool
goes_on index byte = is_ascii_digit byte && nat_le (with_digit index byte) greatest_index

-- the index with one digit more, if it goes on with this byte
abbrev pub with_digit_if_any : ℕ → ℕ → Option ℕ
with_digit_if_any index byte = if goes_on index byte then Some (with_digit index byte) else None

-- where a name stands after its first byte
abbrev pub name_place : ℕ → Place
name_place byte = if byte == star then Star else Name

-- a name's first byte, if it may be one
abbrev pub begins_name : Reading → ℕ → Option Reading
begins_name reading byte =
    if is_name_byte byte then Some (record reading { key = byte ∷ []; place = name_place byte }) else None

-- one byte more of the key
abbrev pub adds_to_key : Reading → ℕ → Place → Option Reading
adds_to_key reading byte place = Some (record reading { key = reading.key ++ byte ∷ []; place = place })

-- the segments with the one that was read
abbrev pub with_segment : Reading → Segment → Reading
with_segment reading segment = record reading { segments = reading.segments ++ segment ∷ []; place = Closed }

-- what follows a segment: `.` or `[`
abbrev pub follows : Reading → ℕ → Option Reading
follows reading byte =
    if byte == dot then Some (record reading { place = Dot })
    else (if byte == opening then Some (record reading { place = Open })
    else None)

-- what stands first in brackets: `"` or a digit
abbrev pub opens : Reading → ℕ → Option Reading
opens reading byte =
    if byte == quote then Some (record reading { key = []; place = Quoted })
    else (if byte == digit_zero then Some (record reading { index = 0; place = Zero })
    else (if is_ascii_digit byte then Some (record reading { index = byte - digit_zero; place = Digits })
    else None))

-- the `]` that ends a segment in brackets
abbrev pub closes : Reading → Segment → ℕ → Option Reading
closes reading segment byte = if byte == closing then Some (with_segment reading segment) else None

-- a byte of a quoted text
abbrev pub quotes : Reading → ℕ → Option Reading
quotes reading byte =
    if byte == quote then Some (record reading { place = Unquoted })
    else (if byte == backslash then Some (record reading { place = Escaped })
    else adds_to_key reading byte Quoted)

-- what was read after one byte more, if that may stand at this place
abbrev pub step_at : Place → Reading → ℕ → Option Reading
step_at Start reading byte = if byte == opening then Some (record reading { place = Open }) else begins_name reading byte
step_at Dot reading byte = begins_name reading byte
step_at Star reading byte = if is_name_byte byte then adds_to_key reading byte Name else None
step_at Name reading byte =
    if is_name_byte byte then adds_to_key reading byte Name else follows (with_segment reading (Key reading.key)) byte
step_at Open reading byte = opens reading byte
step_at Zero reading byte = closes reading (Index 0) byte
step_at Digits reading byte =
    if goes_on reading.index byte then Some (record reading { index = with_digit reading.index byte })
    else closes reading (Index reading.index) byte
step_at Quoted reading byte = quotes reading byte
step_at Escaped reading byte = if is_escaped byte then adds_to_key reading byte Quoted else None
step_at Unquoted reading byte = closes reading (Key reading.key) byte
step_at Closed reading byte = follows reading byte

unfoldable pub step : Reading → ℕ → Option Reading
step reading byte = step_at reading.place reading byte

-- the segments, where a path may end at this place
abbrev pub ended_at : Place → Reading → Option (List Segment)
ended_at Name reading = Some (reading.segments ++ Key reading.key ∷ [])
ended_at Closed reading = Some reading.segments
ended_at _ reading = None

unfoldable pub ended : Reading → Option (List Segment)
ended reading = ended_at reading.place reading

-- the place of a refusal, `at` being that of the byte that may not stand: a name that is `*` alone is refused at
-- its `*`
abbrev pub refused_at : Place → ℕ → ℕ
refused_at Star at = at - 1
refused_at _ at = at

-- what was read, or the place of the refusal
abbrev pub or_refused : Option (List Segment) → ℕ → Result (List Segment) ℕ
or_refused None place = Err place
or_refused (Some segments) place = Ok segments

-- the segments that a text goes on to, or the place of the first byte that is refused; `at` bytes were read
unfoldable pub reads_on : Reading → ℕ → List ℕ → Result (List Segment) ℕ
reads_on reading at [] = or_refused (ended reading) (refused_at reading.place at)
reads_on reading at (byte ∷ more) = elim (step reading byte) [
  | None ↦ Err (refused_at reading.place at)
  | Some after ↦ reads_on after (at + 1) more
]

-- before the first byte
abbrev pub nothing_read : Reading
nothing_read = record { segments = []; key = []; index = 0; place = Start }
