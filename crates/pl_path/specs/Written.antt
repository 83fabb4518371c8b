-- The grammar of paths: how segments are written as a text.
use Rattle.std.specs.Prelude.{◌≡◌, ◌≢◌, ℕ, ◌+◌, ◌<◌, ◌≤◌, ◌==◌, Bool, not, ◌||◌, if◌then◌else◌, List, [], ◌∷◌, ◌++◌, length, take, ◌⊎◌, IsTrue}
use Rattle.std.specs.Fmt.{decimal}
use Rattle.std.specs.List.{list_all}
use Rattle.pl_path.specs.declared.fault.PathFault.{PathFault}
use Rattle.pl_path.specs.declared.fault.PathFault.TheVariants.{BadPath, OutOfMemory}
use Rattle.pl_path.specs.declared.segment.Segment.{Segment}
use Rattle.pl_path.specs.declared.segment.Segment.TheVariants.{Key, Index}

-- `.`
abbrev pub dot : ℕ
dot = 46

-- `[`
abbrev pub opening : ℕ
opening = 91

-- `]`
abbrev pub closing : ℕ
closing = 93

-- `"`
abbrev pub quote : ℕ
quote = 34

-- `\`
abbrev pub backslash : ℕ
backslash = 92

-- `*`
abbrev pub star : ℕ
star = 42

-- the greatest index
abbrev pub greatest_index : ℕ
greatest_index = 2147483647

-- whether a byte may stand in a name
abbrev pub is_name_byte : ℕ → Bool
is_name_byte byte = not (byte == dot || byte == opening || byte == closing || byte == quote)

-- whether a byte has a `\` before it in a quoted text
abbrev pub is_escaped : ℕ → Bool
is_escaped byte = byte == quote || byte == backslash

-- a name: one or more bytes that may stand in it, and not `*` alone
abbrev pub IsName : List ℕ → Type 0
IsName name = (name ≢ []) × (name ≢ star ∷ []) × IsTrue (list_all is_name_byte name)

-- the bytes with a `\` before each `"` and each `\`
abbrev pub escaped : List ℕ → List ℕ
escaped [] = []
escaped (byte ∷ more) = if is_escaped byte then backslash ∷ byte ∷ escaped more else byte ∷ escaped more

-- the key between quotes
abbrev pub quoted : List ℕ → List ℕ
quoted key = quote ∷ (escaped key ++ quote ∷ [])

-- the text between brackets
abbrev pub in_brackets : List ℕ → List ℕ
in_brackets text = opening ∷ (text ++ closing ∷ [])

-- a key that is a name is written as the name
abbrev pub IsNamed : Segment → List ℕ → Type 0
IsNamed (Key key) text = IsName key × (text ≡ key)
IsNamed (Index place) text = ⊥

-- in brackets each key may stand, between quotes, and an index in decimal digits, with no 0 before others
abbrev pub IsBracketed : Segment → List ℕ → Type 0
IsBracketed (Key key) text = text ≡ in_brackets (quoted key)
IsBracketed (Index place) text = (place ≤ greatest_index) × (text ≡ in_brackets (decimal place))

-- the first segment: a name, or in brackets
abbrev pub IsFirst : Segment → List ℕ → Type 0
IsFirst segment text = IsNamed segment text ⊎ IsBracketed segment text

-- each further segment: a `.` and a name, or in brackets
abbrev pub IsFurther : Segment → List ℕ → Type 0
IsFurther segment text = ((name : List ℕ) × IsNamed segment name × (text ≡ dot ∷ name)) ⊎ IsBracketed segment text

-- the further segments, one behind the other
abbrev pub AreFurther : List Segment → List ℕ → Type 0
AreFurther [] text = text ≡ []
AreFurther (segment ∷ more) text =
    (here : List ℕ) × (rest : List ℕ) × IsFurther segment here × AreFurther more rest × (text ≡ here ++ rest)

-- the segments are written as the text: the first one and then the further ones
abbrev pub IsWritten : List Segment → List ℕ → Type 0
IsWritten [] text = ⊥
IsWritten (segment ∷ more) text =
    (here : List ℕ) × (rest : List ℕ) × IsFirst segment here × AreFurther more rest × (text ≡ here ++ rest)

-- the text is a path
abbrev pub IsPath : List ℕ → Type 0
IsPath text = (segments : List Segment) × IsWritten segments text

-- a path begins with the text
abbrev pub BeginsPath : List ℕ → Type 0
BeginsPath text = (more : List ℕ) × IsPath (text ++ more)

-- no path goes on at the place: one begins with all that stands before it, and none with the byte there too; or
-- the text ends there and is no path
abbrev pub GoesOnNoMoreAt : List ℕ → ℕ → Type 0
GoesOnNoMoreAt text place =
    BeginsPath (take place text)
    × (((place < length text) × ¬ BeginsPath (take (place + 1) text)) ⊎ ((place ≡ length text) × ¬ IsPath text))

-- a name may begin behind the text: behind nothing, and behind a path and a `.`
abbrev pub NameMayFollow : List ℕ → Type 0
NameMayFollow text = (text ≡ []) ⊎ ((path : List ℕ) × IsPath path × (text ≡ path ++ dot ∷ []))

-- a name is over before the text: at its end, and before a byte of no name
abbrev pub NameIsOver : List ℕ → Type 0
NameIsOver [] = Unit {0}
NameIsOver (byte ∷ more) = IsTrue (not (is_name_byte byte))

-- a name that is `*` alone stands at the place
abbrev pub IsStarAlone : List ℕ → ℕ → Type 0
IsStarAlone text place =
    (before : List ℕ) × (after : List ℕ) × (text ≡ before ++ star ∷ after) × (place ≡ length before)
    × NameMayFollow before × NameIsOver after

-- the place at which a text that is no path is refused: that of a name that is `*` alone; else where no path goes on
abbrev pub IsRefusedPlace : List ℕ → ℕ → Type 0
IsRefusedPlace text place =
    IsStarAlone text place ⊎ (GoesOnNoMoreAt text place × ((other : ℕ) → ¬ IsStarAlone text other))

-- a refusal tells the place for it; want of memory says nothing of the text
abbrev pub IsRefusalOf : List ℕ → PathFault → Type 0
IsRefusalOf text (BadPath place) = IsRefusedPlace text place
IsRefusalOf text OutOfMemory = Unit {0}
