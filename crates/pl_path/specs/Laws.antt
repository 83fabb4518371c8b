-- The laws of reading a path, by the grammar, and of setting fields back, by what stands at paths.
use Rattle.std.specs.Prelude.{◌≡◌, ℕ, List, [], ◌∷◌, ◌++◌, Option, None, Some, option_map, IsSome, ◌⊎◌, ◌↔◌, IsTrue}
use Rattle.pl_value.specs.IsValue.{AreFields}
use Rattle.pl_value.specs.declared.value.Value.{Value}
use Rattle.pl_value.specs.declared.value.Value.TheVariants as value
use Rattle.pl_value.specs.declared.value.Value.TheOpen.{Value-F}
use Rattle.pl_value.specs.declared.value.Value.TheFolds.{para-Value}
use Rattle.pl_path.specs.declared.segment.Segment.{Segment}
use Rattle.pl_path.specs.declared.segment.Segment.TheVariants.{Key, Index}
use Rattle.pl_path.specs.Found.{bare, found_at, itself}
use Rattle.pl_path.specs.Grammar.{bad_place, is_path, segments_of}
use Rattle.pl_path.specs.Reset.{are_too_deep, reset_along, reset_at, set_back}
use Rattle.pl_path.specs.Written.{IsPath, IsRefusedPlace, IsWritten}

-- segments that are read are written as the text
abbrev pub ReadIsWritten : Type 0
ReadIsWritten = (text : List ℕ) (segments : List Segment) → segments_of text ≡ Some segments → IsWritten segments text

-- a text that segments are written as is read as these
abbrev pub WrittenIsRead : Type 0
WrittenIsRead = (text : List ℕ) (segments : List Segment) → IsWritten segments text → segments_of text ≡ Some segments

-- a text is told to be a path where it is one
abbrev pub PathIsTold : Type 0
PathIsTold = (text : List ℕ) → IsTrue (is_path text) ↔ IsPath text

-- another text is refused, at the one place for it
abbrev pub RefusedAtPlace : Type 0
RefusedAtPlace = (text : List ℕ) (place : ℕ) → (bad_place text ≡ Some place) ↔ IsRefusedPlace text place

-- ---- what setting back does

-- an object, looked at through secrets
abbrev pub IsObject : Option Value → Type 0
IsObject None = ⊥
IsObject (Some holder) = (fields : List (List ℕ × Value)) × (bare holder ≡ value.Object fields)

-- an object stands at the segments; the fields themselves are one
abbrev pub HasObject : List Segment → List (List ℕ × Value) → Type 0
HasObject [] fields = Unit {0}
HasObject (segment ∷ path) fields = IsObject (found_at (segment ∷ path) fields)

-- fields can be set back where the segments end in this last one: a key wants an object in the new fields for it,
-- an index an element there and one in the old fields
abbrev pub CanSetBack : List Segment → Segment → List (List ℕ × Value) → List (List ℕ × Value) → Type 0
CanSetBack above (Key key) new old = HasObject above new
CanSetBack above (Index place) new old =
    IsSome (found_at (above ++ Index place ∷ []) new) × IsSome (found_at (above ++ Index place ∷ []) old)

-- the same of a whole path
abbrev pub CanSetBackAt : List Segment → List (List ℕ × Value) → List (List ℕ × Value) → Type 0
CanSetBackAt path new old =
    (above : List Segment) × (last : Segment) × (path ≡ above ++ last ∷ []) × CanSetBack above last new old

-- a value would become too deep
abbrev pub WouldBeTooDeep : List Segment → List (List ℕ × Value) → List (List ℕ × Value) → Type 0
WouldBeTooDeep path new old = IsTrue (are_too_deep (set_back path new old))

-- the path begins with the other one
abbrev pub BeginsWith : List Segment → List Segment → Type 0
BeginsWith path first = (more : List Segment) × (path ≡ first ++ more)

-- where fields can be set back at a path, and none becomes too deep, the old value stands there afterwards, and
-- nothing where there was none
abbrev pub HoldsOld : Type 0
HoldsOld =
    (path : List Segment) (new old : List (List ℕ × Value)) → CanSetBackAt path new old → ¬ WouldBeTooDeep path new old
    → found_at path (reset_along path new old) ≡ found_at path old

-- what stands at another path, of which neither begins with the other, stays
abbrev pub StaysElsewhere : Type 0
StaysElsewhere =
    (path other : List Segment) (new old : List (List ℕ × Value)) → ¬ BeginsWith path other → ¬ BeginsWith other path
    → found_at other (reset_along path new old) ≡ found_at other new

-- one level with nothing in its list or object; a secret with what it holds so
abbrev pub outline_level : Value-F (Value × Value) → Value
outline_level (Value-F.List values) = value.List []
outline_level (Value-F.Object fields) = value.Object []
outline_level (Value-F.Secret inner) = value.Secret inner.1
outline_level level = itself level

-- the value with nothing in its list or object: what kind it is of, and the secrets around it
abbrev pub outline : Value → Value
outline = para-Value Value outline_level

-- what stands on the way to the path's end stays of its kind, with the secrets around it
abbrev pub KeepsTheWay : Type 0
KeepsTheWay =
    (first : List Segment) (next : Segment) (more : List Segment) (new old : List (List ℕ × Value))
    → option_map outline (found_at first (reset_along (first ++ next ∷ more) new old)) ≡ option_map outline (found_at first new)

-- fields stay as they are where they can't be set back at the path, and where a value would become too deep
abbrev pub StaysWhole : Type 0
StaysWhole =
    (path : List Segment) (new old : List (List ℕ × Value)) → AreFields new → (¬ CanSetBackAt path new old) ⊎ WouldBeTooDeep path new old
    → reset_along path new old ≡ new

-- a text sets back at the path that it is, and changes nothing if it is none
abbrev pub ResetByText : Type 0
ResetByText =
    (text : List ℕ) (new old : List (List ℕ × Value))
    → ((path : List Segment) → IsWritten path text → reset_at text new old ≡ reset_along path new old)
    × (¬ IsPath text → reset_at text new old ≡ new)
