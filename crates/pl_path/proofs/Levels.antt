-- The equations of what is said of a value, one for each variant.
use Rattle.std.proofs.Common.{◌≡◌, ℕ, ℤ, Bool, List, [], ◌∷◌, map, Option, refl, sym, ap, ◌∙◌}
use Rattle.pl_path.specs.declared.segment.Segment.{Segment}
use Rattle.pl_path.specs.Found.{bare, bare_level}
use Rattle.pl_path.specs.Reset.{reset_bare, reset_level, reset_element, reset_field, reset_in, through, through_level}
use Rattle.pl_value.specs.declared.value.Value.{Value, out-Value, out-roll-Value}
use Rattle.pl_value.specs.declared.value.Value.TheOpen.{Value-F}
use Rattle.pl_value.specs.declared.value.Value.TheVariants as value
use Rattle.pl_value.specs.declared.value.Value.TheFolds.{para-roll-Value}

pub firsts : {X Y : Type 0} (say : X → Y) (xs : List X) → map (λ (pair : X × Y). pair.0) (map (λ x. (x, say x)) xs) ≡ xs
firsts say [] = refl
firsts say (x ∷ xs) = ap (λ more. x ∷ more) (firsts say xs)

pub field_firsts : {Y : Type 0} (say : Value → Y) (fields : List (List ℕ × Value))
    → map (λ (field : List ℕ × (Value × Y)). (field.0, field.1.0)) (map (λ field. (field.0, (field.1, say field.1))) fields) ≡ fields
field_firsts say [] = refl
field_firsts say (field ∷ fields) = ap (λ more. field ∷ more) (field_firsts say fields)

pub out-Null : out-Value value.Null ≡ Value-F.Null
out-Null = ap out-Value (sym value.rolls-Null) ∙ out-roll-Value Value-F.Null

pub out-Flag : (flag : Bool) → out-Value (value.Flag flag) ≡ Value-F.Flag flag
out-Flag flag = ap out-Value (sym (value.rolls-Flag flag)) ∙ out-roll-Value (Value-F.Flag flag)

pub out-Whole : (number : ℤ) → out-Value (value.Whole number) ≡ Value-F.Whole number
out-Whole number = ap out-Value (sym (value.rolls-Whole number)) ∙ out-roll-Value (Value-F.Whole number)

pub out-Text : (text : List ℕ) → out-Value (value.Text text) ≡ Value-F.Text text
out-Text text = ap out-Value (sym (value.rolls-Text text)) ∙ out-roll-Value (Value-F.Text text)

pub out-List : (values : List Value) → out-Value (value.List values) ≡ Value-F.List values
out-List values = ap out-Value (sym (value.rolls-List values)) ∙ out-roll-Value (Value-F.List values)

pub out-Object : (fields : List (List ℕ × Value)) → out-Value (value.Object fields) ≡ Value-F.Object fields
out-Object fields = ap out-Value (sym (value.rolls-Object fields)) ∙ out-roll-Value (Value-F.Object fields)

pub out-Secret : (inner : Value) → out-Value (value.Secret inner) ≡ Value-F.Secret inner
out-Secret inner = ap out-Value (sym (value.rolls-Secret inner)) ∙ out-roll-Value (Value-F.Secret inner)

pub out-Unknown : out-Value value.Unknown ≡ Value-F.Unknown
out-Unknown = ap out-Value (sym value.rolls-Unknown) ∙ out-roll-Value Value-F.Unknown

pub bare-Null : bare value.Null ≡ value.Null
bare-Null = ap bare (sym value.rolls-Null) ∙ para-roll-Value Value bare_level Value-F.Null

pub bare-Flag : (flag : Bool) → bare (value.Flag flag) ≡ value.Flag flag
bare-Flag flag = ap bare (sym (value.rolls-Flag flag)) ∙ para-roll-Value Value bare_level (Value-F.Flag flag)

pub bare-Whole : (number : ℤ) → bare (value.Whole number) ≡ value.Whole number
bare-Whole number = ap bare (sym (value.rolls-Whole number)) ∙ para-roll-Value Value bare_level (Value-F.Whole number)

pub bare-Text : (text : List ℕ) → bare (value.Text text) ≡ value.Text text
bare-Text text = ap bare (sym (value.rolls-Text text)) ∙ para-roll-Value Value bare_level (Value-F.Text text)

pub bare-List : (values : List Value) → bare (value.List values) ≡ value.List values
bare-List values = ap bare (sym (value.rolls-List values)) ∙ para-roll-Value Value bare_level (Value-F.List values) ∙ ap value.List (firsts bare values)

pub bare-Object : (fields : List (List ℕ × Value)) → bare (value.Object fields) ≡ value.Object fields
bare-Object fields = ap bare (sym (value.rolls-Object fields)) ∙ para-roll-Value Value bare_level (Value-F.Object fields) ∙ ap value.Object (field_firsts bare fields)

pub bare-Secret : (inner : Value) → bare (value.Secret inner) ≡ bare inner
bare-Secret inner = ap bare (sym (value.rolls-Secret inner)) ∙ para-roll-Value Value bare_level (Value-F.Secret inner)

pub bare-Unknown : bare value.Unknown ≡ value.Unknown
bare-Unknown = ap bare (sym value.rolls-Unknown) ∙ para-roll-Value Value bare_level Value-F.Unknown

pub through-Null : (change : Value → Value) → through change value.Null ≡ change value.Null
through-Null change =
    ap (through change) (sym value.rolls-Null) ∙ para-roll-Value Value (through_level change) Value-F.Null

pub through-Flag : (change : Value → Value) (flag : Bool) → through change (value.Flag flag) ≡ change (value.Flag flag)
through-Flag change flag =
    ap (through change) (sym (value.rolls-Flag flag)) ∙ para-roll-Value Value (through_level change) (Value-F.Flag flag)

pub through-Whole : (change : Value → Value) (number : ℤ) → through change (value.Whole number) ≡ change (value.Whole number)
through-Whole change number =
    ap (through change) (sym (value.rolls-Whole number)) ∙ para-roll-Value Value (through_level change) (Value-F.Whole number)

pub through-Text : (change : Value → Value) (text : List ℕ) → through change (value.Text text) ≡ change (value.Text text)
through-Text change text =
    ap (through change) (sym (value.rolls-Text text)) ∙ para-roll-Value Value (through_level change) (Value-F.Text text)

pub through-List : (change : Value → Value) (values : List Value) → through change (value.List values) ≡ change (value.List values)
through-List change values =
    ap (through change) (sym (value.rolls-List values)) ∙ para-roll-Value Value (through_level change) (Value-F.List values) ∙ ap (λ xs. change (value.List xs)) (firsts (through change) values)

pub through-Object : (change : Value → Value) (fields : List (List ℕ × Value)) → through change (value.Object fields) ≡ change (value.Object fields)
through-Object change fields =
    ap (through change) (sym (value.rolls-Object fields)) ∙ para-roll-Value Value (through_level change) (Value-F.Object fields) ∙ ap (λ xs. change (value.Object xs)) (field_firsts (through change) fields)

pub through-Secret : (change : Value → Value) (inner : Value) → through change (value.Secret inner) ≡ value.Secret (through change inner)
through-Secret change inner =
    ap (through change) (sym (value.rolls-Secret inner)) ∙ para-roll-Value Value (through_level change) (Value-F.Secret inner)

pub through-Unknown : (change : Value → Value) → through change value.Unknown ≡ change value.Unknown
through-Unknown change =
    ap (through change) (sym value.rolls-Unknown) ∙ para-roll-Value Value (through_level change) Value-F.Unknown

pub reset_in-Null : (segment : Segment) (path : List Segment) (old : Option Value)
    → reset_in (segment ∷ path) old value.Null ≡ value.Null
reset_in-Null segment path old =
    through-Null (reset_bare (reset_in path old) segment path old)
    ∙ ap (reset_level (reset_in path old) segment path old value.Null) out-Null

pub reset_in-Flag : (segment : Segment) (path : List Segment) (old : Option Value) (flag : Bool)
    → reset_in (segment ∷ path) old (value.Flag flag) ≡ value.Flag flag
reset_in-Flag segment path old flag =
    through-Flag (reset_bare (reset_in path old) segment path old) flag
    ∙ ap (reset_level (reset_in path old) segment path old (value.Flag flag)) (out-Flag flag)

pub reset_in-Whole : (segment : Segment) (path : List Segment) (old : Option Value) (number : ℤ)
    → reset_in (segment ∷ path) old (value.Whole number) ≡ value.Whole number
reset_in-Whole segment path old number =
    through-Whole (reset_bare (reset_in path old) segment path old) number
    ∙ ap (reset_level (reset_in path old) segment path old (value.Whole number)) (out-Whole number)

pub reset_in-Text : (segment : Segment) (path : List Segment) (old : Option Value) (text : List ℕ)
    → reset_in (segment ∷ path) old (value.Text text) ≡ value.Text text
reset_in-Text segment path old text =
    through-Text (reset_bare (reset_in path old) segment path old) text
    ∙ ap (reset_level (reset_in path old) segment path old (value.Text text)) (out-Text text)

pub reset_in-List : (segment : Segment) (path : List Segment) (old : Option Value) (values : List Value)
    → reset_in (segment ∷ path) old (value.List values) ≡ value.List (reset_element (reset_in path old) segment path old values)
reset_in-List segment path old values =
    through-List (reset_bare (reset_in path old) segment path old) values
    ∙ ap (reset_level (reset_in path old) segment path old (value.List values)) (out-List values)

pub reset_in-Object : (segment : Segment) (path : List Segment) (old : Option Value) (fields : List (List ℕ × Value))
    → reset_in (segment ∷ path) old (value.Object fields) ≡ value.Object (reset_field (reset_in path old) segment path old fields)
reset_in-Object segment path old fields =
    through-Object (reset_bare (reset_in path old) segment path old) fields
    ∙ ap (reset_level (reset_in path old) segment path old (value.Object fields)) (out-Object fields)

pub reset_in-Secret : (segment : Segment) (path : List Segment) (old : Option Value) (inner : Value)
    → reset_in (segment ∷ path) old (value.Secret inner) ≡ value.Secret (reset_in (segment ∷ path) old inner)
reset_in-Secret segment path old inner = through-Secret (reset_bare (reset_in path old) segment path old) inner

pub reset_in-Unknown : (segment : Segment) (path : List Segment) (old : Option Value)
    → reset_in (segment ∷ path) old value.Unknown ≡ value.Unknown
reset_in-Unknown segment path old =
    through-Unknown (reset_bare (reset_in path old) segment path old)
    ∙ ap (reset_level (reset_in path old) segment path old value.Unknown) out-Unknown

pub ruleset out_rules = (out-Null, out-Flag, out-Whole, out-Text, out-List, out-Object, out-Secret, out-Unknown)

pub ruleset bare_rules = (bare-Null, bare-Flag, bare-Whole, bare-Text, bare-List, bare-Object, bare-Secret, bare-Unknown)

pub ruleset reset_in_rules = (reset_in-Null, reset_in-Flag, reset_in-Whole, reset_in-Text, reset_in-List, reset_in-Object, reset_in-Secret, reset_in-Unknown)
