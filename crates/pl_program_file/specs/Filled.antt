-- What is sent of a program's values, once the resources that they refer to are known.
use Rattle.std.specs.Prelude.{ℕ, ◌-◌, List, [], ◌∷◌, map, codes, find, Bool, true, false, not, ◌&&◌, ◌||◌, nat_le, bytes_eq, if◌then◌else◌, Option, None, Some, option_map, option_and_then, Result, Ok, Err}
use Rattle.std.specs.Result.{result_map_both}
use Rattle.pl_value.specs.Depth.{most_levels}
use Rattle.pl_value.specs.Inside.{depth}
use Rattle.pl_value.specs.IsValue.{may_stand_under}
use Rattle.pl_value.specs.Keys.{value_at}
use Rattle.pl_value.specs.Marks.{secret_key, unknown_text}
use Rattle.pl_value.specs.declared.value.Value.{Value}
use Rattle.pl_value.specs.declared.value.Value.TheFolds.{fold-Value}
use Rattle.pl_value.specs.declared.value.Value.TheOpen.{Value-F}
use Rattle.pl_value.specs.declared.value.Value.TheVariants as value
use Rattle.pl_program_file.specs.Reference.{reference_in}
use Rattle.pl_program_file.specs.declared.fault.Unfilled.{Unfilled}
use Rattle.pl_program_file.specs.declared.fault.Unfilled.TheVariants.{Missing}
use Rattle.pl_program_file.specs.declared.filling.Place.{Place}
use Rattle.pl_program_file.specs.declared.known.Known.{Known}

abbrev pub Filling : Type 0
Filling = Result Value Unfilled

-- a name and a key
abbrev pub Reference : Type 0
Reference = List ℕ × List ℕ

-- ---- what a reference stands for

-- the key that stands for a resource's id
unfoldable pub id_key : List ℕ
id_key = codes "id"

-- the text as a value; that of the unknown is the unknown
abbrev pub text_value : List ℕ → Value
text_value text = if bytes_eq text unknown_text then value.Unknown else value.Text text

abbrev pub id_value : Option (List ℕ) → Option Value
id_value id = option_map text_value id

-- what stands under a key of a resource: its id, or an output
abbrev pub value_of : List ℕ → Known → Option Value
value_of key row = if bytes_eq key id_key then id_value row.id else value_at key row.outputs

-- what is known of the resource of a name
abbrev pub known_at : List ℕ → List Known → Option Known
known_at name known = find (λ row. bytes_eq row.name name) known

-- ---- where it may stand

-- in a list or a secret for which so many levels are left
abbrev pub inside : ℕ → Place
inside levels = record { levels = levels - 1; marked = false }

-- under a key, with so many levels left
abbrev pub under : List ℕ → ℕ → Place
under key levels = record { levels = levels; marked = bytes_eq key secret_key }

-- the value is no deeper than is left, and makes no object a secret's
abbrev pub fits : Place → Value → Bool
fits place one = nat_le (depth one) place.levels && (not place.marked || may_stand_under secret_key one)

abbrev pub if_fits : Place → Value → Option Value
if_fits place one = if fits place one then Some one else None

-- what a reference stands for, if there is such a value and it may stand in the place
abbrev pub fitting : List Known → Place → Reference → Option Value
fitting known place reference = option_and_then (if_fits place) (option_and_then (value_of reference.1) (known_at reference.0 known))

-- ---- values with references

-- in a preview the unknown stands for what is missing
abbrev pub or_missing : Bool → Reference → Option Value → Filling
or_missing preview reference (Some found) = Ok found
or_missing true reference None = Ok value.Unknown
or_missing false reference None = Err (Missing reference.0 reference.1)

abbrev pub referred : List Known → Bool → Place → Reference → Filling
referred known preview place reference = or_missing preview reference (fitting known place reference)

-- a text that is no reference stands for itself
abbrev pub text_or_referred : List Known → Bool → Place → List ℕ → Option Reference → Filling
text_or_referred known preview place text None = Ok (value.Text text)
text_or_referred known preview place text (Some reference) = referred known preview place reference

abbrev pub filled_text : List Known → Bool → List ℕ → Place → Filling
filled_text known preview text place = text_or_referred known preview place text (reference_in text)

-- the first before the others; of two that are missing the first is told
abbrev pub before : {X : Type 0} → Result X Unfilled → Result (List X) Unfilled → Result (List X) Unfilled
before (Ok first) (Ok more) = Ok (first ∷ more)
before (Ok first) (Err why) = Err why
before (Err why) others = Err why

-- all, if each is filled
abbrev pub in_order : {X : Type 0} → List (Result X Unfilled) → Result (List X) Unfilled
in_order [] = Ok []
in_order (first ∷ more) = before first (in_order more)

abbrev pub made_of : {X Y : Type 0} → (X → Y) → Result X Unfilled → Result Y Unfilled
made_of make told = result_map_both make (λ why. why) told

-- one level, with what each value inside is filled with at a place
abbrev pub filled_level : List Known → Bool → Value-F (Place → Filling) → Place → Filling
filled_level known preview Value-F.Null place = Ok value.Null
filled_level known preview (Value-F.Flag flag) place = Ok (value.Flag flag)
filled_level known preview (Value-F.Whole number) place = Ok (value.Whole number)
filled_level known preview (Value-F.Text text) place = filled_text known preview text place
filled_level known preview (Value-F.List each) place = made_of value.List (in_order (map (λ one. one (inside place.levels)) each))
filled_level known preview (Value-F.Object fields) place =
    made_of value.Object (in_order (map (λ field. made_of (λ made. (field.0, made)) (field.1 (under field.0 (place.levels - 1)))) fields))
filled_level known preview (Value-F.Secret one) place = made_of value.Secret (one (inside place.levels))
filled_level known preview Value-F.Unknown place = Ok value.Unknown

-- the value at a place, with what the references in it stand for, or the first that is missing
abbrev pub filled : List Known → Bool → Value → Place → Filling
filled known preview = fold-Value (Place → Filling) (filled_level known preview)

abbrev pub filled_values : List Known → Bool → Place → List Value → Result (List Value) Unfilled
filled_values known preview place values = in_order (map (λ one. filled known preview one place) values)

abbrev pub filled_member : List Known → Bool → ℕ → List ℕ × Value → Result (List ℕ × Value) Unfilled
filled_member known preview levels field = made_of (λ made. (field.0, made)) (filled known preview field.1 (under field.0 levels))

-- the fields of an object, in each of whose values so many levels may stand
abbrev pub filled_members : List Known → Bool → ℕ → List (List ℕ × Value) → Result (List (List ℕ × Value)) Unfilled
filled_members known preview levels fields = in_order (map (filled_member known preview levels) fields)

-- the fields of inputs or outputs
abbrev pub filled_fields : List Known → Bool → List (List ℕ × Value) → Result (List (List ℕ × Value)) Unfilled
filled_fields known preview fields = filled_members known preview most_levels fields
