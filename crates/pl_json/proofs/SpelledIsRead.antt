-- A value is read from its spelling.
use Rattle.std.proofs.Common.{◌≡◌, ℕ, ℤ, zero, suc, pos, negsuc, ◌+◌, ◌≤◌, Bool, true, false, not, ◌||◌, cond, bytes_eq, List, [], ◌∷◌, map, Option, Some, None, Result, Ok, Ordering, Less, Equal, Greater, is_eq, refl, sym, ap, ap₂, subst, ◌∙◌, arith}
use Rattle.std.proofs.lemmas.Bool.{and_parts, not-true}
use Rattle.std.proofs.lemmas.List.Folds.{list_all-map}
use Rattle.std.proofs.lemmas.Map.Text.{is_eq-slice_cmp}
use Rattle.std.proofs.lemmas.Slice.Eq.{bytes_eq-Decides}
use Rattle.std.specs.Cmp.Lexicographic.{slice_cmp}
use Rattle.std.specs.List.{list_all}
use Rattle.std.specs.Ordering.{nat_cmp, match_ordering}
use Rattle.std.specs.Result.{result_map_both}
use Rattle.pl_value.proofs.FieldParts.{are_fields-parts}
use Rattle.pl_value.proofs.Levels.{is_value-List, is_value-Object, is_value-Secret, is_value-Text, depth-Object, map-map}
use Rattle.pl_value.specs.Inside.{depth, depth_level, greatest, greatest_depth, greatest_field_depth}
use Rattle.pl_value.specs.IsValue.{is_value, are_values, are_fields, each_is_value, each_may_stand, is_unmarked, may_stand_under}
use Rattle.pl_value.specs.Marks.{secret_key, secret_mark, unknown_text}
use Rattle.pl_value.specs.declared.json.JsonFault.{JsonFault}
use Rattle.pl_value.specs.declared.value.Value.{Value, roll-Value, out-Value, roll-out-Value}
use Rattle.pl_value.specs.declared.value.Value.TheOpen.{Value-F}
use Rattle.pl_value.specs.declared.value.Value.TheVariants as value
use Rattle.pl_value.specs.declared.value.Value.TheFolds.{ind-Value, map-Value, fold-roll-Value}
use Rattle.serde_json.specs.Data.{Data, null, boolean, string, member, no_members, depth as nesting}
use Rattle.serde_json.specs.Find.{as_i64, get_member, of_integer}
use Rattle.serde_json.specs.Read.{read, max_depth}
use Rattle.pl_value.proofs.Kept.{Having, opened, values_of, pairs_of}
use Rattle.pl_json.specs.Faults.{with_fault, behind, hidden, placed, key_step, element_step}
use Rattle.pl_json.specs.Fits.{fits, wholes_fit, wholes_fit_level}
use Rattle.pl_json.specs.Laws.{SpelledIsRead, TextIsRead, FieldsAreRead, FieldsTextIsRead}
use Rattle.pl_json.specs.Read.{Reading, deepest, before, whole_read, text_read, element_read, items_read, field_read, members_read, marked_by, is_marked, plaintext_read, object_by, object_read, read_in, unless_secret_by, fields_of}
use Rattle.pl_json.specs.Spelled.{spelled, spelled_level, spelled_items, spelled_members, spelled_fields, plaintext_key}
use Rattle.pl_json.proofs.Levels.{spelled-Object, spelled-Text, spelled-Unknown}
use Rattle.pl_json.proofs.ReadBack.{read_back, Rises}
use Rattle.pl_json.proofs.Readings.{read_in-number, read_in-string}
use Rattle.pl_json.proofs.Shallow.{deepest-is}
use Rattle.pl_json.proofs.SpellingShape.{spelled-rises, spelled-nests}
use Rattle.pl_json.proofs.TextTells.{HasWholes}
use Rattle.pl_json.proofs.ValueTells.{object_fits}
use Rattle.pl_json.proofs.Wholes.{HasWholes-spelled}

-- ---- values that hold nothing

read_in-null : (levels : ℕ) → read_in levels null ≡ Ok value.Null
read_in-null zero = refl
read_in-null (suc levels) = refl

read_in-boolean : (levels : ℕ) (flag : Bool) → read_in levels (boolean flag) ≡ Ok (value.Flag flag)
read_in-boolean zero flag = refl
read_in-boolean (suc levels) flag = refl

as_i64-whole : (whole : ℤ) → fits whole ≡ true → as_i64 (of_integer whole) ≡ Some whole
as_i64-whole (pos n) small = ap (λ t. cond t (Some (pos n)) None) small
as_i64-whole (negsuc n) small = refl

text_read-same : (text : List ℕ) → not (bytes_eq text unknown_text) ≡ true → text_read text ≡ value.Text text
text_read-same text other = ap (λ t. cond t value.Unknown (value.Text text)) (not-true _ other)

text_read-unknown : text_read unknown_text ≡ value.Unknown
unfolding unknown_text
text_read-unknown = refl

-- ---- an object of a value is not read as a secret

unknown_plain : bytes_eq unknown_text secret_mark ≡ false
unfolding unknown_text secret_mark
unknown_plain = refl

abbrev IsPlain : Value → Type 0
IsPlain one = is_unmarked one ≡ true → marked_by (Some (spelled one)) ≡ Ok false

plain_level : (x : Value-F Value) → IsPlain (roll-Value x)
plain_level Value-F.Null = subst IsPlain (sym value.rolls-Null) (λ unmarked. cc)
plain_level (Value-F.Flag flag) = subst IsPlain (sym (value.rolls-Flag flag)) (λ unmarked. cc)
plain_level (Value-F.Whole whole) = subst IsPlain (sym (value.rolls-Whole whole)) (λ unmarked. cc)
plain_level (Value-F.Text text) =
    subst IsPlain (sym (value.rolls-Text text)) (λ unmarked. ap (λ d. marked_by (Some d)) (spelled-Text text) ∙ ap Ok (not-true _ unmarked))
plain_level (Value-F.List values) = subst IsPlain (sym (value.rolls-List values)) (λ unmarked. cc)
plain_level (Value-F.Object fields) = subst IsPlain (sym (value.rolls-Object fields)) (λ unmarked. cc)
plain_level (Value-F.Secret inner) = subst IsPlain (sym (value.rolls-Secret inner)) (λ unmarked. cc)
plain_level Value-F.Unknown =
    subst IsPlain (sym value.rolls-Unknown) (λ unmarked. ap (λ d. marked_by (Some d)) spelled-Unknown ∙ ap Ok unknown_plain)

plain : (one : Value) → IsPlain one
plain one = subst IsPlain (roll-out-Value one) (plain_level (out-Value one))

unmarked_by : (o : Ordering) (key : List ℕ) (one : Value) (later : Option Data) → slice_cmp nat_cmp secret_key key ≡ o → may_stand_under key one ≡ true → marked_by later ≡ Ok false
    → marked_by (match_ordering o later (Some (spelled one)) later) ≡ Ok false
unmarked_by Less key one later is may plain_later = plain_later
unmarked_by Greater key one later is may plain_later = plain_later
unmarked_by Equal key one later is may plain_later =
    let same : secret_key ≡ key = (bytes_eq-Decides secret_key key).0 (sym (is_eq-slice_cmp secret_key key) ∙ ap is_eq is) in
    let equal : bytes_eq key secret_key ≡ true = (bytes_eq-Decides key secret_key).1 (sym same) in
    plain one (sym (ap (λ t. not t || is_unmarked one) equal) ∙ may)

unmarked : (fields : List (List ℕ × Value)) → each_may_stand fields ≡ true → is_marked (spelled_members fields) ≡ Ok false
unmarked [] may = refl
unmarked (field ∷ more) may =
    let parts = and_parts (may_stand_under field.0 field.1) (each_may_stand more) may in
    unmarked_by (slice_cmp nat_cmp secret_key field.0) field.0 field.1 (get_member secret_key (spelled_members more)) refl parts.0 (unmarked more parts.1)

-- ---- the object of a secret is read as one

secret_data_read : (inside : Data → Reading) (text : List ℕ)
    → object_read inside (member secret_key (string secret_mark) (member plaintext_key (string text) no_members)) ≡ plaintext_read inside (read text)
unfolding secret_key secret_mark plaintext_key
secret_data_read inside text = refl

-- ---- values, level by level

abbrev Reads : Value → Type 0
Reads one = (levels : ℕ) → is_value one ≡ true → wholes_fit one ≡ true → depth one ≤ levels → levels ≤ max_depth → read_in levels (spelled one) ≡ Ok one

abbrev Kept : Type 0
Kept = Having Reads

abbrev all_fit : List Value → Bool
all_fit values = list_all (λ fit. fit) (map wholes_fit values)

abbrev each_fits : List (List ℕ × Value) → Bool
each_fits fields = list_all (λ field. wholes_fit field.1) fields

before_ok : {A : Type 0} (one : Result A JsonFault) (others : Result (List A) JsonFault) (found : A) (more : List A) → one ≡ Ok found → others ≡ Ok more
    → before one others ≡ Ok (found ∷ more)
before_ok one others found more here later = ap₂ before here later

items_read-spelled : (levels place : ℕ) (kept : List Kept) → are_values (values_of kept) ≡ true → all_fit (values_of kept) ≡ true → greatest_depth (values_of kept) ≤ levels → levels ≤ max_depth
    → items_read (read_in levels) place (spelled_items (values_of kept)) ≡ Ok (values_of kept)
items_read-spelled levels place [] all fit deep small = refl
items_read-spelled levels place (one ∷ more) all fit deep small =
    let is = and_parts (is_value one.0) (are_values (values_of more)) all in
    let fits = and_parts (wholes_fit one.0) (all_fit (values_of more)) fit in
    let here : depth one.0 ≤ levels = omega arith in
    let later : greatest_depth (values_of more) ≤ levels = omega arith in
    before_ok (element_read (read_in levels) place (spelled one.0)) (items_read (read_in levels) (place + 1) (spelled_items (values_of more))) one.0 (values_of more)
    (ap (with_fault (behind (element_step place))) (one.1 levels is.0 fits.0 here small))
    (items_read-spelled levels (place + 1) more is.1 fits.1 later small)

members_read-spelled : (levels : ℕ) (kept : List (List ℕ × Kept)) → each_is_value (pairs_of kept) ≡ true → each_fits (pairs_of kept) ≡ true → greatest_field_depth (pairs_of kept) ≤ levels → levels ≤ max_depth
    → members_read (read_in levels) (spelled_members (pairs_of kept)) ≡ Ok (pairs_of kept)
members_read-spelled levels [] all fit deep small = refl
members_read-spelled levels (field ∷ more) all fit deep small =
    let is = and_parts (is_value field.1.0) (each_is_value (pairs_of more)) all in
    let fits = and_parts (wholes_fit field.1.0) (each_fits (pairs_of more)) fit in
    let here : depth field.1.0 ≤ levels = omega arith in
    let later : greatest_field_depth (pairs_of more) ≤ levels = omega arith in
    before_ok (field_read (read_in levels) field.0 (spelled field.1.0)) (members_read (read_in levels) (spelled_members (pairs_of more))) (field.0, field.1.0) (pairs_of more)
    (ap (result_map_both (λ found. (field.0, found)) (behind (key_step field.0))) (field.1.1 levels is.0 fits.0 here small))
    (members_read-spelled levels more is.1 fits.1 later small)

abbrev spelled_of : Value-F Value → Data
spelled_of x = spelled_level (map-Value Value Data spelled x)

-- what holds a value is read where a level is left for it
list_read-spelled : (levels : ℕ) (kept : List Kept) → are_values (values_of kept) ≡ true → all_fit (values_of kept) ≡ true → greatest_depth (values_of kept) + 1 ≤ levels → levels ≤ max_depth
    → read_in levels (spelled_of (Value-F.List (values_of kept))) ≡ Ok (value.List (values_of kept))
list_read-spelled zero kept all fit deep small = absurd (omega arith)
list_read-spelled (suc levels) kept all fit deep small =
    ap (result_map_both value.List (λ fault. fault)) (items_read-spelled levels 0 kept all fit (omega arith) (omega arith))

object_read-spelled : (levels : ℕ) (kept : List (List ℕ × Kept)) → are_fields (pairs_of kept) ≡ true → each_fits (pairs_of kept) ≡ true → greatest_field_depth (pairs_of kept) + 1 ≤ levels → levels ≤ max_depth
    → read_in levels (spelled_of (Value-F.Object (pairs_of kept))) ≡ Ok (value.Object (pairs_of kept))
object_read-spelled zero kept sound fit deep small = absurd (omega arith)
object_read-spelled (suc levels) kept sound fit deep small =
    let parts = are_fields-parts (pairs_of kept) sound in
    ap (object_by (read_in levels) (spelled_members (pairs_of kept))) (unmarked (pairs_of kept) parts.2)
    ∙ ap (result_map_both value.Object (λ fault. fault)) (members_read-spelled levels kept parts.1 fit (omega arith) (omega arith))

secret_read-spelled : (levels : ℕ) (kept : Kept) → is_value kept.0 ≡ true → wholes_fit kept.0 ≡ true → depth kept.0 + 1 ≤ levels → levels ≤ max_depth
    → read_in levels (spelled_of (Value-F.Secret kept.0)) ≡ Ok (value.Secret kept.0)
secret_read-spelled zero kept is fit deep small = absurd (omega arith)
secret_read-spelled (suc levels) kept is fit deep small =
    secret_data_read (read_in levels) _
    ∙ ap (plaintext_read (read_in levels))
    (read_back (spelled kept.0) (HasWholes-spelled kept.0 fit) (spelled-rises kept.0 is) (omega (arith, spelled-nests kept.0)))
    ∙ ap (result_map_both value.Secret hidden) (kept.1 levels is fit (omega arith) (omega arith))

reads_level : (levels : ℕ) (y : Value-F Kept) → is_value (roll-Value (opened y)) ≡ true → wholes_fit_level (map-Value Value Bool wholes_fit (opened y)) ≡ true
    → depth_level (map-Value Value ℕ depth (opened y)) ≤ levels → levels ≤ max_depth → read_in levels (spelled_of (opened y)) ≡ Ok (roll-Value (opened y))
reads_level levels Value-F.Null is fit deep small = read_in-null levels ∙ ap Ok (sym value.rolls-Null)
reads_level levels (Value-F.Flag flag) is fit deep small = read_in-boolean levels flag ∙ ap Ok (sym (value.rolls-Flag flag))
reads_level levels (Value-F.Whole whole) is fit deep small =
    read_in-number levels (of_integer whole) ∙ ap whole_read (as_i64-whole whole fit) ∙ ap Ok (sym (value.rolls-Whole whole))
reads_level levels (Value-F.Text text) is fit deep small =
    let other : not (bytes_eq text unknown_text) ≡ true = sym (is_value-Text text) ∙ ap is_value (sym (value.rolls-Text text)) ∙ is in
    read_in-string levels text ∙ ap Ok (text_read-same text other) ∙ ap Ok (sym (value.rolls-Text text))
reads_level levels (Value-F.List kept) is fit deep small =
    let all : are_values (values_of kept) ≡ true = sym (is_value-List (values_of kept)) ∙ ap is_value (sym (value.rolls-List (values_of kept))) ∙ is in
    list_read-spelled levels kept all fit deep small ∙ ap Ok (sym (value.rolls-List (values_of kept)))
reads_level levels (Value-F.Object kept) is fit deep small =
    let fields = pairs_of kept in
    let sound : are_fields fields ≡ true = sym (is_value-Object fields) ∙ ap is_value (sym (value.rolls-Object fields)) ∙ is in
    let each : each_fits fields ≡ true = sym (list_all-map (λ (field : List ℕ × Bool). field.1) (λ field. (field.0, wholes_fit field.1)) fields) ∙ fit in
    let depths = map-map (λ (field : List ℕ × ℕ). field.1) (λ field. (field.0, depth field.1)) fields in
    let flat : greatest_field_depth fields + 1 ≤ levels = subst (λ ds. greatest ds + 1 ≤ levels) depths deep in
    object_read-spelled levels kept sound each flat small ∙ ap Ok (sym (value.rolls-Object fields))
reads_level levels (Value-F.Secret kept) is fit deep small =
    let inner : is_value kept.0 ≡ true = sym (is_value-Secret kept.0) ∙ ap is_value (sym (value.rolls-Secret kept.0)) ∙ is in
    secret_read-spelled levels kept inner fit deep small ∙ ap Ok (sym (value.rolls-Secret kept.0))
reads_level levels Value-F.Unknown is fit deep small =
    read_in-string levels unknown_text ∙ ap Ok text_read-unknown ∙ ap Ok (sym value.rolls-Unknown)

reads_rolled : (y : Value-F Kept) → Reads (roll-Value (opened y))
reads_rolled y levels is fit deep small =
    ap (read_in levels) (fold-roll-Value Data spelled_level (opened y))
    ∙ reads_level levels y is (sym (fold-roll-Value Bool wholes_fit_level (opened y)) ∙ fit) (subst (λ n. n ≤ levels) (fold-roll-Value ℕ depth_level (opened y)) deep) small

reads : (one : Value) → Reads one
reads = ind-Value Reads (λ x y is. subst (λ (z : Value-F Value). Reads (roll-Value z)) is (reads_rolled y))

pub spelled_is_read : SpelledIsRead
spelled_is_read path one is fit deep =
    ap (with_fault (placed path)) (reads one deepest is fit (omega (arith, deepest-is)) (omega (arith, deepest-is)))

pub text_is_read : TextIsRead
text_is_read one is fit deep = read_back (spelled one) (HasWholes-spelled one fit) (spelled-rises one is) (omega (arith, spelled-nests one))

-- ---- objects

fields_read-spelled : (levels : ℕ) (fields : List (List ℕ × Value)) → each_is_value fields ≡ true → each_fits fields ≡ true → greatest_field_depth fields ≤ levels → levels ≤ max_depth
    → members_read (read_in levels) (spelled_members fields) ≡ Ok fields
fields_read-spelled levels [] all fit deep small = refl
fields_read-spelled levels (field ∷ more) all fit deep small =
    let is = and_parts (is_value field.1) (each_is_value more) all in
    let fits = and_parts (wholes_fit field.1) (each_fits more) fit in
    let here : depth field.1 ≤ levels = omega arith in
    let later : greatest_field_depth more ≤ levels = omega arith in
    before_ok (field_read (read_in levels) field.0 (spelled field.1)) (members_read (read_in levels) (spelled_members more)) field more
    (ap (result_map_both (λ found. (field.0, found)) (behind (key_step field.0))) (reads field.1 levels is.0 fits.0 here small))
    (fields_read-spelled levels more is.1 fits.1 later small)

pub fields_are_read : FieldsAreRead
fields_are_read path fields sound fit deep =
    let parts = are_fields-parts fields sound in
    ap (fields_of path)
    (ap (unless_secret_by (spelled_members fields)) (unmarked fields parts.2)
    ∙ ap (result_map_both Some (λ fault. fault)) (fields_read-spelled deepest fields parts.1 fit (omega (arith, deepest-is)) (omega (arith, deepest-is))))

pub fields_text_is_read : FieldsTextIsRead
fields_text_is_read fields sound fit deep =
    let same = spelled-Object fields in
    let wholes = HasWholes-spelled (value.Object fields) (object_fits fields fit) in
    let rising = spelled-rises (value.Object fields) (is_value-Object fields ∙ sound) in
    let nests = spelled-nests (value.Object fields) in
    read_back (spelled_fields fields) (subst HasWholes same wholes) (subst Rises same rising)
    (omega (arith, ap nesting same, depth-Object fields))
