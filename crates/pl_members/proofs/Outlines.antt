-- A message is read back from its text: its objects have keys that rise, and what stands in them is read back.
use Rattle.std.proofs.Common.{◌≡◌, ℕ, suc, ◌<◌, ◌≤◌, ◌^◌, Bool, true, List, [], ◌∷◌, ◌++◌, map, Some, option_map, option_and_then, Less, Greater, refl, sym, ap, subst, ◌∙◌, arith, append-nil, append_assoc}
use Rattle.std.proofs.lemmas.Bool.{and_parts}
use Rattle.std.specs.Cmp.Lexicographic.{slice_cmp}
use Rattle.std.specs.List.{list_all}
use Rattle.std.specs.Ordering.{nat_cmp}
use Rattle.json.specs.Json as json
use Rattle.json.specs.Lex.{tokens}
use Rattle.json.specs.Tree as tree
use Rattle.json.specs.Tree.{HasNumbers, ItemsHaveNumbers, MembersHaveNumbers, json_tokens}
use Rattle.json.proofs.Printed.Decimals.{IsNumber-decimal}
use Rattle.json.proofs.Printed.Tokens.{tokens-print}
use Rattle.json.proofs.Printed.Trees.{value-json_tokens, ArePrintable-json_tokens}
use Rattle.serde_json.specs.Data.{Data, boolean, number, unsigned, string, array, object, item, Members, no_members, member, put, depth, items_depth, members_depth}
use Rattle.serde_json.specs.Read.{of_json, of_items, of_members, max_depth, read}
use Rattle.serde_json.specs.View.{items_of}
use Rattle.serde_json.specs.Written.{compact_text, outline, items_outline, members_outline}
use Rattle.serde_json.proofs.Numbers.{number_of-decimal}
use Rattle.serde_json.proofs.Texts.{print-outline}
use Rattle.pl_value.proofs.Rising.{reversed, less_from}
use Rattle.pl_value.specs.Inside.{greatest_field_depth}
use Rattle.pl_value.specs.IsValue.{AreFields}
use Rattle.pl_value.specs.Keys.{are_all_below, are_rising, is_below, keys_of}
use Rattle.pl_value.specs.declared.value.Value.TheVariants as value
use Rattle.pl_value.proofs.Levels.{depth-Object}
use Rattle.pl_json.specs.Fits.{FieldsFit}
use Rattle.pl_json.specs.Spelled.{members_of, spelled_fields}
use Rattle.pl_json.proofs.Levels.{spelled-Object}
use Rattle.pl_json.proofs.SpelledIsRead.{fields_text_is_read}
use Rattle.pl_json.proofs.SpellingShape.{spelled-nests}
use Rattle.pl_json.proofs.TextTells.{HasNumbers-outline, HasWholes}
use Rattle.pl_json.proofs.ValueTells.{object_fits}
use Rattle.pl_json.proofs.Wholes.{HasWholes-spelled}
use Rattle.pl_json.proofs.ReadBack.{depth-outline, whole}
use Rattle.pl_members.specs.Field.{Pairs}

-- data that is read back from its text, nested no deeper than so many levels
pub record IsRead (levels : ℕ) (d : Data) : Type 0 where
  pub numbers : HasNumbers (outline d)
  pub same : of_json (outline d) ≡ Some d
  pub nests : depth d ≤ levels

-- ---- the text

-- what the text reads as is what its outline reads as
read-outline : (d : Data) → HasNumbers (outline d) → depth d ≤ max_depth → read (compact_text d) ≡ of_json (outline d)
read-outline d numbers shallow =
    let told : tokens (compact_text d) ≡ json_tokens (outline d) =
    ap tokens (sym (print-outline d)) ∙ tokens-print (json_tokens (outline d)) (ArePrintable-json_tokens (outline d) numbers) in
    ap (λ ts. whole (json.value max_depth ts)) (told ∙ sym (append-nil (json_tokens (outline d))))
    ∙ ap whole (value-json_tokens (outline d) max_depth [] (omega (arith, depth-outline d)))

pub text-read : (d : Data) → IsRead max_depth d → read (compact_text d) ≡ Some d
text-read d is = read-outline d is.numbers is.nests ∙ is.same

-- ---- single values

pub string-read : (levels : ℕ) (text : List ℕ) → IsRead levels (string text)
string-read levels text = record { numbers = tt; same = refl; nests = omega arith }

pub boolean-read : (levels : ℕ) (flag : Bool) → IsRead levels (boolean flag)
boolean-read levels flag = record { numbers = tt; same = refl; nests = omega arith }

pub ticket-read : (levels ticket : ℕ) → ticket < 2 ^ 64 → IsRead levels (number (unsigned ticket))
ticket-read levels ticket small = record {
  numbers = IsNumber-decimal ticket small;
  same = ap (option_map number) (number_of-decimal ticket small);
  nests = omega arith;
}

pub fields-read : (levels : ℕ) (fields : Pairs) → 65 ≤ levels → AreFields fields → FieldsFit fields → greatest_field_depth fields ≤ 64 → IsRead levels (spelled_fields fields)
fields-read levels fields room sound fit shallow =
    let spells = spelled-Object fields in
    let numbers = HasNumbers-outline (spelled_fields fields) (subst HasWholes spells (HasWholes-spelled (value.Object fields) (object_fits fields fit))) in
    let flat = spelled-nests (value.Object fields) in
    let nests : depth (spelled_fields fields) ≤ 65 = omega (arith, ap depth spells, depth-Object fields) in
    record {
      numbers = numbers;
      same = sym (read-outline (spelled_fields fields) numbers (omega arith)) ∙ fields_text_is_read fields sound fit shallow;
      nests = omega arith;
    }

-- ---- lists

abbrev pub EachRead : ℕ → List Data → Type 0
EachRead levels [] = Unit {0}
EachRead levels (d ∷ ds) = IsRead levels d × EachRead levels ds

items-numbers : (levels : ℕ) (ds : List Data) → EachRead levels ds → ItemsHaveNumbers (items_outline (items_of ds))
items-numbers levels [] each = tt
items-numbers levels (d ∷ ds) each = (each.0.numbers, items-numbers levels ds each.1)

items-same : (levels : ℕ) (ds : List Data) → EachRead levels ds → of_items (items_outline (items_of ds)) ≡ Some (items_of ds)
items-same levels [] each = refl
items-same levels (d ∷ ds) each =
    ap (option_and_then (λ e. option_map (item e) (of_items (items_outline (items_of ds))))) each.0.same
    ∙ ap (option_map (item d)) (items-same levels ds each.1)

items-nest : (levels : ℕ) (ds : List Data) → EachRead levels ds → items_depth (items_of ds) ≤ levels
items-nest levels [] each = omega arith
items-nest levels (d ∷ ds) each =
    let here = each.0.nests in
    let later = items-nest levels ds each.1 in
    omega arith

pub array-read : (levels : ℕ) (ds : List Data) → EachRead levels ds → IsRead (suc levels) (array (items_of ds))
array-read levels ds each = record {
  numbers = items-numbers levels ds each;
  same = ap (option_map array) (items-same levels ds each);
  nests = omega (arith, items-nest levels ds each);
}

pub each_text-read : (levels : ℕ) (texts : List (List ℕ)) → EachRead levels (map string texts)
each_text-read levels [] = tt
each_text-read levels (text ∷ more) = (string-read levels text, each_text-read levels more)

-- ---- objects

abbrev pub EachMemberRead : ℕ → List (List ℕ × Data) → Type 0
EachMemberRead levels [] = Unit {0}
EachMemberRead levels (one ∷ more) = IsRead levels one.1 × EachMemberRead levels more

-- each key of the first is below each of the others
abbrev Under : List (List ℕ × Data) → List (List ℕ × Data) → Type 0
Under done [] = Unit {0}
Under done (one ∷ more) = (are_all_below done one.0 ≡ true) × Under done more

put_at_end : (done : List (List ℕ × Data)) (key : List ℕ) (d : Data) → are_all_below done key ≡ true → put key d (members_of done) ≡ members_of (done ++ (key, d) ∷ [])
put_at_end [] key d below = refl
put_at_end (one ∷ more) key d below =
    let parts = and_parts (is_below one.0 key) (are_all_below more key) below in
    let above : slice_cmp nat_cmp key one.0 ≡ Greater = reversed one.0 key Less (less_from _ parts.0) in
    rw above (ap (member one.0 one.1) (put_at_end more key d parts.1))

below_next : (done : List (List ℕ × Data)) (one : List ℕ × Data) (key : List ℕ) → are_all_below done key ≡ true → is_below one.0 key ≡ true → are_all_below (done ++ one ∷ []) key ≡ true
below_next [] one key below last = rw last refl
below_next (first ∷ done) one key below last =
    let parts = and_parts (is_below first.0 key) (are_all_below done key) below in
    rw (parts.0) (below_next done one key parts.1 last)

under_next : (done : List (List ℕ × Data)) (one : List ℕ × Data) (more : List (List ℕ × Data)) → Under done more → list_all (is_below one.0) (keys_of more) ≡ true → Under (done ++ one ∷ []) more
under_next done one [] under above = tt
under_next done one (next ∷ more) under above =
    let parts = and_parts (is_below one.0 next.0) (list_all (is_below one.0) (keys_of more)) above in
    (below_next done one next.0 under.0 parts.0, under_next done one more under.1 parts.1)

under_none : (more : List (List ℕ × Data)) → Under [] more
under_none [] = tt
under_none (one ∷ more) = (refl, under_none more)

members-numbers : (levels : ℕ) (ms : List (List ℕ × Data)) → EachMemberRead levels ms → MembersHaveNumbers (members_outline (members_of ms))
members-numbers levels [] each = tt
members-numbers levels (one ∷ more) each = (each.0.numbers, members-numbers levels more each.1)

members-same : (levels : ℕ) (ms done : List (List ℕ × Data)) → EachMemberRead levels ms → are_rising (keys_of ms) ≡ true → Under done ms
    → of_members (members_outline (members_of ms)) (members_of done) ≡ Some (members_of (done ++ ms))
members-same levels [] done each rising under = ap (λ ms. Some (members_of ms)) (sym (append-nil done))
members-same levels (one ∷ more) done each rising under =
    let parts = and_parts (list_all (is_below one.0) (keys_of more)) (are_rising (keys_of more)) rising in
    ap (option_and_then (λ e. of_members (members_outline (members_of more)) (put one.0 e (members_of done)))) each.0.same
    ∙ ap (of_members (members_outline (members_of more))) (put_at_end done one.0 one.1 under.0)
    ∙ members-same levels more (done ++ one ∷ []) each.1 parts.1 (under_next done one more under.1 parts.0)
    ∙ ap (λ ms. Some (members_of ms)) (append_assoc done (one ∷ []) more)

members-nest : (levels : ℕ) (ms : List (List ℕ × Data)) → EachMemberRead levels ms → members_depth (members_of ms) ≤ levels
members-nest levels [] each = omega arith
members-nest levels (one ∷ more) each =
    let here = each.0.nests in
    let later = members-nest levels more each.1 in
    omega arith

list-read : (levels : ℕ) (ms : List (List ℕ × Data)) → are_rising (keys_of ms) ≡ true → EachMemberRead levels ms → IsRead (suc levels) (object (members_of ms))
list-read levels ms rising each = record {
  numbers = members-numbers levels ms each;
  same = ap (option_map object) (members-same levels ms [] each rising (under_none ms));
  nests = omega (arith, members-nest levels ms each);
}

-- the members, in their order
abbrev pub list_of : Members → List (List ℕ × Data)
list_of no_members = []
list_of (member key d more) = (key, d) ∷ list_of more

members_of-list_of : (ms : Members) → members_of (list_of ms) ≡ ms
members_of-list_of no_members = refl
members_of-list_of (member key d more) = ap (member key d) (members_of-list_of more)

pub object-read : (levels : ℕ) (ms : Members) → are_rising (keys_of (list_of ms)) ≡ true → EachMemberRead levels (list_of ms) → IsRead (suc levels) (object ms)
object-read levels ms rising each = subst (λ made. IsRead (suc levels) (object made)) (members_of-list_of ms) (list-read levels (list_of ms) rising each)
