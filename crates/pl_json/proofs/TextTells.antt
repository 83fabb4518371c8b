-- The text of data whose numbers are whole tells the data.
use Rattle.std.proofs.Common.{◌≡◌, ℤ, pos, negsuc, ◌^◌, ◌<◌, max, true, List, [], ◌++◌, Option, Some, refl, sym, ap, ap₂, subst, ◌∙◌, arith}
use Rattle.std.proofs.lemmas.Fmt.{signed_decimal_injective}
use Rattle.std.specs.Fmt.{signed_decimal}
use borrow.Author.Tests.{ltb-true}
use lib.Signed.{mag}
use Rattle.json.specs.Json.{Json, value}
use Rattle.json.specs.Lex.{tokens}
use Rattle.json.specs.Print.{IsNumber}
use Rattle.json.specs.Token.{Token}
use Rattle.json.specs.Tree.{json_tokens, depth, HasNumbers, ItemsHaveNumbers, MembersHaveNumbers}
use Rattle.json.proofs.Printed.Decimals.{IsNumber-signed_decimal}
use Rattle.json.proofs.Printed.Tokens.{tokens-print}
use Rattle.json.proofs.Printed.Trees.{value-json_tokens, ArePrintable-json_tokens}
use Rattle.serde_json.specs.Data.{Num, Data, null, boolean, number, string, array, object, Items, no_items, item, Members, no_members, member}
use Rattle.serde_json.specs.Find.{of_integer}
use Rattle.serde_json.specs.Written.{number_text, compact_text, outline, items_outline, members_outline}
use Rattle.serde_json.proofs.Texts.{print-outline}
use Rattle.pl_json.specs.Fits.{fits}

-- a whole number of 64 bits with a sign
abbrev pub IsWhole : Num → Type 0
IsWhole n = (whole : ℤ) × (fits whole ≡ true) × (n ≡ of_integer whole)

abbrev mutual
  pub HasWholes : Data → Type 0
  HasWholes null = Unit {0}
  HasWholes (boolean b) = Unit {0}
  HasWholes (number n) = IsWhole n
  HasWholes (string s) = Unit {0}
  HasWholes (array ds) = ItemsHaveWholes ds
  HasWholes (object ms) = MembersHaveWholes ms

  pub ItemsHaveWholes : Items → Type 0
  ItemsHaveWholes no_items = Unit {0}
  ItemsHaveWholes (item d ds) = HasWholes d × ItemsHaveWholes ds

  pub MembersHaveWholes : Members → Type 0
  MembersHaveWholes no_members = Unit {0}
  MembersHaveWholes (member k d ms) = HasWholes d × MembersHaveWholes ms

fits_mag : (whole : ℤ) → fits whole ≡ true → mag whole < 2 ^ 63
fits_mag (pos n) small = omega (arith, ltb-true)
fits_mag (negsuc n) small = omega (arith, ltb-true)

number_text-of_integer : (whole : ℤ) → number_text (of_integer whole) ≡ signed_decimal whole
number_text-of_integer (pos n) = refl
number_text-of_integer (negsuc n) = refl

is_number : (n : Num) → IsWhole n → IsNumber (number_text n)
is_number n w = subst IsNumber (sym (ap number_text w.2 ∙ number_text-of_integer w.0)) (IsNumber-signed_decimal w.0 (fits_mag w.0 w.1))

same_number : (m n : Num) → IsWhole m → IsWhole n → number_text m ≡ number_text n → m ≡ n
same_number m n v w same =
    let texts : signed_decimal v.0 ≡ signed_decimal w.0 =
    sym (ap number_text v.2 ∙ number_text-of_integer v.0) ∙ same ∙ ap number_text w.2 ∙ number_text-of_integer w.0 in
    v.2 ∙ ap of_integer (signed_decimal_injective v.0 w.0 (fits_mag v.0 v.1) (fits_mag w.0 w.1) texts) ∙ sym w.2

-- ---- each number's text is a number

mutual
  pub HasNumbers-outline : (d : Data) → HasWholes d → HasNumbers (outline d)
  HasNumbers-outline null w = tt
  HasNumbers-outline (boolean b) w = tt
  HasNumbers-outline (number n) w = is_number n w
  HasNumbers-outline (string s) w = tt
  HasNumbers-outline (array ds) w = ItemsHaveNumbers-outline ds w
  HasNumbers-outline (object ms) w = MembersHaveNumbers-outline ms w

  ItemsHaveNumbers-outline : (ds : Items) → ItemsHaveWholes ds → ItemsHaveNumbers (items_outline ds)
  ItemsHaveNumbers-outline no_items w = tt
  ItemsHaveNumbers-outline (item d ds) w = (HasNumbers-outline d w.0, ItemsHaveNumbers-outline ds w.1)

  MembersHaveNumbers-outline : (ms : Members) → MembersHaveWholes ms → MembersHaveNumbers (members_outline ms)
  MembersHaveNumbers-outline no_members w = tt
  MembersHaveNumbers-outline (member k d ms) w = (HasNumbers-outline d w.0, MembersHaveNumbers-outline ms w.1)

-- ---- the outline has all of the data

mutual
  same_data : (d e : Data) → HasWholes d → HasWholes e → outline d ≡ outline e → d ≡ e
  same_data null null v w same = refl
  same_data null e v w same = cc
  same_data (boolean b) (boolean c) v w same = cc
  same_data (boolean b) e v w same = cc
  same_data (number m) (number n) v w same = ap number (same_number m n v w cc)
  same_data (number m) e v w same = cc
  same_data (string s) (string t) v w same = cc
  same_data (string s) e v w same = cc
  same_data (array ds) (array es) v w same = ap array (same_items ds es v w cc)
  same_data (array ds) e v w same = cc
  same_data (object ms) (object ns) v w same = ap object (same_members ms ns v w cc)
  same_data (object ms) e v w same = cc

  same_items : (ds es : Items) → ItemsHaveWholes ds → ItemsHaveWholes es → items_outline ds ≡ items_outline es → ds ≡ es
  same_items no_items no_items v w same = refl
  same_items no_items (item e es) v w same = cc
  same_items (item d ds) no_items v w same = cc
  same_items (item d ds) (item e es) v w same = ap₂ item (same_data d e v.0 w.0 cc) (same_items ds es v.1 w.1 cc)

  same_members : (ms ns : Members) → MembersHaveWholes ms → MembersHaveWholes ns → members_outline ms ≡ members_outline ns → ms ≡ ns
  same_members no_members no_members v w same = refl
  same_members no_members (member l e ns) v w same = cc
  same_members (member k d ms) no_members v w same = cc
  same_members (member k d ms) (member l e ns) v w same =
      let key : k ≡ l = cc in
      ap (λ name. member name d ms) key ∙ ap₂ (member l) (same_data d e v.0 w.0 cc) (same_members ms ns v.1 w.1 cc)

-- ---- the text has all of the outline

same_tokens : (d e : Data) → HasWholes d → HasWholes e → compact_text d ≡ compact_text e → json_tokens (outline d) ≡ json_tokens (outline e)
same_tokens d e v w same =
    sym (tokens-print (json_tokens (outline d)) (ArePrintable-json_tokens (outline d) (HasNumbers-outline d v)))
    ∙ ap tokens (print-outline d ∙ same ∙ sym (print-outline e))
    ∙ tokens-print (json_tokens (outline e)) (ArePrintable-json_tokens (outline e) (HasNumbers-outline e w))

one_outline : (i j : Json) (ts : List Token) → ◌≡◌ {A = Option (Json × List Token)} (Some (i, ts)) (Some (j, ts)) → i ≡ j
one_outline i j ts same =
    let pair : ◌≡◌ {A = Json × List Token} (i, ts) (j, ts) = cc in
    ap (λ (p : Json × List Token). p.0) pair

pub text_tells_data : (d e : Data) → HasWholes d → HasWholes e → compact_text d ≡ compact_text e → d ≡ e
text_tells_data d e v w same =
    let deep = max (depth (outline d)) (depth (outline e)) in
    let left = value-json_tokens (outline d) deep [] (omega arith) in
    let right = value-json_tokens (outline e) deep [] (omega arith) in
    same_data d e v w
    (one_outline (outline d) (outline e) [] (sym left ∙ ap (λ ts. value deep (ts ++ [])) (same_tokens d e v w same) ∙ right))
