-- What is read of data that a text spells: values of properties, whose whole numbers have 64 bits with a sign.
use Rattle.std.proofs.Common.{◌≡◌, ℕ, zero, suc, ◌+◌, ◌^◌, ℤ, pos, Bool, true, false, not, ◌||◌, nat_lt, cond, bytes_eq, List, [], ◌∷◌, Option, Some, None, Result, Ok, Err, IfOk, Ordering, Less, Equal, Greater, is_eq, refl, sym, ap, subst, ◌∙◌}
use Rattle.std.proofs.lemmas.Bool.{and_from}
use Rattle.std.proofs.lemmas.List.Folds.{list_all-map}
use Rattle.std.proofs.lemmas.Map.Text.{is_eq-slice_cmp}
use Rattle.std.proofs.lemmas.Slice.Eq.{bytes_eq-Decides}
use Rattle.std.specs.Cmp.Lexicographic.{slice_cmp}
use Rattle.std.specs.List.{list_all}
use Rattle.std.specs.Ordering.{nat_cmp, match_ordering}
use Rattle.std.specs.Result.{result_map_both}
use Rattle.serde_json.specs.Data.{Data, null, boolean, number, unsigned, negative, float, string, array, object, Items, no_items, item, Members, no_members, member}
use Rattle.serde_json.specs.Find.{as_i64, get_member}
use Rattle.serde_json.specs.Read.{read}
use Rattle.pl_value.proofs.FieldParts.{are_fields-from}
use Rattle.pl_value.proofs.Levels.{is_value-Flag, is_value-List, is_value-Null, is_value-Object, is_value-Secret, is_value-Text, is_value-Unknown, is_value-Whole}
use Rattle.pl_value.proofs.Rising.{apart}
use Rattle.pl_value.specs.IsValue.{are_fields, are_values, each_is_value, each_may_stand, is_unmarked, is_value, may_stand_under}
use Rattle.pl_value.specs.Keys.{are_rising, is_below, keys_of}
use Rattle.pl_value.specs.Marks.{secret_key, unknown_text}
use Rattle.pl_value.specs.declared.json.JsonFault.{JsonFault}
use Rattle.pl_value.specs.declared.value.Value.{Value}
use Rattle.pl_value.specs.declared.value.Value.TheOpen.{Value-F}
use Rattle.pl_value.specs.declared.value.Value.TheVariants as value
use Rattle.pl_value.specs.declared.value.Value.TheFolds.{fold-roll-Value}
use Rattle.pl_json.proofs.ReadBack.{AllAbove}
use Rattle.pl_json.proofs.ValueTells.{object_fits}
use Rattle.pl_json.specs.Faults.{with_fault}
use Rattle.pl_json.specs.Fits.{fits, wholes_fit, wholes_fit_level}
use Rattle.pl_json.specs.Read.{Reading, before, is_marked, items_read, marked_by, members_read, object_by, plaintext_read, read_in, secret_by, text_read, whole_read}
use Rattle.pl_json.proofs.MemberKeys.{same_text, unmarked_by}
use Rattle.pl_members.specs.Field.{Pairs}
use Rattle.pl_members.proofs.HeldData.{Holds, IsFitNumber, ItemsHold, MembersHold, read-holds}
use Rattle.pl_members.proofs.Steps.{Gives}

-- a value of a property, whose whole numbers fit
abbrev pub IsRight : Value → Type 0
IsRight one = (is_value one ≡ true) × (wholes_fit one ≡ true)

abbrev Right : Reading → Type 0
Right told = IfOk told IsRight

abbrev ItemsRight : Result (List Value) JsonFault → Type 0
ItemsRight told = IfOk told (λ found. (are_values found ≡ true) × (list_all wholes_fit found ≡ true))

abbrev each_fits : Pairs → Bool
each_fits fields = list_all (λ field. wholes_fit field.1) fields

-- the keys of members
abbrev names_of : Members → List (List ℕ)
names_of no_members = []
names_of (member key d ms) = key ∷ names_of ms

-- what is read of members
pub record AreRead (ms : Members) (fields : Pairs) : Type 0 where
  pub keys : keys_of fields ≡ names_of ms
  pub values : each_is_value fields ≡ true
  pub fit : each_fits fields ≡ true

abbrev MembersRight : Members → Result Pairs JsonFault → Type 0
MembersRight ms told = IfOk told (AreRead ms)

-- ---- each kind of value

fits-Null : wholes_fit value.Null ≡ true
fits-Null = ap wholes_fit (sym value.rolls-Null) ∙ fold-roll-Value Bool wholes_fit_level Value-F.Null

fits-Flag : (flag : Bool) → wholes_fit (value.Flag flag) ≡ true
fits-Flag flag = ap wholes_fit (sym (value.rolls-Flag flag)) ∙ fold-roll-Value Bool wholes_fit_level (Value-F.Flag flag)

fits-Whole : (whole : ℤ) → wholes_fit (value.Whole whole) ≡ fits whole
fits-Whole whole = ap wholes_fit (sym (value.rolls-Whole whole)) ∙ fold-roll-Value Bool wholes_fit_level (Value-F.Whole whole)

fits-Text : (text : List ℕ) → wholes_fit (value.Text text) ≡ true
fits-Text text = ap wholes_fit (sym (value.rolls-Text text)) ∙ fold-roll-Value Bool wholes_fit_level (Value-F.Text text)

fits-Unknown : wholes_fit value.Unknown ≡ true
fits-Unknown = ap wholes_fit (sym value.rolls-Unknown) ∙ fold-roll-Value Bool wholes_fit_level Value-F.Unknown

fits-List : (values : List Value) → wholes_fit (value.List values) ≡ list_all wholes_fit values
fits-List values =
    ap wholes_fit (sym (value.rolls-List values)) ∙ fold-roll-Value Bool wholes_fit_level (Value-F.List values)
    ∙ list_all-map (λ (fit : Bool). fit) wholes_fit values

fits-Secret : (inner : Value) → wholes_fit (value.Secret inner) ≡ wholes_fit inner
fits-Secret inner = ap wholes_fit (sym (value.rolls-Secret inner)) ∙ fold-roll-Value Bool wholes_fit_level (Value-F.Secret inner)

whole_in : (b : Bool) (n : ℕ) → nat_lt n (2 ^ 63) ≡ b → Right (whole_read (cond b (Some (pos n)) None))
whole_in true n is = (is_value-Whole (pos n), fits-Whole (pos n) ∙ is)
whole_in false n is = tt

right-number : (n : _) → IsFitNumber n → Right (whole_read (as_i64 n))
right-number (unsigned n) fit = whole_in (nat_lt n (2 ^ 63)) n refl
right-number (negative z) fit = (is_value-Whole z, fits-Whole z ∙ fit)
right-number (float x) fit = tt

right-text : (text : List ℕ) → IsRight (text_read text)
right-text text = by_case (bytes_eq text unknown_text) refl
  where
    by_case : (t : Bool) → bytes_eq text unknown_text ≡ t → IsRight (cond t value.Unknown (value.Text text))
    by_case true is = (is_value-Unknown, fits-Unknown)
    by_case false is = (is_value-Text text ∙ ap not is, fits-Text text)

-- ---- an object that is no secret has nothing under the secret's key that makes it one

abbrev IsPlainAt : List ℕ → Data → Type 0
IsPlainAt key d = key ≡ secret_key → marked_by (Some d) ≡ Ok false

abbrev EachPlain : Members → Type 0
EachPlain no_members = Unit {0}
EachPlain (member key d ms) = IsPlainAt key d × EachPlain ms

-- no key above the secret's is the secret's
plain_above : (ms : Members) → AllAbove secret_key ms → EachPlain ms
plain_above no_members above = tt
plain_above (member key d ms) above =
    ((λ same. absurd (not_same key above.0 same)), plain_above ms above.1)
  where
    not_same : (key : List ℕ) → is_below secret_key key ≡ true → key ≡ secret_key → ⊥
    not_same key below same =
        let equal : bytes_eq key secret_key ≡ true = (bytes_eq-Decides key secret_key).1 same in
        let other : bytes_eq key secret_key ≡ false = apart secret_key key below in
        cc

plain_by : (o : Ordering) (key : List ℕ) (d : Data) (ms : Members) → slice_cmp nat_cmp secret_key key ≡ o → AllAbove key ms
    → (marked_by (get_member secret_key ms) ≡ Ok false → EachPlain ms)
    → marked_by (match_ordering o (get_member secret_key ms) (Some d) (get_member secret_key ms)) ≡ Ok false
    → EachPlain (member key d ms)
plain_by Less key d ms is above others plain =
    ((λ same. absurd (let equal : slice_cmp nat_cmp secret_key key ≡ Equal = ap (slice_cmp nat_cmp secret_key) same ∙ same_text secret_key in cc)), others plain)
plain_by Greater key d ms is above others plain =
    ((λ same. absurd (let equal : slice_cmp nat_cmp secret_key key ≡ Equal = ap (slice_cmp nat_cmp secret_key) same ∙ same_text secret_key in cc)), others plain)
plain_by Equal key d ms is above others plain =
    let same : secret_key ≡ key = (bytes_eq-Decides secret_key key).0 (sym (is_eq-slice_cmp secret_key key) ∙ ap is_eq is) in
    ((λ same. plain), plain_above ms (subst (λ low. AllAbove low ms) (sym same) above))

each_plain : (ms : Members) → MembersHold ms → is_marked ms ≡ Ok false → EachPlain ms
each_plain no_members hold plain = tt
each_plain (member key d ms) hold plain =
    plain_by (slice_cmp nat_cmp secret_key key) key d ms refl hold.1 (λ later. each_plain ms hold.2 later) plain

ok_same : (a b : Value) → ◌≡◌ {A = Reading} (Ok a) (Ok b) → a ≡ b
ok_same a b same = cc

may_stand : (levels : ℕ) (key : List ℕ) (d : Data) (v : Value) → IsPlainAt key d → read_in levels d ≡ Ok v → may_stand_under key v ≡ true
may_stand levels key d v plain read = by_case (bytes_eq key secret_key) refl
  where
    by_case : (t : Bool) → bytes_eq key secret_key ≡ t → (not t || is_unmarked v) ≡ true
    by_case false other = refl
    by_case true is = unmarked_by levels d v (plain ((bytes_eq-Decides key secret_key).0 is)) read

abbrev MayStand : Result Pairs JsonFault → Type 0
MayStand told = IfOk told (λ fields. each_may_stand fields ≡ true)

stand_before : (levels : ℕ) (key : List ℕ) (d : Data) (change : JsonFault → JsonFault) (one : Reading) (others : Result Pairs JsonFault) → read_in levels d ≡ one → IsPlainAt key d → MayStand others
    → MayStand (before (result_map_both (λ found. (key, found)) change one) others)
stand_before levels key d change (Ok v) (Ok more) is plain later = and_from _ _ (may_stand levels key d v plain is) later
stand_before levels key d change (Ok v) (Err fault) is plain later = tt
stand_before levels key d change (Err fault) others is plain later = tt

members_stand : (levels : ℕ) (ms : Members) → EachPlain ms → MayStand (members_read (read_in levels) ms)
members_stand levels no_members plain = refl
members_stand levels (member key d ms) plain = stand_before levels key d _ (read_in levels d) (members_read (read_in levels) ms) refl plain.0 (members_stand levels ms plain.1)

-- ---- keys that rise

all_below : (low : List ℕ) (ms : Members) → AllAbove low ms → list_all (is_below low) (names_of ms) ≡ true
all_below low no_members above = refl
all_below low (member key d ms) above = and_from _ _ above.0 (all_below low ms above.1)

names_rise : (ms : Members) → MembersHold ms → are_rising (names_of ms) ≡ true
names_rise no_members hold = refl
names_rise (member key d ms) hold = and_from _ _ (all_below key ms hold.1) (names_rise ms hold.2)

-- the fields that are read of an object that is no secret
pub fields_right : (levels : ℕ) (ms : Members) (fields : Pairs) → MembersHold ms → is_marked ms ≡ Ok false → members_read (read_in levels) ms ≡ Ok fields → AreRead ms fields → are_fields fields ≡ true
fields_right levels ms fields hold plain is read =
    let stand : each_may_stand fields ≡ true = subst MayStand is (members_stand levels ms (each_plain ms hold plain)) in
    are_fields-from fields (ap are_rising read.keys ∙ names_rise ms hold) read.values stand

-- ---- level by level

module _ (levels : ℕ) (each : (d : Data) → Holds d → Right (read_in levels d)) where
  right-element : (change : JsonFault → JsonFault) (one : Reading) (others : Result (List Value) JsonFault) → Right one → ItemsRight others → ItemsRight (before (with_fault change one) others)
  right-element change (Ok found) (Ok more) here later = (and_from _ _ here.0 later.0, and_from _ _ here.1 later.1)
  right-element change (Ok found) (Err fault) here later = tt
  right-element change (Err fault) others here later = tt

  right-items : (place : ℕ) (ds : Items) → ItemsHold ds → ItemsRight (items_read (read_in levels) place ds)
  right-items place no_items hold = (refl, refl)
  right-items place (item d ds) hold =
      right-element _ (read_in levels d) (items_read (read_in levels) (place + 1) ds) (each d hold.0) (right-items (place + 1) ds hold.1)

  right-member : (key : List ℕ) (d : Data) (ms : Members) (change : JsonFault → JsonFault) (one : Reading) (others : Result Pairs JsonFault) → Right one → MembersRight ms others
      → MembersRight (member key d ms) (before (result_map_both (λ found. (key, found)) change one) others)
  right-member key d ms change (Ok found) (Ok more) here later =
      record { keys = ap (λ keys. key ∷ keys) later.keys; values = and_from _ _ here.0 later.values; fit = and_from _ _ here.1 later.fit }
  right-member key d ms change (Ok found) (Err fault) here later = tt
  right-member key d ms change (Err fault) others here later = tt

  right-members : (ms : Members) → MembersHold ms → MembersRight ms (members_read (read_in levels) ms)
  right-members no_members hold = record { keys = refl; values = refl; fit = refl }
  right-members (member key d ms) hold = right-member key d ms _ (read_in levels d) (members_read (read_in levels) ms) (each d hold.0) (right-members ms hold.2)

  right-list : (told : Result (List Value) JsonFault) → ItemsRight told → Right (result_map_both value.List (λ fault. fault) told)
  right-list (Ok found) right = (is_value-List found ∙ right.0, fits-List found ∙ right.1)
  right-list (Err fault) right = tt

  right-fields : (ms : Members) (told : Result Pairs JsonFault) → members_read (read_in levels) ms ≡ told → MembersHold ms → is_marked ms ≡ Ok false → MembersRight ms told
      → Right (result_map_both value.Object (λ fault. fault) told)
  right-fields ms (Ok found) is hold plain right =
      (is_value-Object found ∙ fields_right levels ms found hold plain is right, object_fits found right.fit)
  right-fields ms (Err fault) is hold plain right = tt

  right-hidden : (change : JsonFault → JsonFault) (told : Reading) → Right told → Right (result_map_both value.Secret change told)
  right-hidden change (Ok found) right = (is_value-Secret found ∙ right.0, fits-Secret found ∙ right.1)
  right-hidden change (Err fault) right = tt

  right-plaintext : (o : Option Data) → Gives Holds o → Right (plaintext_read (read_in levels) o)
  right-plaintext None hold = tt
  right-plaintext (Some d) hold = right-hidden _ (read_in levels d) (each d hold)

  right-secret : (o : Option Data) (sealed : Bool) → Right (secret_by (read_in levels) o sealed)
  right-secret None true = tt
  right-secret None false = tt
  right-secret (Some null) sealed = tt
  right-secret (Some (boolean b)) sealed = tt
  right-secret (Some (number n)) sealed = tt
  right-secret (Some (string text)) sealed = right-plaintext (read text) (read-holds text)
  right-secret (Some (array ds)) sealed = tt
  right-secret (Some (object ms)) sealed = tt

  right-object : (ms : Members) (marked : Result Bool JsonFault) → is_marked ms ≡ marked → MembersHold ms → Right (object_by (read_in levels) ms marked)
  right-object ms (Ok true) is hold = right-secret _ _
  right-object ms (Ok false) is hold = right-fields ms (members_read (read_in levels) ms) refl hold is (right-members ms hold)
  right-object ms (Err fault) is hold = tt

right-read : (levels : ℕ) (d : Data) → Holds d → Right (read_in levels d)
right-read zero null hold = (is_value-Null, fits-Null)
right-read zero (boolean b) hold = (is_value-Flag b, fits-Flag b)
right-read zero (number n) hold = right-number n hold
right-read zero (string text) hold = right-text text
right-read zero (array ds) hold = tt
right-read zero (object ms) hold = tt
right-read (suc levels) null hold = (is_value-Null, fits-Null)
right-read (suc levels) (boolean b) hold = (is_value-Flag b, fits-Flag b)
right-read (suc levels) (number n) hold = right-number n hold
right-read (suc levels) (string text) hold = right-text text
right-read (suc levels) (array ds) hold = right-list levels (right-read levels) (items_read (read_in levels) 0 ds) (right-items levels (right-read levels) 0 ds hold)
right-read (suc levels) (object ms) hold = right-object levels (right-read levels) ms (is_marked ms) refl hold

pub members_right : (levels : ℕ) (ms : Members) (fields : Pairs) → MembersHold ms → members_read (read_in levels) ms ≡ Ok fields → AreRead ms fields
members_right levels ms fields hold is = subst (MembersRight ms) is (right-members levels (right-read levels) ms hold)
