-- What was read of property values are values, and their whole numbers have 64 bits.
use Rattle.std.proofs.Common.{◌≡◌, ◌+◌, ◌^◌, ℕ, ℤ, zero, suc, pos, negsuc, Bool, true, false, not, ◌||◌, cond, nat_lt, bytes_eq, List, [], ◌∷◌, Option, Some, None, is_some, Result, Ok, Err, Ordering, Less, Equal, Greater, is_eq, refl, sym, ap, subst, ◌∙◌}
use Rattle.std.proofs.lemmas.Bool.{and_from}
use Rattle.std.proofs.lemmas.List.Folds.{list_all-map}
use Rattle.std.proofs.lemmas.Map.Text.{is_eq-slice_cmp}
use Rattle.std.proofs.lemmas.Slice.Eq.{bytes_eq-Decides}
use Rattle.std.specs.Cmp.Lexicographic.{slice_cmp}
use Rattle.std.specs.List.{list_all}
use Rattle.std.specs.Ordering.{nat_cmp, match_ordering}
use Rattle.std.specs.Result.{result_map_both}
use Rattle.pl_json.proofs.ReadBack.{AllAbove}
use Rattle.pl_json.proofs.ValueTells.{object_fits}
use Rattle.pl_json.specs.Faults.{behind, hidden, key_step, element_step}
use Rattle.pl_json.specs.Fits.{FieldsFit, fits, wholes_fit, wholes_fit_level}
use Rattle.pl_json.specs.Read.{before, ciphertext_key, deepest, element_read, field_read, is_marked, items_read, marked_by, members_read, object_by, plaintext_read, read_in, secret_by, text_read, whole_read}
use Rattle.pl_json.specs.Spelled.{plaintext_key}
use Rattle.pl_value.proofs.Levels.{is_value-Null, is_value-Flag, is_value-Whole, is_value-Unknown, is_value-Text, is_value-List, is_value-Object, is_value-Secret}
use Rattle.pl_value.specs.IsValue.{AreFields, are_values, each_is_value, each_may_stand, is_unmarked, is_value, may_stand_under}
use Rattle.pl_value.specs.Keys.{are_rising, is_below, is_less, keys_of}
use Rattle.pl_value.specs.Marks.{secret_key, unknown_text}
use Rattle.pl_value.specs.declared.json.JsonFault.{JsonFault}
use Rattle.pl_value.specs.declared.value.Value.{Value}
use Rattle.pl_value.specs.declared.value.Value.TheOpen.{Value-F}
use Rattle.pl_value.specs.declared.value.Value.TheVariants as value
use Rattle.pl_value.specs.declared.value.Value.TheFolds.{fold-roll-Value}
use Rattle.serde_json.specs.Data.{Num, unsigned, negative, float, Data, null, boolean, number, string, array, object, Items, no_items, item, Members, no_members, member}
use Rattle.serde_json.specs.Find.{as_i64, get_member}
use Rattle.serde_json.specs.Read.{read}
use Rattle.pl_json.proofs.MemberKeys.{unmarked_by}
use Rattle.pl_checkpoint_text.specs.ReadField.{values_in}
use Rattle.pl_checkpoint_text.proofs.ReadLawFields.{values_read}
use Rattle.pl_checkpoint_text.proofs.ReadLawProper.{is_signed, IsProper, ItemsAreProper, MembersAreProper, proper_read}

-- ---- readings that gave something

same_ok : {A : Type 0} (a b : A) → ◌≡◌ {A = Result A JsonFault} (Ok a) (Ok b) → a ≡ b
same_ok a b same = cc

map_gives : {A B : Type 0} (f : A → B) (change : JsonFault → JsonFault) (told : Result A JsonFault) (made : B) → result_map_both f change told ≡ Ok made
    → (a : A) × (told ≡ Ok a) × (f a ≡ made)
map_gives f change (Ok a) made is = (a, refl, same_ok (f a) made is)
map_gives f change (Err fault) made is = absurd (cc)

before_gives : {A : Type 0} (one : Result A JsonFault) (others : Result (List A) JsonFault) (made : List A) → before one others ≡ Ok made
    → (first : A) × (more : List A) × (one ≡ Ok first) × (others ≡ Ok more) × (first ∷ more ≡ made)
before_gives (Ok first) (Ok more) made is = (first, more, refl, refl, same_ok (first ∷ more) made is)
before_gives (Ok first) (Err fault) made is = absurd (cc)
before_gives (Err fault) others made is = absurd (cc)

-- ---- values without others in them

-- the value is one, and its whole numbers have 64 bits
abbrev pub IsGood : Value → Type 0
IsGood one = (is_value one ≡ true) × (wholes_fit one ≡ true)

good_null : IsGood value.Null
good_null = (is_value-Null, ap wholes_fit (sym value.rolls-Null) ∙ fold-roll-Value Bool wholes_fit_level Value-F.Null)

good_flag : (flag : Bool) → IsGood (value.Flag flag)
good_flag flag = (is_value-Flag flag, ap wholes_fit (sym (value.rolls-Flag flag)) ∙ fold-roll-Value Bool wholes_fit_level (Value-F.Flag flag))

good_whole : (whole : ℤ) → fits whole ≡ true → IsGood (value.Whole whole)
good_whole whole small = (is_value-Whole whole, ap wholes_fit (sym (value.rolls-Whole whole)) ∙ fold-roll-Value Bool wholes_fit_level (Value-F.Whole whole) ∙ small)

good_text : (text : List ℕ) → IsGood (text_read text)
good_text text = by_case (bytes_eq text unknown_text) refl
  where
    by_case : (t : Bool) → bytes_eq text unknown_text ≡ t → IsGood (cond t value.Unknown (value.Text text))
    by_case true is = (is_value-Unknown, ap wholes_fit (sym value.rolls-Unknown) ∙ fold-roll-Value Bool wholes_fit_level Value-F.Unknown)
    by_case false is = (
      is_value-Text text ∙ ap not is,
      ap wholes_fit (sym (value.rolls-Text text)) ∙ fold-roll-Value Bool wholes_fit_level (Value-F.Text text),
    )

good_unsigned : (n : ℕ) (t : Bool) (one : Value) → nat_lt n (2 ^ 63) ≡ t → whole_read (cond t (Some (pos n)) None) ≡ Ok one → IsGood one
good_unsigned n true one small is = subst IsGood (same_ok (value.Whole (pos n)) one is) (good_whole (pos n) small)
good_unsigned n false one large is = absurd (cc)

good_number : (n : Num) (one : Value) → is_signed n ≡ true → whole_read (as_i64 n) ≡ Ok one → IsGood one
good_number (unsigned n) one signed is = good_unsigned n (nat_lt n (2 ^ 63)) one refl is
good_number (negative (pos n)) one signed is = absurd (cc)
good_number (negative (negsuc n)) one signed is = subst IsGood (same_ok (value.Whole (negsuc n)) one is) (good_whole (negsuc n) signed)
good_number (float x) one signed is = absurd (cc)

-- ---- values with others in them

good_list : (values : List Value) → are_values values ≡ true → list_all wholes_fit values ≡ true → IsGood (value.List values)
good_list values are fit = (
  is_value-List values ∙ are,
  ap wholes_fit (sym (value.rolls-List values)) ∙ fold-roll-Value Bool wholes_fit_level (Value-F.List values)
      ∙ list_all-map (λ (b : Bool). b) wholes_fit values ∙ fit,
)

good_secret : (inner : Value) → IsGood inner → IsGood (value.Secret inner)
good_secret inner good = (
  is_value-Secret inner ∙ good.0,
  ap wholes_fit (sym (value.rolls-Secret inner)) ∙ fold-roll-Value Bool wholes_fit_level (Value-F.Secret inner) ∙ good.1,
)

abbrev pub Fields : Type 0
Fields = List (List ℕ × Value)

-- the fields are those of an object, and their whole numbers have 64 bits
abbrev pub AreGood : Fields → Type 0
AreGood fields = AreFields fields × FieldsFit fields

good_object : (fields : Fields) → AreGood fields → IsGood (value.Object fields)
good_object fields good = (is_value-Object fields ∙ good.0, object_fits fields good.1)

-- ---- what stands under the secret's key

none_above : (low : List ℕ) (ms : Members) → AllAbove low ms → get_member low ms ≡ None
none_above low no_members above = refl
none_above low (member key d ms) above = by_case (slice_cmp nat_cmp low key) above.0 (none_above low ms above.1)
  where
    by_case : (o : Ordering) → is_less o ≡ true → get_member low ms ≡ None → match_ordering o (get_member low ms) (Some d) (get_member low ms) ≡ None
    by_case Less below none = none
    by_case Equal below none = absurd (cc)
    by_case Greater below none = absurd (cc)

other_key : (t : Bool) (key : List ℕ) (one : Value) → bytes_eq key secret_key ≡ t → (secret_key ≡ key → ⊥) → (not t || is_unmarked one) ≡ true
other_key false key one is apart = refl
other_key true key one is apart = absurd (apart (sym ((bytes_eq-Decides key secret_key).0 is)))

not_equal : (o : Ordering) (key : List ℕ) → slice_cmp nat_cmp secret_key key ≡ o → is_eq o ≡ false → secret_key ≡ key → ⊥
not_equal o key is apart same =
    let equal : bytes_eq secret_key key ≡ true = (bytes_eq-Decides secret_key key).1 same in
    let wrong : false ≡ true = sym apart ∙ sym (ap is_eq is) ∙ is_eq-slice_cmp secret_key key ∙ equal in
    cc

own_key : (t : Bool) (one : Value) → is_unmarked one ≡ true → (not t || is_unmarked one) ≡ true
own_key true one unmarked = unmarked
own_key false one unmarked = refl

-- the first member may stand under its key, and the others have no mark either
first_unmarked : (o : Ordering) (levels : ℕ) (key : List ℕ) (d : Data) (ms : Members) (one : Value) → slice_cmp nat_cmp secret_key key ≡ o → AllAbove key ms
    → read_in levels d ≡ Ok one → marked_by (match_ordering o (get_member secret_key ms) (Some d) (get_member secret_key ms)) ≡ Ok false
    → (may_stand_under key one ≡ true) × (is_marked ms ≡ Ok false)
first_unmarked Less levels key d ms one same above is plain = (other_key _ key one refl (not_equal Less key same refl), plain)
first_unmarked Greater levels key d ms one same above is plain = (other_key _ key one refl (not_equal Greater key same refl), plain)
first_unmarked Equal levels key d ms one same above is plain =
    let own : secret_key ≡ key = (bytes_eq-Decides secret_key key).0 (sym (is_eq-slice_cmp secret_key key) ∙ ap is_eq same) in
    (own_key _ one (unmarked_by levels d one plain is), ap marked_by (ap (λ k. get_member k ms) own ∙ none_above key ms above))

-- ---- lists and objects, where what is read inside is good

record AreParts (fields : Fields) : Type 0 where
  rising : are_rising (keys_of fields) ≡ true
  values : each_is_value fields ≡ true
  may : each_may_stand fields ≡ true
  fit : list_all (λ field. wholes_fit field.1) fields ≡ true

module _ (levels : ℕ) (each : (d : Data) (one : Value) → IsProper d → read_in levels d ≡ Ok one → IsGood one) where
  good_items : (place : ℕ) (ds : Items) (found : List Value) → ItemsAreProper ds → items_read (read_in levels) place ds ≡ Ok found
      → (are_values found ≡ true) × (list_all wholes_fit found ≡ true)
  good_items place no_items found proper is = subst (λ (vs : List Value). (are_values vs ≡ true) × (list_all wholes_fit vs ≡ true)) (same_ok [] found is) (refl, refl)
  good_items place (item d more) found proper is =
      let parts = before_gives (element_read (read_in levels) place d) (items_read (read_in levels) (place + 1) more) found is in
      let first = map_gives (λ (v : Value). v) (behind (element_step place)) (read_in levels d) parts.0 parts.2 in
      let good = subst IsGood first.2 (each d first.0 proper.0 first.1) in
      let others = good_items (place + 1) more parts.1 proper.1 parts.3 in
      subst (λ (vs : List Value). (are_values vs ≡ true) × (list_all wholes_fit vs ≡ true)) parts.4
      (and_from _ _ good.0 others.0, and_from _ _ good.1 others.1)

  above_members : (low : List ℕ) (ms : Members) (found : Fields) → AllAbove low ms → members_read (read_in levels) ms ≡ Ok found → list_all (is_below low) (keys_of found) ≡ true
  above_members low no_members found above is = subst (λ (fs : Fields). list_all (is_below low) (keys_of fs) ≡ true) (same_ok [] found is) refl
  above_members low (member key d more) found above is =
      let parts = before_gives (field_read (read_in levels) key d) (members_read (read_in levels) more) found is in
      let first = map_gives (λ (v : Value). (key, v)) (behind (key_step key)) (read_in levels d) parts.0 parts.2 in
      let below : is_below low parts.0.0 ≡ true = ap (λ (field : List ℕ × Value). is_below low field.0) (sym first.2) ∙ above.0 in
      subst (λ (fs : Fields). list_all (is_below low) (keys_of fs) ≡ true) parts.4 (and_from _ _ below (above_members low more parts.1 above.1 parts.3))

  good_members : (ms : Members) (found : Fields) → MembersAreProper ms → is_marked ms ≡ Ok false → members_read (read_in levels) ms ≡ Ok found → AreParts found
  good_members no_members found proper plain is = subst AreParts (same_ok [] found is) (record { rising = refl; values = refl; may = refl; fit = refl })
  good_members (member key d more) found proper plain is =
      let parts = before_gives (field_read (read_in levels) key d) (members_read (read_in levels) more) found is in
      let first = map_gives (λ (v : Value). (key, v)) (behind (key_step key)) (read_in levels d) parts.0 parts.2 in
      let good = each d first.0 proper.0 first.1 in
      let unmarked = first_unmarked (slice_cmp nat_cmp secret_key key) levels key d more first.0 refl proper.1 first.1 plain in
      let others = good_members more parts.1 proper.2 unmarked.1 parts.3 in
      let above = above_members key more parts.1 proper.1 parts.3 in
      let whole : AreParts ((key, first.0) ∷ parts.1) = record {
        rising = and_from _ _ above others.rising;
        values = and_from _ _ good.0 others.values;
        may = and_from _ _ unmarked.0 others.may;
        fit = and_from _ _ good.1 others.fit;
      } in
      subst AreParts (ap (λ (field : List ℕ × Value). field ∷ parts.1) first.2 ∙ parts.4) whole

  good_fields : (ms : Members) (found : Fields) → MembersAreProper ms → is_marked ms ≡ Ok false → members_read (read_in levels) ms ≡ Ok found → AreGood found
  good_fields ms found proper plain is =
      let parts = good_members ms found proper plain is in
      (and_from _ _ (and_from _ _ parts.rising parts.values) parts.may, parts.fit)

  good_plaintext : (told : Option Data) (one : Value) → ((d : Data) → told ≡ Some d → IsProper d) → plaintext_read (read_in levels) told ≡ Ok one → IsGood one
  good_plaintext None one proper is = absurd (cc)
  good_plaintext (Some d) one proper is =
      let inner = map_gives value.Secret hidden (read_in levels d) one is in
      subst IsGood inner.2 (good_secret inner.0 (each d inner.0 (proper d refl) inner.1))

  good_secret_by : (found : Option Data) (sealed : Bool) (one : Value) → secret_by (read_in levels) found sealed ≡ Ok one → IsGood one
  good_secret_by None true one is = absurd (cc)
  good_secret_by None false one is = absurd (cc)
  good_secret_by (Some null) sealed one is = absurd (cc)
  good_secret_by (Some (boolean b)) sealed one is = absurd (cc)
  good_secret_by (Some (number n)) sealed one is = absurd (cc)
  good_secret_by (Some (string text)) sealed one is = good_plaintext (read text) one (proper_read text) is
  good_secret_by (Some (array ds)) sealed one is = absurd (cc)
  good_secret_by (Some (object ms)) sealed one is = absurd (cc)

  good_object_by : (ms : Members) (marked : Result Bool JsonFault) (one : Value) → MembersAreProper ms → is_marked ms ≡ marked → object_by (read_in levels) ms marked ≡ Ok one → IsGood one
  good_object_by ms (Ok true) one proper same is = good_secret_by (get_member plaintext_key ms) (is_some (get_member ciphertext_key ms)) one is
  good_object_by ms (Ok false) one proper same is =
      let fields = map_gives value.Object (λ fault. fault) (members_read (read_in levels) ms) one is in
      subst IsGood fields.2 (good_object fields.0 (good_fields ms fields.0 proper same fields.1))
  good_object_by ms (Err fault) one proper same is = absurd (cc)

good_read : (levels : ℕ) (d : Data) (one : Value) → IsProper d → read_in levels d ≡ Ok one → IsGood one
good_read zero null one proper is = subst IsGood (same_ok value.Null one is) good_null
good_read zero (boolean b) one proper is = subst IsGood (same_ok (value.Flag b) one is) (good_flag b)
good_read zero (number n) one proper is = good_number n one proper is
good_read zero (string text) one proper is = subst IsGood (same_ok (text_read text) one is) (good_text text)
good_read zero (array ds) one proper is = absurd (cc)
good_read zero (object ms) one proper is = absurd (cc)
good_read (suc levels) null one proper is = subst IsGood (same_ok value.Null one is) good_null
good_read (suc levels) (boolean b) one proper is = subst IsGood (same_ok (value.Flag b) one is) (good_flag b)
good_read (suc levels) (number n) one proper is = good_number n one proper is
good_read (suc levels) (string text) one proper is = subst IsGood (same_ok (text_read text) one is) (good_text text)
good_read (suc levels) (array ds) one proper is =
    let values = map_gives value.List (λ fault. fault) (items_read (read_in levels) 0 ds) one is in
    let good = good_items levels (good_read levels) 0 ds values.0 proper values.1 in
    subst IsGood values.2 (good_list values.0 good.0 good.1)
good_read (suc levels) (object ms) one proper is = good_object_by levels (good_read levels) ms (is_marked ms) one proper refl is

-- an object of values that was read
pub good_values : (path : List ℕ) (d : Data) (fields : Fields) → IsProper d → values_in path d ≡ Ok fields → AreGood fields
good_values path d fields proper is =
    let told = values_read path d fields is in
    good_fields deepest (good_read deepest) told.0 fields (subst IsProper told.1 proper) told.2 told.3
