-- Each kind of field is read as what it was written for, and is read back from its text.
use Rattle.std.proofs.Common.{◌≡◌, ◌<◌, ◌≤◌, ◌^◌, ◌&&◌, ℕ, Bool, true, false, not, nat_lt, cond, is_none, List, [], ◌∷◌, map, Option, Some, None, option_map, option_and_then, refl, ap, ◌∙◌, arith, tests}
use Rattle.std.specs.Result.{result_ok}
use Rattle.serde_json.specs.Data.{Data, boolean, string}
use Rattle.serde_json.specs.Find.{as_str, get}
use Rattle.serde_json.specs.View.{items_of}
use Rattle.pl_urn.specs.Grammar.{IsUrn}
use Rattle.pl_value.specs.Inside.{greatest_field_depth}
use Rattle.pl_value.specs.Keys.{are_rising, keys_of}
use Rattle.pl_json.specs.Spelled.{members_of, spelled_fields}
use Rattle.pl_json.proofs.SpelledIsRead.{fields_are_read}
use Rattle.pl_lemmas.specs.Words.{has_none}
use Rattle.pl_events.specs.Replies.{are_shallow}
use Rattle.pl_events.specs.Requests.{is_request_number}
use Rattle.pl_members.specs.Field.{Keyed, Pairs, before, each_item, each_member, flag_if_there, flag_or, if_number, if_urn, keyed_of, keyed_or_none, nonempty_text, pairs_of, pairs_or_none, present, request_number, text_if_there, texts_of, texts_or_none, unless_none, unless_null}
use Rattle.pl_members.specs.Readable.{AreReadable}
use Rattle.pl_json.specs.Objects.{flag_data, object_with, text_data, texts_data, unless_empty}
use Rattle.pl_members.specs.Spelled.{keyed_data, keyed_field, list_data, number_data, pairs_data}
use Rattle.pl_members.proofs.Outlines.{IsRead, array-read, boolean-read, each_text-read, fields-read, string-read, ticket-read}
use Rattle.pl_members.proofs.Shapes.{FieldIsRead, FieldsAreRead, object_with-read, told_of, with_fields-told}

-- what the first reading gave goes on to the second
pub then_some : {A B : Type 0} (one : Option A) (next : A → Option B) (found : A) → one ≡ Some found → option_and_then next one ≡ next found
then_some one next found is = ap (option_and_then next) is

-- ---- numbers

within : (b c : Bool) → (b && not c) ≡ true → c ≡ false
within true true is = cc
within true false is = refl
within false c is = cc

not_above : (m n : ℕ) → nat_lt m n ≡ false → m < 2 ^ 54 → n < 2 ^ 64
not_above m n is small = grind (arith, tests)

pub number_small : (n : ℕ) → is_request_number n ≡ true → n < 2 ^ 64
number_small n is = not_above (2 ^ 53) n (within (nat_lt 0 n) (nat_lt (2 ^ 53) n) is) (omega arith)

pub numbered : (n : ℕ) → is_request_number n ≡ true → if_number n ≡ Some n
numbered n is = ap (λ t. cond t (Some n) None) is

pub number-back : (name : List ℕ) (message : Data) (n : ℕ) → get name message ≡ number_data n → is_request_number n ≡ true → request_number (get name message) ≡ Some n
number-back name message n there is = ap request_number there ∙ numbered n is

pub number-read : (levels n : ℕ) → is_request_number n ≡ true → FieldIsRead levels (number_data n)
number-read levels n is = ticket-read levels n (number_small n is)

-- ---- flags

pub flag-back : (name : List ℕ) (message : Data) (flag : Bool) → get name message ≡ flag_data flag → flag_or false (present name message) ≡ Some flag
flag-back name message true there = ap (λ o. flag_or false (option_and_then unless_null o)) there
flag-back name message false there = ap (λ o. flag_or false (option_and_then unless_null o)) there

pub bool-back : (name : List ℕ) (message : Data) (flag : Bool) → get name message ≡ Some (boolean flag) → flag_or false (present name message) ≡ Some flag
bool-back name message flag there = ap (λ o. flag_or false (option_and_then unless_null o)) there

pub flag_if_there-back : (name : List ℕ) (message : Data) (flag : Option Bool) → get name message ≡ option_map boolean flag → flag_if_there (present name message) ≡ Some flag
flag_if_there-back name message None there = ap (λ o. flag_if_there (option_and_then unless_null o)) there
flag_if_there-back name message (Some flag) there = ap (λ o. flag_if_there (option_and_then unless_null o)) there

pub flag-read : (levels : ℕ) (flag : Bool) → FieldIsRead levels (flag_data flag)
flag-read levels true = boolean-read levels true
flag-read levels false = tt

pub flag_if_there-read : (levels : ℕ) (flag : Option Bool) → FieldIsRead levels (option_map boolean flag)
flag_if_there-read levels None = tt
flag_if_there-read levels (Some flag) = boolean-read levels flag

-- ---- texts

pub some-back : {X : Type 0} (xs : List X) → not (has_none xs) ≡ true → unless_none xs ≡ Some xs
some-back [] some = absurd cc
some-back (x ∷ xs) some = refl

pub nonempty-back : (name : List ℕ) (message : Data) (found : List ℕ) → get name message ≡ Some (string found) → not (has_none found) ≡ true → nonempty_text (get name message) ≡ Some found
nonempty-back name message found there some = ap nonempty_text there ∙ some-back found some

pub text-back : (name : List ℕ) (message : Data) (found : Option (List ℕ)) → get name message ≡ text_data found → text_if_there (present name message) ≡ Some found
text-back name message None there = ap (λ o. text_if_there (option_and_then unless_null o)) there
text-back name message (Some found) there = ap (λ o. text_if_there (option_and_then unless_null o)) there

pub text-read : (levels : ℕ) (found : Option (List ℕ)) → FieldIsRead levels (text_data found)
text-read levels None = tt
text-read levels (Some found) = string-read levels found

-- ---- URNs

pub urn-back : (text : List ℕ) → IsUrn text → if_urn text ≡ Some text
urn-back text is = ap (λ fault. cond (is_none fault) (Some text) None) is

-- ---- lists of texts

pub each_text-back : (texts : List (List ℕ)) → each_item as_str (items_of (map string texts)) ≡ Some texts
each_text-back [] = refl
each_text-back (first ∷ more) = ap (before (Some first)) (each_text-back more)

texts_of-back : (texts : List (List ℕ)) → texts_of (texts_data texts) ≡ Some texts
texts_of-back texts = each_text-back texts

pub texts-back : (name : List ℕ) (message : Data) (texts : List (List ℕ)) → get name message ≡ list_data texts → texts_or_none (present name message) ≡ Some texts
texts-back name message [] there = ap (λ o. texts_or_none (option_and_then unless_null o)) there
texts-back name message (first ∷ more) there = ap (λ o. texts_or_none (option_and_then unless_null o)) there ∙ texts_of-back (first ∷ more)

unless_empty-read : {X : Type 0} (levels : ℕ) (list : List X) (value : Data) → IsRead levels value → FieldIsRead levels (unless_empty list value)
unless_empty-read levels [] value is = tt
unless_empty-read levels (first ∷ more) value is = is

pub texts-read : (texts : List (List ℕ)) → FieldIsRead 126 (list_data texts)
texts-read texts = unless_empty-read 126 texts (texts_data texts) (array-read 125 (map string texts) (each_text-read 125 texts))

-- ---- objects of values

pub shallow_of : (fields : Pairs) → are_shallow fields ≡ true → greatest_field_depth fields ≤ 64
shallow_of fields is = grind (arith, tests)

pub pairs-back : (fields : Pairs) → AreReadable fields → pairs_of (spelled_fields fields) ≡ Some fields
pairs-back fields are = ap result_ok (fields_are_read [] fields are.sound are.fit (shallow_of fields are.shallow))

pub pairs-read-at : (levels : ℕ) (fields : Pairs) → 65 ≤ levels → AreReadable fields → IsRead levels (spelled_fields fields)
pairs-read-at levels fields room are = fields-read levels fields room are.sound are.fit (shallow_of fields are.shallow)

pub pairs_or_none-back : (name : List ℕ) (message : Data) (fields : Pairs) → get name message ≡ pairs_data fields → AreReadable fields → pairs_or_none (present name message) ≡ Some fields
pairs_or_none-back name message [] there are = ap (λ o. pairs_or_none (option_and_then unless_null o)) there
pairs_or_none-back name message (first ∷ more) there are = ap (λ o. pairs_or_none (option_and_then unless_null o)) there ∙ pairs-back (first ∷ more) are

pub pairs-read : (fields : Pairs) → AreReadable fields → FieldIsRead 126 (pairs_data fields)
pairs-read fields are = unless_empty-read 126 fields _ (pairs-read-at 126 fields (omega arith) are)

-- ---- objects of lists of texts

keys_of-keyed : (pairs : Keyed) → keys_of (map keyed_field pairs) ≡ keys_of pairs
keys_of-keyed [] = refl
keys_of-keyed (pair ∷ more) = ap (λ names. pair.0 ∷ names) (keys_of-keyed more)

keyed_rising : (pairs : Keyed) → are_rising (keys_of pairs) ≡ true → are_rising (keys_of (map keyed_field pairs)) ≡ true
keyed_rising pairs rising = ap are_rising (keys_of-keyed pairs) ∙ rising

each_keyed-back : (pairs : Keyed) → each_member texts_of (members_of (told_of (map keyed_field pairs))) ≡ Some pairs
each_keyed-back [] = refl
each_keyed-back (pair ∷ more) =
    ap (λ found. before (option_map (λ texts. (pair.0, texts)) found) (each_member texts_of (members_of (told_of (map keyed_field more))))) (texts_of-back pair.1)
    ∙ ap (before (Some pair)) (each_keyed-back more)

keyed_of-back : (pairs : Keyed) → are_rising (keys_of pairs) ≡ true → keyed_of (object_with (map keyed_field pairs)) ≡ Some pairs
keyed_of-back pairs rising = ap (each_member texts_of) (with_fields-told (map keyed_field pairs) (keyed_rising pairs rising)) ∙ each_keyed-back pairs

pub keyed-back : (name : List ℕ) (message : Data) (pairs : Keyed) → get name message ≡ keyed_data pairs → are_rising (keys_of pairs) ≡ true → keyed_or_none (present name message) ≡ Some pairs
keyed-back name message [] there rising = ap (λ o. keyed_or_none (option_and_then unless_null o)) there
keyed-back name message (first ∷ more) there rising =
    ap (λ o. keyed_or_none (option_and_then unless_null o)) there ∙ keyed_of-back (first ∷ more) rising

each_keyed-read : (pairs : Keyed) → FieldsAreRead 125 (map keyed_field pairs)
each_keyed-read [] = tt
each_keyed-read (pair ∷ more) = (array-read 124 (map string pair.1) (each_text-read 124 pair.1), each_keyed-read more)

pub keyed-read : (pairs : Keyed) → are_rising (keys_of pairs) ≡ true → FieldIsRead 126 (keyed_data pairs)
keyed-read pairs rising = unless_empty-read 126 pairs _ (object_with-read 125 (map keyed_field pairs) (keyed_rising pairs rising) (each_keyed-read pairs))
