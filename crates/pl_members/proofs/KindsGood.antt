-- What each kind of field that is read holds: numbers are those of requests, values are not too deep, keys rise.
use Rattle.std.proofs.Common.{◌≡◌, ℕ, ◌<◌, ◌^◌, Bool, true, false, not, cond, is_none, List, [], ◌∷◌, Option, Some, None, IfSome, option_map, option_and_then, Ordering, Less, Equal, Greater, refl, sym, ap, ◌∙◌}
use Rattle.std.proofs.lemmas.Bool.{and_from}
use Rattle.std.specs.Cmp.Lexicographic.{slice_cmp}
use Rattle.std.specs.List.{list_all}
use Rattle.std.specs.Ordering.{nat_cmp, match_ordering}
use Rattle.serde_json.specs.Data.{Num, unsigned, negative, float, Data, null, boolean, number, string, array, object, Members, no_members, member}
use Rattle.serde_json.specs.Find.{as_number, as_u64, get, get_member}
use Rattle.pl_urn.specs.Grammar.{IsUrn, urn_fault}
use Rattle.pl_urn.specs.declared.fault.UrnFault.{UrnFault}
use Rattle.pl_value.specs.Keys.{are_rising, is_below, keys_of}
use Rattle.pl_json.proofs.ReadBack.{AllAbove}
use Rattle.pl_json.specs.Read.{deepest, is_marked}
use Rattle.pl_lemmas.specs.Words.{has_none}
use Rattle.pl_events.specs.Requests.{is_request_number}
use Rattle.pl_members.specs.Field.{Keyed, Pairs, before, each_member, if_number, if_urn, keyed_of, keyed_or_none, nonempty_text, pairs, pairs_if_there, pairs_of, pairs_or_none, present, request_number, text, texts_of, unless_none, unless_null, urn, whole}
use Rattle.pl_members.specs.Readable.{AreReadable}
use Rattle.pl_members.proofs.PlainPairs.{pairs_of-shallow, plain_object, plain_only}
use Rattle.pl_members.proofs.HeldData.{Holds, IsFitNumber, MembersHold}
use Rattle.pl_members.proofs.ReadValues.{fields_right, members_right}
use Rattle.pl_members.proofs.Steps.{Gives, gives, gives_map, gives_next}

-- ---- what stands in a field

found_by : (o : Ordering) (d : Data) (later : Option Data) → Holds d → Gives Holds later → Gives Holds (match_ordering o later (Some d) later)
found_by Less d later here there = there
found_by Equal d later here there = here
found_by Greater d later here there = there

member-holds : (name : List ℕ) (ms : Members) → MembersHold ms → Gives Holds (get_member name ms)
member-holds name no_members hold = tt
member-holds name (member key d ms) hold = found_by (slice_cmp nat_cmp name key) d (get_member name ms) hold.0 (member-holds name ms hold.2)

pub get-holds : (name : List ℕ) (message : Data) → Holds message → Gives Holds (get name message)
get-holds name null hold = tt
get-holds name (boolean b) hold = tt
get-holds name (number n) hold = tt
get-holds name (string s) hold = tt
get-holds name (array ds) hold = tt
get-holds name (object ms) hold = member-holds name ms hold

kept-holds : (value : Data) → Holds value → Gives Holds (unless_null value)
kept-holds null hold = tt
kept-holds (boolean b) hold = tt
kept-holds (number n) hold = hold
kept-holds (string s) hold = tt
kept-holds (array ds) hold = hold
kept-holds (object ms) hold = hold

pub present-holds : (name : List ℕ) (message : Data) → Holds message → Gives Holds (present name message)
present-holds name message hold = gives_next Holds (get name message) unless_null (λ value is. kept-holds value (gives Holds (get name message) value (get-holds name message hold) is))

-- ---- numbers

number_by : (b : Bool) (n : ℕ) → is_request_number n ≡ b → Gives (λ m. is_request_number m ≡ true) (cond b (Some n) None)
number_by true n is = is
number_by false n is = tt

pub number-good : (value : Option Data) → Gives (λ n. is_request_number n ≡ true) (request_number value)
number-good value = gives_next _ (whole value) if_number (λ n is. number_by (is_request_number n) n refl)

number-fits : (n : Num) → IsFitNumber n → Gives (λ m. m < 2 ^ 64) (as_u64 n)
number-fits (unsigned n) fit = fit
number-fits (negative z) fit = tt
number-fits (float x) fit = tt

data-fits : (d : Data) → Holds d → Gives (λ m. m < 2 ^ 64) (option_and_then as_u64 (as_number d))
data-fits null hold = tt
data-fits (boolean b) hold = tt
data-fits (number n) hold = number-fits n hold
data-fits (string s) hold = tt
data-fits (array ds) hold = tt
data-fits (object ms) hold = tt

pub whole-fits : (value : Option Data) → Gives Holds value → Gives (λ m. m < 2 ^ 64) (whole value)
whole-fits None hold = tt
whole-fits (Some d) hold = data-fits d hold

-- ---- texts

filled_by : {X : Type 0} (xs : List X) → Gives (λ found. not (has_none found) ≡ true) (unless_none xs)
filled_by [] = tt
filled_by (x ∷ xs) = refl

pub nonempty-good : (value : Option Data) → Gives (λ found. not (has_none found) ≡ true) (nonempty_text value)
nonempty-good value = gives_next _ (text value) unless_none (λ found is. filled_by found)

no_fault : (fault : Option UrnFault) (found kept : List ℕ) → cond (is_none fault) (Some found) None ≡ Some kept → fault ≡ None
no_fault None found kept is = refl
no_fault (Some fault) found kept is = cc

same_if_urn : (fault : Option UrnFault) (found kept : List ℕ) → cond (is_none fault) (Some found) None ≡ Some kept → found ≡ kept
same_if_urn None found kept is = cc
same_if_urn (Some fault) found kept is = cc

if_urn-urn : (found kept : List ℕ) → if_urn found ≡ Some kept → IsUrn kept
if_urn-urn found kept is = ap urn_fault (sym (same_if_urn (urn_fault found) found kept is)) ∙ no_fault (urn_fault found) found kept is

pub urn-good : (value : Option Data) → Gives IsUrn (urn value)
urn-good value = gives_next IsUrn (text value) if_urn (λ found is. by_result found (if_urn found) refl)
  where
    by_result : (found : List ℕ) (o : Option (List ℕ)) → if_urn found ≡ o → Gives IsUrn o
    by_result found None is = tt
    by_result found (Some kept) is = if_urn-urn found kept is

-- ---- objects of values

pub pairs_of-good : (value : Data) → Holds value → Gives AreReadable (pairs_of value)
pairs_of-good null hold = tt
pairs_of-good (boolean b) hold = tt
pairs_of-good (number n) hold = tt
pairs_of-good (string s) hold = tt
pairs_of-good (array ds) hold = tt
pairs_of-good (object ms) hold = by_result (pairs_of (object ms)) refl
  where
    by_result : (o : Option Pairs) → pairs_of (object ms) ≡ o → Gives AreReadable o
    by_result None is = tt
    by_result (Some found) is =
        let read = plain_only ms (is_marked ms) found is in
        let right = members_right deepest ms found hold read in
        record {
          sound = fields_right deepest ms found hold (plain_object ms (is_marked ms) found is) read right;
          fit = right.fit;
          shallow = pairs_of-shallow (object ms) found is;
        }

pub pairs-good : (value : Option Data) → Gives Holds value → Gives AreReadable (pairs value)
pairs-good None hold = tt
pairs-good (Some value) hold = pairs_of-good value hold

mapped_readable : (o : Option Pairs) → Gives AreReadable o → Gives (λ found. IfSome found AreReadable) (option_map Some o)
mapped_readable None are = tt
mapped_readable (Some fields) are = are

pub pairs_if_there-good : (value : Option Data) → Gives Holds value → Gives (λ found. IfSome found AreReadable) (pairs_if_there value)
pairs_if_there-good None hold = tt
pairs_if_there-good (Some value) hold = mapped_readable (pairs_of value) (pairs_of-good value hold)

no_pairs : AreReadable []
no_pairs = record { sound = refl; fit = refl; shallow = refl }

pub pairs_or_none-good : (value : Option Data) → Gives Holds value → Gives AreReadable (pairs_or_none value)
pairs_or_none-good None hold = no_pairs
pairs_or_none-good (Some value) hold = pairs_of-good value hold

-- ---- objects of lists of texts

before-gives : {X : Type 0} (P : X → Type 0) (Q R : List X → Type 0) (one : Option X) (others : Option (List X)) → Gives P one → Gives Q others
    → ((x : X) (xs : List X) → P x → Q xs → R (x ∷ xs)) → Gives R (before one others)
before-gives P Q R None others p q each = tt
before-gives P Q R (Some x) None p q each = tt
before-gives P Q R (Some x) (Some xs) p q each = each x xs p q

abbrev IsUnder : List ℕ → (List ℕ × List (List ℕ)) → Type 0
IsUnder key pair = key ≡ pair.0

own_key : (key : List ℕ) (d : Data) → Gives (IsUnder key) (option_map (λ texts. (key, texts)) (texts_of d))
own_key key d = gives_map (IsUnder key) (texts_of d) (λ texts. (key, texts)) (λ texts is. refl)

keyed_above : (low : List ℕ) (ms : Members) → AllAbove low ms → Gives (λ (pairs : Keyed). list_all (is_below low) (keys_of pairs) ≡ true) (each_member texts_of ms)
keyed_above low no_members above = refl
keyed_above low (member key d ms) above =
    before-gives (IsUnder key) (λ (pairs : Keyed). list_all (is_below low) (keys_of pairs) ≡ true) _ _ (each_member texts_of ms) (own_key key d) (keyed_above low ms above.1)
    (λ pair pairs same later. and_from _ _ (ap (is_below low) (sym same) ∙ above.0) later)

gives_both : {A : Type 0} (P Q : A → Type 0) (o : Option A) → Gives P o → Gives Q o → Gives (λ a. P a × Q a) o
gives_both P Q None p q = tt
gives_both P Q (Some a) p q = (p, q)

keyed_rises : (ms : Members) → MembersHold ms → Gives (λ (pairs : Keyed). are_rising (keys_of pairs) ≡ true) (each_member texts_of ms)
keyed_rises no_members hold = refl
keyed_rises (member key d ms) hold =
    let Above : Keyed → Type 0 = λ pairs. list_all (is_below key) (keys_of pairs) ≡ true in
    let Rise : Keyed → Type 0 = λ pairs. are_rising (keys_of pairs) ≡ true in
    before-gives (IsUnder key) (λ pairs. Above pairs × Rise pairs) Rise _ (each_member texts_of ms) (own_key key d)
    (gives_both Above Rise (each_member texts_of ms) (keyed_above key ms hold.1) (keyed_rises ms hold.2))
    (λ pair pairs same later. and_from _ _ (ap (λ low. list_all (is_below low) (keys_of pairs)) (sym same) ∙ later.0) later.1)

keyed_of-good : (value : Data) → Holds value → Gives (λ (pairs : Keyed). are_rising (keys_of pairs) ≡ true) (keyed_of value)
keyed_of-good null hold = tt
keyed_of-good (boolean b) hold = tt
keyed_of-good (number n) hold = tt
keyed_of-good (string s) hold = tt
keyed_of-good (array ds) hold = tt
keyed_of-good (object ms) hold = keyed_rises ms hold

pub keyed-good : (value : Option Data) → Gives Holds value → Gives (λ (pairs : Keyed). are_rising (keys_of pairs) ≡ true) (keyed_or_none value)
keyed-good None hold = refl
keyed-good (Some value) hold = keyed_of-good value hold
