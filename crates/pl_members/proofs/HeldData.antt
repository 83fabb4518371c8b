-- The JSON value of a text: each number has 64 bits, and the keys of each object rise.
use Rattle.std.proofs.Common.{◌≡◌, ℕ, zero, suc, pos, neg_ℤ, Float, ◌^◌, ◌<◌, ◌≤◌, ◌&&◌, ◌==◌, nat_lt, nat_le, Bool, true, false, cond, List, drop, slice_index, Option, Some, None, option_and_then, Ordering, Less, Equal, Greater, refl, ap, arith, lt-ltb}
use Rattle.std.proofs.lemmas.Bool.{ltb-true, leb-true}
use Rattle.std.specs.Cmp.Lexicographic.{slice_cmp}
use Rattle.std.specs.Ordering.{nat_cmp, match_ordering}
use Rattle.std.specs.Float.{binary64, float_is_finite}
use Rattle.std.specs.Float.Numeral.{Parts, minus, nearest_float, numeral_digits, scan_numeral}
use Rattle.std.specs.Str.{is_utf8}
use Rattle.json.specs.Json as json
use Rattle.json.specs.Lex.{tokens}
use Rattle.serde_json.specs.Data.{Num, unsigned, negative, float, Data, null, boolean, number, string, array, object, Items, no_items, item, Members, no_members, member, put}
use Rattle.serde_json.specs.Read.{float_of, is_integer, max_depth, number_from, number_of, of_items, of_json, of_members, read}
use Rattle.pl_value.proofs.Rising.{reversed}
use Rattle.pl_value.specs.Keys.{is_below, is_less}
use Rattle.pl_json.proofs.ReadBack.{AllAbove}
use Rattle.pl_json.specs.Fits.{fits}
use Rattle.pl_json.proofs.Above.{above-below, above-put}
use Rattle.pl_json.specs.Texts.{json_of}
use Rattle.pl_members.proofs.Steps.{Gives, gives, gives_map, gives_next}

-- a number that a text spells
abbrev pub IsFitNumber : Num → Type 0
IsFitNumber (unsigned n) = n < 2 ^ 64
IsFitNumber (negative z) = fits z ≡ true
IsFitNumber (float x) = Unit {0}

-- data that a text spells
abbrev mutual
  pub Holds : Data → Type 0
  Holds null = Unit {0}
  Holds (boolean b) = Unit {0}
  Holds (number n) = IsFitNumber n
  Holds (string s) = Unit {0}
  Holds (array ds) = ItemsHold ds
  Holds (object ms) = MembersHold ms

  pub ItemsHold : Items → Type 0
  ItemsHold no_items = Unit {0}
  ItemsHold (item d ds) = Holds d × ItemsHold ds

  pub MembersHold : Members → Type 0
  MembersHold no_members = Unit {0}
  MembersHold (member key d ms) = Holds d × AllAbove key ms × MembersHold ms

-- ---- a member that is put keeps the keys rising

hold_by : (o : Ordering) (k l : List ℕ) (d e : Data) (ms : Members) → slice_cmp nat_cmp k l ≡ o → Holds d → MembersHold (member l e ms) → MembersHold (put k d ms)
    → MembersHold (match_ordering o (member k d (member l e ms)) (member l d ms) (member l e (put k d ms)))
hold_by Less k l d e ms is here hold later =
    let below : is_below k l ≡ true = ap is_less is in
    (here, (below, above-below k l ms below hold.1), hold)
hold_by Equal k l d e ms is here hold later = (here, hold.1, hold.2)
hold_by Greater k l d e ms is here hold later =
    let below : is_below l k ≡ true = ap is_less (reversed k l Greater is) in
    (hold.0, above-put l k d ms below hold.1, later)

members_hold-put : (k : List ℕ) (d : Data) (ms : Members) → Holds d → MembersHold ms → MembersHold (put k d ms)
members_hold-put k d no_members here hold = (here, tt, tt)
members_hold-put k d (member l e ms) here hold =
    hold_by (slice_cmp nat_cmp k l) k l d e ms refl here hold (members_hold-put k d ms here hold.2)

-- ---- numbers

float_fits : (b : Bool) (x : Float) → Gives IsFitNumber (cond b (Some (float x)) None)
float_fits true x = tt
float_fits false x = tt

unsigned_fits : (whole small : Bool) (n : ℕ) (other : Option Num) → (small ≡ true → n < 2 ^ 64) → Gives IsFitNumber other → Gives IsFitNumber (cond (whole && small) (Some (unsigned n)) other)
unsigned_fits true true n other within others = within refl
unsigned_fits true false n other within others = others
unsigned_fits false small n other within others = others

below_zero : (n : ℕ) → 0 < n → n ≤ 2 ^ 63 → fits (neg_ℤ (pos n)) ≡ true
below_zero zero some small = absurd (omega arith)
below_zero (suc n) some small = lt-ltb n (2 ^ 63) (omega arith)

negative_fits : (whole some small : Bool) (n : ℕ) (other : Option Num) → (some ≡ true → 0 < n) → (small ≡ true → n ≤ 2 ^ 63) → Gives IsFitNumber other
    → Gives IsFitNumber (cond (whole && some && small) (Some (negative (neg_ℤ (pos n)))) other)
negative_fits true true true n other above within others = below_zero n (above refl) (within refl)
negative_fits true true false n other above within others = others
negative_fits true false small n other above within others = others
negative_fits false some small n other above within others = others

number_from-fits : (sign : Bool) (p : Parts) → Gives IsFitNumber (number_from sign p)
number_from-fits false p =
    unsigned_fits (is_integer p) (nat_lt (numeral_digits p) (2 ^ 64)) (numeral_digits p) (float_of false p)
    (λ is. ltb-true _ _ is) (float_fits (float_is_finite (nearest_float binary64 false p)) (nearest_float binary64 false p))
number_from-fits true p =
    negative_fits (is_integer p) (nat_lt 0 (numeral_digits p)) (nat_le (numeral_digits p) (2 ^ 63)) (numeral_digits p) (float_of true p)
    (λ is. ltb-true _ _ is) (λ is. leb-true _ _ is) (float_fits (float_is_finite (nearest_float binary64 true p)) (nearest_float binary64 true p))

either_fits : (b : Bool) (one other : Option Num) → Gives IsFitNumber one → Gives IsFitNumber other → Gives IsFitNumber (cond b one other)
either_fits true one other here there = here
either_fits false one other here there = there

number_of-fits : (s : List ℕ) → Gives IsFitNumber (number_of s)
unfolding number_of
number_of-fits s =
    either_fits (slice_index s 0 == minus) (number_from true (scan_numeral (drop 1 s))) (number_from false (scan_numeral s))
    (number_from-fits true (scan_numeral (drop 1 s))) (number_from-fits false (scan_numeral s))

-- ---- data

mutual
  of_json-holds : (j : json.Json) → Gives Holds (of_json j)
  of_json-holds json.null = tt
  of_json-holds (json.boolean b) = tt
  of_json-holds (json.number s) = gives_map Holds (number_of s) number (λ n is. gives IsFitNumber (number_of s) n (number_of-fits s) is)
  of_json-holds (json.string s) = tt
  of_json-holds (json.array js) = gives_map Holds (of_items js) array (λ ds is. gives ItemsHold (of_items js) ds (of_items-hold js) is)
  of_json-holds (json.object ms) =
      gives_map Holds (of_members ms no_members) object (λ found is. gives MembersHold (of_members ms no_members) found (of_members-hold ms no_members tt) is)

  of_items-hold : (js : json.Items) → Gives ItemsHold (of_items js)
  of_items-hold json.no_items = tt
  of_items-hold (json.item j js) =
      gives_next ItemsHold (of_json j) _ (λ d is.
      gives_map ItemsHold (of_items js) (item d) (λ ds are.
      (gives Holds (of_json j) d (of_json-holds j) is, gives ItemsHold (of_items js) ds (of_items-hold js) are)))

  of_members-hold : (ms : json.Members) (found : Members) → MembersHold found → Gives MembersHold (of_members ms found)
  of_members-hold json.no_members found hold = hold
  of_members-hold (json.member k j ms) found hold =
      gives_next MembersHold (of_json j) _ (λ d is.
      of_members-hold ms (put k d found) (members_hold-put k d found (gives Holds (of_json j) d (of_json-holds j) is) hold))

pub read-holds : (text : List ℕ) → Gives Holds (read text)
read-holds text =
    let found : Option json.Json = option_and_then (λ p. json.if_last p.0 p.1) (json.value max_depth (tokens text)) in
    gives_next Holds found of_json (λ j is. of_json-holds j)

unless_no_text : (b : Bool) (found : Option Data) → Gives Holds found → Gives Holds (cond b found None)
unless_no_text true found holds = holds
unless_no_text false found holds = tt

pub json_of-holds : (bytes : List ℕ) → Gives Holds (json_of bytes)
json_of-holds bytes = unless_no_text (is_utf8 bytes) (read bytes) (read-holds bytes)
