-- Data that was read of a text: the keys of each object rise, and a negative number has 64 bits.
use Rattle.std.proofs.Common.{◌≡◌, ◌^◌, ℕ, zero, suc, pos, negsuc, neg_ℤ, Bool, true, false, ◌&&◌, cond, nat_lt, nat_le, slice_index, drop, ◌==◌, List, Option, Some, None, option_map, option_and_then, IfSome, Ordering, Less, Equal, Greater, refl, ap, subst, arith}
use Rattle.std.proofs.lemmas.Bool.{and_parts}
use Rattle.std.specs.Cmp.Lexicographic.{slice_cmp}
use Rattle.std.specs.Ordering.{nat_cmp, match_ordering}
use borrow.Author.Tests.{ltb-true}
use Rattle.fast_float.specs.Text.{minus, Parts, scan, digits_of, nearest}
use Rattle.std.specs.Float.{binary64, float_is_finite}
use Rattle.json.specs.Json as json
use Rattle.json.specs.Lex.{tokens}
use Rattle.pl_json.proofs.ReadBack.{AllAbove, Rises, ItemsRise, MembersRise}
use Rattle.pl_value.proofs.Rising.{reversed}
use Rattle.pl_value.specs.Keys.{is_below, is_less}
use Rattle.serde_json.specs.Data.{Num, unsigned, negative, float, Data, null, boolean, number, string, array, object, Items, no_items, item, Members, no_members, member, put}
use Rattle.serde_json.specs.Read.{is_integer, float_of, number_from, number_of, of_json, of_items, of_members, max_depth, read}
use Rattle.pl_json.proofs.Above.{above-put, above-below}

-- a number that is negative has 64 bits
abbrev pub is_signed : Num → Bool
is_signed (unsigned n) = true
is_signed (negative (pos n)) = false
is_signed (negative (negsuc n)) = nat_lt n (2 ^ 63)
is_signed (float x) = true

-- the keys of each object rise, and each negative number has 64 bits
abbrev mutual
  pub IsProper : Data → Type 0
  IsProper null = Unit {0}
  IsProper (boolean b) = Unit {0}
  IsProper (number n) = is_signed n ≡ true
  IsProper (string s) = Unit {0}
  IsProper (array ds) = ItemsAreProper ds
  IsProper (object ms) = MembersAreProper ms

  pub ItemsAreProper : Items → Type 0
  ItemsAreProper no_items = Unit {0}
  ItemsAreProper (item d ds) = IsProper d × ItemsAreProper ds

  pub MembersAreProper : Members → Type 0
  MembersAreProper no_members = Unit {0}
  MembersAreProper (member key d ms) = IsProper d × AllAbove key ms × MembersAreProper ms

mutual
  pub Rises-proper : (d : Data) → IsProper d → Rises d
  Rises-proper null p = tt
  Rises-proper (boolean b) p = tt
  Rises-proper (number n) p = tt
  Rises-proper (string s) p = tt
  Rises-proper (array ds) p = ItemsRise-proper ds p
  Rises-proper (object ms) p = MembersRise-proper ms p

  ItemsRise-proper : (ds : Items) → ItemsAreProper ds → ItemsRise ds
  ItemsRise-proper no_items p = tt
  ItemsRise-proper (item d ds) p = (Rises-proper d p.0, ItemsRise-proper ds p.1)

  pub MembersRise-proper : (ms : Members) → MembersAreProper ms → MembersRise ms
  MembersRise-proper no_members p = tt
  MembersRise-proper (member key d ms) p = (Rises-proper d p.0, p.1, MembersRise-proper ms p.2)

-- ---- numbers

signed_either : (t : Bool) (one other : Option Num) → (t ≡ true → IfSome one (λ n. is_signed n ≡ true)) → IfSome other (λ n. is_signed n ≡ true)
    → IfSome (cond t one other) (λ n. is_signed n ≡ true)
signed_either true one other p q = p refl
signed_either false one other p q = q

signed_float : (sign : Bool) (p : Parts) → IfSome (float_of sign p) (λ n. is_signed n ≡ true)
signed_float sign p = signed_either (float_is_finite (nearest binary64 sign p)) (Some (float (nearest binary64 sign p))) None (λ finite. refl) tt

signed_below : (n : ℕ) → nat_lt 0 n ≡ true → nat_le n (2 ^ 63) ≡ true → is_signed (negative (neg_ℤ (pos n))) ≡ true
signed_below zero some small = absurd (omega (arith, ltb-true))
signed_below (suc n) some small = grind arith

signed_from : (sign : Bool) (p : Parts) → IfSome (number_from sign p) (λ n. is_signed n ≡ true)
signed_from false p =
    signed_either (is_integer p && nat_lt (digits_of p) (2 ^ 64)) (Some (unsigned (digits_of p))) (float_of false p) (λ fits. refl) (signed_float false p)
signed_from true p =
    signed_either (is_integer p && nat_lt 0 (digits_of p) && nat_le (digits_of p) (2 ^ 63)) (Some (negative (neg_ℤ (pos (digits_of p))))) (float_of true p)
    (λ fits.
    let outer = and_parts (is_integer p && nat_lt 0 (digits_of p)) (nat_le (digits_of p) (2 ^ 63)) fits in
    signed_below (digits_of p) (and_parts (is_integer p) (nat_lt 0 (digits_of p)) outer.0).1 outer.1)
    (signed_float true p)

signed_number : (text : List ℕ) → IfSome (number_of text) (λ n. is_signed n ≡ true)
unfolding number_of
signed_number text =
    signed_either (slice_index text 0 == minus) (number_from true (scan (drop 1 text))) (number_from false (scan text))
    (λ signed. signed_from true (scan (drop 1 text))) (signed_from false (scan text))

-- ---- members that are put in

abbrev put_by : Ordering → List ℕ → Data → List ℕ → Data → Members → Members
put_by o key d first e ms = match_ordering o (member key d (member first e ms)) (member first d ms) (member first e (put key d ms))

pub proper_put : (key : List ℕ) (d : Data) (ms : Members) → IsProper d → MembersAreProper ms → MembersAreProper (put key d ms)
proper_put key d no_members own all = (own, tt, tt)
proper_put key d (member first e ms) own all = by_case (slice_cmp nat_cmp key first) refl (proper_put key d ms own all.2)
  where
    by_case : (o : Ordering) → slice_cmp nat_cmp key first ≡ o → MembersAreProper (put key d ms) → MembersAreProper (put_by o key d first e ms)
    by_case Less is later =
        let below : is_below key first ≡ true = ap is_less is in
        (own, (below, above-below key first ms below all.1), all)
    by_case Equal is later = (own, all.1, all.2)
    by_case Greater is later = (all.0, above-put first key d ms (ap is_less (reversed key first Greater is)) all.1, later)

-- ---- the whole text

some_map : {A B : Type 0} (P : A → Type 0) (Q : B → Type 0) (f : A → B) → ((a : A) → P a → Q (f a)) → (o : Option A) → IfSome o P → IfSome (option_map f o) Q
some_map P Q f each None h = tt
some_map P Q f each (Some a) h = each a h

some_then : {A B : Type 0} (P : A → Type 0) (Q : B → Type 0) (f : A → Option B) → ((a : A) → P a → IfSome (f a) Q) → (o : Option A) → IfSome o P → IfSome (option_and_then f o) Q
some_then P Q f each None h = tt
some_then P Q f each (Some a) h = each a h

mutual
  proper_json : (j : json.Json) → IfSome (of_json j) IsProper
  proper_json json.null = tt
  proper_json (json.boolean b) = tt
  proper_json (json.number s) = some_map (λ n. is_signed n ≡ true) IsProper number (λ n signed. signed) (number_of s) (signed_number s)
  proper_json (json.string s) = tt
  proper_json (json.array js) = some_map ItemsAreProper IsProper array (λ ds proper. proper) (of_items js) (proper_items js)
  proper_json (json.object ms) = some_map MembersAreProper IsProper object (λ ds proper. proper) (of_members ms no_members) (proper_members ms no_members tt)

  proper_items : (js : json.Items) → IfSome (of_items js) ItemsAreProper
  proper_items json.no_items = tt
  proper_items (json.item j js) =
      some_then IsProper ItemsAreProper _ (λ d own. some_map ItemsAreProper ItemsAreProper (item d) (λ ds more. (own, more)) (of_items js) (proper_items js)) (of_json j) (proper_json j)

  proper_members : (ms : json.Members) (found : Members) → MembersAreProper found → IfSome (of_members ms found) MembersAreProper
  proper_members json.no_members found all = all
  proper_members (json.member key j ms) found all =
      some_then IsProper MembersAreProper _ (λ d own. proper_members ms (put key d found) (proper_put key d found own all)) (of_json j) (proper_json j)

proper_whole : (o : Option json.Json) → IfSome (option_and_then of_json o) IsProper
proper_whole None = tt
proper_whole (Some j) = proper_json j

-- what a text reads as
pub proper_read : (text : List ℕ) (d : Data) → read text ≡ Some d → IsProper d
proper_read text d is = subst (λ (o : Option Data). IfSome o IsProper) is (proper_whole (option_and_then (λ p. json.if_last p.0 p.1) (json.value max_depth (tokens text))))
