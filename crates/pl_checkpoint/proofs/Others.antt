-- The members that are kept unread: those that have none of the keys that are read.
use Rattle.std.proofs.Common.{◌≡◌, ℕ, zero, suc, ◌+◌, Bool, true, false, ◌||◌, cond, option_map, List, [], ◌∷◌, ◌++◌, Option, Some, None, Less, Greater, string_bytes, string_cmp, refl, ap, ◌∙◌}
use Rattle.std.proofs.lemmas.Cmp.{nat_list_cmp_total}
use Rattle.std.specs.Cmp.Lexicographic.{slice_cmp}
use Rattle.std.specs.List.{AllByRecursion}
use Rattle.std.specs.List.Sorted.{IsStrictlySortedBy}
use Rattle.std.specs.Map.{keys_of}
use Rattle.std.specs.Ordering.{nat_cmp, ordering_reverse}
use Rattle.pl_json.specs.Faults.{behind, element_step, key_step}
use Rattle.pl_value.specs.declared.json.JsonFault.{JsonFault}
use Rattle.pl_value.specs.declared.json.JsonFault.TheVariants.{NotWhole}
use Rattle.serde_json.specs.Find.{is_float}
use Rattle.serde_json.proofs.Views.{Entry}
use Rattle.serde_json.specs.Data.{Num, unsigned, negative, float, Data, null, boolean, number, string, array, object, Items, no_items, item, Members, no_members, member, put}
use Rattle.serde_json.specs.View.{view, members_view}
use Rattle.serde_json.specs.Written.{has_float, items_have_float, members_have_float}
use Rattle.pl_checkpoint_text.specs.Formed.{is_one_of, is_whole}
use Rattle.pl_checkpoint_text.specs.ReadEntry.{first_of, items_fault, members_fault, other_members, unread_fault}

-- ---- one more member

abbrev pub Rise : List Entry → Type 0
Rise entries = IsStrictlySortedBy string_cmp (keys_of entries)

below_middle : (first : Entry) (done : List Entry) (e : Entry) (left : List Entry)
    → AllByRecursion (λ y. string_cmp first.0 y ≡ Less) (keys_of (done ++ e ∷ left)) → string_cmp first.0 e.0 ≡ Less
below_middle first [] e left below = below.0
below_middle first (x ∷ done) e left below = below_middle first done e left below.1

-- a member that is read is left out
pub other_members-own : (keys : List (List ℕ)) (done : List Entry) (e : Entry) → is_one_of keys (string_bytes e.0) ≡ true
    → other_members keys (members_view (done ++ e ∷ [])) ≡ other_members keys (members_view done)
other_members-own keys [] e own = rw own refl
other_members-own keys (first ∷ done) e own = either (is_one_of keys (string_bytes first.0)) (other_members-own keys done e own)
  where
    either : (t : Bool) {a b : Members} → a ≡ b
        → cond t a (member (string_bytes first.0) (view first.1) a) ≡ cond t b (member (string_bytes first.0) (view first.1) b)
    either true same = same
    either false same = ap (member (string_bytes first.0) (view first.1)) same

-- another one goes last
pub other_members-other : (keys : List (List ℕ)) (done : List Entry) (e : Entry) (left : List Entry) → Rise (done ++ e ∷ left)
    → is_one_of keys (string_bytes e.0) ≡ false
    → put (string_bytes e.0) (view e.1) (other_members keys (members_view done)) ≡ other_members keys (members_view (done ++ e ∷ []))
unfolding IsStrictlySortedBy
other_members-other keys [] e left rise other = rw other refl
other_members-other keys (first ∷ done) e left rise other =
    let above : slice_cmp nat_cmp (string_bytes e.0) (string_bytes first.0) ≡ Greater =
    nat_list_cmp_total.antisymm (string_bytes e.0) (string_bytes first.0) ∙ ap ordering_reverse (below_middle first done e left rise.0) in
    either (is_one_of keys (string_bytes first.0)) _ _ above (other_members-other keys done e left rise.1 other)
  where
    either : (t : Bool) (a b : Members) → slice_cmp nat_cmp (string_bytes e.0) (string_bytes first.0) ≡ Greater
        → put (string_bytes e.0) (view e.1) a ≡ b
        → put (string_bytes e.0) (view e.1) (cond t a (member (string_bytes first.0) (view first.1) a)) ≡ cond t b (member (string_bytes first.0) (view first.1) b)
    either true a b above same = same
    either false a b above same = rw above (ap (member (string_bytes first.0) (view first.1)) same)

-- ---- members without a fault

none_parts : (f : JsonFault → JsonFault) (one : Option JsonFault) (others : Option JsonFault) → first_of (option_map f one) others ≡ None
    → (one ≡ None) × (others ≡ None)
none_parts f None others h = (refl, h)
none_parts f (Some fault) others h = absurd (cc)

either_false : {a b : Bool} → a ≡ false → b ≡ false → (a || b) ≡ false
either_false {a} {b} x y = rw x y

whole_no_float : (n : Num) → cond (is_whole n) None (Some (NotWhole [])) ≡ None → is_float n ≡ false
whole_no_float (unsigned n) h = refl
whole_no_float (negative z) h = refl
whole_no_float (float x) h = absurd (cc)

mutual
  unread-no_float : (levels : ℕ) (d : Data) → unread_fault levels d ≡ None → has_float d ≡ false
  unread-no_float levels null h = refl
  unread-no_float levels (boolean b) h = refl
  unread-no_float levels (number n) h = whole_no_float n h
  unread-no_float levels (string s) h = refl
  unread-no_float zero (array ds) h = absurd (cc)
  unread-no_float (suc levels) (array ds) h = items-no_float levels 0 ds h
  unread-no_float zero (object ms) h = absurd (cc)
  unread-no_float (suc levels) (object ms) h = members-no_float levels ms h

  items-no_float : (levels place : ℕ) (ds : Items) → items_fault levels place ds ≡ None → items_have_float ds ≡ false
  items-no_float levels place no_items h = refl
  items-no_float levels place (item d ds) h =
      let parts = none_parts (behind (element_step place)) (unread_fault levels d) (items_fault levels (place + 1) ds) h in
      either_false (unread-no_float levels d parts.0) (items-no_float levels (place + 1) ds parts.1)

  pub members-no_float : (levels : ℕ) (ms : Members) → members_fault levels ms ≡ None → members_have_float ms ≡ false
  members-no_float levels no_members h = refl
  members-no_float levels (member k d ms) h =
      let parts = none_parts (behind (key_step k)) (unread_fault levels d) (members_fault levels ms) h in
      either_false (unread-no_float levels d parts.0) (members-no_float levels ms parts.1)
