-- Fields that are kept unread: their text is read as what it was written for.
use Rattle.std.proofs.Common.{◌≡◌, ◌≤◌, ◌+◌, ℕ, zero, suc, Bool, true, false, not, cond, if◌then◌else◌, List, [], Option, Some, None, option_map, option_and_then, Ordering, Less, Equal, Greater, is_eq, refl, sym, ap, ap₂, subst, ◌∙◌, arith}
use Rattle.std.proofs.lemmas.Bool.{and_parts, and_from}
use Rattle.std.proofs.lemmas.Map.Text.{is_eq-slice_cmp}
use Rattle.std.proofs.lemmas.Slice.Eq.{bytes_eq-Decides}
use Rattle.std.specs.Cmp.Lexicographic.{slice_cmp}
use Rattle.std.specs.Ordering.{nat_cmp, match_ordering}
use Rattle.pl_json.proofs.ReadBack.{AllAbove, read_back}
use Rattle.pl_json.specs.Faults.{key_step, element_step, behind}
use Rattle.pl_value.specs.Depth.{most_levels}
use Rattle.pl_value.specs.declared.json.JsonFault.{JsonFault}
use Rattle.pl_value.specs.declared.json.JsonFault.TheVariants.{NotWhole}
use Rattle.serde_json.specs.Data.{Data, null, boolean, number, string, array, object, Items, no_items, item, Members, no_members, member, put, depth, items_depth, members_depth}
use Rattle.serde_json.specs.Find.{as_object, get_member}
use Rattle.serde_json.specs.Read.{read}
use Rattle.serde_json.specs.Written.{compact_text}
use Rattle.pl_lemmas.proofs.Options.{mapped_none}
use Rattle.pl_checkpoint_text.specs.Formed.{is_whole, has_wholes, items_have_wholes, members_have_wholes, is_one_of, are_other, IsUnread}
use Rattle.pl_checkpoint_text.specs.ReadEntry.{first_of, unread_fault, items_fault, members_fault, other_members}
use Rattle.pl_checkpoint_text.specs.Spelled.{unread_fields, whole_members}
use Rattle.pl_checkpoint_text.proofs.Fields.{Key}
use Rattle.pl_checkpoint_text.proofs.ReadLawProper.{MembersAreProper, MembersRise-proper}
use Rattle.pl_checkpoint_text.proofs.Wholes.{MembersHaveWholes-from}
use Rattle.pl_checkpoint_text.proofs.NoFloats.{members_wholes-no_float}

-- ---- what has no fault has whole numbers alone, and is not too deep

first_parts : (one others : Option JsonFault) → first_of one others ≡ None → (one ≡ None) × (others ≡ None)
first_parts None others is = (refl, is)
first_parts (Some fault) others is = cc

number_fault : (t : Bool) → cond t None (Some (NotWhole [])) ≡ None → t ≡ true
number_fault true is = refl
number_fault false is = cc

abbrev IsKept : ℕ → Data → Type 0
IsKept levels d = (has_wholes d ≡ true) × (depth d ≤ levels)

mutual
  kept_data : (levels : ℕ) (d : Data) → unread_fault levels d ≡ None → IsKept levels d
  kept_data levels null is = (refl, omega arith)
  kept_data levels (boolean b) is = (refl, omega arith)
  kept_data levels (number n) is = (number_fault (is_whole n) is, omega arith)
  kept_data levels (string s) is = (refl, omega arith)
  kept_data zero (array ds) is = cc
  kept_data (suc levels) (array ds) is = let inner = kept_items levels 0 ds is in (inner.0, omega arith)
  kept_data zero (object ms) is = cc
  kept_data (suc levels) (object ms) is = let inner = kept_members levels ms is in (inner.0, omega arith)

  kept_items : (levels place : ℕ) (ds : Items) → items_fault levels place ds ≡ None → (items_have_wholes ds ≡ true) × (items_depth ds ≤ levels)
  kept_items levels place no_items is = (refl, omega arith)
  kept_items levels place (item d ds) is =
      let parts = first_parts (option_map (behind (element_step place)) (unread_fault levels d)) (items_fault levels (place + 1) ds) is in
      let here = kept_data levels d (mapped_none _ (unread_fault levels d) parts.0) in
      let later = kept_items levels (place + 1) ds parts.1 in
      (and_from _ _ here.0 later.0, omega arith)

  pub kept_members : (levels : ℕ) (ms : Members) → members_fault levels ms ≡ None → (members_have_wholes ms ≡ true) × (members_depth ms ≤ levels)
  kept_members levels no_members is = (refl, omega arith)
  kept_members levels (member key d ms) is =
      let parts = first_parts (option_map (behind (key_step key)) (unread_fault levels d)) (members_fault levels ms) is in
      let here = kept_data levels d (mapped_none _ (unread_fault levels d) parts.0) in
      let later = kept_members levels ms parts.1 in
      (and_from _ _ here.0 later.0, omega arith)

-- ---- and the other way round

first_none : (one others : Option JsonFault) → one ≡ None → others ≡ None → first_of one others ≡ None
first_none one others here later = ap₂ first_of here later

mutual
  faultless_data : (levels : ℕ) (d : Data) → has_wholes d ≡ true → depth d ≤ levels → unread_fault levels d ≡ None
  faultless_data levels null whole deep = refl
  faultless_data levels (boolean b) whole deep = refl
  faultless_data levels (number n) whole deep = ap (λ t. cond t None (Some (NotWhole []))) whole
  faultless_data levels (string s) whole deep = refl
  faultless_data zero (array ds) whole deep = absurd (omega arith)
  faultless_data (suc levels) (array ds) whole deep = faultless_items levels 0 ds whole (omega arith)
  faultless_data zero (object ms) whole deep = absurd (omega arith)
  faultless_data (suc levels) (object ms) whole deep = faultless_members levels ms whole (omega arith)

  faultless_items : (levels place : ℕ) (ds : Items) → items_have_wholes ds ≡ true → items_depth ds ≤ levels → items_fault levels place ds ≡ None
  faultless_items levels place no_items whole deep = refl
  faultless_items levels place (item d ds) whole deep =
      let parts = and_parts (has_wholes d) (items_have_wholes ds) whole in
      first_none _ _ (ap (option_map (behind (element_step place))) (faultless_data levels d parts.0 (omega arith)))
      (faultless_items levels (place + 1) ds parts.1 (omega arith))

  pub faultless_members : (levels : ℕ) (ms : Members) → members_have_wholes ms ≡ true → members_depth ms ≤ levels → members_fault levels ms ≡ None
  faultless_members levels no_members whole deep = refl
  faultless_members levels (member key d ms) whole deep =
      let parts = and_parts (has_wholes d) (members_have_wholes ms) whole in
      first_none _ _ (ap (option_map (behind (key_step key))) (faultless_data levels d parts.0 (omega arith)))
      (faultless_members levels ms parts.1 (omega arith))

-- ---- the text of unread fields

unread_fields-text : (ms : Members) → MembersAreProper ms → members_have_wholes ms ≡ true → members_depth ms ≤ most_levels
    → unread_fields (compact_text (object ms)) ≡ ms
unfolding unread_fields
unread_fields-text ms proper whole deep =
    let back : read (compact_text (object ms)) ≡ Some (object ms) =
    read_back (object ms) (MembersHaveWholes-from ms whole) (MembersRise-proper ms proper) (omega arith) in
    ap (λ (found : Option Data). whole_members (option_and_then as_object found)) back
    ∙ ap (λ t. if t then no_members else ms) (members_wholes-no_float ms whole)

-- the text of such fields
pub unread_text : (keys : List Key) (ms : Members) → MembersAreProper ms → are_other keys ms ≡ true → members_fault most_levels ms ≡ None
    → (unread_fields (compact_text (object ms)) ≡ ms) × IsUnread keys (compact_text (object ms))
unread_text keys ms proper other faultless =
    let kept = kept_members most_levels ms faultless in
    let back = unread_fields-text ms proper kept.0 kept.1 in (
      back,
      record {
        spelled = sym (ap (λ found. compact_text (object found)) back);
        other = ap (are_other keys) back ∙ other;
        wholes = ap members_have_wholes back ∙ kept.0;
        depth = subst (λ found. members_depth found ≤ most_levels) (sym back) kept.1;
      },
    )

-- ---- members that are no fields of one's own

abbrev unless_own : Bool → Key → Data → Members → Members
unless_own own key d ms = if own then ms else member key d ms

are_other-unless_own : (own : Bool) (keys : List Key) (key : Key) (d : Data) (ms : Members) → is_one_of keys key ≡ own → are_other keys ms ≡ true
    → are_other keys (unless_own own key d ms) ≡ true
are_other-unless_own true keys key d ms is others = others
are_other-unless_own false keys key d ms is others = and_from _ _ (ap not is) others

pub are_other-other_members : (keys : List Key) (ms : Members) → are_other keys (other_members keys ms) ≡ true
are_other-other_members keys no_members = refl
are_other-other_members keys (member key d ms) =
    are_other-unless_own (is_one_of keys key) keys key d (other_members keys ms) refl (are_other-other_members keys ms)

all_above-unless_own : (own : Bool) (low key : Key) (d : Data) (ms : Members) → AllAbove low (member key d ms) → AllAbove low (unless_own own key d ms)
all_above-unless_own true low key d ms above = above.1
all_above-unless_own false low key d ms above = above

all_above-other_members : (keys : List Key) (low : Key) (ms : Members) → AllAbove low ms → AllAbove low (other_members keys ms)
all_above-other_members keys low no_members above = tt
all_above-other_members keys low (member key d ms) above =
    all_above-unless_own (is_one_of keys key) low key d (other_members keys ms) (above.0, all_above-other_members keys low ms above.1)

proper-unless_own : (own : Bool) (key : Key) (d : Data) (ms : Members) → MembersAreProper (member key d ms) → MembersAreProper (unless_own own key d ms)
proper-unless_own true key d ms proper = proper.2
proper-unless_own false key d ms proper = proper

pub proper-other_members : (keys : List Key) (ms : Members) → MembersAreProper ms → MembersAreProper (other_members keys ms)
proper-other_members keys no_members proper = tt
proper-other_members keys (member key d ms) proper =
    proper-unless_own (is_one_of keys key) key d (other_members keys ms)
    (proper.0, all_above-other_members keys key ms proper.1, proper-other_members keys ms proper.2)

-- what stands under another key is left
beside : (own : Bool) (keys : List Key) (key first : Key) (d : Data) (ms : Members) → is_one_of keys first ≡ own → is_one_of keys key ≡ false
    → get_member key (unless_own own first d ms) ≡ match_ordering (slice_cmp nat_cmp key first) (get_member key ms) (Some d) (get_member key ms)
beside false keys key first d ms is other = refl
beside true keys key first d ms is other = by_case (slice_cmp nat_cmp key first) refl
  where
    by_case : (o : Ordering) → slice_cmp nat_cmp key first ≡ o → get_member key ms ≡ match_ordering o (get_member key ms) (Some d) (get_member key ms)
    by_case Less same = refl
    by_case Greater same = refl
    by_case Equal same =
        let equal : key ≡ first = (bytes_eq-Decides key first).0 (sym (is_eq-slice_cmp key first) ∙ ap is_eq same) in
        let wrong : false ≡ true = sym other ∙ ap (is_one_of keys) equal ∙ is in
        cc

pub get_member-other_members : (keys : List Key) (key : Key) (ms : Members) → is_one_of keys key ≡ false
    → get_member key (other_members keys ms) ≡ get_member key ms
get_member-other_members keys key no_members other = refl
get_member-other_members keys key (member first d ms) other =
    beside (is_one_of keys first) keys key first d (other_members keys ms) refl other
    ∙ ap (λ later. match_ordering (slice_cmp nat_cmp key first) later (Some d) later) (get_member-other_members keys key ms other)

-- ---- members that are put in

either_other : (o : Ordering) (keys : List Key) (a b c : Members) → are_other keys a ≡ true → are_other keys b ≡ true → are_other keys c ≡ true
    → are_other keys (match_ordering o a b c) ≡ true
either_other Less keys a b c x y z = x
either_other Equal keys a b c x y z = y
either_other Greater keys a b c x y z = z

pub are_other-put : (keys : List Key) (key : Key) (d : Data) (ms : Members) → is_one_of keys key ≡ false → are_other keys ms ≡ true → are_other keys (put key d ms) ≡ true
are_other-put keys key d no_members own others = and_from _ _ (ap not own) refl
are_other-put keys key d (member first e ms) own others =
    let parts = and_parts (not (is_one_of keys first)) (are_other keys ms) others in
    either_other (slice_cmp nat_cmp key first) keys _ _ _
    (and_from _ _ (ap not own) others)
    (and_from _ _ parts.0 parts.1)
    (and_from _ _ parts.0 (are_other-put keys key d ms own parts.1))
