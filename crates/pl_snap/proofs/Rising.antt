-- Tags whose numbers rise: where a search ends among them, and what keeps the rise.
use Rattle.std.proofs.Common.{◌≡◌, ℕ, zero, suc, ◌+◌, ◌<◌, ◌≤◌, ◌==◌, ◌&&◌, Bool, true, false, cond, None, Some, option_map, Result, Ok, Err, List, [], ◌∷◌, length, map, get_or, refl, ap, sym, ◌∙◌, arith}
use Rattle.std.specs.Prelude.{nat_le, position, remove}
use Rattle.std.specs.List.{range_with_len}
use Rattle.std.specs.List.Sorted.{IsBinarySearchResult, IsNonDecreasingBy, IsSearchInRange}
use Rattle.std.specs.Ordering.{nat_cmp, ordering_index}
use Rattle.std.specs.Result.{result_ok}
use Rattle.std.proofs.lemmas.Bool.Decides.{nat_tests}
use Rattle.std.proofs.lemmas.Cmp.{ranked}
use Rattle.std.proofs.lemmas.List.Sorted.{IsNonDecreasingBy-from_default}
use Rattle.pl_lemmas.proofs.Truth.{and_left, and_right}
use Rattle.pl_state.specs.declared.entry.Entry.{Entry}
use Rattle.pl_snap.specs.declared.tag.Tag.{Tag}
use Rattle.pl_snap.specs.Lists.{changed_at}
use Rattle.pl_snap.specs.Rows.{first_tags, has_number, rise_from, stamped, turned_tags}
use Rattle.pl_snap.proofs.ListLemmas.{changed_at-suc, place, position-place}

-- ---- the order of the numbers

here_least : (least : ℕ) (tag : Tag) (tags : List Tag) → rise_from least (tag ∷ tags) ≡ true → least ≤ tag.number
here_least least tag tags up =
    let first : nat_le least tag.number ≡ true = and_left (nat_le least tag.number) (rise_from (tag.number + 1) tags) up in
    grind (arith, nat_tests)

rest_up : (least : ℕ) (tag : Tag) (tags : List Tag) → rise_from least (tag ∷ tags) ≡ true → rise_from (tag.number + 1) tags ≡ true
rest_up least tag tags up = and_right (nat_le least tag.number) (rise_from (tag.number + 1) tags) up

-- each number is one from the least on
above : (least : ℕ) (tags : List Tag) (j : ℕ) (d : Tag) → rise_from least tags ≡ true → j < length tags → least ≤ (get_or tags j d).number
above least [] j d up less = absurd (omega arith)
above least (tag ∷ tags) zero d up less = here_least least tag tags up
above least (tag ∷ tags) (suc j) d up less =
    let first : least ≤ tag.number = here_least least tag tags up in
    let more : tag.number + 1 ≤ (get_or tags j d).number = above (tag.number + 1) tags j d (rest_up least tag tags up) (omega arith) in
    omega arith

in_order : (least : ℕ) (tags : List Tag) (i j : ℕ) (d : Tag) → rise_from least tags ≡ true → i < j → j < length tags → (get_or tags i d).number < (get_or tags j d).number
in_order least [] i j d up lower less = absurd (omega arith)
in_order least (tag ∷ tags) i zero d up lower less = absurd (omega arith)
in_order least (tag ∷ tags) zero (suc j) d up lower less =
    let more : tag.number + 1 ≤ (get_or tags j d).number = above (tag.number + 1) tags j d (rest_up least tag tags up) (omega arith) in
    omega arith
in_order least (tag ∷ tags) (suc i) (suc j) d up lower less = in_order (tag.number + 1) tags i j d (rest_up least tag tags up) (omega arith) (omega arith)

-- ---- a search

abbrev no_tag : Tag
no_tag = record { number = 0; stamp = 0 }

comparisons_rise : (tags : List Tag) (number : ℕ) → rise_from 0 tags ≡ true → IsNonDecreasingBy (λ tag. ordering_index (nat_cmp tag.number number)) tags
comparisons_rise tags number up =
    IsNonDecreasingBy-from_default (λ tag. ordering_index (nat_cmp tag.number number)) tags no_tag (λ i j le inside.
    let up_to : (get_or tags i no_tag).number ≤ (get_or tags j no_tag).number =
    grind (arith, in_order 0 tags i j no_tag up, λ (same : i ≡ j). ap (λ (k : ℕ). (get_or tags k no_tag).number) same) in
    grind (arith, nat_tests))

place_found : (least : ℕ) (tags : List Tag) (number k : ℕ) → rise_from least tags ≡ true → k < length tags → (get_or tags k no_tag).number ≡ number → place (has_number number) tags ≡ Some k
place_found least [] number k up less is = absurd (omega arith)
place_found least (tag ∷ tags) number zero up less is =
    let same : (tag.number == number) ≡ true = grind (arith, nat_tests) in
    ap (λ (b : Bool). cond b (Some 0) (option_map suc (place (has_number number) tags))) same
place_found least (tag ∷ tags) number (suc k) up less is =
    let more : tag.number + 1 ≤ (get_or tags k no_tag).number = above (tag.number + 1) tags k no_tag (rest_up least tag tags up) (omega arith) in
    let other : (tag.number == number) ≡ false = grind (arith, nat_tests) in
    ap (λ (b : Bool). cond b (Some 0) (option_map suc (place (has_number number) tags))) other
    ∙ ap (option_map suc) (place_found (tag.number + 1) tags number k (rest_up least tag tags up) (omega arith) is)

place_missing : (tags : List Tag) (number : ℕ) → ((k : ℕ) → k < length tags → (get_or tags k no_tag).number ≡ number → ⊥) → place (has_number number) tags ≡ None
place_missing [] number none = refl
place_missing (tag ∷ tags) number none =
    let other : (tag.number == number) ≡ false = grind (arith, nat_tests, none 0 (omega arith)) in
    ap (λ (b : Bool). cond b (Some 0) (option_map suc (place (has_number number) tags))) other
    ∙ ap (option_map suc) (place_missing tags number (λ k less is. none (suc k) (omega arith) is))

-- a search by number ends at the place of the number, or finds none
pub searched : (tags : List Tag) (number : ℕ) → rise_from 0 tags ≡ true → (r : Result ℕ ℕ) → IsSearchInRange r (length tags) → IsBinarySearchResult (λ tag. nat_cmp tag.number number) tags r → result_ok r ≡ position (has_number number) tags
searched tags number up (Ok at) inside equal =
    sym (position-place (has_number number) tags ∙ place_found 0 tags number at up inside (ranked _ number _ (sym (equal no_tag))))
searched tags number up (Err at) inside parted =
    let sides = parted (comparisons_rise tags number up) in
    sym (position-place (has_number number) tags ∙ place_missing tags number (λ k less is.
    let below : k < at → (get_or tags k no_tag).number < number = λ lower. ranked _ number _ (sym (sides.0 k no_tag (omega arith) lower)) in
    let beyond : at ≤ k → number < (get_or tags k no_tag).number = λ high. ranked _ number _ (sym (sides.1 k no_tag high less)) in
    grind (arith, below, beyond)))

-- ---- what keeps the rise

lower_step : (least more : ℕ) (tags : List Tag) → least ≤ more → rise_from more tags ≡ true → rise_from least tags ≡ true
lower_step least more [] le up = refl
lower_step least more (tag ∷ tags) le up =
    let first : more ≤ tag.number = here_least more tag tags up in
    let low : nat_le least tag.number ≡ true = grind (arith, nat_tests) in
    ap (λ (b : Bool). b && rise_from (tag.number + 1) tags) low ∙ rest_up more tag tags up

pub rise-removed : (least : ℕ) (tags : List Tag) (k : ℕ) → rise_from least tags ≡ true → rise_from least (remove tags k) ≡ true
rise-removed least [] zero up = refl
rise-removed least [] (suc k) up = refl
rise-removed least (tag ∷ tags) zero up =
    let first : least ≤ tag.number = here_least least tag tags up in
    lower_step least (tag.number + 1) tags (omega arith) (rest_up least tag tags up)
rise-removed least (tag ∷ tags) (suc k) up =
    let low : nat_le least tag.number ≡ true = and_left (nat_le least tag.number) (rise_from (tag.number + 1) tags) up in
    (λ i. low i && rise-removed (tag.number + 1) tags k (rest_up least tag tags up) i)

pub rise-stamped : (least : ℕ) (tags : List Tag) (stamp k : ℕ) → rise_from least (changed_at (stamped stamp) k tags) ≡ rise_from least tags
rise-stamped least [] stamp k = refl
rise-stamped least (tag ∷ tags) stamp zero = refl
rise-stamped least (tag ∷ tags) stamp (suc k) =
    ap (rise_from least) (changed_at-suc (stamped stamp) k tag tags)
    ∙ ap (λ (b : Bool). nat_le least tag.number && b) (rise-stamped (tag.number + 1) tags stamp k)

pub rise-turned : (least : ℕ) (urn : List ℕ) (first : ℕ) (tags : List Tag) (entries : List Entry) → length tags ≡ length entries → rise_from least (turned_tags urn first tags entries) ≡ rise_from least tags
rise-turned least urn first [] entries same = refl
rise-turned least urn first (tag ∷ tags) [] same = absurd (omega arith)
rise-turned least urn first (tag ∷ tags) (entry ∷ entries) same =
    ap (λ (b : Bool). nat_le least tag.number && b) (rise-turned (tag.number + 1) urn (first + 1) tags entries (omega arith))

rise_numbered : (first start count : ℕ) → rise_from start (map (λ number. record { number = number; stamp = first + number }) (range_with_len start count)) ≡ true
rise_numbered first start zero = refl
rise_numbered first start (suc count) =
    let here : nat_le start start ≡ true = grind (arith, nat_tests) in
    (λ i. here i && rise_numbered first (start + 1) count i)

pub rise-first_tags : (first count : ℕ) → rise_from 0 (first_tags first count) ≡ true
rise-first_tags first count = rise_numbered first 0 count
