-- The lanes by their numbers and the lanes in order say the same.
use Rattle.std.proofs.Common.{◌≡◌, ℕ, suc, ◌+◌, Bool, cond, not, ◌&&◌, Option, Some, option_map, List, [], ◌∷◌, length, filter, find, refl, sym, ap, ◌∙◌, arith}
use Rattle.std.specs.Prelude.{count_by, position, slice_get}
use Rattle.std.specs.List.{position_from, range_with_len}
use Rattle.std.proofs.lemmas.Iterator.Adapters.{position_from-zero}
use Rattle.std.proofs.lemmas.List.Sums.{sum_by-cons}
use Rattle.pl_lemmas.proofs.Numbers.{found_next, counted_next}
use Rattle.pl_events.specs.declared.operation.Source.{Source}
use Rattle.pl_registry.specs.declared.lane.Lane.{Lane}
use Rattle.pl_registry.specs.Lanes.{can_work, is_free_from, is_from, is_source, lane_free, lanes_from}
use Rattle.pl_lemmas.specs.Words.{some_passes}

-- a function gives the lanes from a number on
abbrev GivesFrom : (ℕ → Option Lane) → ℕ → List Lane → Type 0
GivesFrom lane_at start lanes = (k : ℕ) → lane_at (start + k) ≡ slice_get lanes k

first_given : (lane_at : ℕ → Option Lane) (start : ℕ) (lane : Lane) (lanes : List Lane) → GivesFrom lane_at start (lane ∷ lanes) → lane_at start ≡ Some lane
first_given lane_at start lane lanes h = ap lane_at (omega arith) ∙ h 0

next_given : (lane_at : ℕ → Option Lane) (start : ℕ) (lane : Lane) (lanes : List Lane) → GivesFrom lane_at start (lane ∷ lanes) → GivesFrom lane_at (start + 1) lanes
next_given lane_at start lane lanes h k = ap lane_at (omega arith) ∙ h (suc k)

abbrev is_at : (ℕ → Option Lane) → Source → ℕ → Bool
is_at lane_at wanted lane = is_source (option_map (λ one. one.source) (lane_at lane)) wanted

abbrev is_free_at : (ℕ → Option Lane) → ℕ → Bool
is_free_at lane_at lane =
    some_passes (λ one. one.configured) (lane_at lane)
    && not (some_passes (λ one. one.out) (lane_at lane))
    && not (some_passes (λ one. one.lost) (lane_at lane))

free_from : (lane_at : ℕ → Option Lane) (wanted : Source) (start : ℕ) (lanes : List Lane) → GivesFrom lane_at start lanes → find (is_free_at lane_at) (filter (is_at lane_at wanted) (range_with_len start (length lanes))) ≡ position_from (is_free_from wanted) start lanes
free_from lane_at wanted start [] h = refl
free_from lane_at wanted start (lane ∷ lanes) h =
    let here = first_given lane_at start lane lanes h in
    let from : is_at lane_at wanted start ≡ is_from wanted lane = ap (λ (one : Option Lane). is_source (option_map (λ lane. lane.source) one) wanted) here in
    let free : is_free_at lane_at start ≡ can_work lane = ap (λ (one : Option Lane). some_passes (λ lane. lane.configured) one && not (some_passes (λ lane. lane.out) one) && not (some_passes (λ lane. lane.lost) one)) here in
    let rest = free_from lane_at wanted (start + 1) lanes (next_given lane_at start lane lanes h) in
    let later = filter (is_at lane_at wanted) (range_with_len (start + 1) (length lanes)) in
    ap (λ (b : Bool). find (is_free_at lane_at) (cond b (start ∷ later) later)) from
    ∙ found_next (is_from wanted lane) (can_work lane) start (is_free_at lane_at) later (position_from (is_free_from wanted) (start + 1) lanes) free rest

-- the first free lane of a source, by its place
pub lane_free_at : (lanes : List Lane) (wanted : Source) → position (is_free_from wanted) lanes ≡ lane_free lanes wanted
lane_free_at lanes wanted =
    position_from-zero (is_free_from wanted) lanes
    ∙ sym (free_from (λ lane. slice_get lanes lane) wanted 0 lanes (λ k. ap (slice_get lanes) (omega arith)))

count_at : (lane_at : ℕ → Option Lane) (wanted : Source) (start : ℕ) (lanes : List Lane) → GivesFrom lane_at start lanes → length (filter (is_at lane_at wanted) (range_with_len start (length lanes))) ≡ count_by (is_from wanted) lanes
count_at lane_at wanted start [] h = refl
count_at lane_at wanted start (lane ∷ lanes) h =
    let here = first_given lane_at start lane lanes h in
    let from : is_at lane_at wanted start ≡ is_from wanted lane = ap (λ (one : Option Lane). is_source (option_map (λ lane. lane.source) one) wanted) here in
    let rest = count_at lane_at wanted (start + 1) lanes (next_given lane_at start lane lanes h) in
    let later = filter (is_at lane_at wanted) (range_with_len (start + 1) (length lanes)) in
    ap (λ (b : Bool). length (cond b (start ∷ later) later)) from
    ∙ counted_next (is_from wanted lane) start later (count_by (is_from wanted) lanes) rest
    ∙ sym (sum_by-cons (λ one. cond (is_from wanted one) 1 0) lane lanes)

-- how many lanes a source has
pub lanes_counted : (lanes : List Lane) (wanted : Source) → count_by (is_from wanted) lanes ≡ length (lanes_from lanes wanted)
lanes_counted lanes wanted = sym (count_at (λ lane. slice_get lanes lane) wanted 0 lanes (λ k. ap (slice_get lanes) (omega arith)))
