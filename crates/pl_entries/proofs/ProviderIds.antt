-- The ids of recorded providers, one at the number of each goal.
use Rattle.std.proofs.Common.{◌≡◌, ◌<◌, ◌≤◌, ℕ, Bool, true, false, ◌&&◌, ◌⊎◌, inl, inr, List, length, map, reverse, slice_get, Option, Some, None, option_and_then, refl, sym, ap, ◌∙◌, arith}
use Rattle.std.proofs.lemmas.Bool.{cases_lt}
use Rattle.std.proofs.lemmas.List.{length-reverse}
use Rattle.std.proofs.lemmas.List.FromFn.{get_or-map-range_with_len, length-map-range_with_len}
use Rattle.std.proofs.lemmas.Option.{slice_get_past, slice_get_read}
use Rattle.std.specs.List.{range_with_len}
use Rattle.pl_columns.specs.Read.{known_by}
use Rattle.pl_columns.specs.declared.columns.Columns.{Columns}
use Rattle.pl_lemmas.proofs.Numbered.{numbered_turned}
use Rattle.pl_lemmas.specs.Words.{numbered, only_if, some_passes}
use Rattle.pl_model.specs.Known.{Known, goal_at, is_recorded, provider_id}
use Rattle.pl_requests.specs.Ids.{TellsIds, id_at, recorded_id}
use Rattle.pl_state.specs.Kinds.{is_provider_goal}
use Rattle.pl_state.specs.declared.goal.Goal.{Goal}

-- what stands in the image of the first numbers
image_low : {X : Type 0} (f : ℕ → X) (count number : ℕ) → number < count → slice_get (map f (range_with_len 0 count)) number ≡ Some (f number)
image_low f count number low =
    slice_get_read (map f (range_with_len 0 count)) count number (f number) (sym (length-map-range_with_len f 0 count)) low
    (sym (get_or-map-range_with_len f 0 count number number (f number) low (omega arith)))

image_past : {X : Type 0} (f : ℕ → X) (count number : ℕ) → count ≤ number → slice_get (map f (range_with_len 0 count)) number ≡ None
image_past f count number past =
    let long : length (map f (range_with_len 0 count)) ≡ count = length-map-range_with_len f 0 count in
    slice_get_past (map f (range_with_len 0 count)) number (omega arith)

-- past the last number there is nothing
numbered_past : {X : Type 0} (xs : List X) (number : ℕ) → length xs ≤ number → numbered xs number ≡ None
numbered_past xs number past =
    let long : length (reverse xs) ≡ length xs = length-reverse xs in
    sym (numbered_turned xs number) ∙ slice_get_past (reverse xs) number (omega arith)

never : {X : Type 0} (b : Bool) (o : Option X) → only_if (b && false) o ≡ None
never true o = refl
never false o = refl

-- where there is no goal, no id is recorded
no_id : (known : Known) (number : ℕ) → goal_at known number ≡ None → recorded_id known number ≡ None
no_id known number none =
    ap (λ (goal : Option Goal). only_if (is_recorded known number && some_passes is_provider_goal goal) (provider_id known number)) none
    ∙ never (is_recorded known number) (provider_id known number)

-- the ids of all goals are those of the recorded providers
pub all_told : (columns : Columns) (count : ℕ) (ids : List (Option (List ℕ))) → count ≡ length columns.requests.goals
    → ids ≡ map (recorded_id (known_by columns)) (range_with_len 0 count) → TellsIds ids (known_by columns)
all_told columns count ids all made number =
    ap (λ (list : List (Option (List ℕ))). id_at list number) made ∙ by (cases_lt number count)
  where
    by : (number < count) ⊎ (count ≤ number)
        → id_at (map (recorded_id (known_by columns)) (range_with_len 0 count)) number ≡ recorded_id (known_by columns) number
    by (inl low) =
        ap (option_and_then (λ (id : Option (List ℕ)). id)) (image_low (recorded_id (known_by columns)) count number low)
    by (inr past) =
        ap (option_and_then (λ (id : Option (List ℕ)). id)) (image_past (recorded_id (known_by columns)) count number past)
        ∙ sym (no_id (known_by columns) number (numbered_past columns.requests.goals number (omega arith)))
