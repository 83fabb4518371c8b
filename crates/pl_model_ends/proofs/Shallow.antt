-- Fields whose values are not too deep.
use Rattle.std.proofs.Common.{◌≡◌, ℕ, ◌+◌, ◌≤◌, ◌<◌, max, Bool, true, false, not, if◌then◌else◌, bytes_eq, List, [], ◌∷◌, nat_lt, Option, Some, None, refl, arith}
use Rattle.std.proofs.lemmas.Bool.Decides.{nat_tests}
use Rattle.pl_lemmas.proofs.Truth.{and_right, neither_left, neither_right}
use Rattle.pl_lemmas.proofs.Each.{Each}
use Rattle.pl_value.specs.Depth.{most_levels}
use Rattle.pl_value.specs.Inside.{depth, greatest_field_depth}
use Rattle.pl_value.specs.Keys.{is_below}
use Rattle.pl_value.specs.Secrets.{is_to_mark, marked, marked_field}
use Rattle.pl_value.specs.declared.value.Value.{Value}
use Rattle.pl_value.specs.declared.value.Value.TheVariants as value
use Rattle.pl_path.specs.Grammar.{segments_of}
use Rattle.pl_path.specs.Reset.{are_too_deep, is_too_deep, reset_along, reset_at, set_back}
use Rattle.pl_path.specs.declared.segment.Segment.{Segment}
use Rattle.pl_value.proofs.Levels.{depth-Secret, depth-Text}
use Rattle.pl_options.specs.Ignored.{reset_at_each, with_ignored}
use Rattle.pl_state.specs.Formed.{are_shallow}
use Rattle.pl_state.specs.declared.goal.Goal.{Goal}
use Rattle.pl_model.specs.Run.{Pairs}
use Rattle.pl_refresh.specs.Planned.{planned_outputs, put_in}
use Rattle.pl_model.specs.Requests.{version_inputs}

-- a field's value is not too deep
abbrev pub Low : List ℕ × Value → Type 0
Low field = depth field.1 ≤ most_levels

each_low : (fields : Pairs) → greatest_field_depth fields ≤ most_levels → Each Low fields
each_low [] low = tt
each_low (field ∷ fields) low =
    let whole : max (depth field.1) (greatest_field_depth fields) ≤ most_levels = low in
    (omega arith, each_low fields (omega arith))

low_each : (fields : Pairs) → Each Low fields → greatest_field_depth fields ≤ most_levels
low_each [] all = omega arith
low_each (field ∷ fields) all =
    let first : depth field.1 ≤ most_levels = all.0 in
    let rest : greatest_field_depth fields ≤ most_levels = low_each fields all.1 in
    omega arith

not_above : (n : ℕ) → not (nat_lt most_levels n) ≡ true → n ≤ most_levels
not_above n h = grind (arith, nat_tests)

low_not : (n : ℕ) → n ≤ most_levels → not (nat_lt most_levels n) ≡ true
low_not n h = grind (arith, nat_tests)

pub each-shallow : (fields : Pairs) → are_shallow fields ≡ true → Each Low fields
each-shallow fields h = each_low fields (not_above (greatest_field_depth fields) h)

pub shallow-each : (fields : Pairs) → Each Low fields → are_shallow fields ≡ true
shallow-each fields all = low_not (greatest_field_depth fields) (low_each fields all)

-- ---- secrets

marked_low : (keys : List (List ℕ)) (field : List ℕ × Value) → Low field → Low (marked_field keys field)
marked_low keys field low = by (is_to_mark keys field) refl
  where
    by : (b : Bool) → is_to_mark keys field ≡ b → depth (if b then value.Secret field.1 else field.1) ≤ most_levels
    by true is =
        let below : nat_lt (depth field.1) 64 ≡ true = and_right _ (nat_lt (depth field.1) 64) is in
        let small : depth field.1 < 64 = less (depth field.1) below in
        let whole : depth (value.Secret field.1) ≡ depth field.1 + 1 = depth-Secret field.1 in
        omega arith
      where
        less : (n : ℕ) → nat_lt n 64 ≡ true → n < 64
        less n h = grind (arith, nat_tests)
    by false is = low

-- fields that are kept as secrets are not too deep either
pub marked-low : (keys : List (List ℕ)) (fields : Pairs) → Each Low fields → Each Low (marked keys fields)
marked-low keys [] all = tt
marked-low keys (field ∷ fields) all = (marked_low keys field all.0, marked-low keys fields all.1)

pub marked-shallow : (keys : List (List ℕ)) (fields : Pairs) → are_shallow fields ≡ true → are_shallow (marked keys fields) ≡ true
marked-shallow keys fields h = shallow-each (marked keys fields) (marked-low keys fields (each-shallow fields h))

-- ---- planned outputs

put_low : (fields : Pairs) (pair : List ℕ × Value) → Each Low fields → Low pair → Each Low (put_in fields pair)
put_low [] pair all low = (low, tt)
put_low (first ∷ others) pair all low = by (is_below first.0 pair.0) (bytes_eq first.0 pair.0) (put_low others pair all.1 low)
  where
    by : (below same : Bool) → Each Low (put_in others pair)
        → Each Low (if below then first ∷ put_in others pair else (if same then pair ∷ others else pair ∷ first ∷ others))
    by true same rest = (all.0, rest)
    by false true rest = (low, all.1)
    by false false rest = (low, all)

planned_low : (old checked : Pairs) → Each Low old → Each Low checked → Each Low (planned_outputs old checked)
planned_low old [] all new = all
planned_low old (pair ∷ checked) all new = planned_low (put_in old pair) checked (put_low old pair all new.0) new.1

pub planned-shallow : (old checked : Pairs) → are_shallow old ≡ true → are_shallow checked ≡ true
    → are_shallow (planned_outputs old checked) ≡ true
planned-shallow old checked one other =
    shallow-each (planned_outputs old checked) (planned_low old checked (each-shallow old one) (each-shallow checked other))

-- ---- inputs whose changes are ignored

none_deep : (fields : Pairs) → are_too_deep fields ≡ false → Each Low fields
none_deep [] h = tt
none_deep (field ∷ fields) h = (
  shallow (depth field.1) (neither_left (is_too_deep field.1) (are_too_deep fields) h),
  none_deep fields (neither_right (is_too_deep field.1) (are_too_deep fields) h),
)
  where
    shallow : (n : ℕ) → nat_lt most_levels n ≡ false → n ≤ most_levels
    shallow n h = grind (arith, nat_tests)

along_low : (path : List Segment) (new old : Pairs) → Each Low new → Each Low (reset_along path new old)
along_low path new old all = by (are_too_deep (set_back path new old)) refl
  where
    by : (b : Bool) → are_too_deep (set_back path new old) ≡ b → Each Low (if b then new else set_back path new old)
    by true is = all
    by false is = none_deep (set_back path new old) is

reset_low : (text : List ℕ) (new old : Pairs) → Each Low new → Each Low (reset_at text new old)
unfolding reset_at
reset_low text new old all = by (segments_of text)
  where
    by : (o : Option (List Segment)) → Each Low (elim o [ None ↦ new | Some path ↦ reset_along path new old ])
    by None = all
    by (Some path) = along_low path new old all

each_reset : (paths : List (List ℕ)) (new old : Pairs) → Each Low new → Each Low (reset_at_each paths new old)
each_reset [] new old all = all
each_reset (path ∷ paths) new old all = each_reset paths (reset_at path new old) old (reset_low path new old all)

pub ignored-shallow : (goal : Goal) (old : Pairs) → are_shallow goal.inputs ≡ true → are_shallow (with_ignored goal old) ≡ true
unfolding with_ignored
ignored-shallow goal old h =
    shallow-each (reset_at_each goal.ignore_changes goal.inputs old)
    (each_reset goal.ignore_changes goal.inputs old (each-shallow goal.inputs h))

-- ---- a default provider's version

pub version-shallow : (version : Option (List ℕ)) → are_shallow (version_inputs version) ≡ true
version-shallow None = refl
version-shallow (Some version) =
    shallow-each (version_inputs (Some version)) (let flat : depth (value.Text version) ≡ 0 = depth-Text version in omega arith, tt)
