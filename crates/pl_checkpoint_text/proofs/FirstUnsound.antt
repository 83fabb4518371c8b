-- The first row of a state that misses something.
use Rattle.std.proofs.Common.{◌≡◌, ℕ, ◌+◌, ◌<◌, ◌≤◌, List, length, Some, None, is_some, find, inl, inr, ◌⊎◌, refl, ap, ◌∙◌, arith}
use Rattle.std.proofs.lemmas.Bool.{cases_lt}
use Rattle.std.proofs.lemmas.Option.{slice_get_past}
use Rattle.std.specs.List.{range_with_len, slice_get}
use Rattle.std.specs.Option.{option_and_then}
use Rattle.pl_lemmas.proofs.Numbers.{range_find_none, range_find_some}
use Rattle.pl_sound.specs.Sound.{fault_at, IsFirstFault, IsSound}
use Rattle.pl_state.specs.declared.entry.Entry.{Entry}
use Rattle.pl_state.specs.declared.fault.Missing.{Missing}
use Rattle.pl_checkpoint_text.specs.Read.{first_unsound, unsound_at}

-- a place with a fault is one of a row
fault_within : (rows : List Entry) (at : ℕ) (missing : Missing) → fault_at rows at ≡ Some missing → at < length rows
unfolding fault_at
fault_within rows at missing here = by (cases_lt at (length rows))
  where
    by : (at < length rows) ⊎ (length rows ≤ at) → at < length rows
    by (inl within) = within
    by (inr past) = let none : slice_get rows at ≡ None = slice_get_past rows at past in absurd (cc)

-- no row of a sound state misses anything
pub first_unsound-none : (rows : List Entry) → IsSound rows → first_unsound rows ≡ None
unfolding first_unsound
first_unsound-none rows sound =
    ap (option_and_then (unsound_at rows)) (range_find_none (λ at. is_some (fault_at rows at)) 0 (length rows) (λ k below. ap is_some (sound (0 + k))))

-- the first fault is the one that is told
pub first_unsound-some : (rows : List Entry) (at : ℕ) (missing : Missing) → IsFirstFault rows at missing
    → first_unsound rows ≡ Some (record { at = at; missing = missing })
unfolding first_unsound
first_unsound-some rows at missing first =
    let zero_at : 0 + at ≡ at = omega arith in
    let found : find (λ k. is_some (fault_at rows k)) (range_with_len 0 (length rows)) ≡ Some (0 + at) =
    range_find_some (λ k. is_some (fault_at rows k)) 0 (length rows) at (fault_within rows at missing first.here)
    (λ k below. let same : 0 + k ≡ k = omega arith in ap (λ n. is_some (fault_at rows n)) same ∙ ap is_some (first.before k below))
    (ap (λ n. is_some (fault_at rows n)) zero_at ∙ ap is_some first.here) in
    ap (option_and_then (unsound_at rows)) (found ∙ ap Some zero_at) ∙ rw first.here refl
