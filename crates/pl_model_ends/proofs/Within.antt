-- The count that is limited stays within the limit, whatever the run is to do.
use Rattle.std.proofs.Common.{◌≡◌, ℕ, ◌+◌, ◌≤◌, Bool, true, false, List, [], filter, length, refl, ap, subst, arith}
use Rattle.pl_state.specs.declared.pending.Pending.{Pending}
use Rattle.pl_model.specs.declared.fixed.Fixed.{Fixed}
use Rattle.pl_model.specs.Run.{is_refresh, rows_of}
use Rattle.pl_state.specs.Formed.{most_resources}
use Rattle.pl_model.specs.Due.{count_of, is_counted, reads_goal}
use Rattle.pl_model.specs.History.{known_of}
use Rattle.pl_model.specs.State.{entries_now, pending_of}
use Rattle.pl_model.specs.Tickets.{open_errands}
use Rattle.pl_model_ends.specs.Ends.{CountWithin, StartWithin, start_count}
use Rattle.pl_model_ends.proofs.Refreshing.{anew-moves, anew-start}
use Rattle.pl_model_ends.proofs.Limiting.{goals-move, goals-start}
use Rattle.pl_model_ends.proofs.Moving.{Moves, counted, counted-is, counted-start, entries_many, stays-within}

moves : (run : Fixed) → Moves run
moves run = by (is_refresh run.mode) refl
  where
    by : (b : Bool) → is_refresh run.mode ≡ b → Moves run
    by true is = anew-moves run is
    by false is = goals-move run is

start : (run : Fixed) → entries_many run [] ≤ length (rows_of run)
start run = by (is_refresh run.mode) refl
  where
    by : (b : Bool) → is_refresh run.mode ≡ b → entries_many run [] ≤ length (rows_of run)
    by true is = anew-start run is
    by false is = goals-start run is

-- what a sum is within, its first part is
first_within : (a b c n : ℕ) → a + b + c ≤ n → a ≤ n
first_within a b c n h = omega arith

pub count-within : CountWithin
count-within = λ run history low orderly.
    let first : counted run [] ≤ start_count run = counted-start run (start run) in
    let held : counted run history ≤ most_resources = stays-within run (moves run) history (omega arith) orderly in
    let count : count_of (known_of run history) ≤ most_resources = subst (λ (n : ℕ). n ≤ most_resources) (counted-is run history) held in
    record {
      count = count;
      entries = first_within (length (entries_now (known_of run history))) (length (filter is_counted (pending_of (known_of run history))))
          (length (filter (λ errand. reads_goal errand.op) (open_errands (known_of run history).history))) most_resources count;
    }

pub start-within : StartWithin
start-within = λ run is other.
    let none : length (filter is_counted run.base.pending) ≡ 0 =
    ap (λ (pending : List Pending). length (filter is_counted pending)) (is.nothing_pending other) in
    let low : length (rows_of run) ≤ most_resources = is.within in
    omega arith
