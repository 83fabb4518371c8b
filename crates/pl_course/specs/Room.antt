-- How many events may still come that take no memory: one drop a row, one clear a pending operation of the state at the
-- start, one loss an open ticket, the host's end and the stop.
use Rattle.std.specs.Prelude.{ℕ, ◌+◌, Bool, not, ◌&&◌, if◌then◌else◌, List, filter, length}
use Rattle.std.specs.List.{range_with_len}
use Rattle.pl_lemmas.specs.Words.{has_number}
use Rattle.pl_model.specs.declared.errand.Errand.{Errand}
use Rattle.pl_model.specs.declared.fixed.Fixed.{Fixed}
use Rattle.pl_model.specs.Run.{rows_of}
use Rattle.pl_model.specs.Step.{Summary}

-- how many of the numbers below a count are not among those that are gone
abbrev pub count_left : List ℕ → ℕ → ℕ
count_left gone count = length (filter (λ number. not (has_number gone number)) (range_with_len 0 count))

-- whether an operation was neither answered nor lost
abbrev pub is_out : List ℕ → List ℕ → Errand → Bool
is_out answered lost errand = not (has_number answered errand.ticket) && not (has_number lost errand.ticket)

abbrev pub count_out : Summary → ℕ
count_out summary = length (filter (is_out summary.answered summary.lost) summary.begun)

-- what comes once, and may have come
abbrev pub count_once : Bool → ℕ
count_once came = if came then 0 else 1

abbrev pub closings : Fixed → Summary → ℕ
closings run summary =
    count_left summary.removed (length (rows_of run)) + (count_left summary.cleared (length run.base.pending)
    + (count_out summary + (count_once summary.host_gone + count_once summary.stopped)))
