-- What was recorded, removed, cleared and posted, and whether the host has ended and the run was stopped: what is kept
-- of it, and what each call changes.
use Rattle.std.specs.Prelude.{◌≡◌, ℕ, ◌==◌, Bool, true, false, Option, None, List, [], ◌∷◌, drop}
use Rattle.std.specs.List.{list_any}
use Rattle.std.specs.Option.{option_or}
use Rattle.pl_lemmas.specs.Words.{has_number, only_if}

-- lists stand newest first
pub record Records : Type 0 where
  -- the goals that are recorded
  pub recorded : List ℕ
  -- those that were kept without an operation, each with the number that its id is made of
  pub kept : List (ℕ × Option ℕ)
  -- the rows that were deleted or dropped
  pub removed : List ℕ
  -- the pending operations that were cleared
  pub cleared : List ℕ
  -- the requests that were answered
  pub posted : List ℕ
  -- whether the host has given its last, and whether the run was stopped
  pub host_gone : Bool
  pub stopped : Bool

abbrev pub no_records : Records
no_records = record { recorded = []; kept = []; removed = []; cleared = []; posted = []; host_gone = false; stopped = false }

-- the first number that a keep of the goal carried
abbrev pub fresh_in : List (ℕ × Option ℕ) → ℕ → Option ℕ
fresh_in [] goal = None
fresh_in (one ∷ earlier) goal = option_or (fresh_in earlier goal) (only_if (one.0 == goal) one.1)

-- whether a goal was kept
abbrev pub was_kept : List (ℕ × Option ℕ) → ℕ → Bool
was_kept kept goal = list_any (λ one. one.0 == goal) kept

-- each goal that was kept is recorded
abbrev pub AreRecorded : List (ℕ × Option ℕ) → List ℕ → Type 0
AreRecorded kept recorded = (goal : ℕ) → was_kept kept goal ≡ true → has_number recorded goal ≡ true

-- ---- what a call changes

abbrev pub with_recorded : ℕ → Records → Records
with_recorded goal records = record records { recorded = goal ∷ records.recorded }

abbrev pub with_kept : ℕ → Option ℕ → Records → Records
with_kept goal fresh records =
    record records { recorded = goal ∷ records.recorded; kept = (goal, fresh) ∷ records.kept }

abbrev pub with_removed : ℕ → Records → Records
with_removed row records = record records { removed = row ∷ records.removed }

abbrev pub with_cleared : ℕ → Records → Records
with_cleared at records = record records { cleared = at ∷ records.cleared }

abbrev pub with_posted : ℕ → Records → Records
with_posted n records = record records { posted = n ∷ records.posted }

abbrev pub with_host_gone : Records → Records
with_host_gone records = record records { host_gone = true }

abbrev pub with_stop : Records → Records
with_stop records = record records { stopped = true }

-- without the newest recording, which was no keep
abbrev pub without_recorded : Records → Records
without_recorded records = record records { recorded = drop 1 records.recorded }

-- without the newest recording, which was a keep
abbrev pub without_kept : Records → Records
without_kept records = record records { recorded = drop 1 records.recorded; kept = drop 1 records.kept }

abbrev pub without_posted : Records → Records
without_posted records = record records { posted = drop 1 records.posted }

-- ---- what is kept

-- the records; whether there is memory for one more recording and one more post; for how many removals and clears more
-- there is
pub record Kept : Type 0 where
  pub records : Records
  pub ready : Bool
  pub removals : ℕ
  pub clears : ℕ

abbrev pub nothing_kept : ℕ → ℕ → Kept
nothing_kept removals clears = record { records = no_records; ready = false; removals = removals; clears = clears }
