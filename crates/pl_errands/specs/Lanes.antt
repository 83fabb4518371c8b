-- Lanes by their numbers, each with what its rows tell of it.
use Rattle.std.specs.Prelude.{◌≡◌, ℕ, ◌+◌, ◌-◌, ◌==◌, Bool, false, not, ◌&&◌, ◌||◌, nat_lt, if◌then◌else◌, Option, None, Some, option_map, unwrap_or, List, [], ◌∷◌, ◌++◌, count_by, find, length, map, slice_get, slice_set}
use Rattle.std.specs.List.{list_any}
use Rattle.pl_value.specs.Inside.{greatest}
use Rattle.pl_lemmas.specs.Words.{some_passes}
use Rattle.pl_events.specs.declared.operation.Op.{Op}
use Rattle.pl_events.specs.declared.operation.Source.{Source}
use Rattle.pl_model.specs.declared.errand.Errand.{Errand}
use Rattle.pl_model.specs.Tickets.{is_source, source_begun}
use Rattle.pl_errands.specs.declared.lane.Lane.{Lane}
use Rattle.pl_errands.specs.declared.row.Row.{Row}
use Rattle.pl_errands.specs.declared.row.Standing.{Standing}
use Rattle.pl_errands.specs.Rows.{is_configured, is_lost, is_open_row}

-- ---- one lane

-- a lane by the first operation that is sent to it
abbrev pub new_lane : Op → Lane
new_lane about = record { source = source_begun about; out = 1; configured = false; lost = false }

-- a lane with one operation more
abbrev pub one_more : Lane → Lane
one_more lane = record lane { out = lane.out + 1 }

-- a lane with one operation less, by what became of it
abbrev pub closed_by : Standing → Lane → Lane
closed_by standing lane = record {
  source = lane.source;
  out = lane.out - 1;
  configured = is_configured standing || lane.configured;
  lost = is_lost standing || lane.lost;
}

-- a lane with one operation open again, and whether it is configured then
abbrev pub open_again : Bool → Lane → Lane
open_again configured lane = record lane { out = lane.out + 1; configured = configured }

abbrev pub is_from : Source → Lane → Bool
is_from wanted lane = is_source lane.source wanted

abbrev pub is_out_lane : Lane → Bool
is_out_lane lane = nat_lt 0 lane.out

-- whether work can be sent to a lane
abbrev pub is_free_lane : Lane → Bool
is_free_lane lane = lane.configured && not (is_out_lane lane) && not lane.lost

-- whether a lane is neither configured nor lost
abbrev pub is_coming_lane : Lane → Bool
is_coming_lane lane = not lane.configured && not lane.lost

-- ---- the lanes

-- lanes with the one of this number changed, if there is such a one
abbrev pub changed_at : (Lane → Lane) → ℕ → List Lane → List Lane
changed_at change lane lanes = elim (slice_get lanes lane) [
  | None ↦ lanes
  | Some one ↦ slice_set lanes lane (change one)
]

-- lanes with one operation more for one of them, or for the next one
abbrev pub with_one_more : ℕ → Op → List Lane → List Lane
with_one_more lane about lanes =
    if nat_lt lane (length lanes) then changed_at one_more lane lanes else lanes ++ new_lane about ∷ []

abbrev pub out_of : Option Lane → ℕ
out_of lane = unwrap_or (option_map (λ one. one.out) lane) 0

-- whether an operation of a lane configured it
abbrev pub is_configured_in : List Row → ℕ → Bool
is_configured_in rows lane = list_any (λ row. row.errand.lane == lane && is_configured row.standing) rows

-- the source of the first of these operations on a lane, if there is one
abbrev pub first_source : List Errand → ℕ → Option (Option Source)
first_source errands lane = option_map (λ errand. source_begun errand.op) (find (λ errand. errand.lane == lane) errands)

abbrev pub errands_in : List Row → List Errand
errands_in rows = map (λ row. row.errand) rows

-- the lanes are those of the rows, the oldest first: how many there are, and of each number the source of its first
-- operation, how many of its operations are open, whether one of them configured it, and whether one of them was lost
pub record AgreeLanes (rows : List Row) (lanes : List Lane) : Type 0 where
  pub count : greatest (map (λ errand. errand.lane + 1) (errands_in rows)) ≡ length lanes
  pub first : (lane : ℕ) → first_source (errands_in rows) lane ≡ option_map (λ one. one.source) (slice_get lanes lane)
  pub out : (lane : ℕ) → count_by (λ row. row.errand.lane == lane && is_open_row row) rows ≡ out_of (slice_get lanes lane)
  pub configured : (lane : ℕ) → is_configured_in rows lane ≡ some_passes (λ one. one.configured) (slice_get lanes lane)
  pub lost : (lane : ℕ) → list_any (λ row. row.errand.lane == lane && is_lost row.standing) rows
      ≡ some_passes (λ one. one.lost) (slice_get lanes lane)
