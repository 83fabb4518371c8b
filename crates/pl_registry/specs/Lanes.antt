-- A table of lanes: what is told of it, and what its calls change.
use Rattle.std.specs.Prelude.{ℕ, ◌==◌, Bool, true, false, not, ◌&&◌, nat_lt, Option, None, Some, option_map, unwrap_or, List, [], ◌∷◌, ◌++◌, codes, filter, find, length, slice_get, slice_set}
use Rattle.std.specs.List.{range_with_len}
use Rattle.pl_reference.specs.Packages.{words_of}
use Rattle.pl_events.specs.Lanes.{LanesTold}
use Rattle.pl_events.specs.declared.operation.Source.{Source}
use Rattle.pl_events.specs.declared.operation.Source.TheVariants as source
use Rattle.pl_registry.specs.declared.lane.Lane.{Lane}
use Rattle.pl_lemmas.specs.Words.{some_passes}

-- a table: its lanes in order of their start, whether the host's writing half is at home, how many lanes a source may
-- have, and the packages with the words that start their providers
pub record Table : Type 0 where
  pub lanes : List Lane
  pub half : Bool
  pub parallel : ℕ
  pub commands : List (List ℕ × List (List ℕ))

-- a table without a lane; the writing half is not at home yet
abbrev pub new_table : ℕ → List (List ℕ × List (List ℕ)) → Table
new_table parallel commands = record { lanes = []; half = false; parallel = parallel; commands = commands }

-- ---- one lane

abbrev pub same_source : Source → Source → Bool
same_source (source.Goal a) (source.Goal b) = a == b
same_source (source.Row a) (source.Row b) = a == b
same_source _ _ = false

-- a lane that was just started
abbrev pub new_lane : Source → Lane
new_lane from = record { source = from; configured = false; out = false; lost = false }

-- a lane that is at work
abbrev pub sent_out : Lane → Lane
sent_out lane = record lane { out = true }

-- a lane that is back from work, configured or not
abbrev pub at_home : Bool → Lane → Lane
at_home configured lane = record lane { out = false; configured = configured }

-- a lane that is lost
abbrev pub gone : Lane → Lane
gone lane = record lane { lost = true }

-- whether a lane is one of the source
abbrev pub is_from : Source → Lane → Bool
is_from wanted lane = same_source lane.source wanted

-- whether work can be sent to a lane
abbrev pub can_work : Lane → Bool
can_work lane = lane.configured && not lane.out && not lane.lost

-- whether a lane is one of the source and work can be sent to it
abbrev pub is_free_from : Source → Lane → Bool
is_free_from wanted lane = is_from wanted lane && can_work lane

-- ---- the lanes by their numbers

-- a lane's source, if there is such a lane
abbrev pub lane_source : List Lane → ℕ → Option Source
lane_source lanes lane = option_map (λ one. one.source) (slice_get lanes lane)

abbrev pub is_source : Option Source → Source → Bool
is_source None wanted = false
is_source (Some own) wanted = same_source own wanted

-- the lanes of a source, in order of their start; lost ones too
abbrev pub lanes_from : List Lane → Source → List ℕ
lanes_from lanes wanted =
    filter (λ lane. is_source (lane_source lanes lane) wanted) (range_with_len 0 (length lanes))

-- the lane is configured
abbrev pub is_configured : List Lane → ℕ → Bool
is_configured lanes lane = some_passes (λ one. one.configured) (slice_get lanes lane)

-- the lane is at work
abbrev pub is_out : List Lane → ℕ → Bool
is_out lanes lane = some_passes (λ one. one.out) (slice_get lanes lane)

-- the lane is lost
abbrev pub is_lost : List Lane → ℕ → Bool
is_lost lanes lane = some_passes (λ one. one.lost) (slice_get lanes lane)

-- whether work can be sent to the lane now
abbrev pub is_free : List Lane → ℕ → Bool
is_free lanes lane = is_configured lanes lane && not (is_out lanes lane) && not (is_lost lanes lane)

-- the least lane of a source that work can be sent to
abbrev pub lane_free : List Lane → Source → Option ℕ
lane_free lanes wanted = find (is_free lanes) (lanes_from lanes wanted)

-- ---- the table

-- whether a source may have one more lane
abbrev pub may_start : Table → Source → Bool
may_start table wanted = nat_lt (length (lanes_from table.lanes wanted)) table.parallel

-- what a table tells where work is chosen
abbrev pub told_by : Table → LanesTold
told_by table = record {
  free = λ wanted. lane_free table.lanes wanted;
  may_start = λ wanted. may_start table wanted;
  half_home = table.half;
}

-- lanes with the one of this number changed, if there is such a one
abbrev pub changed_at : (Lane → Lane) → ℕ → List Lane → List Lane
changed_at change lane lanes = elim (slice_get lanes lane) [
  | None ↦ lanes
  | Some one ↦ slice_set lanes lane (change one)
]

-- a table with that lane changed and all else as it was
abbrev pub with_lane : (Lane → Lane) → ℕ → Table → Table
with_lane change lane table = record table { lanes = changed_at change lane table.lanes }

-- ---- the words that start a provider

-- the words where none were given: `pulumi-resource-<package>`
abbrev pub usual_words : List ℕ → List (List ℕ)
usual_words provided = (codes "pulumi-resource-" ++ provided) ∷ []

-- the words that start the provider of a package
abbrev pub lane_words : List (List ℕ × List (List ℕ)) → List ℕ → List (List ℕ)
lane_words commands provided = unwrap_or (words_of commands provided) (usual_words provided)
