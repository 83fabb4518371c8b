-- What a keep changes of the columns.
use Rattle.std.specs.Prelude.{ℕ, false, if◌then◌else◌, Option, List, []}
use Rattle.pl_columns.specs.Read.{known_by}
use Rattle.pl_columns.specs.declared.columns.Columns.{Columns}
use Rattle.pl_decide.specs.declared.problem.Problem.{Problem}
use Rattle.pl_events.specs.declared.event.What.TheVariants.{Kept}
use Rattle.pl_model.specs.Problems.{end_problems, ends_well}
use Rattle.pl_records.specs.Columns.{with_kept}
use Rattle.pl_troubles.specs.Follows.{with_all}

-- the goal is recorded
abbrev pub with_keep : ℕ → Option ℕ → Columns → Columns
with_keep goal fresh columns = record columns {
  records = record columns.records { records = with_kept goal fresh columns.records.records; ready = false };
}

-- the problems of what is left, where the run is over by the keep
abbrev pub left_by_keep : ℕ → Option ℕ → Columns → List Problem
left_by_keep goal fresh columns =
    if ends_well (known_by columns) (known_by (with_keep goal fresh columns)) (Kept goal fresh)
    then end_problems (known_by (with_keep goal fresh columns)) else []

-- the goal is recorded, and these problems are added at this position
abbrev pub kept_columns : ℕ → ℕ → Option ℕ → List Problem → Columns → Columns
kept_columns at goal fresh problems columns = record (with_keep goal fresh columns) { troubles = with_all at problems columns.troubles }
