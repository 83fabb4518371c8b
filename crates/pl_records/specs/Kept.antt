-- How the records are kept.
use Rattle.std.specs.Prelude.{◌≡◌, ◌<◌, ◌≤◌, nat_eq, true}
use Rattle.std.specs.HashMap as map
use Rattle.std.specs.HashSet as set
use Rattle.pl_records.specs.declared.records.Records.TheInside.{Inside}
use Rattle.pl_records.specs.Columns.{AreRecorded, Kept}
use Rattle.pl_records.specs.Index.{kept_in, numbers_in}

abbrev pub kept_by : Inside → Kept
kept_by inside = record {
  records = record {
    recorded = numbers_in inside.recorded;
    kept = kept_in inside.kept;
    removed = numbers_in inside.removed;
    cleared = numbers_in inside.cleared;
    posted = numbers_in inside.posted;
    host_gone = inside.host_gone;
    stopped = inside.stopped;
  };
  ready = inside.ready;
  removals = inside.removals;
  clears = inside.clears;
}

-- there is memory for one more recording and one more post
pub record HasRoom (inside : Inside) : Type 0 where
  pub recorded : 0 < set.spare inside.recorded
  pub kept : 0 < map.spare inside.kept
  pub posted : 0 < set.spare inside.posted

-- each goal is kept once, and is recorded; there is the memory that was promised
pub record IsKept (inside : Inside) : Type 0 where
  pub once : map.IsUnique nat_eq inside.kept
  pub recorded : AreRecorded (kept_in inside.kept) (numbers_in inside.recorded)
  pub removals : inside.removals ≤ set.spare inside.removed
  pub clears : inside.clears ≤ set.spare inside.cleared
  pub room : inside.ready ≡ true → HasRoom inside
