-- How what a run is over is kept.
use Rattle.pl_sound.specs.Sound.{IsSound}
use Rattle.pl_model.specs.Run.{rows_of}
use Rattle.pl_base.specs.declared.base.Base.TheInside.{Inside}
use Rattle.pl_base.specs.Indexes.{AreIndexes}

-- the rows are sound, and the indexes are those of the state at the start
pub record IsBased (inside : Inside) : Type 0 where
  pub sound : IsSound (rows_of inside.run)
  pub indexes : AreIndexes inside.run.base inside.indexes
