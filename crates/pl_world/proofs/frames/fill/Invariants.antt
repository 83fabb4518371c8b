use Rattle.std.proofs.Common.{◌≡◌, ◌≤◌, ◌-◌, vec_len}
use Rattle.pl_world.specs.Told.{TookMore}
use Rattle.pl_world.proofs.frames.fill.Given as goal

abbrev pub invariant-loop-buffer : goal.invariant-loop-buffer
invariant-loop-buffer g l = record {
  within : vec_len l.kept ≤ l.target;
  took : TookMore (g.Q.Pipe.taken l.initial.pipe) (g.Q.Pipe.taken l.pipe) (g.Q.Pipe.left l.initial.pipe) (g.Q.Pipe.left l.pipe) l.initial.kept.items l.kept.items;
  given_stays : g.Q.Pipe.given l.pipe ≡ g.Q.Pipe.given l.initial.pipe;
  faults_never_fall : g.Q.Pipe.faults l.initial.pipe ≤ g.Q.Pipe.faults l.pipe;
  ends_never_fall : g.Q.Pipe.ends l.initial.pipe ≤ g.Q.Pipe.ends l.pipe;
}

abbrev pub decreases-loop-buffer : goal.decreases-loop-buffer
decreases-loop-buffer g l = l.target - vec_len l.kept
