use Rattle.std.proofs.Common.{◌≡◌, ◌≤◌, ◌-◌, length, take}
use Rattle.pl_world.specs.Told.{Gave, cover_text}
use Rattle.pl_world.proofs.frames.give_all.Given as goal

abbrev pub invariant-loop-sent : goal.invariant-loop-sent
invariant-loop-sent g l = record {
  within : l.sent ≤ length l.bytes;
  given : Gave (g.Q.Pipe.given l.initial.pipe) (g.Q.Pipe.given l.pipe) (take l.sent l.bytes) (cover_text g.Q.Cover.Covering.text l.cover);
  taken_stays : g.Q.Pipe.taken l.pipe ≡ g.Q.Pipe.taken l.initial.pipe;
  faults_never_fall : g.Q.Pipe.faults l.initial.pipe ≤ g.Q.Pipe.faults l.pipe;
  ends_never_fall : g.Q.Pipe.ends l.initial.pipe ≤ g.Q.Pipe.ends l.pipe;
}

abbrev pub decreases-loop-sent : goal.decreases-loop-sent
decreases-loop-sent g l = length l.bytes - l.sent
