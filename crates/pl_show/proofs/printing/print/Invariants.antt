use Rattle.std.proofs.Common.{◌≤◌, ◌-◌, length, take}
use Rattle.pl_world.specs.Told.{Grew}
use Rattle.pl_show.proofs.printing.print.Given as goal

-- the first bytes were written
abbrev pub invariant-loop-sent : goal.invariant-loop-sent
invariant-loop-sent g l = record {
  within : l.sent ≤ length l.bytes;
  written : Grew (g.W.Sink.written l.initial.sink) (g.W.Sink.written l.sink) (take l.sent l.bytes);
  faults_never_fall : g.W.Sink.faults l.initial.sink ≤ g.W.Sink.faults l.sink;
}

abbrev pub decreases-loop-sent : goal.decreases-loop-sent
decreases-loop-sent g l = length l.bytes - l.sent
