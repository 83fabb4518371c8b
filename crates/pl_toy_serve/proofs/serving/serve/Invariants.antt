use Rattle.std.proofs.Common.{◌≤◌}
use Rattle.pl_toy_serve.specs.Served.{AreRounds, seen}
use Rattle.pl_toy_serve.proofs.serving.serve.Given as goal

-- so many rounds were held, and no count fell
abbrev pub invariant-loop : goal.invariant-loop
invariant-loop g l = record {
  rounds : AreRounds l.counter (seen (g.H.Shelf.things l.initial.shelf) (g.H.Shelf.faults l.initial.shelf) (g.Q.Pipe.given l.initial.pipe) (g.Q.Pipe.taken l.initial.pipe))
      (seen (g.H.Shelf.things l.shelf) (g.H.Shelf.faults l.shelf) (g.Q.Pipe.given l.pipe) (g.Q.Pipe.taken l.pipe));
  shelf_faults : g.H.Shelf.faults l.initial.shelf ≤ g.H.Shelf.faults l.shelf;
  faults : g.Q.Pipe.faults l.initial.pipe ≤ g.Q.Pipe.faults l.pipe;
  ends : g.Q.Pipe.ends l.initial.pipe ≤ g.Q.Pipe.ends l.pipe;
}
