use Rattle.std.proofs.Common.{◌≡◌, ◌≤◌}
use Rattle.pl_program.specs.Told.{OverPipes, Told}
use Rattle.pl_program.proofs.Weighing.{weight}
use Rattle.pl_program.proofs.rounds.converse.Given as goal

-- the talk came here from its beginning by what was given and taken
abbrev pub invariant-rounds : goal.invariant-rounds
invariant-rounds g l = record {
  told : OverPipes (g.Q.Pipe.given l.initial.outgoing) (g.Q.Pipe.given l.outgoing) (g.Q.Pipe.taken l.initial.incoming) (g.Q.Pipe.taken l.incoming)
      (Told l.initial.talk l.talk);
  given_stays : g.Q.Pipe.given l.incoming ≡ g.Q.Pipe.given l.initial.incoming;
  taken_stays : g.Q.Pipe.taken l.outgoing ≡ g.Q.Pipe.taken l.initial.outgoing;
  incoming_faults : g.Q.Pipe.faults l.initial.incoming ≤ g.Q.Pipe.faults l.incoming;
  incoming_ends : g.Q.Pipe.ends l.initial.incoming ≤ g.Q.Pipe.ends l.incoming;
  outgoing_faults : g.Q.Pipe.faults l.initial.outgoing ≤ g.Q.Pipe.faults l.outgoing;
  outgoing_ends : g.Q.Pipe.ends l.initial.outgoing ≤ g.Q.Pipe.ends l.outgoing;
}

abbrev pub decreases-rounds : goal.decreases-rounds
decreases-rounds g l = weight l.talk
