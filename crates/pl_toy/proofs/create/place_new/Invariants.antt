use Rattle.std.proofs.Common.{◌≡◌, ◌≤◌}
use Rattle.pl_toy.proofs.Numbering.{AreTaken}
use Rattle.pl_toy.proofs.create.place_new.Given as goal

-- the ids of the numbers so far are taken, and nothing has changed
abbrev pub invariant-loop-number : goal.invariant-loop-number
invariant-loop-number g l = record {
  taken : AreTaken (g.H.Shelf.things l.initial.shelf) l.name l.number;
  things_stay : g.H.Shelf.things l.shelf ≡ g.H.Shelf.things l.initial.shelf;
  faults_never_fall : g.H.Shelf.faults l.initial.shelf ≤ g.H.Shelf.faults l.shelf;
}
