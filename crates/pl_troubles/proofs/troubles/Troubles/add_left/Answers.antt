use Rattle.std.proofs.Common.{◌∷◌, ◌++◌, [], ap, ◌∙◌}
use Rattle.pl_troubles.specs.First.{problem_of_row}
use Rattle.pl_troubles.specs.Kept.{listed_by}
use Rattle.pl_troubles.specs.Told.{told}
use Rattle.pl_troubles.proofs.Marking.{moved, row_marked}
use Rattle.pl_troubles.proofs.Telling.{told_left}
use Rattle.pl_troubles.proofs.troubles.Troubles.add_left.Goals as goal

pub invariant_of-self : goal.invariant_of-self
invariant_of-self c =
    moved c.left.ensures
    (ap told c.of-2.ensures ∙ told_left c.args.at c.args.what c.of.result c.take_story-before.result
    ∙ (λ i. told (c.take_story-before.ensures i) ++ (c.args.at, problem_of_row c.args.what (c.of.ensures i)) ∷ []))
    (row_marked c.args.what c.args.row c.self.inside.marks c.args.at c.args.urn.now (listed_by c.self.inside) c.self.invariant)
