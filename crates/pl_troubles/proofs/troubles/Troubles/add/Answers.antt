use Rattle.std.proofs.Common.{◌∷◌, ◌++◌, [], refl, ap, ◌∙◌}
use Rattle.pl_troubles.specs.Kept.{listed_by}
use Rattle.pl_troubles.specs.Told.{told}
use Rattle.pl_troubles.specs.declared.first.First.TheVariants.{Made}
use Rattle.pl_troubles.proofs.Marking.{marked, moved}
use Rattle.pl_troubles.proofs.Telling.{told_made}
use Rattle.pl_troubles.proofs.troubles.Troubles.add.Goals as goal

pub invariant_of-self : goal.invariant_of-self
invariant_of-self c =
    moved c.made.ensures
    (ap told c.of-2.ensures ∙ told_made c.args.at c.of.result c.take_story-before.result
    ∙ (λ i. told (c.take_story-before.ensures i) ++ (c.args.at, c.of.ensures i) ∷ []))
    (marked (Made c.args.at c.args.problem) c.self.inside.marks c.args.at c.args.problem (listed_by c.self.inside)
    refl refl c.self.invariant)
