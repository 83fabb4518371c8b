use Rattle.std.proofs.Common.{◌∷◌, ◌++◌, [], refl, ap, ◌∙◌, inl}
use Rattle.pl_troubles.specs.Kept.{listed_by}
use Rattle.pl_troubles.specs.Told.{told}
use Rattle.pl_troubles.specs.declared.first.First.TheVariants.{OfEvent}
use Rattle.pl_troubles.proofs.Marking.{marked, moved}
use Rattle.pl_model.specs.Problems.{problem_of_loss}
use Rattle.pl_troubles.proofs.Telling.{told_lost}
use Rattle.pl_troubles.proofs.troubles.Troubles.add_loss.Goals as goal

pub invariant_of-self : goal.invariant_of-self
invariant_of-self c =
    moved c.loss.ensures
    (ap told c.of-2.ensures ∙ told_lost c.args.at c.args.lane c.of.result c.take_story-before.result
    ∙ (λ i. told (c.take_story-before.ensures i) ++ (c.args.at, problem_of_loss c.args.lane (c.of.ensures i)) ∷ []))
    (marked (OfEvent c.args.at) c.self.inside.marks c.args.at (problem_of_loss c.args.lane c.args.why.now) (listed_by c.self.inside)
    refl (refl, inl (c.args.lane, c.args.why.now, refl)) c.self.invariant)
