use Rattle.std.proofs.Common.{◌∷◌, ◌++◌, [], refl, ap, ◌∙◌, inr}
use Rattle.pl_troubles.specs.Kept.{listed_by}
use Rattle.pl_troubles.specs.Told.{told}
use Rattle.pl_troubles.specs.declared.first.First.TheVariants.{OfEvent}
use Rattle.pl_troubles.proofs.Marking.{marked, moved}
use Rattle.pl_model.specs.Problems.{problem_of_stop}
use Rattle.pl_troubles.proofs.Telling.{told_stopped}
use Rattle.pl_troubles.proofs.troubles.Troubles.add_stop.Goals as goal

pub invariant_of-self : goal.invariant_of-self
invariant_of-self c =
    moved c.stop.ensures
    (ap told c.of.ensures ∙ told_stopped c.args.at c.args.stop c.take_story-before.result
    ∙ (λ i. told (c.take_story-before.ensures i) ++ (c.args.at, problem_of_stop c.args.stop) ∷ []))
    (marked (OfEvent c.args.at) c.self.inside.marks c.args.at (problem_of_stop c.args.stop) (listed_by c.self.inside)
    refl (refl, inr (inr (c.args.stop, refl))) c.self.invariant)
