use Rattle.std.proofs.Common.{◌++◌, refl, ap, ◌∙◌, inl, inr}
use Rattle.pl_troubles.specs.Kept.{listed_by}
use Rattle.pl_troubles.specs.Told.{told}
use Rattle.pl_troubles.specs.declared.first.First.TheVariants.{OfEvent}
use Rattle.pl_troubles.proofs.Marking.{marked_of, moved}
use Rattle.pl_lemmas.specs.Words.{option_list}
use Rattle.pl_model.specs.Problems.{at_position, problem_of_end}
use Rattle.pl_troubles.proofs.Telling.{told_ended}
use Rattle.pl_troubles.proofs.troubles.Troubles.add_end.Goals as goal

pub invariant_of-self : goal.invariant_of-self
invariant_of-self c =
    moved c.end.ensures
    (ap told c.of-2.ensures ∙ told_ended c.args.at c.of.result c.take_story-before.result
    ∙ (λ i. told (c.take_story-before.ensures i) ++ at_position c.args.at (option_list (problem_of_end (c.of.ensures i)))))
    (marked_of (OfEvent c.args.at) c.self.inside.marks c.args.at (problem_of_end c.args.end.now) (listed_by c.self.inside)
    refl (λ problem is. (refl, inr (inl (c.args.end.now, is)))) c.self.invariant)
