use Rattle.std.proofs.Common.{◌∙◌, ap}
use Rattle.pl_model.specs.Claims.{is_chained}
use Rattle.pl_course.specs.Course.{Course}
use Rattle.pl_core.proofs.Reading.{read_now}
use Rattle.pl_core.proofs.held.Core.chained.Goals as goal

pub returns : goal.returns
returns c =
    c.is_chained.ensures
    ∙ (λ i. is_chained (ap (λ (one : Course). one.run) c.self.view_is i) ((read_now c.self.inside c.args.self.now c.self.invariant c.self.view_is) i).decided c.args.row)
