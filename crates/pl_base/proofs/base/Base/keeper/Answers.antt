use Rattle.std.proofs.Common.{◌∙◌, ap}
use Rattle.pl_model.specs.declared.fixed.Fixed.{Fixed}
use Rattle.pl_model.specs.Run.{rows_of}
use Rattle.pl_base.specs.Keeper.{keeper_in}
use Rattle.pl_base.proofs.base.Base.keeper.Goals as goal

pub returns : goal.returns
returns c =
    c.keeper_in.ensures ∙ c.self.invariant.indexes.keepers c.args.urn.now
    ∙ ap (λ (run : Fixed). keeper_in (rows_of run) c.args.urn.now) c.self.view_is
