use Rattle.std.proofs.Common.{◌∙◌, List, ℕ, ap}
use Rattle.pl_base.specs.Keeper.{keeper_in}
use Rattle.pl_model.specs.Run.{rows_of}
use Rattle.pl_claims.specs.Columns.{Kept}
use Rattle.pl_claims.proofs.claims.Claims.keeper.Goals as goal

pub returns : goal.returns
returns c =
    c.keeper.ensures ∙ ap (λ (urn : List ℕ). keeper_in (rows_of c.self.inside.base) urn) c.as_str.ensures.text
    ∙ ap (λ (kept : Kept). keeper_in (rows_of kept.run) c.args.urn.now) c.self.view_is
