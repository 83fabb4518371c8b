use Rattle.std.proofs.Common.{◌∙◌, ℕ, List, Option, option_and_then, ap}
use Rattle.std.specs.List.{slice_get}
use Rattle.pl_model.specs.declared.fixed.Fixed.{Fixed}
use Rattle.pl_model.specs.Run.{rows_of}
use Rattle.pl_state.specs.Chain.{provider_row_of}
use Rattle.pl_base.proofs.Told.{provider_row_told}
use Rattle.pl_base.proofs.base.Base.provider_row.Goals as goal

pub returns : goal.returns
returns c =
    c.told_at.ensures
    ∙ ap (λ (told : List (Option ℕ)). option_and_then (λ one. one) (slice_get told c.args.row)) (c.as_slice.ensures.value ∙ c.self.invariant.indexes.providers)
    ∙ provider_row_told (rows_of c.self.inside.run) c.args.row
    ∙ ap (λ (run : Fixed). provider_row_of (rows_of run) c.args.row) c.self.view_is
