use Rattle.std.proofs.Common.{◌∙◌, ℕ, List, Option, option_and_then, ap}
use Rattle.std.specs.List.{slice_get}
use Rattle.pl_model.specs.declared.fixed.Fixed.{Fixed}
use Rattle.pl_model.specs.Run.{rows_of}
use Rattle.pl_state.specs.Chain.{last_provider}
use Rattle.pl_state.specs.declared.pending.Pending.{Pending}
use Rattle.pl_base.proofs.Told.{each_told}
use Rattle.pl_base.proofs.base.Base.provider_of_pending.Goals as goal

pub returns : goal.returns
returns c =
    c.told_at.ensures
    ∙ ap (λ (told : List (Option ℕ)). option_and_then (λ one. one) (slice_get told c.args.at)) (c.as_slice.ensures.value ∙ c.self.invariant.indexes.pending)
    ∙ each_told (λ (one : Pending). last_provider one.entry.provider (rows_of c.self.inside.run)) c.self.inside.run.base.pending c.args.at
    ∙ ap (λ (run : Fixed). option_and_then (λ (one : Pending). last_provider one.entry.provider (rows_of run)) (slice_get run.base.pending c.args.at)) c.self.view_is
