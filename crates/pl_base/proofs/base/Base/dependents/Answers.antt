use Rattle.std.proofs.Common.{◌∙◌, [], ℕ, List, ap}
use Rattle.std.specs.List.{slice_get}
use Rattle.std.specs.Option.{option_map_or}
use Rattle.pl_model.specs.declared.fixed.Fixed.{Fixed}
use Rattle.pl_model.specs.Run.{rows_of}
use Rattle.pl_base.specs.Dependents.{dependents_of}
use Rattle.pl_base.proofs.Joined.{dependents_listed}
use Rattle.pl_base.proofs.base.Base.dependents.Goals as goal

pub returns : goal.returns
returns c =
    c.listed_at.ensures
    ∙ ap (λ (lists : List (List ℕ)). option_map_or (λ list. list) (slice_get lists c.args.row) [])
    (c.as_slice.ensures.value ∙ c.self.invariant.indexes.dependents)
    ∙ dependents_listed (rows_of c.self.inside.run) c.args.row
    ∙ ap (λ (run : Fixed). dependents_of (rows_of run) c.args.row) c.self.view_is
