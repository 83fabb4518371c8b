use Rattle.std.proofs.Common.{◌∙◌, List, is_some, ap}
use Rattle.std.specs.List.{slice_get}
use Rattle.pl_model.specs.declared.errand.Errand.{Errand}
use Rattle.pl_columns.proofs.Told.{open_told}
use Rattle.pl_columns.proofs.columns.Columns.has_open.Goals as goal

pub returns : goal.returns
returns c = c.has_open.ensures ∙ ap (λ (errands : List Errand). is_some (slice_get errands 0)) (open_told c.args.self.now)
