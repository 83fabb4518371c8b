use Rattle.std.proofs.Common.{◌∙◌}
use Rattle.std.specs.List.{list_any}
use Rattle.pl_columns.proofs.Told.{coming_told, lanes_told}
use Rattle.pl_columns.proofs.columns.Columns.has_coming.Goals as goal

pub returns : goal.returns
returns c =
    c.has_coming.ensures
    ∙ (λ i. list_any (coming_told c.args.self.now i) (lanes_told c.args.self.now i c.args.source))
