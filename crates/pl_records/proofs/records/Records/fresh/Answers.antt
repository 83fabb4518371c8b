use Rattle.std.proofs.Common.{◌∙◌, ap}
use Rattle.pl_lemmas.specs.Words.{has_number, only_if}
use Rattle.pl_records.specs.Columns.{Kept, fresh_in}
use Rattle.pl_records.specs.Index.{kept_in, numbers_in}
use Rattle.pl_records.proofs.Keeps.{only_recorded}
use Rattle.pl_records.proofs.records.Records.fresh.Goals as goal

pub returns-clause-recorded : goal.returns-clause-recorded
returns-clause-recorded c =
    c.fresh.ensures
    ∙ only_recorded (kept_in c.self.inside.kept) (numbers_in c.self.inside.recorded) c.self.invariant.recorded c.args.goal
    ∙ ap (λ (kept : Kept). only_if (has_number kept.records.recorded c.args.goal) (fresh_in kept.records.kept c.args.goal)) c.self.view_is
