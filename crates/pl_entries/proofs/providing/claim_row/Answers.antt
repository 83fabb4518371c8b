use Rattle.std.proofs.Common.{sym, ◌∙◌}
use Rattle.pl_columns.specs.Read.{known_by}
use Rattle.pl_entries.proofs.Deciding.{row_decided}
use Rattle.pl_entries.proofs.providing.claim_row.Goals as goal

pub returns-in-Some : goal.returns-in-Some
returns-in-Some c =
    c.claimed_row.ensures
    ∙ sym (row_decided (known_by c.args.columns.now) c.args.goal c.in-Some.one.now (sym c.in-Some.ensures))
