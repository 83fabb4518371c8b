use Rattle.std.proofs.Common.{◌∙◌, Option, option_and_then, sym, ap, subst}
use Rattle.pl_entries.specs.Opened.{IsRowNow}
use Rattle.pl_state.specs.declared.entry.Entry.{Entry}
use Rattle.pl_turn_asks.specs.Kept.{kept_entry}
use Rattle.pl_turn_asks.proofs.Rows.{row_is_now}
use Rattle.pl_turn_asks.proofs.deleted.deleted_row.Goals as goal

pub returns : goal.returns
returns c = λ known kept.
    subst (λ (row : Option Entry). IsRowNow known c.args.about row)
    (sym (c.kept_row.ensures ∙ ap (option_and_then (kept_entry c.args.snap.now)) c.row_of_delete.ensures))
    (row_is_now known c.args.snap.now c.args.about kept)
