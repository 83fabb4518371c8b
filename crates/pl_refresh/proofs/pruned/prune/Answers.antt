use Rattle.std.proofs.Common.{List, ap, ◌∙◌}
use Rattle.pl_state.specs.declared.entry.Entry.{Entry}
use Rattle.pl_refresh.specs.Refreshed.{imported_left, pruned, pruned_behind}
use Rattle.pl_refresh.specs.declared.row_now.RowNow.{RowNow}
use Rattle.pl_refresh.proofs.Behind.{pruned_parts}
use Rattle.pl_refresh.proofs.pruned.prune.Goals as goal

pub returns : goal.returns
returns c =
    let base : List Entry = c.as_slice-base.result.now in
    let now : List RowNow = c.args.now.now in
    let imported : List Entry = c.as_slice-imported.result.now in
    let of_base : List Entry = c.in_ok-standing.standing in
    c.into_rows.ensures
    ∙ pruned_parts base now imported of_base c.in_ok-standing-2.standing c.in_ok-standing.ensures.left
    (c.in_ok-standing-2.ensures ∙ ap (λ (passed : List Entry). pruned_behind passed of_base (imported_left passed imported)) c.in_ok-standing.ensures.passed)
    ∙ ap (λ (rows : List Entry). pruned rows now imported) c.as_slice-base.ensures
    ∙ ap (λ (rows : List Entry). pruned c.args.base.now now rows) c.as_slice-imported.ensures
