use Rattle.std.proofs.Common.{◌<◌, ◌+◌, ◌++◌, ◌∷◌, [], ℕ, List, arith, length, drop, ap, sym, ◌∙◌}
use Rattle.pl_state.specs.declared.entry.Entry.{Entry}
use Rattle.pl_refresh.specs.Refreshed.{imported_left, pruned_behind}
use Rattle.pl_refresh.proofs.Behind.{imported_more}
use Rattle.pl_refresh.proofs.pruned.with_imported.Goals as goal

pub loop-row-preserved : goal.loop-row-preserved
loop-row-preserved c =
    let base : List Entry = c.args.ancestry.now in
    let imported : List Entry = c.args.imported.now in
    let earlier : List Entry = c.loop-row.standing in
    let at : ℕ = c.loop-row.row-index in
    let inside : at < length imported = omega arith in
    ap (λ (rows : List Entry). pruned_behind base rows (imported_left base (drop (at + 1) imported)))
    (c.in_ok-standing.ensures ∙ ap (λ (made : Entry). earlier ++ made ∷ []) c.in_ok-made.ensures)
    ∙ sym (imported_more base earlier imported at c.row-item.result inside c.row-item.is)
    ∙ c.loop-row.invariant
