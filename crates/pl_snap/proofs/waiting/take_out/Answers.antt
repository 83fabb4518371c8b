use Rattle.std.proofs.Common.{◌≡◌, ◌+◌, cond, count_by, get_or, ap, ◌∙◌}
use Rattle.std.proofs.lemmas.List.Sums.{sum_by-remove}
use Rattle.pl_state.specs.declared.pending.Pending.{Pending}
use Rattle.pl_snap.specs.Rows.{is_counted}
use Rattle.pl_snap.proofs.waiting.take_out.Goals as goal

pub returns-clause-fewer : goal.returns-clause-fewer
returns-clause-fewer c =
    let items = c.args.operations.now.items in
    let here : c.index.result.now ≡ get_or items c.args.place c.index.result.now = c.index.ensures in
    (λ i. count_by is_counted (c.remove.ensures.items i) + (c.weight-fewer.ensures ∙ ap (λ (one : Pending). cond (is_counted one) 1 0) here) i)
    ∙ sum_by-remove (λ (one : Pending). cond (is_counted one) 1 0) items c.args.place c.index.result.now c.requires
