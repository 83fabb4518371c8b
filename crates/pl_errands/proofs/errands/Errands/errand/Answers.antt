use Rattle.std.proofs.Common.{◌≡◌, ◌∙◌, None, Some, option_map, sym, ap}
use Rattle.std.specs.List.{slice_get}
use Rattle.pl_errands.proofs.Seen.{errand_seen}
use Rattle.pl_errands.proofs.errands.Errands.errand.Goals as goal

pub returns-in_err-row : goal.returns-in_err-row
returns-in_err-row c =
    let here : slice_get c.self.inside.rows.items c.args.ticket ≡ None =
    ap (λ items. slice_get items c.args.ticket) (sym c.as_slice.ensures.value) ∙ sym c.row_at.ensures ∙ c.in_err-row.was in
    c.from_residual.ensures
    ∙ sym (errand_seen c.self.inside c.self.invariant c.args.self.now c.self.view_is c.args.ticket ∙ ap (option_map (λ row. row.errand)) here)

pub returns : goal.returns
returns c =
    let here : slice_get c.self.inside.rows.items c.args.ticket ≡ Some c.in_ok-row.row =
    ap (λ items. slice_get items c.args.ticket) (sym c.as_slice.ensures.value) ∙ sym c.row_at.ensures ∙ c.in_ok-row.was in
    sym (errand_seen c.self.inside c.self.invariant c.args.self.now c.self.view_is c.args.ticket ∙ ap (option_map (λ row. row.errand)) here)
