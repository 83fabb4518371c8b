use Rattle.std.proofs.Common.{◌≡◌, ◌∙◌, None, Some, sym, ap}
use Rattle.std.specs.List.{slice_get}
use Rattle.pl_lemmas.specs.Words.{some_passes}
use Rattle.pl_errands.specs.Rows.{is_open_row}
use Rattle.pl_errands.proofs.Seen.{open_seen}
use Rattle.pl_errands.proofs.errands.Errands.is_open.Goals as goal

pub returns-in-None : goal.returns-in-None
returns-in-None c =
    let here : slice_get c.self.inside.rows.items c.args.ticket ≡ None =
    ap (λ items. slice_get items c.args.ticket) (sym c.as_slice.ensures.value) ∙ sym c.row_at.ensures ∙ c.in-None.is in
    sym (open_seen c.self.inside c.self.invariant c.args.self.now c.self.view_is c.args.ticket ∙ ap (some_passes (is_open_row)) here)

pub returns-in-Some : goal.returns-in-Some
returns-in-Some c =
    let here : slice_get c.self.inside.rows.items c.args.ticket ≡ Some c.in-Some.row =
    ap (λ items. slice_get items c.args.ticket) (sym c.as_slice.ensures.value) ∙ sym c.row_at.ensures ∙ c.in-Some.is in
    c.is_open.ensures ∙ sym (open_seen c.self.inside c.self.invariant c.args.self.now c.self.view_is c.args.ticket ∙ ap (some_passes (is_open_row)) here)
