use Rattle.std.proofs.Common.{◌≡◌, ◌∙◌, None, Some, option_map, sym, ap}
use Rattle.std.specs.List.{find, slice_get}
use Rattle.std.specs.Option.{option_copied}
use Rattle.pl_model.specs.Tickets.{same_op}
use Rattle.pl_errands.specs.Index.{place_in}
use Rattle.pl_errands.proofs.Looking.{found_placed, missing_placed}
use Rattle.pl_errands.proofs.Seen.{reply_seen}
use Rattle.pl_errands.proofs.errands.Errands.reply_to.Goals as goal

pub returns-in_err-place : goal.returns-in_err-place
returns-in_err-place c =
    let none : place_in c.self.inside.replies.items c.args.op ≡ None = sym (c.self.invariant.looked_up.first c.args.op) ∙ sym c.in_err-place.ensures in
    ap option_copied c.from_residual.ensures
    ∙ sym (reply_seen c.self.inside c.self.invariant c.args.self.now c.self.view_is c.args.op
    ∙ ap (option_map (λ one. one.closed.reply)) (missing_placed (λ one. same_op one.closed.op c.args.op) c.self.inside.replies.items none))

pub returns-in-None : goal.returns-in-None
returns-in-None c =
    let at : place_in c.self.inside.replies.items c.args.op ≡ Some c.in_ok-place.place = sym (c.self.invariant.looked_up.first c.args.op) ∙ sym c.in_ok-place.ensures in
    let here : find (λ one. same_op one.closed.op c.args.op) c.self.inside.replies.items ≡ None =
    found_placed (λ one. same_op one.closed.op c.args.op) c.self.inside.replies.items c.in_ok-place.place at
    ∙ ap (λ items. slice_get items c.in_ok-place.place) (sym c.as_slice.ensures.value) ∙ sym c.replied_at.ensures ∙ ap option_copied c.in-None.is in
    sym (reply_seen c.self.inside c.self.invariant c.args.self.now c.self.view_is c.args.op ∙ ap (option_map (λ one. one.closed.reply)) here)

pub returns-in-Some : goal.returns-in-Some
returns-in-Some c =
    let at : place_in c.self.inside.replies.items c.args.op ≡ Some c.in_ok-place.place = sym (c.self.invariant.looked_up.first c.args.op) ∙ sym c.in_ok-place.ensures in
    let here : find (λ one. same_op one.closed.op c.args.op) c.self.inside.replies.items ≡ Some c.in-Some.one.now =
    found_placed (λ one. same_op one.closed.op c.args.op) c.self.inside.replies.items c.in_ok-place.place at
    ∙ ap (λ items. slice_get items c.in_ok-place.place) (sym c.as_slice.ensures.value) ∙ sym c.replied_at.ensures ∙ ap option_copied c.in-Some.is in
    sym (reply_seen c.self.inside c.self.invariant c.args.self.now c.self.view_is c.args.op ∙ ap (option_map (λ one. one.closed.reply)) here)
