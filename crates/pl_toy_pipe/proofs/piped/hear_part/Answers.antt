use Rattle.std.proofs.Common.{◌≡◌, ◌∙◌, ◌++◌, List, ℕ, inl, inr, refl, subst}
use Rattle.std.proofs.lemmas.Result.{err_from_is_err_and}
use Rattle.pl_world.specs.Frames.{IsPartOfFrame}
use Rattle.pl_wire.specs.Exchange.{IsBadLength}
use Rattle.pl_toy_pipe.proofs.Hearing.{given_up, whole_frame}
use Rattle.pl_toy_pipe.proofs.piped.hear_part.Goals as goal

pub returns-in-Part-clause-step : goal.returns-in-Part-clause-step
returns-in-Part-clause-step g c =
    let same : c.as_slice.result.now ≡ c.args.begun.now.items ++ c.args.more.now = c.as_slice.ensures.value ∙ c.in_ok-extend_from_slice.ensures.items in
    inl (record {
      part = subst (λ (bytes : List ℕ). IsPartOfFrame bytes) same c.in-Part.ensures;
      kept = c.in_ok-extend_from_slice.ensures.items;
      goes_on = refl;
      nothing_done = record { replies_stay = refl; things_stay = refl };
    })

pub returns-in-BadLength-clause-step : goal.returns-in-BadLength-clause-step
returns-in-BadLength-clause-step g c =
    let same : c.as_slice.result.now ≡ c.args.begun.now.items ++ c.args.more.now = c.as_slice.ensures.value ∙ c.in_ok-extend_from_slice.ensures.items in
    record {
      no_request = inr (subst (λ (bytes : List ℕ). IsBadLength bytes) same c.in-BadLength.ensures);
      kept = c.in_ok-extend_from_slice.ensures.items;
      over = refl;
      nothing_done = record { replies_stay = refl; things_stay = refl };
    }

pub returns-in_err-add_frame-clause-step : goal.returns-in_err-add_frame-clause-step
returns-in_err-add_frame-clause-step g c =
    let p = err_from_is_err_and c.from_residual-in_err-add_frame.result c.from_residual-in_err-add_frame.ensures.1 in
    let bytes : c.as_slice.result.now ≡ c.args.begun.now.items ++ c.args.more.now = c.as_slice.ensures.value ∙ c.in_ok-extend_from_slice.ensures.items in
    let taken : c.deref.result.now ≡ c.args.begun.now.items ++ c.args.more.now = c.deref.ensures.value ∙ c.in_ok-extend_from_slice.ensures.items in
    let whole = (rw bytes at c.in-Whole.ensures).1 in
    rw (p.1, p.2) (given_up (c.args.begun.now.items ++ c.args.more.now) _ c.in_ok-reply.reply _ _ _ _ _ _ _ _ _
    (whole_frame _ c.deref.result.now taken whole) c.in_err-add_frame.ensures.kept c.in_ok-reply.ensures.answered)
