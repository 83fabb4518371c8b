use Rattle.std.proofs.lemmas.Result.{err_from_is_err_and}
use Rattle.pl_toy_serve.proofs.Rounds.{cut_at_end, cut_at_reply}
use Rattle.pl_toy_serve.proofs.serving.serve_one.Goals as goal

pub returns-in_err-request-clause-step : goal.returns-in_err-request-clause-step
returns-in_err-request-clause-step g c =
    let p = err_from_is_err_and c.from_residual.result c.from_residual.ensures.1 in
    rw (p.1, p.2) (cut_at_end c.in_err-request.field-0.0 (g.H.Shelf.things c.args.shelf.now) (g.H.Shelf.faults c.args.shelf.now)
    (g.Q.Pipe.given c.args.pipe.now) (g.Q.Pipe.given c.asked.new.pipe) (g.Q.Pipe.taken c.args.pipe.now) (g.Q.Pipe.taken c.asked.new.pipe)
    c.in_err-request.ensures.given_stays c.in_err-request.ensures.taken)

pub returns-in_err-body-clause-step : goal.returns-in_err-body-clause-step
returns-in_err-body-clause-step g c =
    let p = err_from_is_err_and c.from_residual-in_err-body.result c.from_residual-in_err-body.ensures.1 in
    rw (p.1, p.2) (cut_at_reply c.in_err-body.field-0.0 c.in_ok-request.request (g.H.Shelf.things c.args.shelf.now) (g.H.Shelf.things c.replied.new.shelf)
    (g.H.Shelf.faults c.args.shelf.now) (g.H.Shelf.faults c.replied.new.shelf) (g.Q.Pipe.given c.args.pipe.now) (g.Q.Pipe.given c.asked.new.pipe)
    (g.Q.Pipe.taken c.args.pipe.now) (g.Q.Pipe.taken c.asked.new.pipe)
    c.in_ok-request.ensures.given_stays c.in_ok-request.ensures.taken c.in_err-body.ensures.kept_or_replied c.in_err-body.ensures.no_memory)
