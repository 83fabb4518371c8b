use Rattle.std.proofs.Common.{◌≡◌, ◌∙◌, ℕ, cond, Option, Some, is_some, sym, ap}
use Rattle.pl_events.specs.declared.operation.Op.{Op}
use Rattle.pl_model.specs.Tickets.{same_op}
use Rattle.pl_errands.specs.Index.{kept_of}
use Rattle.pl_errands.proofs.Looking.{dropped_kept}
use Rattle.pl_errands.proofs.index.drop_reply.Goals as goal

pub returns-in-Some-clause-kept : goal.returns-in-Some-clause-kept
returns-in-Some-clause-kept c =
    let was : Some c.in-Some.first.now ≡ kept_of c.args.index.now c.args.op = c.in-Some.ensures.value in
    dropped_kept c.args.index.now (c.get_mut.follows.lender c.only_before.result) c.args.op c.args.place c.in-Some.first.now was
    (λ (other : Op). ((c.get_mut.follows.holds c.only_before.result).3 (sym (ap is_some was))).0 (record { op = other })
    ∙ ap (λ (o : Option ℕ). cond (same_op c.args.op other) (Some o) (kept_of c.args.index.now other)) c.only_before.ensures)
