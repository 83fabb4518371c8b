use Rattle.std.proofs.Common.{◌∙◌, length, ap}
use Rattle.pl_events.specs.Seen.{Seen}
use Rattle.pl_events.specs.declared.event.What.TheVariants.{Kept}
use Rattle.pl_troubles.specs.Follows.{with_all}
use Rattle.pl_course.proofs.Kept.{kept, unrecorded}
use Rattle.pl_course.proofs.Together.{may_now, moved, used}
use Rattle.pl_core.proofs.held.Core.keep.Goals as goal

pub keep_goal-requires : goal.keep_goal-requires
keep_goal-requires c =
    unrecorded c.model_laws.ensures c.self.inside.columns c.self.inside.history c.self.invariant c.args.seat c.args.goal c.args.fresh
    (may_now c.self.inside.columns c.self.inside.history c.args.self.now c.args.seat (Kept c.args.goal c.args.fresh)
    c.self.view_is c.requires)

pub invariant_of-self-2 : goal.invariant_of-self-2
invariant_of-self-2 c =
    moved
    ((λ i. record c.keep_goal.new.columns { troubles = c.add_all.ensures i })
    ∙ (λ i. record (c.in_ok-problems.ensures.recorded i) {
      troubles = with_all
          ((c.len-at.ensures ∙ ap (λ (one : Seen). length one.events) c.in_ok-reserve.ensures.reserved) i)
          (c.in_ok-problems.ensures.left i) (c.in_ok-problems.ensures.recorded i).troubles;
    }))
    (c.push_reserved.ensures ∙ ap (used c.args.seat (Kept c.args.goal c.args.fresh)) c.in_ok-reserve.ensures.reserved)
    (kept c.model_laws.ensures c.self.inside.columns c.self.inside.history c.self.invariant c.args.seat c.args.goal c.args.fresh
    (may_now c.self.inside.columns c.self.inside.history c.args.self.now c.args.seat (Kept c.args.goal c.args.fresh)
    c.self.view_is c.requires))
