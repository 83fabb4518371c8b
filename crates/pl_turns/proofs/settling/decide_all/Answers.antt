use Rattle.std.proofs.Common.{◌∙◌, sym}
use Rattle.pl_turns.proofs.Reached.{step_more, step_nearer, step_over, step_settled}
use Rattle.pl_turns.proofs.settling.decide_all.Goals as goal

pub loop-smaller : goal.loop-smaller
loop-smaller c =
    step_nearer c.args.requests.now c.args.errands.now c.loop.claims c.decide_next.new.claims c.decide_next.ensures.run
    c.in_ok-decide_next.ensures.decided (sym c.in_ok-decide_next.ensures.more ∙ c.if-branch.true)

pub loop-preserved : goal.loop-preserved
loop-preserved c = record {
  settled =
      step_settled c.args.requests.now c.args.errands.now c.loop.claims c.decide_next.new.claims c.decide_next.ensures.run
      c.in_ok-decide_next.ensures.decided
      ∙ c.loop.invariant.settled;
  more =
      step_more c.args.requests.now c.args.errands.now c.loop.claims c.decide_next.new.claims c.decide_next.ensures.run
      c.in_ok-decide_next.ensures.decided c.args.claims.now.decided c.loop.invariant.more;
  run = c.decide_next.ensures.run ∙ c.loop.invariant.run;
}

pub returns-clause-decided : goal.returns-clause-decided
returns-clause-decided c =
    step_over c.args.requests.now c.args.errands.now c.loop.claims c.decide_next.new.claims c.decide_next.ensures.run
    c.in_ok-decide_next.ensures.decided (sym c.in_ok-decide_next.ensures.more ∙ c.if-branch.false)
    ∙ c.loop.invariant.settled

pub returns-clause-more : goal.returns-clause-more
returns-clause-more c =
    step_more c.args.requests.now c.args.errands.now c.loop.claims c.decide_next.new.claims c.decide_next.ensures.run
    c.in_ok-decide_next.ensures.decided c.args.claims.now.decided c.loop.invariant.more
