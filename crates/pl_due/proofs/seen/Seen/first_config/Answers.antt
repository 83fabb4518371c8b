use borrow.Author.Count.{below_more}
use Rattle.std.proofs.Common.{◌≡◌, ◌∙◌, ◌<◌, false, length, sym, arith}
use Rattle.pl_due.specs.Now.{configures_now}
use Rattle.pl_due.specs.Seen.{known_in}
use Rattle.pl_due.proofs.Finding.{range_first, range_none}
use Rattle.pl_due.proofs.seen.Seen.first_config.Goals as goal

pub loop-number-preserved : goal.loop-number-preserved
loop-number-preserved c =
    below_more (λ k. configures_now c.args.self.now c.args.wanting k ≡ false) c.loop-number.number c.loop-number.invariant
    (sym c.configures_now.ensures ∙ c.if-configures_now.false)

pub returns-then-configures_now : goal.returns-then-configures_now
returns-then-configures_now c =
    range_first (configures_now c.args.self.now c.args.wanting) (length (known_in c.args.self.now).goals) c.loop-number.number
    (let within : c.loop-number.number < length (known_in c.args.self.now).goals = omega (arith, c.len-count.ensures.count) in within)
    c.loop-number.invariant (sym c.configures_now.ensures ∙ c.if-configures_now.true)

pub returns : goal.returns
returns c =
    range_none (configures_now c.args.self.now c.args.wanting) (length (known_in c.args.self.now).goals)
    (λ k below. c.loop-number.invariant k (let within : k < c.loop-number.number = omega (arith, c.len-count.ensures.count) in within))
