use Rattle.std.specs.Option.{option_copied}
use Rattle.pl_turn_asks.proofs.Posts.{asked_answer, unasked}
use Rattle.pl_turn_asks.proofs.given.result_of.Goals as goal

pub returns-in-Some : goal.returns-in-Some
returns-in-Some c =
    asked_answer c.args.columns.now c.args.n (option_copied c.args.entry) c.in-Some.asked.now c.answer_for.result c.in-Some.ensures c.answer_for.ensures

pub returns-in-None : goal.returns-in-None
returns-in-None c = unasked c.args.columns.now c.args.n (option_copied c.args.entry) c.halted.result c.in-None.ensures c.halted.ensures
