use Rattle.std.proofs.Common.{◌∙◌}
use Rattle.pl_model.specs.Due.{asks_diff}
use Rattle.pl_due.specs.Seen.{known_in}
use Rattle.pl_due.proofs.seen.Seen.is_diff_asked.Goals as goal

pub returns-in-None : goal.returns-in-None
returns-in-None c = c.in-None.ensures (asks_diff (known_in c.args.self.now))

pub returns-in-Some : goal.returns-in-Some
returns-in-Some c = c.asks_diff.ensures ∙ c.in-Some.ensures (asks_diff (known_in c.args.self.now))
