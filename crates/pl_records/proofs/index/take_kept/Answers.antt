use Rattle.pl_records.proofs.Keeps.{gone}
use Rattle.pl_records.proofs.index.take_kept.Goals as goal

pub returns-clause-gone : goal.returns-clause-gone
returns-clause-gone c =
    gone c.args.keeps.now c.pop-newest.new.self c.pop-newest.result c.pop-newest.ensures.entries c.pop-newest.ensures.found c.pop-newest.ensures.updates
