use Rattle.pl_records.proofs.Newest.{added, at_ok}
use Rattle.pl_records.proofs.index.add.Goals as goal

pub returns-clause-added : goal.returns-clause-added
returns-clause-added c =
    added c.args.numbers.now.keys c.insert.new.self.keys c.args.number c.requires.absent
    (at_ok c.insert.result (c.insert.ensures.succeeds c.requires.room) c.insert.ensures.keys)
