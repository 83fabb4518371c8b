use Rattle.pl_sound.proofs.Index.{has_pair-insert}
use Rattle.pl_sound.proofs.seen.add_pair.Goals as goal

pub returns : goal.returns
returns c = has_pair-insert c.args.pairs.now c.insert.new.self c.args.first c.args.second c.in_ok-insert.ensures.updates
