use Rattle.pl_sound.proofs.Index.{has_text-insert}
use Rattle.pl_sound.proofs.seen.add_text.Goals as goal

pub returns : goal.returns
returns c = has_text-insert c.args.texts.now c.insert.new.self c.args.text c.in_ok-insert.ensures.updates
