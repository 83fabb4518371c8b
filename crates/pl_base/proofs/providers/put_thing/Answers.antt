use Rattle.pl_base.proofs.Steps.{thing_put}
use Rattle.pl_base.proofs.providers.put_thing.Goals as goal

pub returns : goal.returns
returns c = thing_put c.args.things.now c.insert.new.self c.args.urn c.args.id c.args.place c.in_ok-insert.ensures.updates
