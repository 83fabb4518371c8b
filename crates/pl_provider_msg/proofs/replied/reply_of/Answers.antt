use Rattle.pl_provider_msg.proofs.Fitting.{replies_fit}
use Rattle.pl_provider_msg.proofs.replied.reply_of.Goals as goal

pub returns-in-Ok-clause-fits : goal.returns-in-Ok-clause-fits
returns-in-Ok-clause-fits c = replies_fit c.args.ticket c.args.call c.args.bytes.now _ c.in-Ok.ensures.reply
