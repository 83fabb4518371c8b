use Rattle.pl_provider_msg.proofs.ReadBack.{requests_are_read}
use Rattle.pl_provider_msg.proofs.RepliesBack.{replies_are_read}
use Rattle.pl_provider_msg.proofs.laws.messages_are_read.Goals as goal

pub returns-clause-requests : goal.returns-clause-requests
returns-clause-requests c = requests_are_read

pub returns-clause-replies : goal.returns-clause-replies
returns-clause-replies c = replies_are_read
