use Rattle.pl_provider_msg.proofs.ReadAgain.{replies_are_read_again, requests_are_read_again}
use Rattle.pl_provider_msg.proofs.laws.messages_are_read_again.Goals as goal

pub returns-clause-requests : goal.returns-clause-requests
returns-clause-requests c = requests_are_read_again

pub returns-clause-replies : goal.returns-clause-replies
returns-clause-replies c = replies_are_read_again
