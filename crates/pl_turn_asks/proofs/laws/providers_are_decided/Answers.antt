use Rattle.pl_turn_asks.proofs.Dues.{keeps_decided, sends_decided}
use Rattle.pl_turn_asks.proofs.laws.providers_are_decided.Goals as goal

pub returns : goal.returns
returns c = record { sends = sends_decided; keeps = keeps_decided }
