use Rattle.pl_turn_asks.proofs.Entries.{kept_is_made_again, untold_is_recorded}
use Rattle.pl_turn_asks.proofs.laws.answered_entries.Goals as goal

pub returns : goal.returns
returns c = record { untold = untold_is_recorded; kept = kept_is_made_again }
