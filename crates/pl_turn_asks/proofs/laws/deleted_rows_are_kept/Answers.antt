use Rattle.pl_turn_asks.proofs.Dues.{deletes_kept}
use Rattle.pl_turn_asks.proofs.Rows.{kept_alike, kept_are_old}
use Rattle.pl_turn_asks.proofs.Starts.{kept_at_start}
use Rattle.pl_turn_asks.proofs.laws.deleted_rows_are_kept.Goals as goal

pub returns : goal.returns
returns c = record { due = deletes_kept; entries = kept_are_old; alike = kept_alike; start = kept_at_start }
