use Rattle.pl_snap.proofs.Follows.{follows-cleared, follows-closed, follows-entry, follows-opened, follows-outputs, follows-replaced, follows-retired, follows-set}
use Rattle.pl_snap.proofs.laws.stamps_tell.Goals as goal

pub returns : goal.returns
returns c = record {
  record_entry = follows-entry;
  put_outputs = follows-outputs;
  retire = follows-retired;
  mark_replaced = follows-replaced;
  set_rows = follows-set;
  clear_base = follows-cleared;
  open_pending = follows-opened;
  close_pending = follows-closed;
}
