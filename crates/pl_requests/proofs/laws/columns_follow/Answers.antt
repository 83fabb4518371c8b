use Rattle.std.proofs.Common.{refl}
use Rattle.pl_requests.proofs.Columns.{changes, stays}
use Rattle.pl_requests.proofs.laws.columns_follow.Goals as goal

pub returns : goal.returns
returns c = record { known = λ run before. refl; told = changes; others = stays }
