use Rattle.std.proofs.Common.{List, subst, sym}
use Rattle.pl_state.specs.declared.entry.Entry.{Entry}
use Rattle.pl_refresh.specs.Covers.{Covers}
use Rattle.pl_refresh.proofs.Covers.{covers_none}
use Rattle.pl_refresh.proofs.standing.Standing.new.Goals as goal

pub invariant_of-result : goal.invariant_of-result
invariant_of-result c =
    subst (λ (rows : List Entry). Covers c.new-2.result rows) (sym c.new.ensures) (covers_none c.new-2.result c.new-2.ensures)
