use Rattle.std.proofs.Common.{List, subst, sym}
use Rattle.pl_state.specs.declared.entry.Entry.{Entry}
use Rattle.pl_refresh.specs.Covers.{Covers}
use Rattle.pl_refresh.proofs.Covers.{covers_more}
use Rattle.pl_refresh.proofs.standing.Standing.with.Goals as goal

pub invariant_of-result : goal.invariant_of-result
invariant_of-result c =
    subst (λ (rows : List Entry). Covers c.add.new.self rows) (sym c.in_ok-push.ensures.added)
    (covers_more c.self.inside.seen c.add.new.self c.self.inside.rows c.args.row.now c.args.made c.in_ok-add.ensures c.requires.urn c.requires.id c.self.invariant)
