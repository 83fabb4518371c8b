use Rattle.std.proofs.Common.{◌≡◌, ℕ, true, false, List, sym, subst, rules}
use Rattle.pl_errands.specs.declared.lane.Lane.{Lane}
use Rattle.pl_errands.specs.declared.row.Replied.{Replied}
use Rattle.pl_errands.specs.declared.row.Row.{Row}
use Rattle.pl_errands.specs.Agree.{AreKept}
use Rattle.pl_errands.proofs.Steps.{none_kept}
use Rattle.pl_errands.proofs.errands.Errands.new.Goals as goal

pub invariant_of-result : goal.invariant_of-result
invariant_of-result c =
    let P : List Row × List Replied × List ℕ × List Lane → Type 0 = λ t. AreKept t.0 t.1 t.2 t.3 0 in
    record {
      kept = subst P (λ i. (sym c.new.ensures.items i, sym c.new-2.ensures.items i, sym c.new-4.ensures.items i, sym c.new-5.ensures.items i)) none_kept;
      looked_up = record { begun = search rules; first = search rules };
      replies_room = search rules;
      lost_room = search rules;
      room = λ ready. absurd (let e : false ≡ true = ready in cc);
    }
