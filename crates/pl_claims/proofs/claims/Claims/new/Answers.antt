use Rattle.std.proofs.Common.{◌≡◌, ◌∙◌, ℕ, List, None, Some, length, replicate, slice_get, sym, ap, subst, arith}
use Rattle.pl_model.specs.Run.{rows_of}
use Rattle.pl_claims.specs.declared.mark.Mark.{Mark}
use Rattle.pl_claims.specs.declared.settled.Settled.{Settled}
use Rattle.pl_claims.specs.Kept.{ClaimOnce, decided_in}
use Rattle.pl_claims.specs.Marks.{AreMarked, no_mark}
use Rattle.pl_claims.proofs.Marking.{none_marked}
use Rattle.pl_claims.proofs.claims.Claims.new.Goals as goal

pub invariant_of-result : goal.invariant_of-result
invariant_of-result c =
    let marks : c.in-Ok.marks.items ≡ replicate (length (rows_of c.args.base)) no_mark =
    c.in-Ok.ensures ∙ ap (λ (n : ℕ). replicate n no_mark) c.len.ensures in
    let none : length c.new.result.items ≡ 0 = ap length c.new.ensures.items in
    record {
      sound = c.is_sound.ensures;
      chained = λ place one is.
          let e : None ≡ Some one = ap (λ (items : List Settled). slice_get items place) (sym c.new.ensures.items) ∙ is in
          absurd (let no : None ≡ Some one = e in cc);
      once = subst ClaimOnce (ap decided_in (sym c.new.ensures.items)) tt;
      marked = subst (λ (t : List Settled × List Mark). AreMarked c.args.base (decided_in t.0) t.1)
          (λ i. (sym c.new.ensures.items i, sym marks i)) (none_marked c.args.base);
      room = omega arith;
    }
