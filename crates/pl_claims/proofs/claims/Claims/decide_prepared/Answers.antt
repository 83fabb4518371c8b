use Rattle.std.proofs.Common.{◌≡◌, ◌<◌, ◌≤◌, ◌+◌, ◌∙◌, ◌++◌, ◌∷◌, [], ℕ, false, List, Some, length, option_map, slice_get, sym, ap, subst, rules, arith}
use Rattle.std.proofs.lemmas.List.{length_push}
use Rattle.std.specs.Option.{IfSome}
use Rattle.std.specs.Vec.{vec_capacity, with_items}
use Rattle.pl_decide.specs.Limited.{is_delete_first}
use Rattle.pl_model.specs.Run.{rows_of}
use Rattle.pl_model.specs.Claims.{chain_of_goal, is_claimed}
use Rattle.pl_claims.specs.declared.mark.Mark.{Mark}
use Rattle.pl_claims.specs.declared.settled.Settled.{Settled}
use Rattle.pl_claims.specs.Columns.{Kept}
use Rattle.pl_claims.specs.Kept.{ClaimOnce, decided_in}
use Rattle.pl_claims.specs.Marks.{AreMarked, chained_by, claimed_by}
use Rattle.pl_claims.proofs.Lists.{each_push}
use Rattle.pl_claims.proofs.Steps.{chain_low, decided_push, more_marked, same_items}
use Rattle.pl_claims.proofs.claims.Claims.decide_prepared.Goals as goal

pub mark_chain-requires : goal.mark_chain-requires
mark_chain-requires c = λ row there.
    let first : length c.mark_claim.new.marks ≡ length c.as_mut_slice.result.now = c.mark_claim.auto.marks in
    let given : c.as_mut_slice.result.now ≡ c.self.inside.marks.items = c.as_mut_slice.ensures.value in
    let given_length : length c.as_mut_slice.result.now ≡ length c.self.inside.marks.items = ap length given in
    let own : c.self.inside.marks.len ≡ length c.self.inside.marks.items = c.self.inside.marks.ok.0 in
    let again : c.as_mut_slice-2.result.now ≡ c.mark_claim.new.marks =
    c.as_mut_slice-2.ensures.value ∙ same_items c.self.inside.marks c.mark_claim.new.marks (omega arith) in
    let again_length : length c.as_mut_slice-2.result.now ≡ length c.mark_claim.new.marks = ap length again in
    let less : row < length c.self.inside.marks.items =
    chain_low c.self.inside.base c.args.self.now.run c.args.decided c.as_slice.result.now (length c.self.inside.marks.items)
    (ap (λ (kept : Kept). kept.run) c.self.view_is) (c.as_slice.ensures ∙ c.requires.chain) c.self.invariant.marked.count row there in
    omega arith

pub invariant_of-self : goal.invariant_of-self
invariant_of-self c =
    let one : Settled = record { decided = c.args.decided; chain = c.args.chain } in
    let first : length c.mark_claim.new.marks ≡ length c.as_mut_slice.result.now = c.mark_claim.auto.marks in
    let given : c.as_mut_slice.result.now ≡ c.self.inside.marks.items = c.as_mut_slice.ensures.value in
    let given_length : length c.as_mut_slice.result.now ≡ length c.self.inside.marks.items = ap length given in
    let own : c.self.inside.marks.len ≡ length c.self.inside.marks.items = c.self.inside.marks.ok.0 in
    let again : c.as_mut_slice-2.result.now ≡ c.mark_claim.new.marks =
    c.as_mut_slice-2.ensures.value ∙ same_items c.self.inside.marks c.mark_claim.new.marks (omega arith) in
    let again_length : length c.as_mut_slice-2.result.now ≡ length c.mark_claim.new.marks = ap length again in
    let second : length c.mark_chain.new.marks ≡ length c.as_mut_slice-2.result.now = c.mark_chain.auto.marks in
    let last : (with_items (with_items c.self.inside.marks c.mark_claim.new.marks) c.mark_chain.new.marks).items ≡ c.mark_chain.new.marks =
    same_items (with_items c.self.inside.marks c.mark_claim.new.marks) c.mark_chain.new.marks (omega arith) in
    let pushed : c.push.new.self.items ≡ c.self.inside.settled.items ++ (record { decided = c.args.decided; chain = c.args.chain }) ∷ [] = search rules in
    let longer : length c.push.new.self.items ≡ length c.self.inside.settled.items + 1 = ap length pushed ∙ length_push c.self.inside.settled.items one in
    let room : length c.self.inside.settled.items + c.self.inside.ready ≤ vec_capacity c.self.inside.settled = c.self.invariant.room in
    let wider : vec_capacity c.self.inside.settled ≤ vec_capacity c.push.new.self = c.push.ensures.capacity in
    let ready : c.self.inside.ready ≡ c.args.self.now.ready = ap (λ (kept : Kept). kept.ready) c.self.view_is in
    let some : 0 < c.args.self.now.ready = c.requires.ready in
    let chain : c.args.chain ≡ chain_of_goal c.self.inside.base c.args.decided =
    c.requires.chain ∙ sym (ap (λ (kept : Kept). chain_of_goal kept.run c.args.decided) c.self.view_is) in
    let claim : IfSome c.args.decided.claim (λ row. row < length (rows_of c.self.inside.base)) =
    subst (λ (kept : Kept). IfSome c.args.decided.claim (λ row. row < length (rows_of kept.run))) (sym c.self.view_is) c.requires.claim in
    let unclaimed : IfSome c.args.decided.claim (λ row. is_claimed (decided_in c.self.inside.settled.items) row ≡ false) =
    subst (λ (kept : Kept). IfSome c.args.decided.claim (λ row. is_claimed kept.decided row ≡ false)) (sym c.self.view_is) c.requires.unclaimed in
    let goal_is : c.len-goal.result ≡ length c.self.inside.settled.items = c.len-goal.ensures ∙ c.self.inside.settled.ok.0 in
    let first_is : c.is_delete_first-first.result ≡ is_delete_first c.args.decided.decision = c.is_delete_first-first.ensures in
    let marked : AreMarked c.self.inside.base (decided_in (c.self.inside.settled.items ++ one ∷ [])) c.mark_chain.new.marks =
    more_marked c.self.inside.base c.self.inside.settled.items one c.self.inside.marks.items c.mark_claim.new.marks c.mark_chain.new.marks
    c.self.invariant.marked claim chain (omega arith)
    (λ row. c.mark_claim.ensures row
    ∙ (λ i. option_map (claimed_by (goal_is i) c.args.decided.claim (first_is i) row) (slice_get (given i) row)))
    (λ row. c.mark_chain.ensures row ∙ (λ i. option_map (chained_by (goal_is i) (c.as_slice.ensures i) row) (slice_get (again i) row))) in
    record {
      sound = c.self.invariant.sound;
      chained = subst (λ (items : List Settled). (place : ℕ) (it : Settled) → slice_get items place ≡ Some it → it.chain ≡ chain_of_goal c.self.inside.base it.decided)
          (sym pushed)
          (each_push c.self.inside.settled.items one (λ it. it.chain ≡ chain_of_goal c.self.inside.base it.decided) c.self.invariant.chained chain);
      once = subst ClaimOnce (sym (ap decided_in pushed ∙ decided_push c.self.inside.settled.items one)) (unclaimed, c.self.invariant.once);
      marked = subst (λ (t : List Settled × List Mark). AreMarked c.self.inside.base (decided_in t.0) t.1)
          (λ i. (sym pushed i, sym last i)) marked;
      room = omega arith;
    }
