use Rattle.std.proofs.Common.{◌≡◌, ◌<◌, ◌≤◌, ◌+◌, ◌∙◌, ◌++◌, ◌∷◌, [], ℕ, List, Option, length, option_map, slice_get, sym, ap, subst, arith}
use Rattle.std.proofs.lemmas.List.{length_push}
use Rattle.std.specs.Option.{IfSome, option_to_list}
use Rattle.std.specs.Vec.{vec_capacity, with_items}
use Rattle.pl_lemmas.specs.Words.{has_number}
use Rattle.pl_model.specs.Run.{rows_of}
use Rattle.pl_model.specs.Claims.{chain_of_goal}
use Rattle.pl_claims.specs.declared.mark.Mark.{Mark}
use Rattle.pl_claims.specs.declared.settled.Settled.{Settled}
use Rattle.pl_claims.specs.Kept.{ClaimOnce, decided_in}
use Rattle.pl_claims.specs.Marks.{AreMarked, freed_of, unchained_by}
use Rattle.pl_claims.proofs.Chains.{chain_within}
use Rattle.pl_claims.proofs.Freeing.{claim_marked}
use Rattle.pl_claims.proofs.Steps.{chain_last, decided_push, fewer_marked, get_front, same_items}
use Rattle.pl_claims.proofs.claims.Claims.retract.Goals as goal

pub free_chain-requires : goal.free_chain-requires
free_chain-requires c = λ row there.
    let one : Settled = c.unwrap.result in
    let whole : c.self.inside.settled.items ≡ c.pop.new.self.items ++ one ∷ [] =
    c.pop.ensures.items ∙ ap (λ (o : Option Settled). c.pop.new.self.items ++ option_to_list o) c.unwrap.ensures in
    let chain : c.as_slice.result.now ≡ chain_of_goal c.self.inside.base one.decided =
    c.as_slice.ensures ∙ c.into_claim-claim.ensures.chain
    ∙ chain_last c.self.inside.base c.self.inside.settled.items c.pop.new.self.items one whole c.self.invariant.chained in
    let given : length c.as_mut_slice.result.now ≡ length c.self.inside.marks.items = ap length c.as_mut_slice.ensures.value in
    let count : length c.self.inside.marks.items ≡ length (rows_of c.self.inside.base) = c.self.invariant.marked.count in
    let less : row < length (rows_of c.self.inside.base) =
    chain_within c.self.inside.base one.decided row (ap (λ (numbers : List ℕ). has_number numbers row) (sym chain) ∙ there) in
    omega arith

pub free_claim-requires : goal.free_claim-requires
free_claim-requires c =
    let one : Settled = c.unwrap.result in
    let whole : c.self.inside.settled.items ≡ c.pop.new.self.items ++ one ∷ [] =
    c.pop.ensures.items ∙ ap (λ (o : Option Settled). c.pop.new.self.items ++ option_to_list o) c.unwrap.ensures in
    let first : length c.free_chain.new.marks ≡ length c.as_mut_slice.result.now = c.free_chain.auto.marks in
    let given : length c.as_mut_slice.result.now ≡ length c.self.inside.marks.items = ap length c.as_mut_slice.ensures.value in
    let own : c.self.inside.marks.len ≡ length c.self.inside.marks.items = c.self.inside.marks.ok.0 in
    let again : length c.as_mut_slice-2.result.now ≡ length c.free_chain.new.marks =
    ap length (c.as_mut_slice-2.ensures.value ∙ same_items c.self.inside.marks c.free_chain.new.marks (omega arith)) in
    let long : length c.self.inside.marks.items ≡ length c.as_mut_slice-2.result.now = omega arith in
    let marked : AreMarked c.self.inside.base (one.decided ∷ decided_in c.pop.new.self.items) c.self.inside.marks.items =
    subst (λ decided. AreMarked c.self.inside.base decided c.self.inside.marks.items)
    (ap decided_in whole ∙ decided_push c.pop.new.self.items one) c.self.invariant.marked in
    subst (λ (t : Option ℕ × ℕ). IfSome t.0 (λ row. row < t.1)) (λ i. (sym c.into_claim-claim.ensures.claim i, long i))
    (claim_marked c.self.inside.base (decided_in c.pop.new.self.items) one.decided c.self.inside.marks.items marked)

pub invariant_of-self : goal.invariant_of-self
invariant_of-self c =
    let one : Settled = c.unwrap.result in
    let whole : c.self.inside.settled.items ≡ c.pop.new.self.items ++ one ∷ [] =
    c.pop.ensures.items ∙ ap (λ (o : Option Settled). c.pop.new.self.items ++ option_to_list o) c.unwrap.ensures in
    let longer : length c.self.inside.settled.items ≡ length c.pop.new.self.items + 1 = ap length whole ∙ length_push c.pop.new.self.items one in
    let room : length c.self.inside.settled.items + c.self.inside.ready ≤ vec_capacity c.self.inside.settled = c.self.invariant.room in
    let wide : vec_capacity c.pop.new.self ≡ vec_capacity c.self.inside.settled = c.pop.ensures.capacity in
    let first : length c.free_chain.new.marks ≡ length c.as_mut_slice.result.now = c.free_chain.auto.marks in
    let given : length c.as_mut_slice.result.now ≡ length c.self.inside.marks.items = ap length c.as_mut_slice.ensures.value in
    let own : c.self.inside.marks.len ≡ length c.self.inside.marks.items = c.self.inside.marks.ok.0 in
    let again : c.as_mut_slice-2.result.now ≡ c.free_chain.new.marks =
    c.as_mut_slice-2.ensures.value ∙ same_items c.self.inside.marks c.free_chain.new.marks (omega arith) in
    let again_length : length c.as_mut_slice-2.result.now ≡ length c.free_chain.new.marks = ap length again in
    let second : length c.free_claim.new.marks ≡ length c.as_mut_slice-2.result.now = c.free_claim.auto.marks in
    let last : (with_items (with_items c.self.inside.marks c.free_chain.new.marks) c.free_claim.new.marks).items ≡ c.free_claim.new.marks =
    same_items (with_items c.self.inside.marks c.free_chain.new.marks) c.free_claim.new.marks (omega arith) in
    let goal_is : c.len-goal.result ≡ length c.pop.new.self.items = c.len-goal.ensures ∙ c.pop.new.self.ok.0 in
    let chain_is : c.as_slice.result.now ≡ one.chain = c.as_slice.ensures ∙ c.into_claim-claim.ensures.chain in
    let marked : AreMarked c.self.inside.base (decided_in c.pop.new.self.items) c.free_claim.new.marks =
    fewer_marked c.self.inside.base c.pop.new.self.items one c.self.inside.marks.items c.free_chain.new.marks c.free_claim.new.marks
    (subst (λ (items : List Settled). AreMarked c.self.inside.base (decided_in items) c.self.inside.marks.items) whole c.self.invariant.marked)
    (subst (λ (items : List Settled). ClaimOnce (decided_in items)) whole c.self.invariant.once)
    (chain_last c.self.inside.base c.self.inside.settled.items c.pop.new.self.items one whole c.self.invariant.chained)
    (omega arith)
    (λ row. c.free_chain.ensures row
    ∙ (λ i. option_map (unchained_by (goal_is i) (chain_is i) row) (slice_get (c.as_mut_slice.ensures.value i) row)))
    (λ row. c.free_claim.ensures row
    ∙ (λ i. option_map (freed_of (c.into_claim-claim.ensures.claim i) row) (slice_get (again i) row))) in
    record {
      sound = c.self.invariant.sound;
      chained = λ place it is. c.self.invariant.chained place it
          (ap (λ (items : List Settled). slice_get items place) whole ∙ get_front c.pop.new.self.items one place it is);
      once = (subst ClaimOnce (ap decided_in whole ∙ decided_push c.pop.new.self.items one) c.self.invariant.once).1;
      marked = subst (λ (marks : List Mark). AreMarked c.self.inside.base (decided_in c.pop.new.self.items) marks) (sym last) marked;
      room = omega arith;
    }
