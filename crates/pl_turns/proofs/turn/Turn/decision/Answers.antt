use Rattle.std.proofs.Common.{◌≡◌, ◌∙◌, true, false, sym, ap}
use Rattle.std.proofs.lemmas.Result.{IfOk-weaker}
use Rattle.std.specs.Option.{option_copied}
use Rattle.pl_decide.specs.Limited.{decide_limited, is_delete_first, refused_by}
use Rattle.pl_decide.specs.Table.{decide}
use Rattle.pl_decide.specs.declared.decision.Decision.{Decision}
use Rattle.pl_model.specs.Decisions as spec
use Rattle.pl_turns.specs.Chained.{refusal_at}
use Rattle.pl_turns.specs.Seen.{seen_turn}
use Rattle.pl_turns.proofs.Deciding.{final_first, final_last}
use Rattle.pl_turns.proofs.turn.Turn.decision.Goals as goal

pub returns-then-is_delete_first-clause-decision : goal.returns-then-is_delete_first-clause-decision
returns-then-is_delete_first-clause-decision c =
    let turn : spec.Turn = seen_turn c.args.self.now in
    let table : Decision = decide (spec.claim_at turn) turn.goal (spec.change_at turn) c.args.checked.now (option_copied c.args.diff) in
    let made : c.in_ok-decision.decision ≡ decide_limited (spec.claim_at turn) turn.goal (spec.change_at turn) c.args.checked.now (option_copied c.args.diff) turn.run.limits =
    c.in_ok-decision.ensures
    ∙ (λ i. decide_limited (c.claimed.ensures i) turn.goal (c.change.ensures i) c.args.checked.now (option_copied c.args.diff) (c.run.ensures i).limits) in
    let first : is_delete_first c.in_ok-decision.decision ≡ true = sym c.is_delete_first.ensures ∙ c.if-is_delete_first.true in
    let final = final_first turn.run.limits (spec.claim_at turn) turn.goal (spec.claims_at turn) (spec.chain_at turn) table (ap is_delete_first (sym made) ∙ first) in
    IfOk-weaker c.over_chain.result _ _
    (λ it says. says ∙ sym (final ∙ ap (λ (one : Decision). refused_by (refusal_at turn one) one) (sym made)))
    c.over_chain.ensures.decision

pub returns-clause-decision : goal.returns-clause-decision
returns-clause-decision c =
    let turn : spec.Turn = seen_turn c.args.self.now in
    let table : Decision = decide (spec.claim_at turn) turn.goal (spec.change_at turn) c.args.checked.now (option_copied c.args.diff) in
    let made : c.in_ok-decision.decision ≡ decide_limited (spec.claim_at turn) turn.goal (spec.change_at turn) c.args.checked.now (option_copied c.args.diff) turn.run.limits =
    c.in_ok-decision.ensures
    ∙ (λ i. decide_limited (c.claimed.ensures i) turn.goal (c.change.ensures i) c.args.checked.now (option_copied c.args.diff) (c.run.ensures i).limits) in
    let last : is_delete_first c.in_ok-decision.decision ≡ false = sym c.is_delete_first.ensures ∙ c.if-is_delete_first.false in
    made ∙ sym (final_last turn.run.limits (spec.claim_at turn) turn.goal (spec.claims_at turn) (spec.chain_at turn) table (ap is_delete_first (sym made) ∙ last))
