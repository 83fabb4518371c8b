use Rattle.std.proofs.Common.{◌≡◌, ◌++◌, ◌∷◌, [], sym, ◌∙◌, arith}
use Rattle.std.proofs.lemmas.List.FromFn.{map-range_with_len_more}
use Rattle.pl_columns.specs.Read.{known_by}
use Rattle.pl_requests.specs.Ids.{recorded_id}
use Rattle.pl_entries.proofs.ProviderIds.{all_told}
use Rattle.pl_entries.proofs.provided.recorded_ids.Goals as goal

pub loop-goal-preserved : goal.loop-goal-preserved
loop-goal-preserved c =
    c.in_ok-push.ensures.items
    ∙ (λ i. c.loop-goal.invariant i ++ c.in_ok-id.ensures i ∷ [])
    ∙ sym (map-range_with_len_more (recorded_id (known_by c.args.columns.now)) 0 c.loop-goal.goal c.loop-goal.goal (omega arith))

pub returns : goal.returns
returns c =
    let end : c.loop-goal.goal ≡ c.len-goal-end.result = omega arith in
    all_told c.args.columns.now c.loop-goal.goal c.loop-goal.ids.items (end ∙ c.len-goal-end.ensures.count) c.loop-goal.invariant
