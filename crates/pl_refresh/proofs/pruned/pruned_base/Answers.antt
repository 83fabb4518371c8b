use Rattle.std.proofs.Common.{◌<◌, ◌+◌, ◌++◌, ◌∷◌, [], ℕ, List, arith, length, ap, sym, ◌∙◌}
use Rattle.pl_state.specs.declared.entry.Entry.{Entry}
use Rattle.pl_refresh.specs.declared.row_now.RowNow.{RowNow}
use Rattle.pl_refresh.proofs.Behind.{at_place, base_behind, base_gone, base_kept, one_left, replaced_id, rows_before}
use Rattle.pl_refresh.proofs.pruned.pruned_base.Goals as goal
use Rattle.pl_refresh.proofs.pruned.pruned_base.Goals.{in-Some+in_ok-made+in_ok-standing, in_default}

pub with-requires-clause-id : goal.with-requires-clause-id
with-requires-clause-id c =
    replaced_id c.loop-place.ancestry c.loop-place.standing c.args.imported.now (at_place (length c.loop-place.ancestry) c.in-Some.left.now) c.in_ok-made.made
    (c.in_ok-made.ensures c.args.imported.now c.in_ok-taken.ensures)

pub loop-place-preserved : goal.loop-place-preserved
loop-place-preserved c =
    let base : List Entry = c.args.base.now in
    let now : List RowNow = c.args.now.now in
    let imported : List Entry = c.args.imported.now in
    let earlier : List Entry = c.loop-place.standing in
    let passed : List Entry = c.loop-place.ancestry in
    let place : ℕ = c.loop-place.place in
    let row : Entry = c.index-base-place.result in
    let inside : place < length base = omega arith in
    record {
      left = elim c.match-row_left.branch [
        | in-Some+in_ok-made+in_ok-standing w ↦
            ap (λ (rows : List Entry). base_behind base now imported rows (place + 1))
            (w.standing-is ∙ w.in_ok-standing.ensures
            ∙ ap (λ (made : Entry). earlier ++ made ∷ [])
            (rows_before base earlier imported passed place w.in-Some.left.now w.in_ok-made.made c.loop-place.invariant.passed (w.in_ok-made.ensures imported c.in_ok-taken.ensures)))
            ∙ sym (base_kept base now imported earlier place row w.in-Some.left.now inside c.index-base-place.is (w.in-Some.ensures ∙ ap (one_left row) c.get.ensures))
            ∙ c.loop-place.invariant.left
        | in_default w ↦
            ap (λ (rows : List Entry). base_behind base now imported rows (place + 1)) w.standing-is
            ∙ sym (base_gone base now imported earlier place row inside c.index-base-place.is (w.in_default.ensures ∙ ap (one_left row) c.get.ensures))
            ∙ c.loop-place.invariant.left
      ];
      passed = c.in_ok-ancestry.ensures;
    }
