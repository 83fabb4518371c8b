use Rattle.std.proofs.Common.{◌<◌, ◌++◌, ◌∷◌, [], length, arith, sym, ◌∙◌}
use Rattle.pl_snap.proofs.RowLemmas.{turned_tags-more}
use Rattle.pl_snap.proofs.rows.turn_tags.Goals as goal

pub loop-place-preserved : goal.loop-place-preserved
loop-place-preserved c =
    let within : c.loop-place.place < length c.args.entries.now = omega arith in
    c.in_ok-push.ensures.items
    ∙ (λ i. c.loop-place.invariant i ++ c.turn_tag-tag.ensures i ∷ [])
    ∙ sym (turned_tags-more c.args.old.now c.args.first c.loop-place.place c.args.tags.now c.args.entries.now (record { number = 0; stamp = 0 }) c.index-entries-place.result c.requires.tagged within (sym c.index-entries-place.is))
