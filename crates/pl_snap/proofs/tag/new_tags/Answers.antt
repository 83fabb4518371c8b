use Rattle.std.proofs.Common.{◌+◌, ◌++◌, ◌∷◌, [], List, ap, sym, ◌∙◌}
use Rattle.pl_snap.specs.declared.tag.Tag.{Tag}
use Rattle.pl_snap.proofs.RowLemmas.{first_tags-more}
use Rattle.pl_snap.proofs.tag.new_tags.Goals as goal

pub loop-number-preserved : goal.loop-number-preserved
loop-number-preserved c =
    c.in_ok-push.ensures.items
    ∙ ap (λ (tags : List Tag). tags ++ record { number = c.loop-number.number; stamp = c.args.first + c.loop-number.number } ∷ []) c.loop-number.invariant
    ∙ sym (first_tags-more c.args.first c.loop-number.number)
