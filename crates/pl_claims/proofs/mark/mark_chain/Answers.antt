use Rattle.std.proofs.Common.{◌<◌, ◌∙◌, length, get_or, option_map, slice_get, ap, arith}
use Rattle.pl_claims.specs.Marks.{joined_by}
use Rattle.pl_claims.proofs.Marking.{chain_more, number_there}
use Rattle.pl_claims.proofs.mark.mark_chain.Goals as goal

pub mark_row-requires : goal.mark_row-requires
mark_row-requires c =
    let inside : c.loop-row.row-index < length c.args.chain.now = omega arith in
    let low : get_or c.args.chain.now c.loop-row.row-index 0 < length c.args.marks.now =
    c.requires (get_or c.args.chain.now c.loop-row.row-index 0) (number_there c.args.chain.now c.loop-row.row-index inside) in
    omega (arith, c.loop-row.auto.marks)

pub loop-row-preserved : goal.loop-row-preserved
loop-row-preserved c = λ place.
    let inside : c.loop-row.row-index < length c.args.chain.now = omega arith in
    c.mark_row.ensures place
    ∙ ap (option_map (joined_by c.args.goal (get_or c.args.chain.now c.loop-row.row-index 0) place)) (c.loop-row.invariant place)
    ∙ chain_more c.args.goal c.args.chain.now c.loop-row.row-index inside place (slice_get c.args.marks.now place)
