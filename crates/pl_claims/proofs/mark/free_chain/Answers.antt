use Rattle.std.proofs.Common.{◌<◌, ◌∙◌, length, get_or, option_map, slice_get, ap, arith}
use Rattle.pl_claims.specs.Marks.{left_by}
use Rattle.pl_claims.proofs.Marking.{chain_less, number_there}
use Rattle.pl_claims.proofs.mark.free_chain.Goals as goal

pub free_row-requires : goal.free_row-requires
free_row-requires c =
    let inside : c.loop-row.row-index < length c.args.chain.now = omega arith in
    let low : get_or c.args.chain.now c.loop-row.row-index 0 < length c.args.marks.now =
    c.requires (get_or c.args.chain.now c.loop-row.row-index 0) (number_there c.args.chain.now c.loop-row.row-index inside) in
    omega (arith, c.loop-row.auto.marks)

pub loop-row-preserved : goal.loop-row-preserved
loop-row-preserved c = λ place.
    let inside : c.loop-row.row-index < length c.args.chain.now = omega arith in
    c.free_row.ensures place
    ∙ ap (option_map (left_by c.args.goal (get_or c.args.chain.now c.loop-row.row-index 0) place)) (c.loop-row.invariant place)
    ∙ chain_less c.args.goal c.args.chain.now c.loop-row.row-index inside place (slice_get c.args.marks.now place)
