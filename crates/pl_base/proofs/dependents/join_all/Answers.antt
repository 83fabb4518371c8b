use Rattle.std.proofs.Common.{◌<◌, ◌==◌, ◌∙◌, length, get_or, option_map, slice_get, ap, arith}
use Rattle.pl_base.specs.Dependents.{joined_if}
use Rattle.pl_base.proofs.Joined.{join_more, number_there}
use Rattle.pl_base.proofs.dependents.join_all.Goals as goal

pub join-requires : goal.join-requires
join-requires c =
    let inside : c.loop-place.place-index < length c.args.places.now = omega arith in
    let low : get_or c.args.places.now c.loop-place.place-index 0 < length c.args.lists.now =
    c.requires (get_or c.args.places.now c.loop-place.place-index 0) (number_there c.args.places.now c.loop-place.place-index inside) in
    omega (arith, c.loop-place.auto.lists)

pub loop-place-preserved : goal.loop-place-preserved
loop-place-preserved c = λ row.
    let inside : c.loop-place.place-index < length c.args.places.now = omega arith in
    c.in_ok-join.ensures row
    ∙ ap (option_map (joined_if (get_or c.args.places.now c.loop-place.place-index 0 == row) c.args.later)) (c.loop-place.invariant row)
    ∙ join_more c.args.later c.args.places.now c.loop-place.place-index inside row (slice_get c.args.lists.now row)
