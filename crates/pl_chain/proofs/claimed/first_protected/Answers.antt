use Rattle.std.proofs.Common.{◌<◌, arith, length}
use Rattle.pl_chain.specs.Claimed.{has_number}
use Rattle.pl_chain.proofs.Protected.{first_protected-found, first_protected-more}
use Rattle.pl_chain.proofs.claimed.first_protected.Goals as goal

pub returns-in-Some : goal.returns-in-Some
returns-in-Some c =
    let inside : c.loop-place.place-index < length c.args.places.now = omega arith in
    first_protected-found (has_number c.args.claimed.now) c.args.rows.now c.args.places.now c.loop-place.place-index c.in-Some.row.now inside c.loop-place.invariant c.in-Some.ensures

pub loop-place-preserved : goal.loop-place-preserved
loop-place-preserved c =
    let inside : c.loop-place.place-index < length c.args.places.now = omega arith in
    first_protected-more (has_number c.args.claimed.now) c.args.rows.now c.args.places.now c.loop-place.place-index inside c.loop-place.invariant c.in_default.ensures
