use Rattle.std.proofs.Common.{◌<◌, length, arith}
use Rattle.pl_base.proofs.Keeping.{keepers_more}
use Rattle.pl_base.proofs.keepers.keepers_of.Goals as goal

pub loop-place-preserved : goal.loop-place-preserved
loop-place-preserved c =
    let inside : c.loop-place.place < length c.args.rows.now = omega arith in
    keepers_more c.loop-place.keepers c.add_keeper.new.keepers c.args.rows.now c.loop-place.place c.index-rows-place.result inside
    c.index-rows-place.is c.loop-place.invariant c.in_ok-add_keeper.ensures
