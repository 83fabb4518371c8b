use Rattle.std.proofs.Common.{◌≡◌, ◌+◌, arith}
use Rattle.pl_value.specs.Inside.{depth, greatest_field_depth}
use Rattle.pl_value.proofs.Levels.{depth-Object}
use Rattle.pl_value.proofs.inside.+depth.Goals as goal

pub depth-returns-in-Object : goal.depth-returns-in-Object
depth-returns-in-Object t c =
    let level : depth c.args.value.now ≡ greatest_field_depth c.as_slice-in-Object.result.now + 1 = cc (depth-Object c.in-Object.fields) in
    grind (arith, level)
