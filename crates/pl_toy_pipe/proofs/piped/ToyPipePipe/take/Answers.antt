use Rattle.std.proofs.Common.{◌+◌, ◌≤◌, Some, ap, length, arith}
use Rattle.pl_world.proofs.Telling.{take-next, drop-next}
use Rattle.pl_toy_pipe.proofs.piped.ToyPipePipe.take.Goals as goal

pub returns-clause-taken_grew : goal.returns-clause-taken_grew
returns-clause-taken_grew g c =
    let next = rw c.deref.ensures.value at c.copy_from_slice.ensures.after in
    let within : c.args.self.now.at + c.min-count.result ≤ length c.args.self.now.replies.items =
    omega (arith, c.args.self.now.replies.ok, c.args.self.now.within, c.min-count.ensures, c.len.ensures)
    in
    ap Some (take-next _ _ _ _ _ within next)

pub returns-clause-left_shrank : goal.returns-clause-left_shrank
returns-clause-left_shrank g c =
    let next = rw c.deref.ensures.value at c.copy_from_slice.ensures.after in
    let within : c.args.self.now.at + c.min-count.result ≤ length c.args.self.now.replies.items =
    omega (arith, c.args.self.now.replies.ok, c.args.self.now.within, c.min-count.ensures, c.len.ensures)
    in
    ap Some (drop-next _ _ _ _ _ within next)
