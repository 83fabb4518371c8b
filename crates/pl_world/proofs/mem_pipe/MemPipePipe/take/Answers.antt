use Rattle.std.proofs.Common.{◌+◌, ◌≤◌, Some, ap, length, arith}
use Rattle.pl_world.proofs.Telling.{take-next, drop-next}
use Rattle.pl_world.proofs.mem_pipe.MemPipePipe.take.Goals as goal

pub returns-clause-taken_grew : goal.returns-clause-taken_grew
returns-clause-taken_grew c =
    let next = rw c.deref.ensures.value at c.copy_from_slice.ensures.after in
    let within : c.args.self.now.at + c.next_size-count.result ≤ length c.args.self.now.input.items =
    omega (arith, c.args.self.now.input.ok, c.args.self.now.within, c.next_size-count.ensures.within)
    in
    ap Some (take-next _ _ _ _ _ within next)

pub returns-clause-left_shrank : goal.returns-clause-left_shrank
returns-clause-left_shrank c =
    let next = rw c.deref.ensures.value at c.copy_from_slice.ensures.after in
    let within : c.args.self.now.at + c.next_size-count.result ≤ length c.args.self.now.input.items =
    omega (arith, c.args.self.now.input.ok, c.args.self.now.within, c.next_size-count.ensures.within)
    in
    ap Some (drop-next _ _ _ _ _ within next)
