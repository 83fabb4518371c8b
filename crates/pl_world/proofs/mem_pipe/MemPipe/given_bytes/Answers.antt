use Rattle.std.proofs.Common.{ℕ, ◌<◌, ◌∙◌, ap, sym, length, take, List, ◌++◌, arith}
use Rattle.pl_world.specs.Told.{bytes_of}
use Rattle.pl_world.proofs.Telling.{bytes_of-take_more}
use Rattle.pl_world.proofs.mem_pipe.MemPipe.given_bytes.Goals as goal

pub loop-piece-preserved : goal.loop-piece-preserved
loop-piece-preserved c =
    let read = rw c.deref-piece-items.ensures.value at (sym c.piece-item.is) in
    let within : c.loop-piece.piece-index < length c.args.self.now.given.items =
    omega (arith, c.loop-piece-test.true, c.deref-piece-items.ensures.len, c.args.self.now.given.ok)
    in
    let more = bytes_of-take_more c.args.self.now.given.items c.loop-piece.piece-index c.piece-item.result within read in
    c.in_ok-extend_from_slice.ensures.items
    ∙ ap (λ (front : List ℕ). front ++ c.as_slice.result.now) c.loop-piece.invariant
    ∙ ap (λ (last : List ℕ). bytes_of (take c.loop-piece.piece-index c.args.self.now.given.items) ++ last) c.as_slice.ensures
    ∙ sym more
