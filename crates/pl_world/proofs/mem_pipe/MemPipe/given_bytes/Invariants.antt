use Rattle.std.proofs.Common.{◌≡◌, take}
use Rattle.pl_world.specs.Told.{bytes_of}
use Rattle.pl_world.proofs.mem_pipe.MemPipe.given_bytes.Given as goal

abbrev pub invariant-loop-piece : goal.invariant-loop-piece
invariant-loop-piece l = l.bytes.items ≡ bytes_of (take l.piece-index l.self.given.items)
