-- A message is the body of a frame.
use Rattle.std.proofs.Common.{◌≡◌, ◌≤◌, ℕ, List, length, IfOk, sym, subst, arith}
use Rattle.std.specs.Prelude as told
use Rattle.pl_world.specs.Frames.{IsBody}
use Rattle.pl_world.specs.declared.frames.TheConstants.{MAX_BODY}
use Rattle.pl_members.specs.declared.message.MsgOut.{MsgOut}

pub body_of : (made : told.Result (List ℕ) MsgOut) (text : List ℕ) → 1 ≤ length text → IfOk made (λ bytes. bytes ≡ text) → IfOk made (λ bytes. length bytes ≤ MAX_BODY) → IfOk made IsBody
body_of (told.Ok bytes) text some is fits = (subst (λ found. 1 ≤ length found) (sym is) some, fits)
body_of (told.Err error) text some is fits = tt
