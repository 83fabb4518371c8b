-- How what was written grows.
use Rattle.std.proofs.Common.{◌≡◌, ℕ, ◌+◌, ◌≤◌, List, length, take, drop, sym, subst, arith, Option, Err, length-drop}
use Rattle.std.proofs.Math.Seq.{take-add}
use Rattle.pl_world.specs.declared.trouble.Trouble.{Trouble}
use Rattle.pl_world.specs.declared.trouble.Trouble.TheVariants.{Failed, OutOfMemory}
use Rattle.pl_world.specs.Causes.{OnFailed, OnNoMemory}
use Rattle.pl_world.specs.Told.{Grew, GrewByPart}
use Rattle.pl_world.proofs.Telling.{Grew-append}

-- after the first bytes went, the next ones are the first of the rest
pub Grew-next : (first second third : Option (List ℕ)) (sent count : ℕ) (bytes : List ℕ)
    → Grew first second (take sent bytes) → Grew second third (take count (drop sent bytes)) → Grew first third (take (sent + count) bytes)
Grew-next first second third sent count bytes before after =
    subst (λ (written : List ℕ). Grew first third written) (sym (take-add sent count bytes))
    (Grew-append first second third (take sent bytes) (take count (drop sent bytes)) before after)

-- what a write that went wrong leaves written, after the first bytes went
pub GrewByPart-after_error : (trouble : Trouble) (first second third : Option (List ℕ)) (sent : ℕ) (bytes : List ℕ) → sent ≤ length bytes
    → Grew first second (take sent bytes) → OnFailed {T = ℕ} (Err trouble) (GrewByPart second third (drop sent bytes))
    → OnNoMemory {T = ℕ} (Err trouble) (third ≡ second) → GrewByPart first third bytes
GrewByPart-after_error Failed first second third sent bytes within before part same = (
  sent + part.0,
  omega (arith, length-drop sent bytes, part.1),
  Grew-next first second third sent part.0 bytes before part.2,
)
GrewByPart-after_error OutOfMemory first second third sent bytes within before part same =
    (sent, within, subst (λ (written : Option (List ℕ)). Grew first written (take sent bytes)) (sym same) before)
