-- The law that the checkpoint covers what changes a thing before it is sent.
use Rattle.std.specs.Prelude.{◌≡◌, ℕ, true, false, List, ◌∷◌}
use Rattle.pl_events.specs.declared.event.Event.{Event}
use Rattle.pl_events.specs.declared.event.What.TheVariants.{Begun}
use Rattle.pl_events.specs.declared.operation.Op.{Op}
use Rattle.pl_model.specs.declared.fixed.Fixed.{Fixed}
use Rattle.pl_model.specs.Run.{is_preview, is_refresh}
use Rattle.pl_model.specs.RunData.{IsRun}
use Rattle.pl_model.specs.Covers.{Covers}
use Rattle.pl_model.specs.Legal.{IsOrderly}
use Rattle.pl_model.specs.Saves.{is_covered}
use Rattle.pl_model.specs.State.{state_of}

-- the state after a creation, an update or a deletion is begun covers it: it is pending there, with its references among
-- the entries, or with the row that goes, without which the others are sound
abbrev pub BegunCovered : Type 0
BegunCovered = (run : Fixed) (event : Event) (past : List Event) (ticket lane : ℕ) (about : Op)
    → IsRun run → is_preview run.mode ≡ false → is_refresh run.mode ≡ false → IsOrderly run (event ∷ past)
    → event.what ≡ Begun ticket lane about → is_covered about ≡ true
    → Covers run past about (state_of run (event ∷ past))
