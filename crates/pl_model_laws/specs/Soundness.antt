-- The law that the state of an orderly history is sound.
use Rattle.std.specs.Prelude.{◌≡◌, false, List}
use Rattle.pl_sound.specs.Sound.{IsSound}
use Rattle.pl_events.specs.declared.event.Event.{Event}
use Rattle.pl_model.specs.declared.fixed.Fixed.{Fixed}
use Rattle.pl_model.specs.Run.{is_preview, is_refresh}
use Rattle.pl_model.specs.RunData.{IsRun}
use Rattle.pl_model.specs.Legal.{IsOrderly}
use Rattle.pl_model.specs.State.{state_of}

-- the state of every orderly history that records goals or deletes rows is sound, as the one at the start is
abbrev pub StatesSound : Type 0
StatesSound = (run : Fixed) (history : List Event) → IsRun run → is_preview run.mode ≡ false → is_refresh run.mode ≡ false
    → IsOrderly run history → IsSound (state_of run history).entries
