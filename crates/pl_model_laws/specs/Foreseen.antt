-- The law that a preview foresees every goal.
use Rattle.std.specs.Prelude.{◌≡◌, true, false, List}
use Rattle.pl_events.specs.declared.event.Event.{Event}
use Rattle.pl_model.specs.declared.fixed.Fixed.{Fixed}
use Rattle.pl_model.specs.Run.{is_preview}
use Rattle.pl_model.specs.RunData.{IsRun}
use Rattle.pl_model.specs.Due.{IsQuiet}
use Rattle.pl_model.specs.History.{known_of}
use Rattle.pl_model.specs.Known.{all_recorded, has_problem}
use Rattle.pl_model.specs.Legal.{IsOrderly}

-- in a preview too, where no problem stands and nothing is out, due or over the limit, every goal is recorded
abbrev pub PreviewRecorded : Type 0
PreviewRecorded = (run : Fixed) (history : List Event) → IsRun run → is_preview run.mode ≡ true → IsOrderly run history
    → has_problem (known_of run history) ≡ false → IsQuiet (known_of run history)
    → all_recorded (known_of run history) ≡ true
