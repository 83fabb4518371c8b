-- Where nothing is out, due or over the limit in a preview, every goal is recorded.
use Rattle.std.proofs.Common.{◌≡◌, ◌<◌, true, false, List}
use Rattle.pl_events.specs.declared.event.Event.{Event}
use Rattle.pl_model.specs.declared.fixed.Fixed.{Fixed}
use Rattle.pl_model.specs.Run.{HasNames, is_preview}
use Rattle.pl_model.specs.Due.{IsQuiet}
use Rattle.pl_model.specs.History.{known_of}
use Rattle.pl_model.specs.Known.{all_recorded, has_problem}
use Rattle.pl_model.specs.Legal.{IsOrderly}
use Rattle.pl_model_laws.proofs.Endings.Circling.{everything_foreseen}
use Rattle.pl_model_laws.proofs.Endings.Quieting.{still}

-- a preview records every goal
pub preview-recorded : (run : Fixed) (history : List Event)
    → HasNames run → is_preview run.mode ≡ true
    → 0 < run.parallel → IsOrderly run history
    → has_problem (known_of run history) ≡ false → IsQuiet (known_of run history)
    → all_recorded (known_of run history) ≡ true
preview-recorded run history names previews some orderly calm quiet =
    everything_foreseen run history (still run history names some orderly calm quiet) previews
