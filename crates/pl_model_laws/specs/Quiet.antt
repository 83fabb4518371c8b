-- The law that nothing waits in a circle: where nothing is out, due or over the limit, everything is done.
use Rattle.std.specs.Prelude.{◌≡◌, ℕ, true, false, List}
use Rattle.pl_events.specs.declared.event.Event.{Event}
use Rattle.pl_model.specs.declared.fixed.Fixed.{Fixed}
use Rattle.pl_model.specs.Run.{is_preview, is_refresh}
use Rattle.pl_model.specs.RunData.{IsRun}
use Rattle.pl_model.specs.Due.{IsQuiet}
use Rattle.pl_model.specs.History.{known_of}
use Rattle.pl_model.specs.Known.{Known, all_recorded, has_problem, host_ended}
use Rattle.pl_model.specs.Legal.{IsOrderly}
use Rattle.pl_model.specs.Rows.{is_doomed}

-- every goal is recorded, and no row is to be deleted
pub record IsAllDone (known : Known) : Type 0 where
  pub recorded : all_recorded known ≡ true
  pub none_doomed : (row : ℕ) → is_doomed known row ≡ false

-- where the host has ended, no problem stands and nothing is out, due or over the limit, everything is done
abbrev pub QuietIsDone : Type 0
QuietIsDone = (run : Fixed) (history : List Event) → IsRun run → is_preview run.mode ≡ false → is_refresh run.mode ≡ false
    → IsOrderly run history
    → host_ended (known_of run history) ≡ true → has_problem (known_of run history) ≡ false → IsQuiet (known_of run history)
    → IsAllDone (known_of run history)
