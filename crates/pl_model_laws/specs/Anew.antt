-- Laws of runs that read everything anew.
use Rattle.std.specs.Prelude.{◌≡◌, ℕ, true, false, List, Some}
use Rattle.pl_sound.specs.Sound.{IsSound}
use Rattle.pl_state.specs.declared.entry.Entry.{Entry}
use Rattle.pl_events.specs.declared.event.Event.{Event}
use Rattle.pl_model.specs.declared.fixed.Fixed.{Fixed}
use Rattle.pl_model.specs.Run.{is_refresh, rows_of}
use Rattle.pl_model.specs.RunData.{IsRun}
use Rattle.pl_model.specs.Due.{IsQuiet, was_read}
use Rattle.pl_model.specs.History.{known_of}
use Rattle.pl_model.specs.Known.{has_problem}
use Rattle.pl_model.specs.Legal.{IsOrderly}
use Rattle.pl_model.specs.Problems.{is_to_read}
use Rattle.pl_model.specs.Rows.{row_at}
use Rattle.pl_model.specs.State.{state_of}
use Rattle.pl_model_laws.specs.Apart.{KeepsApart}

-- the state of every orderly history of such a run is sound, whatever was referred to at the start: what nothing meets is
-- taken out
abbrev pub AnewSound : Type 0
AnewSound = (run : Fixed) (history : List Event) → is_refresh run.mode ≡ true
    → KeepsApart (rows_of run) → IsOrderly run history → IsSound (state_of run history).entries

-- where no problem stands and nothing is out, due or over the limit, every row that is to be read was read
abbrev pub AnewRead : Type 0
AnewRead = (run : Fixed) (history : List Event) (row : ℕ) (entry : Entry) → IsRun run → is_refresh run.mode ≡ true
    → IsOrderly run history
    → has_problem (known_of run history) ≡ false → IsQuiet (known_of run history)
    → row_at (known_of run history) row ≡ Some entry → is_to_read entry ≡ true → was_read (known_of run history) row ≡ true
