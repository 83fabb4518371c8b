-- Laws on URNs: that goals, and what is to stay in a state, have URNs of their own.
use Rattle.std.specs.Prelude.{◌≡◌, ◌≢◌, ℕ, false, Some, List, AllPairs}
use Rattle.pl_state.specs.declared.entry.Entry.{Entry}
use Rattle.pl_state.specs.declared.goal.Goal.{Goal}
use Rattle.pl_events.specs.declared.event.Event.{Event}
use Rattle.pl_model.specs.declared.fixed.Fixed.{Fixed}
use Rattle.pl_model.specs.Run.{HasNames, is_preview, is_refresh, rows_of}
use Rattle.pl_model.specs.Entries.{turnings}
use Rattle.pl_model.specs.History.{known_of}
use Rattle.pl_model.specs.Known.{goal_at}
use Rattle.pl_model.specs.Legal.{IsOrderly}
use Rattle.pl_model.specs.State.{state_of}

-- no two goals of an orderly history have the same URN
abbrev pub GoalsApart : Type 0
GoalsApart = (run : Fixed) (history : List Event) (one other : ℕ) (first second : Goal)
    → HasNames run → IsOrderly run history
    → goal_at (known_of run history) one ≡ Some first → goal_at (known_of run history) other ≡ Some second
    → first.urn ≡ second.urn → one ≡ other

-- of two rows that are not to be deleted, each has a URN of its own
abbrev pub AreApart : Entry → Entry → Type 0
AreApart one other = one.doomed ≡ false → other.doomed ≡ false → one.urn ≢ other.urn

-- no two rows that are not to be deleted have the same URN
abbrev pub KeepsApart : List Entry → Type 0
KeepsApart rows = AllPairs AreApart rows

-- where this holds of the state at the start, it holds of the state of every orderly history that records goals or deletes
-- rows; a preview, which waits for no row to go, may plan two rows of one URN
abbrev pub StatesApart : Type 0
StatesApart = (run : Fixed) (history : List Event)
    → HasNames run → is_preview run.mode ≡ false → is_refresh run.mode ≡ false
    → KeepsApart (rows_of run) → IsOrderly run history → KeepsApart (state_of run history).entries

-- there too, no URN that one alias made is turned by another: of two goals that turned the URN of their claims into their
-- own, the one that was recorded later turned another URN than that of the earlier
abbrev pub TurnedOnce : Type 0
TurnedOnce = (run : Fixed) (history : List Event) → is_preview run.mode ≡ false
    → KeepsApart (rows_of run) → IsOrderly run history
    → AllPairs (λ earlier later. earlier.new ≢ later.old) (turnings (known_of run history))
