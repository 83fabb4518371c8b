-- The rows that recorded goals claim: each was to stay at the start, and no other goal claims it.
use Rattle.std.specs.Prelude.{◌≡◌, ℕ, true, false, Some, List}
use Rattle.pl_events.specs.declared.event.Event.{Event}
use Rattle.pl_lemmas.specs.Words.{some_passes}
use Rattle.pl_model.specs.declared.fixed.Fixed.{Fixed}
use Rattle.pl_model.specs.Claims.{claimer_of}
use Rattle.pl_model.specs.History.{known_of}
use Rattle.pl_model.specs.Known.{Known, claim_of, is_recorded}
use Rattle.pl_model.specs.Legal.{IsOrderly}
use Rattle.pl_model.specs.Recording.{recorded_of}
use Rattle.pl_model.specs.Rows.{row_at}
use Rattle.pl_columns.specs.Read.{known_by}
use Rattle.pl_columns.specs.declared.columns.Columns.{Columns}

-- what a recorded goal claims is a row that was not to be deleted at the start, and the goal is the one that claims it
pub record AreKeepers (known : Known) : Type 0 where
  pub stays : (goal row : ℕ) → is_recorded known goal ≡ true → claim_of known goal ≡ Some row
      → some_passes (λ entry. entry.doomed) (row_at known row) ≡ false
  pub own : (goal row : ℕ) → is_recorded known goal ≡ true → claim_of known goal ≡ Some row
      → claimer_of known.decided row ≡ Some goal

-- so it is in every orderly history
abbrev pub ClaimsKeep : Type 0
ClaimsKeep = (run : Fixed) (history : List Event) → IsOrderly run history → AreKeepers (known_of run history)

-- the columns tell the claims as they are known: what the run is over, the replies, the goals, what is decided, and which
-- goals are recorded
pub record TellsClaims (columns : Columns) (known : Known) : Type 0 where
  pub run : known.run ≡ columns.claims.run
  pub answers : known.answers ≡ columns.errands.tickets.answers
  pub goals : known.goals ≡ columns.requests.goals
  pub decided : known.decided ≡ columns.claims.decided
  pub recorded : recorded_of known.history ≡ columns.records.records.recorded

-- so it is in columns that tell the claims of one where it is so
abbrev pub ColumnsKeep : Type 0
ColumnsKeep = (columns : Columns) (known : Known) → TellsClaims columns known → AreKeepers known → AreKeepers (known_by columns)
