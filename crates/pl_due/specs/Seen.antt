-- What is seen of a run where its work is looked for, and the histories that it tells.
use Rattle.std.specs.Prelude.{◌≡◌, List}
use Rattle.pl_events.specs.declared.event.Event.{Event}
use Rattle.pl_columns.specs.Read.{history_by, known_by}
use Rattle.pl_model.specs.Due.{count_of}
use Rattle.pl_model.specs.Known.{Known}
use Rattle.pl_model.specs.Tickets.{is_lost, lane_source}
use Rattle.pl_model_step.specs.Reads.{KnowsSame, ReadsSame}
use Rattle.pl_due.specs.declared.seen.Seen.{Seen}

-- what the columns tell
abbrev pub known_in : Seen → Known
known_in seen = known_by seen.columns.now

-- what is known after a history, of which the columns tell the rest
abbrev pub known_after : Seen → List Event → Known
known_after seen history = record (known_by seen.columns.now) { history = history }

-- the columns tell the tickets, the lanes and what is to be done after a history, and the count is that of its state,
-- which the columns do not tell
pub record Tells (seen : Seen) (history : List Event) : Type 0 where
  pub reads : ReadsSame history (history_by seen.columns.now)
  pub knows : KnowsSame (known_after seen history) (known_by seen.columns.now)
  pub sources : lane_source history ≡ lane_source (history_by seen.columns.now)
  pub lost : is_lost history ≡ is_lost (history_by seen.columns.now)
  pub count : count_of (known_after seen history) ≡ seen.count
