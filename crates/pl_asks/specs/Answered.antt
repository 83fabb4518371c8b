-- What an answer is read from.
use Rattle.std.specs.Prelude.{⊤, ◌≡◌, ℕ, Option, option_and_then}
use Rattle.pl_columns.specs.declared.columns.Columns.{Columns}
use Rattle.pl_events.specs.declared.event.Request.{Request}
use Rattle.pl_events.specs.declared.event.Request.TheVariants.{Register}
use Rattle.pl_model.specs.Entries.{entry_of}
use Rattle.pl_model.specs.Known.{Known}
use Rattle.pl_model.specs.Recording.{recorded_of}
use Rattle.pl_state.specs.declared.entry.Entry.{Entry}

-- the columns tell of the run, of replies, decisions and recorded goals what is known
pub record TellsAnswers (columns : Columns) (known : Known) : Type 0 where
  pub run : known.run ≡ columns.claims.run
  pub answers : known.answers ≡ columns.errands.tickets.answers
  pub decided : known.decided ≡ columns.claims.decided
  pub recorded : recorded_of known.history ≡ columns.records.records.recorded

-- of a registration, the entry is that of the goal that it is about, without outputs that were told of it
abbrev pub IsEntryAbout : Known → Request → Option ℕ → Option Entry → Type 0
IsEntryAbout known (Register n told) about entry = entry ≡ option_and_then (entry_of known) about
IsEntryAbout known _ about entry = ⊤
