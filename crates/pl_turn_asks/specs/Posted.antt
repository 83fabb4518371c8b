-- What the answer of a post is read from.
use Rattle.std.specs.Prelude.{⊤, ◌≡◌, ℕ, Option, None, Some}
use Rattle.pl_asks.specs.Answered.{IsEntryAbout, TellsAnswers}
use Rattle.pl_columns.specs.declared.columns.Columns.{Columns}
use Rattle.pl_model.specs.Known.{Known, asked_at}
use Rattle.pl_model.specs.declared.heard.Heard.{Heard}
use Rattle.pl_state.specs.declared.entry.Entry.{Entry}

-- the columns tell what is known of told requests, of problems, and of what answers are read from
pub record TellsPosts (columns : Columns) (known : Known) : Type 0 where
  pub asked : known.asked ≡ columns.requests.asked
  pub problems : known.problems ≡ columns.troubles
  pub answers : TellsAnswers columns known

-- of a registration that was told, the entry is that of the goal that it is about, without outputs that were told of it
abbrev pub IsEntryAsked : Known → Option Heard → Option Entry → Type 0
IsEntryAsked known None entry = ⊤
IsEntryAsked known (Some asked) entry = IsEntryAbout known asked.request asked.about entry

-- the same by the number of the request
abbrev pub IsEntryOf : Known → ℕ → Option Entry → Type 0
IsEntryOf known n entry = IsEntryAsked known (asked_at known n) entry
