-- What of a history's summary is kept in columns.
use Rattle.std.specs.Prelude.{ℕ, None, []}
use Rattle.pl_events.specs.declared.event.What.{What}
use Rattle.pl_model.specs.declared.fixed.Fixed.{Fixed}
use Rattle.pl_model.specs.Step.{Summary, changed}

-- a summary, but for how many events there are, what recorded the goals, and what was opened
abbrev pub kept_of : Summary → Summary
kept_of summary = record summary { count = 0; results = λ number goal one. None; opened = [] }

-- what is kept with an event more, at this position
abbrev pub kept_after : Fixed → ℕ → ℕ → What → Summary → Summary
kept_after run at seat what kept = kept_of (changed run (record kept { count = at }) seat what)
