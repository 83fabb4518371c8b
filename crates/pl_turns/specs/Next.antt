-- The next goal that is not decided: its turn, and what is decided of it.
use Rattle.std.specs.Prelude.{◌≡◌, ◌++◌, List, Option, option_and_then}
use Rattle.pl_claims.specs.Columns.{Kept as KeptClaims}
use Rattle.pl_errands.specs.Tickets.{Kept as KeptErrands}
use Rattle.pl_requests.specs.Column.{Kept as KeptRequests}
use Rattle.pl_model.specs.Decisions.{Turn, decided_at, turn_in}
use Rattle.pl_model.specs.Step.{settled}
use Rattle.pl_model.specs.declared.decided.Decided.{Decided}

-- the turn of the first goal that is not decided
abbrev pub next_turn : KeptRequests → KeptErrands → KeptClaims → Option Turn
next_turn requests errands claims = turn_in claims.run errands.tickets.answers requests.goals claims.decided

-- what is decided of that goal, once the replies reach so far
abbrev pub next_decided : KeptRequests → KeptErrands → KeptClaims → Option Decided
next_decided requests errands claims = option_and_then decided_at (next_turn requests errands claims)

-- what is decided, once all is that the replies reach
abbrev pub all_settled : KeptRequests → KeptErrands → KeptClaims → List Decided
all_settled requests errands claims = settled claims.run errands.tickets.answers claims.decided requests.goals

-- there are more decisions than before, and the older ones are those
abbrev pub Extends : List Decided → List Decided → Type 0
Extends older newer = (made : List Decided) × (newer ≡ made ++ older)
