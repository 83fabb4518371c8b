-- What a told request changes of the columns.
use Rattle.std.specs.Prelude.{◌≡◌, ◌++◌, ℕ, List}
use Rattle.pl_columns.specs.Read.{known_by}
use Rattle.pl_columns.specs.declared.columns.Columns.{Columns}
use Rattle.pl_decide.specs.declared.problem.Problem.{Problem}
use Rattle.pl_events.specs.declared.event.Request.{Request}
use Rattle.pl_events.specs.declared.event.What.TheVariants.{Told}
use Rattle.pl_model.specs.Problems.{made_problems}
use Rattle.pl_model.specs.Step.{settled}
use Rattle.pl_requests.specs.Column.{IsTold}
use Rattle.pl_told.specs.Column.{Change, made_by, with_change}
use Rattle.pl_troubles.specs.Follows.{with_all}

-- the goals and the request are added, and what follows is decided; after that so many decisions more have their memory
abbrev pub with_told : Change → ℕ → Columns → Columns
with_told change ready columns = record columns {
  requests = with_change change columns.requests;
  claims = record columns.claims {
    decided =
        settled columns.claims.run columns.errands.tickets.answers columns.claims.decided (made_by change ++ columns.requests.goals);
    ready = ready;
  };
}

-- these problems are added too, at this position
abbrev pub told_columns : ℕ → Change → ℕ → List Problem → Columns → Columns
told_columns at change ready problems columns =
    record (with_told change ready columns) { troubles = with_all at problems columns.troubles }

-- columns are those after a told request, at the position of its event
pub record IsToldAt (at : ℕ) (request : Request) (before after : Columns) : Type 0 where
  pub change : Change
  pub ready : ℕ
  pub problems : List Problem
  pub told : IsTold (known_by before) request change
  pub made : problems ≡ made_problems (known_by before) (known_by (with_told change ready before)) (Told request)
  pub columns : after ≡ told_columns at change ready problems before

-- columns tell the same, whatever memory there is for requests and decisions
pub record TellSame (before after : Columns) : Type 0 where
  pub goals : after.requests.goals ≡ before.requests.goals
  pub asked : after.requests.asked ≡ before.requests.asked
  pub errands : after.errands ≡ before.errands
  pub run : after.claims.run ≡ before.claims.run
  pub decided : after.claims.decided ≡ before.claims.decided
  pub records : after.records ≡ before.records
  pub troubles : after.troubles ≡ before.troubles
