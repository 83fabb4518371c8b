-- Runs of components as the whole definitions see them.
use Rattle.std.specs.Prelude.{ℕ, Bool, false, ◌&&◌, ◌||◌, None, List, []}
use Rattle.pl_urn.specs.Grammar.{IsScope}
use Rattle.pl_events.specs.declared.event.Event.{Event}
use Rattle.pl_events.specs.declared.event.Request.{Request}
use Rattle.pl_events.specs.declared.event.Request.TheVariants.{Register}
use Rattle.pl_model.specs.declared.mode.Mode.TheVariants.{Up}
use Rattle.pl_model.specs.declared.fixed.Fixed as model
use Rattle.pl_model.specs.Run.{Spelling}
use Rattle.pl_model.specs.Known.{Known, has_problem}
use Rattle.pl_model.specs.Legal.{may_be_next}
use Rattle.pl_components.specs.Run.{Fixed, state_with}
use Rattle.pl_components.specs.Requests.{is_acceptable}
use Rattle.pl_components.specs.Legal.{IsLegal}

-- the fixed data of a run of components: it goes up from a state without entries, without limits
abbrev pub whole : Fixed → ℕ → model.Fixed
whole run parallel = record {
  base = state_with run [];
  mode = Up;
  limits = record { only = None; plan = None };
  parallel = parallel;
  stack = run.stack;
  project = run.project;
}

-- a history that a run of components may have: its stack and project have names, and it is legal
pub record IsComponentRun (run : Fixed) (spelling : Spelling) (history : List Event) : Type 0 where
  pub stack : IsScope run.stack
  pub project : IsScope run.project
  pub legal : IsLegal run spelling history

-- the names and the unread fields of a run, as the definitions of components have them
abbrev pub names_of : Known → Fixed
names_of known = record {
  stack = known.run.stack;
  project = known.run.project;
  name = known.run.base.stack;
  rest = known.run.base.rest;
}

-- whether a request may stand by its form: a registration that a problem halts, or one that is acceptable
abbrev pub is_form_built : Known → Request → Bool
is_form_built known (Register n told) = has_problem known || is_acceptable (names_of known) known.goals told
is_form_built known _ = false

-- whether a request may come next and is of a form that a run of components serves
abbrev pub is_built : Known → Request → Bool
is_built known request = may_be_next known request && is_form_built known request
