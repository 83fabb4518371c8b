-- How goals and told requests are kept, where the newest request may be taken back.
use Rattle.std.specs.Prelude.{◌≡◌, ◌<◌, true, Option, None, Some, is_some, List, [], ◌∷◌, ◌++◌, length, option_map}
use Rattle.pl_model.specs.declared.heard.Heard.{Heard}
use Rattle.pl_state.specs.declared.goal.Goal.{Goal}
use Rattle.pl_told.specs.declared.requests.Requests.TheInside.{Inside}
use Rattle.pl_told.specs.Column.{Change, Kept, made_by}

-- the goals that the newest request makes
abbrev pub newest_goals : Option Change → List Goal
newest_goals None = []
newest_goals (Some change) = made_by change

-- the newest request with its fate
abbrev pub newest_asked : Option Change → List Heard
newest_asked None = []
newest_asked (Some change) = change.heard ∷ []

abbrev pub kept_by : Inside → Kept
kept_by inside = record {
  goals = newest_goals inside.newest ++ inside.stored.goals;
  asked = newest_asked inside.newest ++ inside.stored.asked;
  ready = inside.ready;
  newest = option_map (λ change. length (made_by change)) inside.newest;
}

-- there is memory for one more request, and for the newest one while it may be taken back, but not for both
pub record IsKept (inside : Inside) : Type 0 where
  pub alone : inside.ready ≡ true → inside.newest ≡ None
  pub ready : inside.ready ≡ true → 0 < inside.stored.room
  pub newest : is_some inside.newest ≡ true → 0 < inside.stored.room
