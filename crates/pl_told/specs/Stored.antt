-- How goals and told requests are stored that stand for good.
use Rattle.std.specs.Prelude.{◌≡◌, ◌+◌, ◌-◌, ◌*◌, ◌≤◌, ℕ, List, [], ◌∷◌, ◌++◌, length, reverse}
use Rattle.std.specs.HashMap.{spare}
use Rattle.std.specs.Vec.{vec_capacity}
use Rattle.pl_model.specs.Legal.{last_of}
use Rattle.pl_model.specs.declared.heard.Heard.{Heard}
use Rattle.pl_state.specs.declared.goal.Goal.{Goal}
use Rattle.pl_told.specs.declared.stored.Stored.TheInside.{Inside}
use Rattle.pl_told.specs.Column.{Change, made_by}
use Rattle.pl_told.specs.Index.{FindsGoals, FindsRequests}
use Rattle.pl_told.specs.Paths.{HaveAllPaths}

-- goals and told requests, newest first, and for how many requests more there is memory
pub record Standing : Type 0 where
  pub goals : List Goal
  pub asked : List Heard
  pub room : ℕ

abbrev pub nothing_stored : Standing
nothing_stored = record { goals = []; asked = []; room = 0 }

-- what is stored, with a change
abbrev pub stored_with : Change → Standing → Standing
stored_with change stored = record {
  goals = made_by change ++ stored.goals;
  asked = change.heard ∷ stored.asked;
  room = stored.room - 1;
}

abbrev pub stored_by : Inside → Standing
stored_by inside = record {
  goals = reverse inside.goals.items;
  asked = reverse inside.heard.items;
  room = inside.room;
}

-- there is memory for so many requests more, and for two goals of each
pub record HasRoom (inside : Inside) : Type 0 where
  pub goals : length inside.goals.items + 2 * inside.room ≤ vec_capacity inside.goals
  pub numbers : 2 * inside.room ≤ spare inside.numbers
  pub heard : length inside.heard.items + inside.room ≤ vec_capacity inside.heard
  pub places : inside.room ≤ spare inside.places

-- both indexes tell what stands, the last number is that of the newest request, and each path can be read
pub record IsStored (inside : Inside) : Type 0 where
  pub goals : FindsGoals inside.numbers inside.goals.items
  pub requests : FindsRequests inside.places inside.heard.items
  pub last : inside.last ≡ last_of (reverse inside.heard.items)
  pub paths : HaveAllPaths (reverse inside.goals.items)
  pub room : HasRoom inside
