-- How a registration is judged by the entries that the state has.
use Rattle.std.specs.Prelude.{◌≡◌, ◌&&◌, not, Bool, is_none, List}
use Rattle.pl_urn.specs.Grammar.{child_fault}
use Rattle.pl_state.specs.declared.entry.Entry.{Entry}
use Rattle.pl_state.specs.declared.goal.Goal.{Goal}
use Rattle.pl_state.specs.Component.{is_plain}
use Rattle.pl_state.specs.declared.goal.Registration.{Registration}
use Rattle.pl_components.specs.Run.{Fixed}
use Rattle.pl_components.specs.Requests.{goal_for}
use Rattle.pl_components.specs.Entries.{entry_of, has_entry}
use Rattle.pl_components.specs.Due.{parent_stands}
use Rattle.pl_engine.specs.declared.judge.Placed.{Placed}

-- whether a registration may be accepted where these entries are recorded
abbrev pub is_placeable : Fixed → List Entry → Registration → Bool
is_placeable run entries told =
    is_plain told && is_none (child_fault told.kind told.name)
    && (parent_stands entries told.parent && not (has_entry entries (goal_for run told).urn))

-- what is made for a goal
pub record IsPlacedFor (goal : Goal) (placed : Placed) : Type 0 where
  pub entry : placed.entry ≡ entry_of goal
  pub urn : placed.urn ≡ goal.urn
