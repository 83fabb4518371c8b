-- What the events record: entries, and the state of a history.
use Rattle.std.specs.Prelude.{ℕ, ◌==◌, Bool, not, if◌then◌else◌, Option, Some, None, List, [], ◌∷◌, ◌++◌, length, filter}
use Rattle.std.specs.List.{list_any}
use Rattle.std.specs.Str.{bytes_eq}
use Rattle.pl_state.specs.declared.goal.Goal.{Goal}
use Rattle.pl_state.specs.declared.entry.Entry.{Entry}
use Rattle.pl_state.specs.declared.snapshot.Snapshot.{Snapshot}
use Rattle.pl_state.specs.Component.{component_entry}
use Rattle.pl_events.specs.declared.event.Event.{Event}
use Rattle.pl_events.specs.declared.event.What.{What}
use Rattle.pl_events.specs.declared.event.What.TheVariants.{Told, Kept}
use Rattle.pl_components.specs.Run.{Fixed, state_with}
use Rattle.pl_components.specs.Problems.{has_problem}
use Rattle.pl_components.specs.Requests.{goals_of, goal_at}

-- the entry of a component's goal
abbrev pub entry_of : Goal → Entry
entry_of goal = component_entry goal.urn goal.kind goal.parent

-- the entry of a goal, if there is such a goal
abbrev pub entry_if : Option Goal → List Entry
entry_if None = []
entry_if (Some goal) = entry_of goal ∷ []

-- the recorded entries after an event: a kept goal's entry comes last
abbrev pub entries_after : What → List Goal → List Entry → List Entry
entries_after (Kept goal _) goals entries = entries ++ entry_if (goal_at goals goal)
entries_after _ goals entries = entries

-- the recorded entries, in order of recording
abbrev pub new_entries : Fixed → List Event → List Entry
new_entries run [] = []
new_entries run (event ∷ past) = entries_after event.what (goals_of run past) (new_entries run past)

-- the state of a history
abbrev pub state_of : Fixed → List Event → Snapshot
state_of run history = state_with run (new_entries run history)

-- whether an entry of this URN is recorded
abbrev pub has_entry : List Entry → List ℕ → Bool
has_entry entries urn = list_any (λ entry. bytes_eq entry.urn urn) entries

-- the numbers of the goals that are not recorded after an event
abbrev pub unrecorded_after : What → Bool → List Goal → List ℕ → List ℕ
unrecorded_after (Told _) halted goals unrecorded = if halted then unrecorded else length goals ∷ unrecorded
unrecorded_after (Kept goal _) halted goals unrecorded = filter (λ number. not (number == goal)) unrecorded
unrecorded_after _ halted goals unrecorded = unrecorded

-- the numbers of the goals that are not recorded yet, newest first
abbrev pub unrecorded_of : Fixed → List Event → List ℕ
unrecorded_of run [] = []
unrecorded_of run (event ∷ past) =
    unrecorded_after event.what (has_problem past) (goals_of run past) (unrecorded_of run past)

abbrev pub is_unrecorded : List ℕ → ℕ → Bool
is_unrecorded unrecorded goal = list_any (λ number. number == goal) unrecorded
