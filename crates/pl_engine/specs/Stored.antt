-- How the store and the marks stand to the history while a run goes on.
use Rattle.std.specs.Prelude.{◌≡◌, ◌⊎◌, ◌<◌, ℕ, Bool, true, false, All, AllPairs, Option, None, List, [], ◌∷◌, ◌++◌}
use Rattle.std.specs.List.{list_all}
use Rattle.pl_model.specs.Run.{Spelling}
use Rattle.pl_events.specs.Closing.{has_stop}
use Rattle.pl_events.specs.declared.event.Event.{Event}
use Rattle.pl_events.specs.declared.event.What.{What}
use Rattle.pl_world.specs.Told.{Grew}
use Rattle.pl_components.specs.Run.{Fixed}
use Rattle.pl_components.specs.Entries.{new_entries, state_of}
use Rattle.pl_components.specs.Saves.{AllMarked, IsSaved, IsStory, is_after_save, saves_of}

-- the last save is that of the present state; there is none only where nothing is recorded
abbrev pub IsPresent : Fixed → Spelling → List Event → List ℕ → Type 0
IsPresent run s history marks =
    ((marks ≡ []) × (new_entries run history ≡ []))
    ⊎ ((earlier : List (List ℕ)) × (saves_of run s history marks ≡ earlier ++ s.state_text (state_of run history) ∷ []))

-- before a stop: every event that must be saved has its mark, and the story grew by the saves
pub record IsComplete (run : Fixed) (s : Spelling) (history : List Event) (marks : List ℕ)
    (before now : Option (List (List ℕ))) : Type 0 where
  pub rising : AllPairs (λ earlier later. earlier < later) marks
  pub after_saves : All (λ mark. is_after_save history mark ≡ true) marks
  pub all_marked : AllMarked ⊥ false None history marks
  pub grown : Grew before now (saves_of run s history marks)
  pub present : IsPresent run s history marks

-- the marks and the story as a run leaves them
pub record IsKeptUp (run : Fixed) (s : Spelling) (rose : Type 0) (wanted : Bool) (history : List Event)
    (marks : List ℕ) (before now : Option (List (List ℕ))) : Type 0 where
  pub saved : IsSaved rose wanted history marks
  pub grown : (texts : List (List ℕ)) × Grew before now texts × IsStory run s rose history marks texts

-- how the store stands to the history: complete until a stop stands
pub record Stored (run : Fixed) (s : Spelling) (rose : Type 0) (wanted : Bool) (history : List Event)
    (marks : List ℕ) (before now : Option (List (List ℕ))) : Type 0 where
  pub complete : has_stop history ≡ false → IsComplete run s history marks before now
  pub kept_up : has_stop history ≡ true → IsKeptUp run s rose wanted history marks before now

-- the history grew by events of this kind alone
abbrev pub Adds : (What → Bool) → List Event → List Event → Type 0
Adds kind old new =
    (events : List Event) × (new ≡ events ++ old) × (list_all (λ event. kind event.what) events ≡ true)
