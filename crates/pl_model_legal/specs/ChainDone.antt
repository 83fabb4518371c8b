-- The chain that is taken and made anew, to the end of the run: what is left is answered, and the host is done.
use Rattle.std.specs.Prelude.{ℕ, List, [], ◌∷◌, ◌++◌}
use Rattle.pl_events.specs.declared.event.Event.{Event}
use Rattle.pl_model_rows.specs.Pieces.{host_done, posts}
use Rattle.pl_model_rows.specs.TakesChain.{events}

abbrev pub all_events : List Event
all_events = events ++ posts 4 ∷ posts 5 ∷ posts 6 ∷ host_done ∷ []

-- after which events the checkpoint is replaced
abbrev pub marks : List ℕ
marks =
    2 ∷ 9 ∷ 14 ∷ 22 ∷ 23 ∷ 24 ∷ 25 ∷ 26 ∷ 27 ∷ 28 ∷ 30 ∷ 31 ∷ 32 ∷ 33 ∷ 44 ∷ 45 ∷ 46 ∷ 47 ∷ 48 ∷ 49 ∷ []

-- how many entries and how many pending operations the states have there: the stack and its provider stand, the last
-- thing is being updated as the chain is deleted from its end on, the first thing is deleted and made, and then the
-- chain is
abbrev pub texts : List (List ℕ)
texts =
    (7 ∷ 0 ∷ []) ∷ (7 ∷ 0 ∷ []) ∷ (7 ∷ 1 ∷ [])
    ∷ (7 ∷ 2 ∷ []) ∷ (6 ∷ 1 ∷ []) ∷ (6 ∷ 2 ∷ []) ∷ (5 ∷ 1 ∷ []) ∷ (5 ∷ 2 ∷ []) ∷ (4 ∷ 1 ∷ []) ∷ (4 ∷ 0 ∷ [])
    ∷ (4 ∷ 1 ∷ []) ∷ (4 ∷ 0 ∷ []) ∷ (4 ∷ 1 ∷ []) ∷ (4 ∷ 0 ∷ [])
    ∷ (4 ∷ 1 ∷ []) ∷ (5 ∷ 0 ∷ []) ∷ (5 ∷ 1 ∷ []) ∷ (6 ∷ 0 ∷ []) ∷ (6 ∷ 1 ∷ []) ∷ (7 ∷ 0 ∷ []) ∷ []
