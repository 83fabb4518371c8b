-- Laws on how much work is left: less with each piece of work, and never more but by what is told.
use Rattle.std.specs.Prelude.{◌≡◌, ◌<◌, ◌≤◌, Bool, true, false, List, ◌∷◌}
use Rattle.pl_events.specs.declared.event.Event.{Event}
use Rattle.pl_events.specs.declared.event.What.{What}
use Rattle.pl_events.specs.declared.event.What.TheVariants.{Told, Begun, Kept, Dropped, Cleared, Posted}
use Rattle.pl_model.specs.declared.fixed.Fixed.{Fixed}
use Rattle.pl_model.specs.History.{known_of}
use Rattle.pl_model.specs.Left.{left_of}
use Rattle.pl_model.specs.Legal.{IsOrderly}

-- whether an event is a piece of work
abbrev pub is_work : What → Bool
is_work (Begun ticket lane about) = true
is_work (Kept number fresh) = true
is_work (Dropped row) = true
is_work (Cleared at) = true
is_work (Posted n) = true
is_work _ = false

abbrev pub is_told : What → Bool
is_told (Told request) = true
is_told _ = false

-- with each piece of work less is left
abbrev pub LeftFalls : Type 0
LeftFalls = (run : Fixed) (event : Event) (past : List Event)
    → 0 < run.parallel → IsOrderly run (event ∷ past) → is_work event.what ≡ true
    → left_of (known_of run (event ∷ past)) < left_of (known_of run past)

-- and no more is left with an event that tells no request
abbrev pub LeftStays : Type 0
LeftStays = (run : Fixed) (event : Event) (past : List Event) → is_told event.what ≡ false
    → left_of (known_of run (event ∷ past)) ≤ left_of (known_of run past)
