use Rattle.std.specs.Prelude.{Bool, true, false, ◌||◌, List, [], ◌∷◌}
use Rattle.pl_events.specs.declared.event.Event.{Event}
use Rattle.pl_events.specs.declared.event.What.{What}
use Rattle.pl_events.specs.declared.event.What.TheVariants.{HostGone, Stopped}

-- whether the event is the host's end
abbrev pub is_host_end : What → Bool
is_host_end (HostGone _) = true
is_host_end _ = false

-- whether the event is a stop
abbrev pub is_stop : What → Bool
is_stop (Stopped _) = true
is_stop _ = false

-- whether the host's end stands in the history
abbrev pub has_host_end : List Event → Bool
has_host_end [] = false
has_host_end (event ∷ past) = is_host_end event.what || has_host_end past

-- whether a stop stands in the history
abbrev pub has_stop : List Event → Bool
has_stop [] = false
has_stop (event ∷ past) = is_stop event.what || has_stop past
