-- The events that end a run's history.
use Rattle.std.specs.Prelude.{ℕ, ◌+◌, if◌then◌else◌, List}
use Rattle.pl_events.specs.Closing.{has_host_end, has_stop}
use Rattle.pl_events.specs.declared.event.Event.{Event}
use Rattle.pl_events.specs.declared.event.HostEnd.{HostEnd}
use Rattle.pl_events.specs.declared.event.Stop.{Stop}
use Rattle.pl_events.specs.declared.event.What.TheVariants.{HostGone, Stopped}

abbrev pub stop_event : Stop → Event
stop_event stop = record { seat = 0; what = Stopped stop }

abbrev pub end_event : HostEnd → Event
end_event end = record { seat = 0; what = HostGone end }

-- how many of the two are still to come: the host's end and one stop
abbrev pub closings_left : List Event → ℕ
closings_left history = (if has_host_end history then 0 else 1) + (if has_stop history then 0 else 1)
