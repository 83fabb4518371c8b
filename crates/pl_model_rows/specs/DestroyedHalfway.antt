-- Everything is deleted where a thing's replacement is pending: the thing itself was deleted before.
use Rattle.std.specs.Prelude.{false, List, [], ◌∷◌}
use Rattle.pl_events.specs.declared.event.Event.{Event}
use Rattle.pl_model.specs.declared.fixed.Fixed.{Fixed}
use Rattle.pl_model.specs.declared.mode.Mode.TheVariants.{Destroy, Refresh, Up}
use Rattle.pl_model_rows.specs.Pieces.{drops, host_done, keeps, posts, registers, run_over, stack_told}
use Rattle.pl_model_rows.specs.Resumed.{halfway}

abbrev pub run : Fixed
run = run_over Destroy halfway []

abbrev pub events : List Event
events = drops 2 ∷ drops 1 ∷ drops 0 ∷ []

-- the same state read anew
abbrev pub read_anew : Fixed
read_anew = run_over (Refresh false []) halfway []

-- a program that has the thing no more
abbrev pub without_thing : Fixed
without_thing = run_over Up halfway []

abbrev pub leaving : List Event
leaving = registers 1 stack_told ∷ keeps 0 ∷ posts 1 ∷ host_done ∷ drops 2 ∷ drops 1 ∷ []
