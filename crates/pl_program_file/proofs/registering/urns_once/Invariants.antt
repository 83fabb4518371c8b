use Rattle.std.proofs.Common.{◌≡◌, drop}
use Rattle.std.specs.List.{filter_map, fold}
use Rattle.pl_program_file.specs.Registered.{urn_at, urns_once, with_once}
use Rattle.pl_program_file.proofs.registering.urns_once.Given as goal

-- the rest is added to those that were met
abbrev pub invariant-loop-name : goal.invariant-loop-name
invariant-loop-name l = urns_once l.known l.names ≡ fold with_once l.urns (filter_map (urn_at l.known) (drop l.name-index l.names))
