-- The request that a message's own texts stand for; for private clauses.
use Rattle.std.specs.Prelude.{option_map}
use Rattle.pl_state.specs.Component.{plain_registration}
use Rattle.pl_events.specs.declared.event.Request.{Request}
use Rattle.pl_events.specs.declared.event.Request.TheVariants.{Register}
use Rattle.pl_host_msg.specs.declared.register.Told.{Told}

abbrev pub request_from : Told → Request
request_from told = Register told.n (plain_registration told.kind.now told.name.now (option_map (λ text. text.now) told.parent))
