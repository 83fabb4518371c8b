-- A registration to be varied.
use Rattle.std.specs.Prelude.{ℕ, List, None, codes}
use Rattle.pl_state.specs.Component.{plain_registration}
use Rattle.pl_state.specs.declared.goal.Registration.{Registration}

abbrev pub stack : List ℕ
stack = codes "dev"

abbrev pub project : List ℕ
project = codes "web"

-- the URN of another resource
abbrev pub other : List ℕ
other = codes "urn:pulumi:dev::web::t::o"

-- a reference to a provider
abbrev pub reference : List ℕ
reference = codes "urn:pulumi:dev::web::pulumi:providers:toy::p::1"

-- a registration with nothing but a type and a name
abbrev pub told : Registration
told = plain_registration (codes "toy:index:Thing") (codes "a") None
