-- Which requests a host may send, their spelling aside.
use Rattle.std.specs.Prelude.{ℕ, ◌^◌, Bool, true, not, ◌&&◌, nat_lt, Option, None, Some, List}
use Rattle.pl_value.specs.Keys.{are_rising, keys_of}
use Rattle.pl_lemmas.specs.Words.{has_none}
use Rattle.pl_state.specs.Formed.{are_shallow}
use Rattle.pl_state.specs.declared.goal.Registration.{Registration}
use Rattle.pl_events.specs.declared.event.Request.{Request}
use Rattle.pl_events.specs.declared.event.Request.TheVariants.{Register, Outputs, Invoke}

-- whether a request may have this number
abbrev pub is_request_number : ℕ → Bool
is_request_number n = nat_lt 0 n && not (nat_lt (2 ^ 53) n)

-- whether a registration names no id to read, or is that of a custom resource and names one that is not empty
abbrev pub reads_custom : Bool → Option (List ℕ) → Bool
reads_custom custom None = true
reads_custom custom (Some id) = custom && not (has_none id)

-- whether a registration has the form that a message gives it: what it reads, the order of its property dependencies,
-- and the depth of its values
abbrev pub is_formed_registration : Registration → Bool
is_formed_registration told =
    reads_custom told.custom told.read_id && are_rising (keys_of told.property_dependencies) && are_shallow told.inputs

-- whether a request has the form that a message gives it
abbrev pub is_formed_request : Request → Bool
is_formed_request (Register n told) = is_request_number n && is_formed_registration told
is_formed_request (Outputs n urn outputs) = is_request_number n && are_shallow outputs
is_formed_request (Invoke n token args provider version) = is_request_number n && are_shallow args
