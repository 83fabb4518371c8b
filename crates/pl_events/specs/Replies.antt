-- Which replies a provider may give to a call.
use Rattle.std.specs.Prelude.{ℕ, Bool, true, false, not, ◌&&◌, ◌||◌, Option, None, Some, List}
use Rattle.pl_value.specs.declared.value.Value.{Value}
use Rattle.pl_lemmas.specs.Words.{has_none}
pub use Rattle.pl_state.specs.Formed.{are_shallow}
use Rattle.pl_events.specs.declared.operation.Call.{Call}
use Rattle.pl_events.specs.declared.operation.Call.TheVariants as call
use Rattle.pl_events.specs.declared.reply.Reply.{Reply}
use Rattle.pl_events.specs.declared.reply.Reply.TheVariants.{Checked, CheckFailed, Configured, Diffed, Made, MadePartly, Changed, ChangedPartly, Removed, Found, Gone, Result, Error}

-- whether a reply tells that a call was carried out as it was asked
abbrev pub tells_success : Call → Reply → Bool
tells_success call.CheckConfig (Checked fields) = true
tells_success call.Configure Configured = true
tells_success call.Check (Checked fields) = true
tells_success call.Diff (Diffed diff) = true
tells_success call.Create (Made id outputs) = true
tells_success call.Update (Changed outputs) = true
tells_success call.Delete Removed = true
tells_success call.Read (Found id inputs outputs) = true
tells_success call.Read Gone = true
tells_success call.Invoke (Result fields) = true
tells_success _ _ = false

-- whether a reply tells of something that went wrong, which a reply to the call may
abbrev pub tells_trouble : Call → Reply → Bool
tells_trouble call.CheckConfig (CheckFailed reasons) = true
tells_trouble call.Check (CheckFailed reasons) = true
tells_trouble call.Create (MadePartly id outputs reasons) = true
tells_trouble call.Update (ChangedPartly outputs reasons) = true
tells_trouble _ (Error text) = true
tells_trouble _ _ = false

-- whether a reply is one to the call
abbrev pub is_reply_to_call : Call → Reply → Bool
is_reply_to_call asked reply = tells_success asked reply || tells_trouble asked reply

abbrev pub are_shallow_if_there : Option (List (List ℕ × Value)) → Bool
are_shallow_if_there None = true
are_shallow_if_there (Some fields) = are_shallow fields

-- whether what a reply tells has the form that a message gives it: ids and lists of reasons are not empty, and no value
-- is too deep
abbrev pub is_formed_reply : Reply → Bool
is_formed_reply (Checked fields) = are_shallow fields
is_formed_reply (CheckFailed reasons) = not (has_none reasons)
is_formed_reply (Made id outputs) = not (has_none id) && are_shallow outputs
is_formed_reply (MadePartly id outputs reasons) = not (has_none id) && are_shallow outputs && not (has_none reasons)
is_formed_reply (Changed outputs) = are_shallow outputs
is_formed_reply (ChangedPartly outputs reasons) = are_shallow outputs && not (has_none reasons)
is_formed_reply (Found id inputs outputs) = not (has_none id) && are_shallow_if_there inputs && are_shallow outputs
is_formed_reply (Result fields) = are_shallow fields
is_formed_reply _ = true

-- whether a reply fits a call: it is one to that call, and has the form of one
abbrev pub reply_fits : Call → Reply → Bool
reply_fits asked reply = is_reply_to_call asked reply && is_formed_reply reply
