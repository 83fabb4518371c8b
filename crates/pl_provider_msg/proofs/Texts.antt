-- What is written for a message's value is the message's text.
use Rattle.std.proofs.Common.{◌≡◌, ◌≤◌, ℕ, List, [], ◌∷◌, length, map, Option, Some, None, IfOk, false, refl, sym, ap, subst, ◌∙◌, arith}
use Rattle.serde_json.specs.Data.{Data}
use Rattle.serde_json.specs.View.{items_of}
use Rattle.serde_json.specs.Written.{compact_text, has_float, items_have_float}
use Rattle.pl_json.proofs.NoFloat.{has_float-spelled_members}
use Rattle.pl_events.specs.declared.operation.Ask.{Ask}
use Rattle.pl_events.specs.declared.operation.Ask.TheVariants as ask
use Rattle.pl_events.specs.declared.operation.Call.{Call}
use Rattle.pl_events.specs.declared.operation.Call.TheVariants as call
use Rattle.pl_events.specs.declared.reply.Reply.{Reply}
use Rattle.pl_events.specs.declared.reply.Reply.TheVariants.{Checked, CheckFailed, Configured, Diffed, Made, MadePartly, Changed, ChangedPartly, Removed, Found, Gone, Result, Error}
use Rattle.pl_json.proofs.Objects.{items-whole}
use Rattle.pl_members.specs.Field.{Pairs}
use Rattle.pl_provider_msg.specs.Request.{ask_data, ask_text, change_data, check_data, thing_data}
use Rattle.pl_provider_msg.specs.Response.{reason_data, reply_data, reply_text}

-- ---- no message holds a float

check : (asked : Call) (ticket : ℕ) (urn : List ℕ) (inputs : Pairs) (old : Option Pairs) → has_float (check_data asked ticket urn inputs old) ≡ false
check asked ticket urn inputs None = rw (has_float-spelled_members inputs) refl
check asked ticket urn inputs (Some old) = rw (has_float-spelled_members inputs, has_float-spelled_members old) refl

change : (asked : Call) (ticket : ℕ) (urn id : List ℕ) (old_inputs old_outputs inputs : Pairs) → has_float (change_data asked ticket urn id old_inputs old_outputs inputs) ≡ false
change asked ticket urn id old_inputs old_outputs inputs =
    rw (has_float-spelled_members inputs, has_float-spelled_members old_inputs, has_float-spelled_members old_outputs) refl

thing : (asked : Call) (ticket : ℕ) (urn id : List ℕ) (inputs outputs : Pairs) → has_float (thing_data asked ticket urn id inputs outputs) ≡ false
thing asked ticket urn id inputs outputs = rw (has_float-spelled_members inputs, has_float-spelled_members outputs) refl

has_float-ask_data : (ticket : ℕ) (asked : Ask) → has_float (ask_data ticket asked) ≡ false
has_float-ask_data ticket (ask.CheckConfig urn inputs old) = check call.CheckConfig ticket urn inputs old
has_float-ask_data ticket (ask.Configure inputs) = rw (has_float-spelled_members inputs) refl
has_float-ask_data ticket (ask.Check urn inputs old) = check call.Check ticket urn inputs old
has_float-ask_data ticket (ask.Diff urn id old_inputs old_outputs inputs) = change call.Diff ticket urn id old_inputs old_outputs inputs
has_float-ask_data ticket (ask.Create urn inputs) = rw (has_float-spelled_members inputs) refl
has_float-ask_data ticket (ask.Update urn id old_inputs old_outputs inputs) = change call.Update ticket urn id old_inputs old_outputs inputs
has_float-ask_data ticket (ask.Delete urn id inputs outputs) = thing call.Delete ticket urn id inputs outputs
has_float-ask_data ticket (ask.Read urn id inputs outputs) = thing call.Read ticket urn id inputs outputs
has_float-ask_data ticket (ask.Invoke token args) = rw (has_float-spelled_members args) refl

reasons : (found : List (List ℕ × List ℕ)) → items_have_float (items_of (map reason_data found)) ≡ false
reasons [] = refl
reasons (pair ∷ more) = reasons more

has_float-reply_data : (ticket : ℕ) (reply : Reply) → has_float (reply_data ticket reply) ≡ false
has_float-reply_data ticket (Checked inputs) = rw (has_float-spelled_members inputs) refl
has_float-reply_data ticket (CheckFailed told) = rw (reasons told) refl
has_float-reply_data ticket Configured = refl
has_float-reply_data ticket (Diffed told) = rw (items-whole told.replaces) refl
has_float-reply_data ticket (Made id outputs) = rw (has_float-spelled_members outputs) refl
has_float-reply_data ticket (MadePartly id outputs told) = rw (has_float-spelled_members outputs, items-whole told) refl
has_float-reply_data ticket (Changed outputs) = rw (has_float-spelled_members outputs) refl
has_float-reply_data ticket (ChangedPartly outputs told) = rw (has_float-spelled_members outputs, items-whole told) refl
has_float-reply_data ticket Removed = refl
has_float-reply_data ticket (Found id None outputs) = rw (has_float-spelled_members outputs) refl
has_float-reply_data ticket (Found id (Some inputs) outputs) = rw (has_float-spelled_members inputs, has_float-spelled_members outputs) refl
has_float-reply_data ticket Gone = refl
has_float-reply_data ticket (Result fields) = rw (has_float-spelled_members fields) refl
has_float-reply_data ticket (Error text) = refl

-- ---- the text

pub ask_text_from : (ticket : ℕ) (asked : Ask) (value : Data) (text : List ℕ) → value ≡ ask_data ticket asked → (has_float value ≡ false → text ≡ compact_text value) → text ≡ ask_text ticket asked
unfolding ask_text
ask_text_from ticket asked value text is written = written (ap has_float is ∙ has_float-ask_data ticket asked) ∙ ap compact_text is

pub reply_text_from : (ticket : ℕ) (reply : Reply) (value : Data) (text : List ℕ) → value ≡ reply_data ticket reply → (has_float value ≡ false → text ≡ compact_text value) → text ≡ reply_text ticket reply
unfolding reply_text
reply_text_from ticket reply value text is written = written (ap has_float is ∙ has_float-reply_data ticket reply) ∙ ap compact_text is

-- ---- a message is the body of a frame, unless it is too long

pub ask_text-some : (ticket : ℕ) (asked : Ask) → 1 ≤ length (ask_text ticket asked)
unfolding ask_text
ask_text-some ticket (ask.CheckConfig urn inputs old) = omega arith
ask_text-some ticket (ask.Configure inputs) = omega arith
ask_text-some ticket (ask.Check urn inputs old) = omega arith
ask_text-some ticket (ask.Diff urn id old_inputs old_outputs inputs) = omega arith
ask_text-some ticket (ask.Create urn inputs) = omega arith
ask_text-some ticket (ask.Update urn id old_inputs old_outputs inputs) = omega arith
ask_text-some ticket (ask.Delete urn id inputs outputs) = omega arith
ask_text-some ticket (ask.Read urn id inputs outputs) = omega arith
ask_text-some ticket (ask.Invoke token args) = omega arith

pub reply_text-some : (ticket : ℕ) (reply : Reply) → 1 ≤ length (reply_text ticket reply)
unfolding reply_text
reply_text-some ticket (Checked inputs) = omega arith
reply_text-some ticket (CheckFailed told) = omega arith
reply_text-some ticket Configured = omega arith
reply_text-some ticket (Diffed told) = omega arith
reply_text-some ticket (Made id outputs) = omega arith
reply_text-some ticket (MadePartly id outputs told) = omega arith
reply_text-some ticket (Changed outputs) = omega arith
reply_text-some ticket (ChangedPartly outputs told) = omega arith
reply_text-some ticket Removed = omega arith
reply_text-some ticket (Found id inputs outputs) = omega arith
reply_text-some ticket Gone = omega arith
reply_text-some ticket (Result fields) = omega arith
reply_text-some ticket (Error text) = omega arith
