-- What a provider replies, as it is written and as it is read.
use Rattle.std.specs.Prelude.{ℕ, ◌==◌, List, [], ◌∷◌, ◌++◌, map, codes, Bool, true, false, if◌then◌else◌, Option, Some, None, option_map, option_and_then}
use Rattle.serde_json.specs.Data.{Data, boolean, number, unsigned, string, array}
use Rattle.serde_json.specs.Find.{get, as_bool, as_object, as_str}
use Rattle.serde_json.specs.View.{items_of}
use Rattle.serde_json.specs.Written.{compact_text}
use Rattle.pl_json.specs.Spelled.{spelled_fields}
use Rattle.pl_state.specs.declared.goal.Diffed.{Diffed}
use Rattle.pl_events.specs.declared.operation.Call.{Call}
use Rattle.pl_events.specs.declared.operation.Call.TheVariants as call
use Rattle.pl_events.specs.declared.reply.Reply.{Reply}
use Rattle.pl_events.specs.declared.reply.Reply.TheVariants.{Checked, CheckFailed, Configured, Diffed as Compared, Made, MadePartly, Changed, ChangedPartly, Removed, Found, Gone, Result, Error}
use Rattle.pl_json.specs.Texts.{json_of}
use Rattle.pl_members.specs.Field.{◌>>=◌, Pairs, flag_or, nonempty_text, pairs, pairs_if_there, present, some_texts, text, texts_or_none, whole}
use Rattle.pl_provider_msg.specs.Reasons.{some_reasons}
use Rattle.pl_provider_msg.specs.Request.{object_of}
use Rattle.pl_provider_msg.specs.Words.{changes_named, changes_word}

-- ---- written

-- texts as an array
abbrev pub texts_data : List (List ℕ) → Data
texts_data texts = array (items_of (map string texts))

-- a property and the reason for which its value is refused
abbrev pub reason_data : List ℕ × List ℕ → Data
reason_data pair = object_of ((codes "property", string pair.0) ∷ (codes "reason", string pair.1) ∷ [])

-- the reply with this object of success
abbrev pub ok_data : ℕ → Data → Data
ok_data ticket ok = object_of ((codes "n", number (unsigned ticket)) ∷ (codes "ok", ok) ∷ [])

-- the reply of what was done in part
abbrev pub partial_data : ℕ → Data → Data
partial_data ticket partial = object_of ((codes "n", number (unsigned ticket)) ∷ (codes "partial", partial) ∷ [])

-- what differs
abbrev pub compared_data : Diffed → Data
compared_data told =
    object_of (
    (codes "changes", string (changes_word told.changes))
    ∷ (codes "delete_before_replace", boolean told.delete_before_replace)
    ∷ (codes "replaces", texts_data told.replaces)
    ∷ [])

-- the member of the inputs, which is left out where there are none
abbrev pub inputs_if_some : Option Pairs → List (List ℕ × Data)
inputs_if_some None = []
inputs_if_some (Some inputs) = (codes "inputs", spelled_fields inputs) ∷ []

-- the JSON value of the reply under a ticket
abbrev pub reply_data : ℕ → Reply → Data
reply_data ticket (Checked inputs) = ok_data ticket (object_of ((codes "inputs", spelled_fields inputs) ∷ []))
reply_data ticket (CheckFailed reasons) =
    object_of ((codes "failures", array (items_of (map reason_data reasons))) ∷ (codes "n", number (unsigned ticket)) ∷ [])
reply_data ticket Configured = ok_data ticket (object_of [])
reply_data ticket (Compared told) = ok_data ticket (compared_data told)
reply_data ticket (Made id outputs) =
    ok_data ticket (object_of ((codes "id", string id) ∷ (codes "outputs", spelled_fields outputs) ∷ []))
reply_data ticket (MadePartly id outputs reasons) =
    partial_data ticket (object_of (
    (codes "id", string id) ∷ (codes "outputs", spelled_fields outputs) ∷ (codes "reasons", texts_data reasons) ∷ []))
reply_data ticket (Changed outputs) = ok_data ticket (object_of ((codes "outputs", spelled_fields outputs) ∷ []))
reply_data ticket (ChangedPartly outputs reasons) =
    partial_data ticket (object_of ((codes "outputs", spelled_fields outputs) ∷ (codes "reasons", texts_data reasons) ∷ []))
reply_data ticket Removed = ok_data ticket (object_of [])
reply_data ticket (Found id inputs outputs) =
    ok_data ticket (object_of (
    (codes "id", string id) ∷ (inputs_if_some inputs ++ (codes "outputs", spelled_fields outputs) ∷ [])))
reply_data ticket Gone = object_of ((codes "gone", boolean true) ∷ (codes "n", number (unsigned ticket)) ∷ [])
reply_data ticket (Result fields) = ok_data ticket (object_of ((codes "result", spelled_fields fields) ∷ []))
reply_data ticket (Error text) = object_of ((codes "error", string text) ∷ (codes "n", number (unsigned ticket)) ∷ [])

-- the bytes of the reply under a ticket
unfoldable pub reply_text : ℕ → Reply → List ℕ
reply_text ticket reply = compact_text (reply_data ticket reply)

-- ---- read: objects of success

-- what differs
unfoldable pub compared_of : Data → Option Reply
compared_of ok = do
  word ← text (get (codes "changes") ok)
  changes ← changes_named word
  replaces ← texts_or_none (present (codes "replaces") ok)
  first ← flag_or false (present (codes "delete_before_replace") ok)
  Some (Compared (record { changes = changes; replaces = replaces; delete_before_replace = first }))

-- a thing that was made
unfoldable pub made_of : Data → Option Reply
made_of ok = do
  id ← nonempty_text (get (codes "id") ok)
  outputs ← pairs (get (codes "outputs") ok)
  Some (Made id outputs)

-- a thing that is there
unfoldable pub found_of : Data → Option Reply
found_of ok = do
  id ← nonempty_text (get (codes "id") ok)
  inputs ← pairs_if_there (present (codes "inputs") ok)
  outputs ← pairs (get (codes "outputs") ok)
  Some (Found id inputs outputs)

-- inputs that were checked
abbrev pub checked_of : Data → Option Reply
checked_of ok = option_map Checked (pairs (get (codes "inputs") ok))

-- a thing that was changed
abbrev pub changed_of : Data → Option Reply
changed_of ok = option_map Changed (pairs (get (codes "outputs") ok))

-- what a token gave
abbrev pub result_of : Data → Option Reply
result_of ok = option_map Result (pairs (get (codes "result") ok))

-- the reply, where there is an object, whatever it holds
abbrev pub done_of : Reply → Data → Option Reply
done_of reply ok = option_map (λ _. reply) (as_object ok)

-- what an object of success tells of a call
abbrev pub success_of : Call → Data → Option Reply
success_of call.CheckConfig ok = checked_of ok
success_of call.Configure ok = done_of Configured ok
success_of call.Check ok = checked_of ok
success_of call.Diff ok = compared_of ok
success_of call.Create ok = made_of ok
success_of call.Update ok = changed_of ok
success_of call.Delete ok = done_of Removed ok
success_of call.Read ok = found_of ok
success_of call.Invoke ok = result_of ok

-- ---- the other replies

-- a refusal, by its text
abbrev pub error_of : Data → Option Reply
error_of error = option_map Error (as_str error)

-- inputs that are refused
abbrev pub failures_of : Call → Data → Option Reply
failures_of call.CheckConfig failures = option_map CheckFailed (some_reasons failures)
failures_of call.Check failures = option_map CheckFailed (some_reasons failures)
failures_of _ failures = None

-- a thing that was made, about which something failed
unfoldable pub made_partly_of : Data → Option Reply
made_partly_of partial = do
  id ← nonempty_text (get (codes "id") partial)
  outputs ← pairs (get (codes "outputs") partial)
  reasons ← some_texts (get (codes "reasons") partial)
  Some (MadePartly id outputs reasons)

-- a thing that was changed, about which something failed
unfoldable pub changed_partly_of : Data → Option Reply
changed_partly_of partial = do
  outputs ← pairs (get (codes "outputs") partial)
  reasons ← some_texts (get (codes "reasons") partial)
  Some (ChangedPartly outputs reasons)

-- what was done in part
abbrev pub partial_of : Call → Data → Option Reply
partial_of call.Create partial = made_partly_of partial
partial_of call.Update partial = changed_partly_of partial
partial_of _ partial = None

-- no thing is there where the flag is set
abbrev pub gone_if : Bool → Option Reply
gone_if true = Some Gone
gone_if false = None

-- a thing that is not there
abbrev pub gone_of : Call → Data → Option Reply
gone_of call.Read gone = option_and_then gone_if (as_bool gone)
gone_of _ gone = None

-- ---- the reply

-- the reply by what stands under `ok`, `error`, `failures`, `partial` and `gone`, of which just one is there
abbrev pub reply_by : Call → Option Data → Option Data → Option Data → Option Data → Option Data → Option Reply
reply_by asked (Some ok) None None None None = success_of asked ok
reply_by asked None (Some error) None None None = error_of error
reply_by asked None None (Some failures) None None = failures_of asked failures
reply_by asked None None None (Some partial) None = partial_of asked partial
reply_by asked None None None None (Some gone) = gone_of asked gone
reply_by asked _ _ _ _ _ = None

-- the reply to a call that a message spells, whatever its ticket
unfoldable pub reply_called : Call → Data → Option Reply
reply_called asked message =
    reply_by asked (get (codes "ok") message) (get (codes "error") message) (get (codes "failures") message)
    (get (codes "partial") message) (get (codes "gone") message)

-- the reply to a call that a message spells under a ticket
unfoldable pub reply_read : ℕ → Call → Data → Option Reply
reply_read ticket asked message = do
  n ← whole (get (codes "n") message)
  if n == ticket then reply_called asked message else None

-- the reply to a call that the bytes spell under a ticket; `None` where they are no reply
unfoldable pub reply_in : ℕ → Call → List ℕ → Option Reply
reply_in ticket asked bytes = option_and_then (reply_read ticket asked) (json_of bytes)
