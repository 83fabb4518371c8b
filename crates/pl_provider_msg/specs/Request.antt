-- What a provider is asked, as it is written and as it is read.
use Rattle.std.specs.Prelude.{ℕ, List, [], ◌∷◌, ◌++◌, codes, Option, Some, None, option_map, option_and_then}
use Rattle.serde_json.specs.Data.{Data, number, unsigned, string, object}
use Rattle.serde_json.specs.Find.{get}
use Rattle.serde_json.specs.Written.{compact_text}
use Rattle.pl_json.specs.Spelled.{members_of, spelled_fields}
use Rattle.pl_events.specs.declared.operation.Ask.{Ask}
use Rattle.pl_events.specs.declared.operation.Ask.TheVariants as ask
use Rattle.pl_events.specs.declared.operation.Call.{Call}
use Rattle.pl_events.specs.declared.operation.Call.TheVariants as call
use Rattle.pl_provider_msg.specs.declared.asked.Changing.{Changing}
use Rattle.pl_provider_msg.specs.declared.asked.Checking.{Checking}
use Rattle.pl_provider_msg.specs.declared.asked.Thing.{Thing}
use Rattle.pl_json.specs.Texts.{json_of}
use Rattle.pl_members.specs.Field.{◌>>=◌, Pairs, pairs, pairs_if_there, text, urn, whole}
use Rattle.pl_provider_msg.specs.Words.{call_named, call_word}

-- ---- written

-- the object with these members, whose names rise
abbrev pub object_of : List (List ℕ × Data) → Data
object_of members = object (members_of members)

-- the member of the old inputs, which is left out where there are none
abbrev pub old_if_some : Option Pairs → List (List ℕ × Data)
old_if_some None = []
old_if_some (Some old) = (codes "old", spelled_fields old) ∷ []

-- the request to check inputs
abbrev pub check_data : Call → ℕ → List ℕ → Pairs → Option Pairs → Data
check_data asked ticket urn inputs old =
    object_of (
    (codes "call", string (call_word asked))
    ∷ (codes "inputs", spelled_fields inputs)
    ∷ (codes "n", number (unsigned ticket))
    ∷ (old_if_some old ++ (codes "urn", string urn) ∷ []))

-- the request to compare with a thing, or to change it
abbrev pub change_data : Call → ℕ → List ℕ → List ℕ → Pairs → Pairs → Pairs → Data
change_data asked ticket urn id old_inputs old_outputs inputs =
    object_of (
    (codes "call", string (call_word asked))
    ∷ (codes "id", string id)
    ∷ (codes "inputs", spelled_fields inputs)
    ∷ (codes "n", number (unsigned ticket))
    ∷ (codes "old_inputs", spelled_fields old_inputs)
    ∷ (codes "old_outputs", spelled_fields old_outputs)
    ∷ (codes "urn", string urn)
    ∷ [])

-- the request to delete or to read a thing
abbrev pub thing_data : Call → ℕ → List ℕ → List ℕ → Pairs → Pairs → Data
thing_data asked ticket urn id inputs outputs =
    object_of (
    (codes "call", string (call_word asked))
    ∷ (codes "id", string id)
    ∷ (codes "inputs", spelled_fields inputs)
    ∷ (codes "n", number (unsigned ticket))
    ∷ (codes "outputs", spelled_fields outputs)
    ∷ (codes "urn", string urn)
    ∷ [])

-- the request to configure a provider
abbrev pub configure_data : ℕ → Pairs → Data
configure_data ticket inputs =
    object_of (
    (codes "call", string (call_word call.Configure))
    ∷ (codes "inputs", spelled_fields inputs)
    ∷ (codes "n", number (unsigned ticket))
    ∷ [])

-- the request to create a thing
abbrev pub create_data : ℕ → List ℕ → Pairs → Data
create_data ticket urn inputs =
    object_of (
    (codes "call", string (call_word call.Create))
    ∷ (codes "inputs", spelled_fields inputs)
    ∷ (codes "n", number (unsigned ticket))
    ∷ (codes "urn", string urn)
    ∷ [])

-- the request to invoke a token
abbrev pub invoke_data : ℕ → List ℕ → Pairs → Data
invoke_data ticket token args =
    object_of (
    (codes "args", spelled_fields args)
    ∷ (codes "call", string (call_word call.Invoke))
    ∷ (codes "n", number (unsigned ticket))
    ∷ (codes "token", string token)
    ∷ [])

-- the call of a request
abbrev pub asked_call : Ask → Call
asked_call (ask.CheckConfig urn inputs old) = call.CheckConfig
asked_call (ask.Configure inputs) = call.Configure
asked_call (ask.Check urn inputs old) = call.Check
asked_call (ask.Diff urn id old_inputs old_outputs inputs) = call.Diff
asked_call (ask.Create urn inputs) = call.Create
asked_call (ask.Update urn id old_inputs old_outputs inputs) = call.Update
asked_call (ask.Delete urn id inputs outputs) = call.Delete
asked_call (ask.Read urn id inputs outputs) = call.Read
asked_call (ask.Invoke token args) = call.Invoke

-- the JSON value of the request under a ticket
abbrev pub ask_data : ℕ → Ask → Data
ask_data ticket (ask.CheckConfig urn inputs old) = check_data call.CheckConfig ticket urn inputs old
ask_data ticket (ask.Configure inputs) = configure_data ticket inputs
ask_data ticket (ask.Check urn inputs old) = check_data call.Check ticket urn inputs old
ask_data ticket (ask.Diff urn id old_inputs old_outputs inputs) = change_data call.Diff ticket urn id old_inputs old_outputs inputs
ask_data ticket (ask.Create urn inputs) = create_data ticket urn inputs
ask_data ticket (ask.Update urn id old_inputs old_outputs inputs) = change_data call.Update ticket urn id old_inputs old_outputs inputs
ask_data ticket (ask.Delete urn id inputs outputs) = thing_data call.Delete ticket urn id inputs outputs
ask_data ticket (ask.Read urn id inputs outputs) = thing_data call.Read ticket urn id inputs outputs
ask_data ticket (ask.Invoke token args) = invoke_data ticket token args

-- the bytes that ask a provider under a ticket
unfoldable pub ask_text : ℕ → Ask → List ℕ
ask_text ticket asked = compact_text (ask_data ticket asked)

-- ---- read

-- what is told of inputs that are checked
unfoldable pub checking_of : Data → Option Checking
checking_of message = do
  name ← urn (get (codes "urn") message)
  inputs ← pairs (get (codes "inputs") message)
  old ← pairs_if_there (get (codes "old") message)
  Some (record { urn = name; inputs = inputs; old = old })

-- what is told of a thing that is compared or changed
unfoldable pub changing_of : Data → Option Changing
changing_of message = do
  name ← urn (get (codes "urn") message)
  id ← text (get (codes "id") message)
  old_inputs ← pairs (get (codes "old_inputs") message)
  old_outputs ← pairs (get (codes "old_outputs") message)
  inputs ← pairs (get (codes "inputs") message)
  Some (record { urn = name; id = id; old_inputs = old_inputs; old_outputs = old_outputs; inputs = inputs })

-- what is told of a thing that is deleted or read
unfoldable pub thing_of : Data → Option Thing
thing_of message = do
  name ← urn (get (codes "urn") message)
  id ← text (get (codes "id") message)
  inputs ← pairs (get (codes "inputs") message)
  outputs ← pairs (get (codes "outputs") message)
  Some (record { urn = name; id = id; inputs = inputs; outputs = outputs })

-- the request to configure a provider with the inputs
abbrev pub configure_of : Data → Option Ask
configure_of message = option_map ask.Configure (pairs (get (codes "inputs") message))

-- the request to create the thing that is told of
unfoldable pub create_of : Data → Option Ask
create_of message = do
  name ← urn (get (codes "urn") message)
  inputs ← pairs (get (codes "inputs") message)
  Some (ask.Create name inputs)

-- the request to invoke the token that is told of
unfoldable pub invoke_of : Data → Option Ask
invoke_of message = do
  token ← text (get (codes "token") message)
  args ← pairs (get (codes "args") message)
  Some (ask.Invoke token args)

-- what a message with this call asks
abbrev pub ask_called : Call → Data → Option Ask
ask_called call.CheckConfig message = option_map (λ told. ask.CheckConfig told.urn told.inputs told.old) (checking_of message)
ask_called call.Configure message = configure_of message
ask_called call.Check message = option_map (λ told. ask.Check told.urn told.inputs told.old) (checking_of message)
ask_called call.Diff message =
    option_map (λ told. ask.Diff told.urn told.id told.old_inputs told.old_outputs told.inputs) (changing_of message)
ask_called call.Create message = create_of message
ask_called call.Update message =
    option_map (λ told. ask.Update told.urn told.id told.old_inputs told.old_outputs told.inputs) (changing_of message)
ask_called call.Delete message = option_map (λ told. ask.Delete told.urn told.id told.inputs told.outputs) (thing_of message)
ask_called call.Read message = option_map (λ told. ask.Read told.urn told.id told.inputs told.outputs) (thing_of message)
ask_called call.Invoke message = invoke_of message

-- what a message asks, with its ticket
unfoldable pub ask_read : Data → Option (ℕ × Ask)
ask_read message = do
  ticket ← whole (get (codes "n") message)
  word ← text (get (codes "call") message)
  named ← call_named word
  asked ← ask_called named message
  Some (ticket, asked)

-- what the bytes ask, with their ticket; `None` where they are no message
unfoldable pub ask_in : List ℕ → Option (ℕ × Ask)
ask_in bytes = option_and_then ask_read (json_of bytes)
