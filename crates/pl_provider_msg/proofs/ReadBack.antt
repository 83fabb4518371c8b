-- What is written is read back.
use Rattle.std.proofs.Common.{◌≡◌, ℕ, ◌<◌, ◌^◌, List, Option, Some, None, IfSome, option_and_then, refl, ap, ◌∙◌, arith}
use Rattle.serde_json.specs.Read.{max_depth}
use Rattle.pl_urn.specs.Grammar.{IsUrn}
use Rattle.pl_json.specs.Spelled.{spelled_fields}
use Rattle.pl_events.specs.declared.operation.Ask.{Ask}
use Rattle.pl_events.specs.declared.operation.Ask.TheVariants as ask
use Rattle.pl_events.specs.declared.operation.Call.{Call}
use Rattle.pl_events.specs.declared.operation.Call.TheVariants as call
use Rattle.pl_members.specs.Field.{Pairs}
use Rattle.pl_members.specs.Readable.{AreReadable}
use Rattle.pl_provider_msg.specs.Laws.{IsReadableAsk, RequestsAreRead}
use Rattle.pl_provider_msg.specs.Request.{ask_data, ask_in, ask_read, ask_text, change_data, changing_of, check_data, checking_of, configure_data, create_data, create_of, invoke_data, invoke_of, thing_data, thing_of}
use Rattle.pl_json.proofs.JsonTexts.{json_of_text}
use Rattle.pl_members.proofs.Outlines.{IsRead, object-read, string-read, text-read, ticket-read}
use Rattle.pl_members.proofs.KindsBack.{pairs-back, pairs-read-at, urn-back}

-- ---- values

pairs-read : (fields : Pairs) → AreReadable fields → IsRead 126 (spelled_fields fields)
pairs-read fields are = pairs-read-at 126 fields (omega arith) are

-- ---- what is asked

check-read : (asked : Call) (ticket : ℕ) (urn : List ℕ) (inputs : Pairs) (old : Option Pairs) → ticket < 2 ^ 64 → AreReadable inputs → IfSome old AreReadable → IsRead max_depth (check_data asked ticket urn inputs old)
check-read asked ticket urn inputs None small i o =
    object-read 126 _ refl (string-read 126 _, (pairs-read inputs i, (ticket-read 126 ticket small, (string-read 126 urn, tt))))
check-read asked ticket urn inputs (Some old) small i o =
    object-read 126 _ refl (string-read 126 _, (pairs-read inputs i, (ticket-read 126 ticket small, (pairs-read old o, (string-read 126 urn, tt)))))

change-read : (asked : Call) (ticket : ℕ) (urn id : List ℕ) (old_inputs old_outputs inputs : Pairs) → ticket < 2 ^ 64 → AreReadable old_inputs → AreReadable old_outputs → AreReadable inputs
    → IsRead max_depth (change_data asked ticket urn id old_inputs old_outputs inputs)
change-read asked ticket urn id old_inputs old_outputs inputs small oi oo i =
    object-read 126 _ refl
    (string-read 126 _, (string-read 126 id, (pairs-read inputs i, (ticket-read 126 ticket small, (pairs-read old_inputs oi, (pairs-read old_outputs oo, (string-read 126 urn, tt)))))))

thing-read : (asked : Call) (ticket : ℕ) (urn id : List ℕ) (inputs outputs : Pairs) → ticket < 2 ^ 64 → AreReadable inputs → AreReadable outputs → IsRead max_depth (thing_data asked ticket urn id inputs outputs)
thing-read asked ticket urn id inputs outputs small i o =
    object-read 126 _ refl
    (string-read 126 _, (string-read 126 id, (pairs-read inputs i, (ticket-read 126 ticket small, (pairs-read outputs o, (string-read 126 urn, tt))))))

configure-read : (ticket : ℕ) (inputs : Pairs) → ticket < 2 ^ 64 → AreReadable inputs → IsRead max_depth (configure_data ticket inputs)
configure-read ticket inputs small i = object-read 126 _ refl (string-read 126 _, (pairs-read inputs i, (ticket-read 126 ticket small, tt)))

create-read : (ticket : ℕ) (urn : List ℕ) (inputs : Pairs) → ticket < 2 ^ 64 → AreReadable inputs → IsRead max_depth (create_data ticket urn inputs)
create-read ticket urn inputs small i =
    object-read 126 _ refl (string-read 126 _, (pairs-read inputs i, (ticket-read 126 ticket small, (string-read 126 urn, tt))))

invoke-read : (ticket : ℕ) (token : List ℕ) (args : Pairs) → ticket < 2 ^ 64 → AreReadable args → IsRead max_depth (invoke_data ticket token args)
invoke-read ticket token args small a =
    object-read 126 _ refl (pairs-read args a, (string-read 126 _, (ticket-read 126 ticket small, (string-read 126 token, tt))))

ask_data-read : (ticket : ℕ) (asked : Ask) → ticket < 2 ^ 64 → IsReadableAsk asked → IsRead max_depth (ask_data ticket asked)
ask_data-read ticket (ask.CheckConfig urn inputs old) small is = check-read call.CheckConfig ticket urn inputs old small is.1 is.2
ask_data-read ticket (ask.Configure inputs) small is = configure-read ticket inputs small is
ask_data-read ticket (ask.Check urn inputs old) small is = check-read call.Check ticket urn inputs old small is.1 is.2
ask_data-read ticket (ask.Diff urn id old_inputs old_outputs inputs) small is = change-read call.Diff ticket urn id old_inputs old_outputs inputs small is.1 is.2 is.3
ask_data-read ticket (ask.Create urn inputs) small is = create-read ticket urn inputs small is.1
ask_data-read ticket (ask.Update urn id old_inputs old_outputs inputs) small is = change-read call.Update ticket urn id old_inputs old_outputs inputs small is.1 is.2 is.3
ask_data-read ticket (ask.Delete urn id inputs outputs) small is = thing-read call.Delete ticket urn id inputs outputs small is.1 is.2
ask_data-read ticket (ask.Read urn id inputs outputs) small is = thing-read call.Read ticket urn id inputs outputs small is.1 is.2
ask_data-read ticket (ask.Invoke token args) small is = invoke-read ticket token args small is

checking-back : (asked : Call) (ticket : ℕ) (urn : List ℕ) (inputs : Pairs) (old : Option Pairs) → IsUrn urn → AreReadable inputs → IfSome old AreReadable
    → checking_of (check_data asked ticket urn inputs old) ≡ Some (record { urn = urn; inputs = inputs; old = old })
unfolding checking_of
checking-back asked ticket urn inputs None is i o = rw (urn-back urn is, pairs-back inputs i) refl
checking-back asked ticket urn inputs (Some old) is i o = rw (urn-back urn is, pairs-back inputs i, pairs-back old o) refl

changing-back : (asked : Call) (ticket : ℕ) (urn id : List ℕ) (old_inputs old_outputs inputs : Pairs) → IsUrn urn → AreReadable old_inputs → AreReadable old_outputs → AreReadable inputs
    → changing_of (change_data asked ticket urn id old_inputs old_outputs inputs)
    ≡ Some (record { urn = urn; id = id; old_inputs = old_inputs; old_outputs = old_outputs; inputs = inputs })
unfolding changing_of
changing-back asked ticket urn id old_inputs old_outputs inputs is oi oo i =
    rw (urn-back urn is, pairs-back old_inputs oi, pairs-back old_outputs oo, pairs-back inputs i) refl

thing-back : (asked : Call) (ticket : ℕ) (urn id : List ℕ) (inputs outputs : Pairs) → IsUrn urn → AreReadable inputs → AreReadable outputs
    → thing_of (thing_data asked ticket urn id inputs outputs) ≡ Some (record { urn = urn; id = id; inputs = inputs; outputs = outputs })
unfolding thing_of
thing-back asked ticket urn id inputs outputs is i o = rw (urn-back urn is, pairs-back inputs i, pairs-back outputs o) refl

create-back : (ticket : ℕ) (urn : List ℕ) (inputs : Pairs) → IsUrn urn → AreReadable inputs → create_of (create_data ticket urn inputs) ≡ Some (ask.Create urn inputs)
unfolding create_of
create-back ticket urn inputs is i = rw (urn-back urn is, pairs-back inputs i) refl

invoke-back : (ticket : ℕ) (token : List ℕ) (args : Pairs) → AreReadable args → invoke_of (invoke_data ticket token args) ≡ Some (ask.Invoke token args)
unfolding invoke_of
invoke-back ticket token args a = rw (pairs-back args a) refl

ask-back : (ticket : ℕ) (asked : Ask) → IsReadableAsk asked → ask_read (ask_data ticket asked) ≡ Some (ticket, asked)
unfolding ask_read
ask-back ticket (ask.CheckConfig urn inputs old) is = rw (checking-back call.CheckConfig ticket urn inputs old is.0 is.1 is.2) refl
ask-back ticket (ask.Configure inputs) is = rw (pairs-back inputs is) refl
ask-back ticket (ask.Check urn inputs old) is = rw (checking-back call.Check ticket urn inputs old is.0 is.1 is.2) refl
ask-back ticket (ask.Diff urn id old_inputs old_outputs inputs) is =
    rw (changing-back call.Diff ticket urn id old_inputs old_outputs inputs is.0 is.1 is.2 is.3) refl
ask-back ticket (ask.Create urn inputs) is = rw (create-back ticket urn inputs is.0 is.1) refl
ask-back ticket (ask.Update urn id old_inputs old_outputs inputs) is =
    rw (changing-back call.Update ticket urn id old_inputs old_outputs inputs is.0 is.1 is.2 is.3) refl
ask-back ticket (ask.Delete urn id inputs outputs) is = rw (thing-back call.Delete ticket urn id inputs outputs is.0 is.1 is.2) refl
ask-back ticket (ask.Read urn id inputs outputs) is = rw (thing-back call.Read ticket urn id inputs outputs is.0 is.1 is.2) refl
ask-back ticket (ask.Invoke token args) is = rw (invoke-back ticket token args is) refl

pub requests_are_read : RequestsAreRead
unfolding ask_in ask_text
requests_are_read ticket asked small is utf8 =
    ap (option_and_then ask_read) (json_of_text _ _ utf8 (text-read (ask_data ticket asked) (ask_data-read ticket asked small is)))
    ∙ ask-back ticket asked is
