-- What was read is read again.
use Rattle.std.proofs.Common.{◌≡◌, ℕ, ◌<◌, ◌^◌, ◌==◌, Bool, true, false, cond, List, codes, Option, Some, None, IfSome, refl, subst}
use Rattle.std.proofs.lemmas.Bool.{eqb-true}
use Rattle.serde_json.specs.Data.{Data}
use Rattle.serde_json.specs.Find.{as_bool, as_object, as_str, get}
use Rattle.pl_urn.specs.Grammar.{IsUrn}
use Rattle.pl_events.specs.declared.operation.Ask.{Ask}
use Rattle.pl_events.specs.declared.operation.Call.{Call}
use Rattle.pl_events.specs.declared.operation.Call.TheVariants as call
use Rattle.pl_events.specs.declared.reply.Reply.{Reply}
use Rattle.pl_events.specs.declared.reply.Reply.TheVariants.{Checked, CheckFailed, Changed, Result as Resulted, Error}
use Rattle.pl_json.specs.Texts.{json_of}
use Rattle.pl_members.specs.Field.{Pairs, flag_or, nonempty_text, pairs, pairs_if_there, present, some_texts, text, texts_or_none, urn, whole}
use Rattle.pl_provider_msg.specs.Reasons.{some_reasons}
use Rattle.pl_members.specs.Readable.{AreReadable}
use Rattle.pl_provider_msg.specs.Laws.{IsReadableAsk, IsReadableReply, RepliesAreReadAgain, RequestsAreReadAgain}
use Rattle.pl_provider_msg.specs.Request.{ask_called, ask_in, ask_read, changing_of, checking_of, create_of, invoke_of, thing_of}
use Rattle.pl_provider_msg.specs.Response.{changed_partly_of, compared_of, failures_of, found_of, gone_if, gone_of, made_of, made_partly_of, partial_of, reply_by, reply_called, reply_in, reply_read, success_of}
use Rattle.pl_provider_msg.specs.Words.{call_named, changes_named}
use Rattle.pl_provider_msg.specs.declared.asked.Changing.{Changing}
use Rattle.pl_provider_msg.specs.declared.asked.Checking.{Checking}
use Rattle.pl_provider_msg.specs.declared.asked.Thing.{Thing}
use Rattle.pl_provider_msg.proofs.Fitting.{replies_fit}
use Rattle.pl_members.proofs.KindsGood.{get-holds, pairs-good, pairs_if_there-good, present-holds, urn-good, whole-fits}
use Rattle.pl_members.proofs.HeldData.{Holds, json_of-holds}
use Rattle.pl_provider_msg.proofs.ReadBack.{requests_are_read}
use Rattle.pl_provider_msg.proofs.RepliesBack.{replies_are_read}
use Rattle.pl_members.proofs.Steps.{Gives, gives, gives_map, gives_next}

-- ---- fields

-- the pairs in a field of a message
in_field : (name : List ℕ) (message : Data) (fields : Pairs) → Holds message → pairs (get name message) ≡ Some fields → AreReadable fields
in_field name message fields hold is = gives AreReadable (pairs (get name message)) fields (pairs-good (get name message) (get-holds name message hold)) is

in_urn : (value : Option Data) (found : List ℕ) → urn value ≡ Some found → IsUrn found
in_urn value found is = gives IsUrn (urn value) found (urn-good value) is

-- ---- what is asked

abbrev IsReadableChecking : Checking → Type 0
IsReadableChecking told = IsUrn told.urn × AreReadable told.inputs × IfSome told.old AreReadable

checking-readable : (message : Data) → Holds message → Gives IsReadableChecking (checking_of message)
unfolding checking_of
checking-readable message hold =
    gives_next IsReadableChecking (urn (get (codes "urn") message)) _ (λ name n.
    gives_next IsReadableChecking (pairs (get (codes "inputs") message)) _ (λ inputs i.
    gives_next IsReadableChecking (pairs_if_there (get (codes "old") message)) _ (λ old o. (
      in_urn (get (codes "urn") message) name n,
      in_field (codes "inputs") message inputs hold i,
      gives (λ found. IfSome found AreReadable) (pairs_if_there (get (codes "old") message)) old (pairs_if_there-good (get (codes "old") message) (get-holds (codes "old") message hold)) o,
    ))))

abbrev IsReadableChanging : Changing → Type 0
IsReadableChanging told = IsUrn told.urn × AreReadable told.old_inputs × AreReadable told.old_outputs × AreReadable told.inputs

changing-readable : (message : Data) → Holds message → Gives IsReadableChanging (changing_of message)
unfolding changing_of
changing-readable message hold =
    gives_next IsReadableChanging (urn (get (codes "urn") message)) _ (λ name n.
    gives_next IsReadableChanging (text (get (codes "id") message)) _ (λ id d.
    gives_next IsReadableChanging (pairs (get (codes "old_inputs") message)) _ (λ old_inputs oi.
    gives_next IsReadableChanging (pairs (get (codes "old_outputs") message)) _ (λ old_outputs oo.
    gives_next IsReadableChanging (pairs (get (codes "inputs") message)) _ (λ inputs i. (
      in_urn (get (codes "urn") message) name n,
      in_field (codes "old_inputs") message old_inputs hold oi,
      in_field (codes "old_outputs") message old_outputs hold oo,
      in_field (codes "inputs") message inputs hold i,
    ))))))

abbrev IsReadableThing : Thing → Type 0
IsReadableThing told = IsUrn told.urn × AreReadable told.inputs × AreReadable told.outputs

thing-readable : (message : Data) → Holds message → Gives IsReadableThing (thing_of message)
unfolding thing_of
thing-readable message hold =
    gives_next IsReadableThing (urn (get (codes "urn") message)) _ (λ name n.
    gives_next IsReadableThing (text (get (codes "id") message)) _ (λ id d.
    gives_next IsReadableThing (pairs (get (codes "inputs") message)) _ (λ inputs i.
    gives_next IsReadableThing (pairs (get (codes "outputs") message)) _ (λ outputs o.
    (in_urn (get (codes "urn") message) name n, in_field (codes "inputs") message inputs hold i, in_field (codes "outputs") message outputs hold o)))))

create-readable : (message : Data) → Holds message → Gives IsReadableAsk (create_of message)
unfolding create_of
create-readable message hold =
    gives_next IsReadableAsk (urn (get (codes "urn") message)) _ (λ name n.
    gives_next IsReadableAsk (pairs (get (codes "inputs") message)) _ (λ inputs i.
    (in_urn (get (codes "urn") message) name n, in_field (codes "inputs") message inputs hold i)))

invoke-readable : (message : Data) → Holds message → Gives IsReadableAsk (invoke_of message)
unfolding invoke_of
invoke-readable message hold =
    gives_next IsReadableAsk (text (get (codes "token") message)) _ (λ token t.
    gives_next IsReadableAsk (pairs (get (codes "args") message)) _ (λ args a. in_field (codes "args") message args hold a))

ask_called-readable : (named : Call) (message : Data) → Holds message → Gives IsReadableAsk (ask_called named message)
ask_called-readable call.CheckConfig message hold =
    gives_map IsReadableAsk (checking_of message) _ (λ told is. gives IsReadableChecking (checking_of message) told (checking-readable message hold) is)
ask_called-readable call.Configure message hold =
    gives_map IsReadableAsk (pairs (get (codes "inputs") message)) _ (λ inputs i. in_field (codes "inputs") message inputs hold i)
ask_called-readable call.Check message hold =
    gives_map IsReadableAsk (checking_of message) _ (λ told is. gives IsReadableChecking (checking_of message) told (checking-readable message hold) is)
ask_called-readable call.Diff message hold =
    gives_map IsReadableAsk (changing_of message) _ (λ told is. gives IsReadableChanging (changing_of message) told (changing-readable message hold) is)
ask_called-readable call.Create message hold = create-readable message hold
ask_called-readable call.Update message hold =
    gives_map IsReadableAsk (changing_of message) _ (λ told is. gives IsReadableChanging (changing_of message) told (changing-readable message hold) is)
ask_called-readable call.Delete message hold =
    gives_map IsReadableAsk (thing_of message) _ (λ told is. gives IsReadableThing (thing_of message) told (thing-readable message hold) is)
ask_called-readable call.Read message hold =
    gives_map IsReadableAsk (thing_of message) _ (λ told is. gives IsReadableThing (thing_of message) told (thing-readable message hold) is)
ask_called-readable call.Invoke message hold = invoke-readable message hold

abbrev IsReadablePair : ℕ × Ask → Type 0
IsReadablePair told = (told.0 < 2 ^ 64) × IsReadableAsk told.1

ask_read-readable : (message : Data) → Holds message → Gives IsReadablePair (ask_read message)
unfolding ask_read
ask_read-readable message hold =
    gives_next IsReadablePair (whole (get (codes "n") message)) _ (λ ticket t.
    gives_next IsReadablePair (text (get (codes "call") message)) _ (λ word w.
    gives_next IsReadablePair (call_named word) _ (λ named c.
    gives_next IsReadablePair (ask_called named message) _ (λ asked a. (
      gives (λ m. m < 2 ^ 64) (whole (get (codes "n") message)) ticket (whole-fits (get (codes "n") message) (get-holds (codes "n") message hold)) t,
      gives IsReadableAsk (ask_called named message) asked (ask_called-readable named message hold) a,
    )))))

ask_in-readable : (bytes : List ℕ) → Gives IsReadablePair (ask_in bytes)
unfolding ask_in
ask_in-readable bytes = gives_next IsReadablePair (json_of bytes) ask_read (λ message is. ask_read-readable message (gives Holds (json_of bytes) message (json_of-holds bytes) is))

pub requests_are_read_again : RequestsAreReadAgain
requests_are_read_again bytes ticket asked is utf8 =
    let told = gives IsReadablePair (ask_in bytes) (ticket, asked) (ask_in-readable bytes) is in
    requests_are_read ticket asked told.0 told.1 utf8

-- ---- what is replied

abbrev Readable : Option Reply → Type 0
Readable read = Gives IsReadableReply read

compared-readable : (ok : Data) → Readable (compared_of ok)
unfolding compared_of
compared-readable ok =
    gives_next IsReadableReply (text (get (codes "changes") ok)) _ (λ word w.
    gives_next IsReadableReply (changes_named word) _ (λ changes c.
    gives_next IsReadableReply (texts_or_none (present (codes "replaces") ok)) _ (λ replaces r.
    gives_next IsReadableReply (flag_or false (present (codes "delete_before_replace") ok)) _ (λ first f. tt))))

made-readable : (ok : Data) → Holds ok → Readable (made_of ok)
unfolding made_of
made-readable ok hold =
    gives_next IsReadableReply (nonempty_text (get (codes "id") ok)) _ (λ id i.
    gives_next IsReadableReply (pairs (get (codes "outputs") ok)) _ (λ outputs o. in_field (codes "outputs") ok outputs hold o))

found-readable : (ok : Data) → Holds ok → Readable (found_of ok)
unfolding found_of
found-readable ok hold =
    gives_next IsReadableReply (nonempty_text (get (codes "id") ok)) _ (λ id i.
    gives_next IsReadableReply (pairs_if_there (present (codes "inputs") ok)) _ (λ inputs n.
    gives_next IsReadableReply (pairs (get (codes "outputs") ok)) _ (λ outputs o. (
      gives (λ found. IfSome found AreReadable) (pairs_if_there (present (codes "inputs") ok)) inputs (pairs_if_there-good (present (codes "inputs") ok) (present-holds (codes "inputs") ok hold)) n,
      in_field (codes "outputs") ok outputs hold o,
    ))))

success-readable : (asked : Call) (ok : Data) → Holds ok → Readable (success_of asked ok)
success-readable call.CheckConfig ok hold = gives_map IsReadableReply (pairs (get (codes "inputs") ok)) Checked (λ inputs i. in_field (codes "inputs") ok inputs hold i)
success-readable call.Configure ok hold = gives_map IsReadableReply (as_object ok) _ (λ ms is. tt)
success-readable call.Check ok hold = gives_map IsReadableReply (pairs (get (codes "inputs") ok)) Checked (λ inputs i. in_field (codes "inputs") ok inputs hold i)
success-readable call.Diff ok hold = compared-readable ok
success-readable call.Create ok hold = made-readable ok hold
success-readable call.Update ok hold = gives_map IsReadableReply (pairs (get (codes "outputs") ok)) Changed (λ outputs o. in_field (codes "outputs") ok outputs hold o)
success-readable call.Delete ok hold = gives_map IsReadableReply (as_object ok) _ (λ ms is. tt)
success-readable call.Read ok hold = found-readable ok hold
success-readable call.Invoke ok hold = gives_map IsReadableReply (pairs (get (codes "result") ok)) Resulted (λ fields f. in_field (codes "result") ok fields hold f)

failures-readable : (asked : Call) (failures : Data) → Readable (failures_of asked failures)
failures-readable call.CheckConfig failures = gives_map IsReadableReply (some_reasons failures) CheckFailed (λ reasons r. tt)
failures-readable call.Check failures = gives_map IsReadableReply (some_reasons failures) CheckFailed (λ reasons r. tt)
failures-readable _ failures = tt

made_partly-readable : (partial : Data) → Holds partial → Readable (made_partly_of partial)
unfolding made_partly_of
made_partly-readable partial hold =
    gives_next IsReadableReply (nonempty_text (get (codes "id") partial)) _ (λ id i.
    gives_next IsReadableReply (pairs (get (codes "outputs") partial)) _ (λ outputs o.
    gives_next IsReadableReply (some_texts (get (codes "reasons") partial)) _ (λ reasons r. in_field (codes "outputs") partial outputs hold o)))

changed_partly-readable : (partial : Data) → Holds partial → Readable (changed_partly_of partial)
unfolding changed_partly_of
changed_partly-readable partial hold =
    gives_next IsReadableReply (pairs (get (codes "outputs") partial)) _ (λ outputs o.
    gives_next IsReadableReply (some_texts (get (codes "reasons") partial)) _ (λ reasons r. in_field (codes "outputs") partial outputs hold o))

partial-readable : (asked : Call) (partial : Data) → Holds partial → Readable (partial_of asked partial)
partial-readable call.Create partial hold = made_partly-readable partial hold
partial-readable call.Update partial hold = changed_partly-readable partial hold
partial-readable _ partial hold = tt

gone_if-readable : (flag : Bool) → Readable (gone_if flag)
gone_if-readable true = tt
gone_if-readable false = tt

gone-readable : (asked : Call) (gone : Data) → Readable (gone_of asked gone)
gone-readable call.Read gone = gives_next IsReadableReply (as_bool gone) gone_if (λ flag is. gone_if-readable flag)
gone-readable _ gone = tt

reply_by-readable : (asked : Call) (ok error failures partial gone : Option Data) → Gives Holds ok → Gives Holds partial → Readable (reply_by asked ok error failures partial gone)
reply_by-readable asked (Some ok) None None None None here there = success-readable asked ok here
reply_by-readable asked None (Some error) None None None here there = gives_map IsReadableReply (as_str error) Error (λ text is. tt)
reply_by-readable asked None None (Some failures) None None here there = failures-readable asked failures
reply_by-readable asked None None None (Some partial) None here there = partial-readable asked partial there
reply_by-readable asked None None None None (Some gone) here there = gone-readable asked gone
reply_by-readable asked _ _ _ _ _ here there = tt

reply_called-readable : (asked : Call) (message : Data) → Holds message → Readable (reply_called asked message)
unfolding reply_called
reply_called-readable asked message hold =
    reply_by-readable asked (get (codes "ok") message) (get (codes "error") message) (get (codes "failures") message) (get (codes "partial") message) (get (codes "gone") message)
    (get-holds (codes "ok") message hold) (get-holds (codes "partial") message hold)

abbrev IsReadableUnder : ℕ → Reply → Type 0
IsReadableUnder ticket reply = (ticket < 2 ^ 64) × IsReadableReply reply

both : (ticket : ℕ) (read : Option Reply) → ticket < 2 ^ 64 → Readable read → Gives (IsReadableUnder ticket) read
both ticket None small are = tt
both ticket (Some reply) small are = (small, are)

under_ticket : (ticket n : ℕ) (same : Bool) (read : Option Reply) → (n == ticket) ≡ same → n < 2 ^ 64 → Readable read → Gives (IsReadableUnder ticket) (cond same read None)
under_ticket ticket n true read is small are =
    let equal : n ≡ ticket = eqb-true n ticket is in
    both ticket read (subst (λ m. m < 2 ^ 64) equal small) are
under_ticket ticket n false read is small are = tt

reply_read-readable : (ticket : ℕ) (asked : Call) (message : Data) → Holds message → Gives (IsReadableUnder ticket) (reply_read ticket asked message)
unfolding reply_read
reply_read-readable ticket asked message hold =
    gives_next (IsReadableUnder ticket) (whole (get (codes "n") message)) _ (λ n is.
    under_ticket ticket n (n == ticket) (reply_called asked message) refl
    (gives (λ m. m < 2 ^ 64) (whole (get (codes "n") message)) n (whole-fits (get (codes "n") message) (get-holds (codes "n") message hold)) is)
    (reply_called-readable asked message hold))

reply_in-readable : (ticket : ℕ) (asked : Call) (bytes : List ℕ) → Gives (IsReadableUnder ticket) (reply_in ticket asked bytes)
unfolding reply_in
reply_in-readable ticket asked bytes =
    gives_next (IsReadableUnder ticket) (json_of bytes) (reply_read ticket asked) (λ message is. reply_read-readable ticket asked message (gives Holds (json_of bytes) message (json_of-holds bytes) is))

pub replies_are_read_again : RepliesAreReadAgain
replies_are_read_again bytes ticket asked reply is utf8 =
    let told = gives (IsReadableUnder ticket) (reply_in ticket asked bytes) reply (reply_in-readable ticket asked bytes) is in
    replies_are_read ticket asked reply told.0 (replies_fit ticket asked bytes reply is) told.1 utf8
