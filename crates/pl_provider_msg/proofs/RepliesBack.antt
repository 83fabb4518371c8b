-- What is replied is read back.
use Rattle.std.proofs.Common.{◌≡◌, ℕ, suc, ◌<◌, ◌^◌, ◌==◌, true, not, ◌&&◌, cond, List, [], ◌∷◌, map, Option, Some, None, IfSome, option_and_then, refl, ap, ◌∙◌, arith}
use Rattle.std.proofs.lemmas.Bool.{and_parts, eq-eqb}
use Rattle.serde_json.specs.Data.{Data, no_members, string}
use Rattle.serde_json.specs.Read.{max_depth}
use Rattle.serde_json.specs.View.{items_of}
use Rattle.pl_lemmas.specs.Words.{has_none}
use Rattle.pl_state.specs.declared.goal.Changes.{Changes}
use Rattle.pl_state.specs.declared.goal.Changes.TheVariants.{NoChange, SomeChange, NotKnown}
use Rattle.pl_state.specs.declared.goal.Diffed.{Diffed}
use Rattle.pl_json.specs.Spelled.{spelled_fields}
use Rattle.pl_events.specs.Replies.{are_shallow, are_shallow_if_there, reply_fits}
use Rattle.pl_events.specs.declared.operation.Call.{Call}
use Rattle.pl_events.specs.declared.operation.Call.TheVariants as call
use Rattle.pl_events.specs.declared.reply.Reply.{Reply}
use Rattle.pl_events.specs.declared.reply.Reply.TheVariants.{Checked, CheckFailed, Configured, Diffed as Compared, Made, MadePartly, Changed, ChangedPartly, Removed, Found, Gone, Result, Error}
use Rattle.pl_members.specs.Field.{Pairs, before, each_item}
use Rattle.pl_provider_msg.specs.Reasons.{reason_of}
use Rattle.pl_members.specs.Readable.{AreReadable}
use Rattle.pl_provider_msg.specs.Laws.{IsReadableReply, RepliesAreRead}
use Rattle.pl_provider_msg.specs.Request.{object_of}
use Rattle.pl_provider_msg.specs.Response.{changed_partly_of, compared_of, found_of, made_of, made_partly_of, ok_data, partial_data, reason_data, reply_called, reply_data, reply_in, reply_read, reply_text}
use Rattle.pl_json.specs.Objects.{texts_data}
use Rattle.pl_provider_msg.specs.Words.{changes_named, changes_word}
use Rattle.pl_members.proofs.KindsBack.{each_text-back, pairs-back, pairs-read-at, some-back}
use Rattle.pl_json.proofs.JsonTexts.{json_of_text}
use Rattle.pl_members.proofs.Outlines.{EachRead, IsRead, array-read, boolean-read, each_text-read, object-read, string-read, text-read, ticket-read}

-- ---- lists

reasons-back : (reasons : List (List ℕ × List ℕ)) → each_item reason_of (items_of (map reason_data reasons)) ≡ Some reasons
reasons-back [] = refl
reasons-back (pair ∷ more) = ap (before (Some pair)) (reasons-back more)

texts-read : (levels : ℕ) (texts : List (List ℕ)) → IsRead (suc levels) (texts_data texts)
texts-read levels texts = array-read levels (map string texts) (each_text-read levels texts)

pairs-read : (fields : Pairs) → AreReadable fields → IsRead 125 (spelled_fields fields)
pairs-read fields are = pairs-read-at 125 fields (omega arith) are

reason-read : (levels : ℕ) (pair : List ℕ × List ℕ) → IsRead (suc levels) (reason_data pair)
reason-read levels pair = object-read levels _ refl (string-read levels pair.0, (string-read levels pair.1, tt))

reasons-read : (levels : ℕ) (reasons : List (List ℕ × List ℕ)) → EachRead (suc levels) (map reason_data reasons)
reasons-read levels [] = tt
reasons-read levels (pair ∷ more) = (reason-read levels pair, reasons-read levels more)

-- ---- the text

ok-read : (ticket : ℕ) (ok : Data) → ticket < 2 ^ 64 → IsRead 126 ok → IsRead max_depth (ok_data ticket ok)
ok-read ticket ok small is = object-read 126 _ refl (ticket-read 126 ticket small, (is, tt))

partial-read : (ticket : ℕ) (partial : Data) → ticket < 2 ^ 64 → IsRead 126 partial → IsRead max_depth (partial_data ticket partial)
partial-read ticket partial small is = object-read 126 _ refl (ticket-read 126 ticket small, (is, tt))

one-read : (ticket : ℕ) (key : List ℕ) (fields : Pairs) → ticket < 2 ^ 64 → AreReadable fields → IsRead max_depth (ok_data ticket (object_of ((key, spelled_fields fields) ∷ [])))
one-read ticket key fields small is = ok-read ticket _ small (object-read 125 _ refl (pairs-read fields is, tt))

found-read : (ticket : ℕ) (id : List ℕ) (inputs : Option Pairs) (outputs : Pairs) → ticket < 2 ^ 64 → IfSome inputs AreReadable → AreReadable outputs → IsRead max_depth (reply_data ticket (Found id inputs outputs))
found-read ticket id None outputs small i o = ok-read ticket _ small (object-read 125 _ refl (string-read 125 id, (pairs-read outputs o, tt)))
found-read ticket id (Some inputs) outputs small i o =
    ok-read ticket _ small (object-read 125 _ refl (string-read 125 id, (pairs-read inputs i, (pairs-read outputs o, tt))))

reply_data-read : (ticket : ℕ) (reply : Reply) → ticket < 2 ^ 64 → IsReadableReply reply → IsRead max_depth (reply_data ticket reply)
reply_data-read ticket (Checked inputs) small is = one-read ticket _ inputs small is
reply_data-read ticket (CheckFailed reasons) small is =
    object-read 126 _ refl (array-read 125 (map reason_data reasons) (reasons-read 124 reasons), (ticket-read 126 ticket small, tt))
reply_data-read ticket Configured small is = ok-read ticket _ small (object-read 125 no_members refl tt)
reply_data-read ticket (Compared told) small is =
    ok-read ticket _ small
    (object-read 125 _ refl (string-read 125 _, (boolean-read 125 _, (texts-read 124 told.replaces, tt))))
reply_data-read ticket (Made id outputs) small is = ok-read ticket _ small (object-read 125 _ refl (string-read 125 id, (pairs-read outputs is, tt)))
reply_data-read ticket (MadePartly id outputs reasons) small is =
    partial-read ticket _ small (object-read 125 _ refl (string-read 125 id, (pairs-read outputs is, (texts-read 124 reasons, tt))))
reply_data-read ticket (Changed outputs) small is = one-read ticket _ outputs small is
reply_data-read ticket (ChangedPartly outputs reasons) small is =
    partial-read ticket _ small (object-read 125 _ refl (pairs-read outputs is, (texts-read 124 reasons, tt)))
reply_data-read ticket Removed small is = ok-read ticket _ small (object-read 125 no_members refl tt)
reply_data-read ticket (Found id inputs outputs) small is = found-read ticket id inputs outputs small is.0 is.1
reply_data-read ticket Gone small is = object-read 126 _ refl (boolean-read 126 true, (ticket-read 126 ticket small, tt))
reply_data-read ticket (Result fields) small is = one-read ticket _ fields small is
reply_data-read ticket (Error text) small is = object-read 126 _ refl (string-read 126 text, (ticket-read 126 ticket small, tt))

-- ---- the reply

-- the reply of a message is the reply
abbrev Back : ℕ → Call → Reply → Type 0
Back ticket asked reply = reply_called asked (reply_data ticket reply) ≡ Some reply

checked-back : (ticket : ℕ) (asked : Call) (inputs : Pairs) → reply_fits asked (Checked inputs) ≡ true → AreReadable inputs → Back ticket asked (Checked inputs)
unfolding reply_called
checked-back ticket call.CheckConfig inputs fits is = rw (pairs-back inputs is) refl
checked-back ticket call.Check inputs fits is = rw (pairs-back inputs is) refl
checked-back ticket _ inputs fits is = cc

check_failed-back : (ticket : ℕ) (asked : Call) (reasons : List (List ℕ × List ℕ)) → reply_fits asked (CheckFailed reasons) ≡ true → Back ticket asked (CheckFailed reasons)
unfolding reply_called
check_failed-back ticket call.CheckConfig reasons fits = rw (reasons-back reasons, some-back reasons fits) refl
check_failed-back ticket call.Check reasons fits = rw (reasons-back reasons, some-back reasons fits) refl
check_failed-back ticket _ reasons fits = cc

configured-back : (ticket : ℕ) (asked : Call) → reply_fits asked Configured ≡ true → Back ticket asked Configured
unfolding reply_called
configured-back ticket call.Configure fits = refl
configured-back ticket _ fits = cc

changes-back : (changes : Changes) → changes_named (changes_word changes) ≡ Some changes
changes-back NoChange = refl
changes-back SomeChange = refl
changes-back NotKnown = refl

compared-back : (ticket : ℕ) (asked : Call) (told : Diffed) → reply_fits asked (Compared told) ≡ true → Back ticket asked (Compared told)
unfolding reply_called compared_of
compared-back ticket call.Diff told fits = rw (changes-back told.changes, each_text-back told.replaces) refl
compared-back ticket _ told fits = cc

made-back : (ticket : ℕ) (asked : Call) (id : List ℕ) (outputs : Pairs) → reply_fits asked (Made id outputs) ≡ true → AreReadable outputs → Back ticket asked (Made id outputs)
unfolding reply_called made_of
made-back ticket call.Create id outputs fits is =
    let parts = and_parts (not (has_none id)) (are_shallow outputs) fits in
    rw (some-back id parts.0, pairs-back outputs is) refl
made-back ticket _ id outputs fits is = cc

made_partly-back : (ticket : ℕ) (asked : Call) (id : List ℕ) (outputs : Pairs) (reasons : List (List ℕ)) → reply_fits asked (MadePartly id outputs reasons) ≡ true → AreReadable outputs
    → Back ticket asked (MadePartly id outputs reasons)
unfolding reply_called made_partly_of
made_partly-back ticket call.Create id outputs reasons fits is =
    let parts = and_parts (not (has_none id) && are_shallow outputs) (not (has_none reasons)) fits in
    let first = and_parts (not (has_none id)) (are_shallow outputs) parts.0 in
    rw (some-back id first.0, pairs-back outputs is, each_text-back reasons, some-back reasons parts.1) refl
made_partly-back ticket _ id outputs reasons fits is = cc

changed-back : (ticket : ℕ) (asked : Call) (outputs : Pairs) → reply_fits asked (Changed outputs) ≡ true → AreReadable outputs → Back ticket asked (Changed outputs)
unfolding reply_called
changed-back ticket call.Update outputs fits is = rw (pairs-back outputs is) refl
changed-back ticket _ outputs fits is = cc

changed_partly-back : (ticket : ℕ) (asked : Call) (outputs : Pairs) (reasons : List (List ℕ)) → reply_fits asked (ChangedPartly outputs reasons) ≡ true → AreReadable outputs
    → Back ticket asked (ChangedPartly outputs reasons)
unfolding reply_called changed_partly_of
changed_partly-back ticket call.Update outputs reasons fits is =
    let parts = and_parts (are_shallow outputs) (not (has_none reasons)) fits in
    rw (pairs-back outputs is, each_text-back reasons, some-back reasons parts.1) refl
changed_partly-back ticket _ outputs reasons fits is = cc

removed-back : (ticket : ℕ) (asked : Call) → reply_fits asked Removed ≡ true → Back ticket asked Removed
unfolding reply_called
removed-back ticket call.Delete fits = refl
removed-back ticket _ fits = cc

found_some-back : (ticket : ℕ) (id : List ℕ) (inputs : Option Pairs) (outputs : Pairs) → not (has_none id) ≡ true → IfSome inputs AreReadable → AreReadable outputs → Back ticket call.Read (Found id inputs outputs)
unfolding reply_called found_of
found_some-back ticket id None outputs some i o = rw (some-back id some, pairs-back outputs o) refl
found_some-back ticket id (Some inputs) outputs some i o = rw (some-back id some, pairs-back inputs i, pairs-back outputs o) refl

found-back : (ticket : ℕ) (asked : Call) (id : List ℕ) (inputs : Option Pairs) (outputs : Pairs) → reply_fits asked (Found id inputs outputs) ≡ true → IfSome inputs AreReadable → AreReadable outputs
    → Back ticket asked (Found id inputs outputs)
found-back ticket call.Read id inputs outputs fits i o =
    let parts = and_parts (not (has_none id) && are_shallow_if_there inputs) (are_shallow outputs) fits in
    found_some-back ticket id inputs outputs (and_parts (not (has_none id)) (are_shallow_if_there inputs) parts.0).0 i o
found-back ticket _ id inputs outputs fits i o = cc

gone-back : (ticket : ℕ) (asked : Call) → reply_fits asked Gone ≡ true → Back ticket asked Gone
unfolding reply_called
gone-back ticket call.Read fits = refl
gone-back ticket _ fits = cc

result-back : (ticket : ℕ) (asked : Call) (fields : Pairs) → reply_fits asked (Result fields) ≡ true → AreReadable fields → Back ticket asked (Result fields)
unfolding reply_called
result-back ticket call.Invoke fields fits is = rw (pairs-back fields is) refl
result-back ticket _ fields fits is = cc

error-back : (ticket : ℕ) (asked : Call) (text : List ℕ) → Back ticket asked (Error text)
unfolding reply_called
error-back ticket asked text = refl

called-back : (ticket : ℕ) (asked : Call) (reply : Reply) → reply_fits asked reply ≡ true → IsReadableReply reply → Back ticket asked reply
called-back ticket asked (Checked inputs) fits is = checked-back ticket asked inputs fits is
called-back ticket asked (CheckFailed reasons) fits is = check_failed-back ticket asked reasons fits
called-back ticket asked Configured fits is = configured-back ticket asked fits
called-back ticket asked (Compared told) fits is = compared-back ticket asked told fits
called-back ticket asked (Made id outputs) fits is = made-back ticket asked id outputs fits is
called-back ticket asked (MadePartly id outputs reasons) fits is = made_partly-back ticket asked id outputs reasons fits is
called-back ticket asked (Changed outputs) fits is = changed-back ticket asked outputs fits is
called-back ticket asked (ChangedPartly outputs reasons) fits is = changed_partly-back ticket asked outputs reasons fits is
called-back ticket asked Removed fits is = removed-back ticket asked fits
called-back ticket asked (Found id inputs outputs) fits is = found-back ticket asked id inputs outputs fits is.0 is.1
called-back ticket asked Gone fits is = gone-back ticket asked fits
called-back ticket asked (Result fields) fits is = result-back ticket asked fields fits is
called-back ticket asked (Error text) fits is = error-back ticket asked text

same_ticket : (ticket : ℕ) (read : Option Reply) → cond (ticket == ticket) read None ≡ read
same_ticket ticket read = ap (λ same. cond same read None) (eq-eqb ticket ticket refl)

ticket-back : (ticket : ℕ) (asked : Call) (reply : Reply) → reply_read ticket asked (reply_data ticket reply) ≡ reply_called asked (reply_data ticket reply)
unfolding reply_read
ticket-back ticket asked (Checked inputs) = same_ticket ticket _
ticket-back ticket asked (CheckFailed reasons) = same_ticket ticket _
ticket-back ticket asked Configured = same_ticket ticket _
ticket-back ticket asked (Compared told) = same_ticket ticket _
ticket-back ticket asked (Made id outputs) = same_ticket ticket _
ticket-back ticket asked (MadePartly id outputs reasons) = same_ticket ticket _
ticket-back ticket asked (Changed outputs) = same_ticket ticket _
ticket-back ticket asked (ChangedPartly outputs reasons) = same_ticket ticket _
ticket-back ticket asked Removed = same_ticket ticket _
ticket-back ticket asked (Found id inputs outputs) = same_ticket ticket _
ticket-back ticket asked Gone = same_ticket ticket _
ticket-back ticket asked (Result fields) = same_ticket ticket _
ticket-back ticket asked (Error text) = same_ticket ticket _

pub replies_are_read : RepliesAreRead
unfolding reply_in reply_text
replies_are_read ticket asked reply small fits is utf8 =
    ap (option_and_then (reply_read ticket asked)) (json_of_text _ _ utf8 (text-read (reply_data ticket reply) (reply_data-read ticket reply small is)))
    ∙ ticket-back ticket asked reply ∙ called-back ticket asked reply fits is
