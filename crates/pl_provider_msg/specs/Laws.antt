-- What a reply that is read fits, and that what is written is read back.
use Rattle.std.specs.Prelude.{◌≡◌, ◌<◌, ◌^◌, ⊤, ℕ, true, List, Some, IfSome}
use Rattle.std.specs.Str.{IsUtf8}
use Rattle.pl_urn.specs.Grammar.{IsUrn}
use Rattle.pl_events.specs.Replies.{reply_fits}
use Rattle.pl_events.specs.declared.operation.Ask.{Ask}
use Rattle.pl_events.specs.declared.operation.Ask.TheVariants as ask
use Rattle.pl_events.specs.declared.operation.Call.{Call}
use Rattle.pl_events.specs.declared.reply.Reply.{Reply}
use Rattle.pl_events.specs.declared.reply.Reply.TheVariants.{Checked, Made, MadePartly, Changed, ChangedPartly, Found, Result}
use Rattle.pl_members.specs.Readable.{AreReadable}
use Rattle.pl_provider_msg.specs.Request.{ask_in, ask_text}
use Rattle.pl_provider_msg.specs.Response.{reply_in, reply_text}

-- a reply that is read is one to its call: its ids and lists of reasons are not empty, and no value in it is too deep
abbrev pub RepliesFit : Type 0
RepliesFit =
    (ticket : ℕ) (asked : Call) (bytes : List ℕ) (reply : Reply) → reply_in ticket asked bytes ≡ Some reply
    → reply_fits asked reply ≡ true

-- what is asked has a URN and fields of values that can be read
abbrev pub IsReadableAsk : Ask → Type 0
IsReadableAsk (ask.CheckConfig urn inputs old) = IsUrn urn × AreReadable inputs × IfSome old AreReadable
IsReadableAsk (ask.Configure inputs) = AreReadable inputs
IsReadableAsk (ask.Check urn inputs old) = IsUrn urn × AreReadable inputs × IfSome old AreReadable
IsReadableAsk (ask.Diff urn id old_inputs old_outputs inputs) =
    IsUrn urn × AreReadable old_inputs × AreReadable old_outputs × AreReadable inputs
IsReadableAsk (ask.Create urn inputs) = IsUrn urn × AreReadable inputs
IsReadableAsk (ask.Update urn id old_inputs old_outputs inputs) =
    IsUrn urn × AreReadable old_inputs × AreReadable old_outputs × AreReadable inputs
IsReadableAsk (ask.Delete urn id inputs outputs) = IsUrn urn × AreReadable inputs × AreReadable outputs
IsReadableAsk (ask.Read urn id inputs outputs) = IsUrn urn × AreReadable inputs × AreReadable outputs
IsReadableAsk (ask.Invoke token args) = AreReadable args

-- what is replied has such fields
abbrev pub IsReadableReply : Reply → Type 0
IsReadableReply (Checked inputs) = AreReadable inputs
IsReadableReply (Made id outputs) = AreReadable outputs
IsReadableReply (MadePartly id outputs reasons) = AreReadable outputs
IsReadableReply (Changed outputs) = AreReadable outputs
IsReadableReply (ChangedPartly outputs reasons) = AreReadable outputs
IsReadableReply (Found id inputs outputs) = IfSome inputs AreReadable × AreReadable outputs
IsReadableReply (Result fields) = AreReadable fields
IsReadableReply _ = ⊤

-- what is asked is read back from the bytes that ask it, where these are UTF-8, as those are that are written
abbrev pub RequestsAreRead : Type 0
RequestsAreRead =
    (ticket : ℕ) (asked : Ask) → ticket < 2 ^ 64 → IsReadableAsk asked → IsUtf8 (ask_text ticket asked)
    → ask_in (ask_text ticket asked) ≡ Some (ticket, asked)

-- the same of a reply that fits its call
abbrev pub RepliesAreRead : Type 0
RepliesAreRead =
    (ticket : ℕ) (asked : Call) (reply : Reply) → ticket < 2 ^ 64 → reply_fits asked reply ≡ true → IsReadableReply reply
    → IsUtf8 (reply_text ticket reply) → reply_in ticket asked (reply_text ticket reply) ≡ Some reply

-- a request that was read is read again from the bytes that ask it
abbrev pub RequestsAreReadAgain : Type 0
RequestsAreReadAgain =
    (bytes : List ℕ) (ticket : ℕ) (asked : Ask) → ask_in bytes ≡ Some (ticket, asked) → IsUtf8 (ask_text ticket asked)
    → ask_in (ask_text ticket asked) ≡ Some (ticket, asked)

-- the same of a reply to a call
abbrev pub RepliesAreReadAgain : Type 0
RepliesAreReadAgain =
    (bytes : List ℕ) (ticket : ℕ) (asked : Call) (reply : Reply) → reply_in ticket asked bytes ≡ Some reply
    → IsUtf8 (reply_text ticket reply) → reply_in ticket asked (reply_text ticket reply) ≡ Some reply
