-- A request that is put together part by part, in whatever order; for private clauses.
use Rattle.std.specs.Prelude.{ℕ, codes, Option, Some, None}
use Rattle.serde_json.specs.Data.{Members, member, no_members, number, put, string, unsigned}
use Rattle.pl_json.specs.Spelled.{spelled_fields}
use Rattle.pl_events.specs.declared.operation.Ask.{Ask}
use Rattle.pl_events.specs.declared.operation.Ask.TheVariants as ask
use Rattle.pl_events.specs.declared.operation.Call.{Call}
use Rattle.pl_members.specs.Field.{Pairs}
use Rattle.pl_provider_msg.specs.Words.{call_word}

-- what each request has: its call and its ticket
abbrev pub begun : Call → ℕ → Members
begun asked ticket = member (codes "call") (string (call_word asked)) (member (codes "n") (number (unsigned ticket)) no_members)

-- with the texts that name what is asked about
abbrev pub with_names : Ask → Members → Members
with_names (ask.CheckConfig urn inputs old) ms = put (codes "urn") (string urn) ms
with_names (ask.Configure inputs) ms = ms
with_names (ask.Check urn inputs old) ms = put (codes "urn") (string urn) ms
with_names (ask.Diff urn id old_inputs old_outputs inputs) ms = put (codes "id") (string id) (put (codes "urn") (string urn) ms)
with_names (ask.Create urn inputs) ms = put (codes "urn") (string urn) ms
with_names (ask.Update urn id old_inputs old_outputs inputs) ms = put (codes "id") (string id) (put (codes "urn") (string urn) ms)
with_names (ask.Delete urn id inputs outputs) ms = put (codes "id") (string id) (put (codes "urn") (string urn) ms)
with_names (ask.Read urn id inputs outputs) ms = put (codes "id") (string id) (put (codes "urn") (string urn) ms)
with_names (ask.Invoke token args) ms = put (codes "token") (string token) ms

-- with the old inputs, where there are some
abbrev pub with_old : Option Pairs → Members → Members
with_old None ms = ms
with_old (Some old) ms = put (codes "old") (spelled_fields old) ms

-- with the objects of values
abbrev pub with_objects : Ask → Members → Members
with_objects (ask.CheckConfig urn inputs old) ms = put (codes "inputs") (spelled_fields inputs) (with_old old ms)
with_objects (ask.Configure inputs) ms = put (codes "inputs") (spelled_fields inputs) ms
with_objects (ask.Check urn inputs old) ms = put (codes "inputs") (spelled_fields inputs) (with_old old ms)
with_objects (ask.Diff urn id old_inputs old_outputs inputs) ms =
    put (codes "inputs") (spelled_fields inputs) (put (codes "old_outputs") (spelled_fields old_outputs) (put (codes "old_inputs") (spelled_fields old_inputs) ms))
with_objects (ask.Create urn inputs) ms = put (codes "inputs") (spelled_fields inputs) ms
with_objects (ask.Update urn id old_inputs old_outputs inputs) ms =
    put (codes "inputs") (spelled_fields inputs) (put (codes "old_outputs") (spelled_fields old_outputs) (put (codes "old_inputs") (spelled_fields old_inputs) ms))
with_objects (ask.Delete urn id inputs outputs) ms = put (codes "outputs") (spelled_fields outputs) (put (codes "inputs") (spelled_fields inputs) ms)
with_objects (ask.Read urn id inputs outputs) ms = put (codes "outputs") (spelled_fields outputs) (put (codes "inputs") (spelled_fields inputs) ms)
with_objects (ask.Invoke token args) ms = put (codes "args") (spelled_fields args) ms
