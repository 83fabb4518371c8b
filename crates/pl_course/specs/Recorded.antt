-- What recorded a goal, read of the replies to its operations.
use Rattle.std.specs.Prelude.{ℕ, Bool, Option, None, Some, List, option_and_then}
use Rattle.std.specs.Option.{option_or}
use Rattle.pl_lemmas.specs.Words.{only_if}
use Rattle.pl_events.specs.declared.operation.Op.{Op}
use Rattle.pl_events.specs.declared.operation.Op.TheVariants as op
use Rattle.pl_events.specs.declared.operation.Subject.TheVariants as subject
use Rattle.pl_events.specs.declared.reply.Reply.{Reply}
use Rattle.pl_model.specs.declared.decided.Decided.{Decided}
use Rattle.pl_model.specs.declared.errand.Closed.{Closed}
use Rattle.pl_model.specs.Entries.{Result, result_of_keep, result_of_reply}
use Rattle.pl_model.specs.Recording.{is_thing}
use Rattle.pl_model.specs.Tickets.{reply_to}
use Rattle.pl_state.specs.declared.entry.Entry.{Entry}
use Rattle.pl_state.specs.declared.goal.Goal.{Goal}

-- a reply, where it says that a thing is there
abbrev pub thing_in : Reply → Option Reply
thing_in said = only_if (is_thing said) (Some said)

-- the first reply to an operation, where it says so
abbrev pub thing_of : List Closed → Op → Option Reply
thing_of answers about = option_and_then thing_in (reply_to answers about)

-- the reply that recorded a goal: the one by which its thing was made, changed or read
abbrev pub recording_reply : List Closed → ℕ → Option Reply
recording_reply answers number =
    option_or (thing_of answers (op.Create (subject.Goal number)))
    (option_or (thing_of answers (op.Update (subject.Goal number))) (thing_of answers (op.Read (subject.Goal number))))

-- what recorded a goal gave to its entry: the reply, or else its keep
abbrev pub result_told : Option Entry → Goal → Decided → Option Reply → Bool → Option ℕ → Option Result
result_told claim goal one None recorded fresh = only_if recorded (Some (result_of_keep goal claim one fresh))
result_told claim goal one (Some said) recorded fresh = result_of_reply claim said
