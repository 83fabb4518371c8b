-- What the host is answered.
use Rattle.std.specs.Prelude.{◌≡◌, ℕ, Bool, true, false, ◌&&◌, if◌then◌else◌, nat_lt, Option, None, Some, is_some, List, [], length, option_and_then, option_map, codes}
use Rattle.pl_state.specs.declared.entry.Entry.{Entry}
use Rattle.pl_events.specs.Halted as unanswered
use Rattle.pl_events.specs.declared.event.Answer.{Answer}
use Rattle.pl_events.specs.declared.event.Answer.TheVariants.{Registered, Noted, Result, Refused}
use Rattle.pl_events.specs.declared.event.Request.{Request}
use Rattle.pl_events.specs.declared.event.Request.TheVariants.{Register, Outputs, Invoke}
use Rattle.pl_events.specs.declared.operation.Op.TheVariants as op
use Rattle.pl_events.specs.declared.reply.Reply.{Reply}
use Rattle.pl_events.specs.declared.reply.Reply.TheVariants as reply
use Rattle.pl_decide.specs.declared.problem.Problem.{Problem}
use Rattle.pl_decide.specs.declared.problem.Problem.TheVariants as problem
use Rattle.pl_model.specs.Run.{Spelling}
use Rattle.pl_world.specs.declared.frames.TheConstants.{MAX_BODY}
use Rattle.pl_model.specs.Tickets.{reply_to}
use Rattle.pl_lemmas.specs.Words.{has_number}
use Rattle.pl_model.specs.Recording.{posted_of}
use Rattle.pl_model.specs.Due.{is_recorded_about, is_unsent}
use Rattle.pl_model.specs.Entries.{entry_of}
use Rattle.pl_model.specs.declared.heard.Fate.{Fate}
use Rattle.pl_model.specs.declared.heard.Fate.TheVariants.{Accepted as accepted, Halted as halted, Refused as refused}
use Rattle.pl_model.specs.declared.heard.Heard.{Heard}
use Rattle.pl_model.specs.Known.{Known, asked_at, has_problem}

-- the name of a refusal, by which the host is told of it
abbrev pub refusal_name : Problem → List ℕ
refusal_name (problem.BadOption fault) = codes "BadOption"
refusal_name (problem.UnknownReference text) = codes "UnknownReference"
refusal_name (problem.DuplicateUrn urn) = codes "DuplicateUrn"
refusal_name (problem.OutputsOfCustom urn) = codes "OutputsOfCustom"
refusal_name _ = []

-- the answer to a registration whose goal has this entry; outputs that were told of it are not in it
abbrev pub registered : Entry → Answer
registered entry = Registered entry.urn entry.id entry.outputs

abbrev pub result_in : Option Reply → Option Answer
result_in (Some (reply.Result fields)) = Some (Result fields)
result_in _ = None

abbrev pub answer_or : Option Answer → Answer
answer_or None = unanswered.halted
answer_or (Some answer) = answer

abbrev pub only_answer : Bool → Answer → Answer
only_answer true answer = answer
only_answer false answer = unanswered.halted

-- the result of an accepted request, or that it was halted
abbrev pub result_of : Known → Request → Option ℕ → Answer
result_of known (Register n told) about = answer_or (option_map registered (option_and_then (entry_of known) about))
result_of known (Outputs n urn outputs) about = only_answer (is_recorded_about known about) Noted
result_of known (Invoke n token args provider version) about =
    if is_unsent known (Invoke n token args provider version) about then Result []
    else answer_or (result_in (reply_to known.answers (op.Invoke n)))

abbrev pub answer_by : Known → Heard → Fate → Answer
answer_by known asked halted = unanswered.halted
answer_by known asked (refused trouble) = Refused (refusal_name trouble)
answer_by known asked accepted = result_of known asked.request asked.about

abbrev pub answer_for : Known → Option Heard → Answer
answer_for known None = unanswered.halted
answer_for known (Some asked) = answer_by known asked asked.fate

-- whether the answer of request n would have a longer body than a frame may have
abbrev pub is_too_long : Spelling → ℕ → Answer → Bool
is_too_long spelling n answer = nat_lt MAX_BODY (length (spelling.answer_text n answer))

abbrev pub shortened : Spelling → Known → ℕ → Answer → Answer
shortened spelling known n answer =
    if has_problem known && is_too_long spelling n answer then unanswered.halted else answer

-- the answer to request n; after a problem a result that would be too long is halted too
abbrev pub answer_of : Spelling → Known → ℕ → Answer
answer_of spelling known n = shortened spelling known n (answer_for known (asked_at known n))

-- every told request was answered
abbrev pub AllAnswered : Known → Type 0
AllAnswered known = (n : ℕ) → is_some (asked_at known n) ≡ true → has_number (posted_of known.history) n ≡ true
