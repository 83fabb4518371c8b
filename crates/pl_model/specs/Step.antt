-- What later steps read of a history, as one record, and how one event more changes it.
use Rattle.std.specs.Prelude.{ℕ, ◌+◌, Bool, true, false, if◌then◌else◌, nat_lt, Option, None, Some, List, [], ◌∷◌, ◌++◌, length, map}
use Rattle.std.specs.List.{cons_option, filter_map}
use Rattle.std.specs.Option.{option_or}
use Rattle.pl_lemmas.specs.Words.{option_list}
use Rattle.pl_state.specs.declared.goal.Goal.{Goal}
use Rattle.pl_events.specs.Closing.{has_host_end, has_stop}
use Rattle.pl_events.specs.declared.event.Event.{Event}
use Rattle.pl_events.specs.declared.event.HostEnd.TheVariants.{Success}
use Rattle.pl_events.specs.declared.event.Request.{Request}
use Rattle.pl_events.specs.declared.event.Stop.TheVariants.{NoMemory}
use Rattle.pl_events.specs.declared.event.What.{What}
use Rattle.pl_events.specs.declared.event.What.TheVariants.{Told, HostGone, Begun, Answered, Lost, Kept, Dropped, Cleared, Posted, Stopped}
use Rattle.pl_events.specs.declared.operation.Op.{Op}
use Rattle.pl_events.specs.declared.reply.Loss.TheVariants.{Ended}
use Rattle.pl_events.specs.declared.reply.Reply.{Reply}
use Rattle.pl_events.specs.declared.reply.Reply.TheVariants.{Configured, Error}
use Rattle.pl_decide.specs.declared.problem.Problem.{Problem}
use Rattle.pl_model.specs.declared.fixed.Fixed.{Fixed}
use Rattle.pl_model.specs.declared.errand.Closed.{Closed}
use Rattle.pl_model.specs.declared.errand.Errand.{Errand}
use Rattle.pl_model.specs.Tickets.{begun_of, closed_by}
use Rattle.pl_model.specs.Recording.{cleared_of, fresh_by, fresh_of, posted_of, recorded_by, recorded_of, removed_by, removed_of}
use Rattle.pl_model.specs.declared.decided.Decided.{Decided}
use Rattle.pl_model.specs.Decisions.{decided_after}
use Rattle.pl_model.specs.declared.heard.Heard.{Heard}
use Rattle.pl_model.specs.Known.{Known}
use Rattle.pl_model.specs.Requests.{asked_by, fate_of, goals_by}
use Rattle.pl_model.specs.Problems.{at_position, end_problems, ends_well, made_problems, own_problem, problem_of_end, problem_of_stop}
use Rattle.pl_model.specs.History.{known_of}
use Rattle.pl_model.specs.Entries.{Result, result_by, result_from}
use Rattle.pl_model.specs.declared.errand.Opened.{Opened}
use Rattle.pl_model.specs.State.{opened_by, opened_of}
use Rattle.pl_model.specs.Saves.{begins}

-- ---- the record

-- what a history tells of all that later steps read; lists stand newest first, but problems in order
pub record Summary : Type 0 where
  -- how many events there are
  pub count : ℕ
  pub goals : List Goal
  pub decided : List Decided
  pub asked : List Heard
  pub problems : List (ℕ × Problem)
  pub answers : List Closed
  pub begun : List Errand
  -- the tickets that were answered, those that were lost, and those that were answered by the word that their lane
  -- is configured
  pub answered : List ℕ
  pub lost : List ℕ
  pub configured : List ℕ
  -- the goals that are recorded; the number that a goal's id is made of; what recorded a goal gave to its entry
  pub recorded : List ℕ
  pub fresh : ℕ → Option ℕ
  pub results : ℕ → Goal → Decided → Option Result
  pub removed : List ℕ
  pub cleared : List ℕ
  pub posted : List ℕ
  -- whether the host has given its last, and whether the run was stopped
  pub host_gone : Bool
  pub stopped : Bool
  pub opened : List Opened

-- the ticket that an event answers
abbrev pub answered_in : What → Option ℕ
answered_in (Answered ticket reply) = Some ticket
answered_in _ = None

-- the ticket that an event loses
abbrev pub lost_in : What → Option ℕ
lost_in (Lost ticket why) = Some ticket
lost_in _ = None

abbrev pub configured_by : ℕ → Reply → Option ℕ
configured_by ticket Configured = Some ticket
configured_by ticket _ = None

-- the ticket that an event answers by the word that its lane is configured
abbrev pub configured_in : What → Option ℕ
configured_in (Answered ticket reply) = configured_by ticket reply
configured_in _ = None

-- the tickets that the events of a history give by one of these
abbrev pub tickets_by : (What → Option ℕ) → List Event → List ℕ
tickets_by gives history = filter_map (λ event. gives event.what) history

-- the summary of a history
abbrev pub summary_of : Fixed → List Event → Summary
summary_of run history = record {
  count = length history;
  goals = (known_of run history).goals;
  decided = (known_of run history).decided;
  asked = (known_of run history).asked;
  problems = (known_of run history).problems;
  answers = (known_of run history).answers;
  begun = begun_of history;
  answered = tickets_by answered_in history;
  lost = tickets_by lost_in history;
  configured = tickets_by configured_in history;
  recorded = recorded_of history;
  fresh = fresh_of history;
  results = λ number goal one. result_from (known_of run []) number goal one history;
  removed = removed_of history;
  cleared = cleared_of history;
  posted = posted_of history;
  host_gone = has_host_end history;
  stopped = has_stop history;
  opened = opened_of run history;
}

-- ---- a summary, read as a history is

abbrev pub plain_event : What → Event
plain_event what = record { seat = 0; what = what }

abbrev pub plain_post : ℕ → Event
plain_post n = plain_event (Posted n)

abbrev pub plain_clear : ℕ → Event
plain_clear at = plain_event (Cleared at)

abbrev pub plain_loss : ℕ → Event
plain_loss ticket = plain_event (Lost ticket Ended)

abbrev pub plain_word : ℕ → Event
plain_word ticket = plain_event (Answered ticket Configured)

abbrev pub plain_reply : ℕ → Event
plain_reply ticket = plain_event (Answered ticket (Error []))

abbrev pub plain_keep : Summary → ℕ → Event
plain_keep summary goal = plain_event (Kept goal (summary.fresh goal))

abbrev pub plain_drop : ℕ → Event
plain_drop row = plain_event (Dropped row)

abbrev pub plain_begin : Errand → Event
plain_begin errand = begins errand.seat errand.ticket errand.lane errand.op

abbrev pub event_if : Bool → Event → List Event → List Event
event_if true event past = event ∷ past
event_if false event past = past

-- plain events that tell the same as a summary, but for what was decided, what entries are made of, and what is pending
abbrev pub plain_history : Summary → List Event
plain_history summary =
    event_if summary.host_gone (plain_event (HostGone Success))
    (event_if summary.stopped (plain_event (Stopped NoMemory))
    (map plain_post summary.posted ++ (map plain_clear summary.cleared ++ (map plain_loss summary.lost
    ++ (map plain_word summary.configured ++ (map plain_reply summary.answered
    ++ (map (plain_keep summary) summary.recorded ++ (map plain_drop summary.removed ++ map plain_begin summary.begun))))))))

-- what a summary tells, as the definitions over what is known read it
abbrev pub known_in : Fixed → Summary → Known
known_in run summary = record {
  run = run;
  history = plain_history summary;
  answers = summary.answers;
  goals = summary.goals;
  decided = summary.decided;
  asked = summary.asked;
  problems = summary.problems;
}

-- ---- one event more

-- what is decided, where this much is: the goals that are not decided yet, in their order, as far as the answers reach
abbrev pub settled : Fixed → List Closed → List Decided → List Goal → List Decided
settled run answers decided [] = decided
settled run answers decided (goal ∷ earlier) =
    if nat_lt (length earlier) (length decided) then decided
    else decided_after run answers goal earlier (settled run answers decided earlier)

-- a summary with what its goals and answers decide
abbrev pub settle : Fixed → Summary → Summary
settle run summary = record summary { decided = settled run summary.answers summary.decided summary.goals }

-- a summary with more problems, at the position of an event after another summary
abbrev pub with_more : Summary → List Problem → Summary → Summary
with_more before troubles later = record later { problems = before.problems ++ at_position before.count troubles }

-- a summary with the problems that an event makes of itself and by what it decides
abbrev pub with_made : Fixed → Summary → What → Summary → Summary
with_made run before what later =
    with_more before (made_problems (known_in run before) (known_in run later) what) later

-- a summary with these problems and those of what is left, where the run is over by the event
abbrev pub with_left : Fixed → Summary → What → List Problem → Summary → Summary
with_left run before what troubles later =
    with_more before
    (troubles ++ (if ends_well (known_in run before) (known_in run later) what then end_problems (known_in run later) else [])) later

-- a summary with all these problems
abbrev pub with_all : Fixed → Summary → What → Summary → Summary
with_all run before what later =
    with_left run before what (made_problems (known_in run before) (known_in run later) what) later

-- a summary with the problem that an event is by itself
abbrev pub with_own : Fixed → Summary → What → Summary → Summary
with_own run before what later = with_more before (option_list (own_problem (known_in run before) what)) later

-- what recorded a goal gave to its entry, with one event more
abbrev pub results_after : Fixed → Summary → What → ℕ → Goal → Decided → Option Result
results_after run before what number goal one =
    option_or (before.results number goal one) (result_by (known_of run []) number goal one (plain_history before) what)

abbrev pub tell : Fixed → Summary → Request → Summary
tell run before request = record before {
  goals = goals_by (known_in run before) request (fate_of (known_in run before) request);
  asked = asked_by (known_in run before) request (fate_of (known_in run before) request) ∷ before.asked;
}

abbrev pub begin : Fixed → Summary → ℕ → ℕ → ℕ → Op → Summary
begin run before seat ticket lane about = record before {
  begun = record { ticket = ticket; seat = seat; lane = lane; op = about } ∷ before.begun;
  opened = cons_option (opened_by (known_in run before) (Begun ticket lane about)) before.opened;
}

abbrev pub answer : Fixed → Summary → ℕ → Reply → Summary
answer run before ticket reply = record before {
  answers = cons_option (closed_by (plain_history before) (Answered ticket reply)) before.answers;
  answered = ticket ∷ before.answered;
  configured = cons_option (configured_by ticket reply) before.configured;
  recorded = cons_option (recorded_by (plain_history before) (Answered ticket reply)) before.recorded;
  results = results_after run before (Answered ticket reply);
  removed = cons_option (removed_by (plain_history before) (Answered ticket reply)) before.removed;
}

abbrev pub keep : Fixed → Summary → ℕ → Option ℕ → Summary
keep run before goal fresh = record before {
  recorded = goal ∷ before.recorded;
  fresh = λ number. option_or (before.fresh number) (fresh_by number (Kept goal fresh));
  results = results_after run before (Kept goal fresh);
}

-- what an event changes: of each event its cells, and no other
abbrev pub changed : Fixed → Summary → ℕ → What → Summary
changed run before seat (Told request) = with_made run before (Told request) (settle run (tell run before request))
changed run before seat (HostGone end) =
    with_left run before (HostGone end) (option_list (problem_of_end end)) (record before { host_gone = true })
changed run before seat (Begun ticket lane about) = begin run before seat ticket lane about
changed run before seat (Answered ticket reply) =
    with_all run before (Answered ticket reply) (settle run (answer run before ticket reply))
changed run before seat (Lost ticket why) = with_own run before (Lost ticket why) (record before { lost = ticket ∷ before.lost })
changed run before seat (Kept goal fresh) = with_left run before (Kept goal fresh) [] (keep run before goal fresh)
changed run before seat (Dropped row) = record before { removed = row ∷ before.removed }
changed run before seat (Cleared at) = record before { cleared = at ∷ before.cleared }
changed run before seat (Posted n) = record before { posted = n ∷ before.posted }
changed run before seat (Stopped stop) = with_more before (problem_of_stop stop ∷ []) (record before { stopped = true })

-- the summary after an event
abbrev pub after : Fixed → Summary → Event → Summary
after run before event = record (changed run before event.seat event.what) { count = before.count + 1 }
