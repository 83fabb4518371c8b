-- What the definitions tell of the first events of a history. A history is told here in the order in which it
-- happened; the definitions see the newest event first.
use Rattle.std.specs.Prelude.{ℕ, ◌+◌, ◌-◌, Bool, Option, None, List, [], ◌∷◌, length, filter, map, option_map, reverse, take}
use Rattle.std.specs.List.{cons_option, range_with_len}
use Rattle.pl_state.specs.declared.snapshot.Snapshot.{Snapshot}
use Rattle.pl_events.specs.declared.event.Answer.{Answer}
use Rattle.pl_events.specs.declared.event.Event.{Event}
use Rattle.pl_events.specs.declared.event.What.{What}
use Rattle.pl_events.specs.declared.event.What.TheVariants.{Begun}
use Rattle.pl_events.specs.declared.operation.Ask.{Ask}
use Rattle.pl_events.specs.declared.operation.Op.{Op}
use Rattle.pl_decide.specs.declared.decision.Decision.{Decision}
use Rattle.pl_model.specs.declared.fixed.Fixed.{Fixed}
use Rattle.pl_model.specs.declared.work.Work.{Work}
use Rattle.pl_model.specs.Asked.{ask_of}
use Rattle.pl_model.specs.Due.{due_work, first_due, is_due_on}
use Rattle.pl_model.specs.History.{known_of}
use Rattle.pl_model.specs.Known.{Known, asked_at, decided_goal}
use Rattle.pl_model.specs.Posts.{answer_for}
use Rattle.pl_model.specs.Saves.{is_after_save}
use Rattle.pl_model.specs.State.{state_of}
use Rattle.pl_model.specs.Tickets.{begun_of}

-- the first events, the newest one first
abbrev pub first_of : List Event → ℕ → List Event
first_of events count = reverse (take count events)

abbrev pub known_at : Fixed → List Event → ℕ → Known
known_at run events count = known_of run (first_of events count)

abbrev pub known_end : Fixed → List Event → Known
known_end run events = known_of run (reverse events)

abbrev pub state_at : Fixed → List Event → ℕ → Snapshot
state_at run events count = state_of run (first_of events count)

abbrev pub due_at : Fixed → List Event → ℕ → List Work
due_at run events count = due_work (known_at run events count)

abbrev pub due_on_at : Fixed → List Event → ℕ → Op → ℕ → Bool
due_on_at run events count about lane = is_due_on (known_at run events count) about lane

abbrev pub ask_at : Fixed → List Event → ℕ → Op → Option Ask
ask_at run events count about = ask_of (known_at run events count) about

abbrev pub answer_at : Fixed → List Event → ℕ → ℕ → Answer
answer_at run events count n = answer_for (known_at run events count) (asked_at (known_at run events count) n)

abbrev pub decision_at : Fixed → List Event → ℕ → ℕ → Option Decision
decision_at run events count goal = option_map (λ one. one.decision) (decided_goal (known_at run events count) goal)

-- the numbers of events after which there is something to tell: from none to all
abbrev pub counts_of : List Event → List ℕ
counts_of events = range_with_len 0 (length events + 1)

-- what is chosen after each number of events
abbrev pub choices_of : Fixed → List Event → List (Option Work)
choices_of run events = map (λ count. first_due (known_at run events count)) (counts_of events)

-- the same from this number of events on
abbrev pub choices_from : Fixed → List Event → ℕ → List (Option Work)
choices_from run events count =
    map (λ more. first_due (known_at run events (count + more))) (range_with_len 0 (length events + 1 - count))

-- what an event asks of a provider, by the history before it
abbrev pub asked_by : Known → What → Option Ask
asked_by before (Begun ticket lane about) = ask_of before about
asked_by before _ = None

-- what the providers were asked, newest first
abbrev pub asked_in : Fixed → List Event → List Ask
asked_in run [] = []
asked_in run (event ∷ past) = cons_option (asked_by (known_of run past) event.what) (asked_in run past)

-- what the providers were asked, in the order of the tickets
abbrev pub asks_of : Fixed → List Event → List Ask
asks_of run events = reverse (asked_in run (reverse events))

-- the operations that were begun, in the order of the tickets
abbrev pub operations_begun : List Event → List Op
operations_begun events = map (λ errand. errand.op) (reverse (begun_of (reverse events)))

-- the numbers of events after which the checkpoint is replaced
abbrev pub marks_of : Fixed → List Event → List ℕ
marks_of run events = filter (is_after_save run (reverse events)) (counts_of events)
