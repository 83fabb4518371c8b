-- The law of the step.
use Rattle.std.proofs.Common.{◌≡◌, if◌then◌else◌, ℕ, ◌+◌, true, List, [], ◌∷◌, ◌++◌, length, None, refl, sym, ◌∙◌, ap, subst}
use Rattle.std.proofs.Math.Numerals.{suc-eq-add-one}
use Rattle.std.proofs.lemmas.List.{append-nil}
use Rattle.std.specs.List.{cons_option}
use Rattle.std.specs.Option.{option_or}
use Rattle.pl_lemmas.proofs.Options.{or_none}
use Rattle.pl_lemmas.specs.Words.{option_list}
use Rattle.pl_events.specs.declared.event.Event.{Event}
use Rattle.pl_events.specs.declared.event.Request.{Request}
use Rattle.pl_events.specs.declared.event.What.{What}
use Rattle.pl_events.specs.declared.event.What.TheVariants.{Told, HostGone, Begun, Answered, Lost, Kept, Dropped, Cleared, Posted, Stopped}
use Rattle.pl_decide.specs.declared.problem.Problem.{Problem}
use Rattle.pl_model.specs.declared.fixed.Fixed.{Fixed}
use Rattle.pl_model.specs.declared.errand.Closed.{Closed}
use Rattle.pl_model.specs.Tickets.{answers_of, closed_by}
use Rattle.pl_model.specs.Recording.{fresh_by}
use Rattle.pl_model.specs.Decisions.{decided_of}
use Rattle.pl_model.specs.Entries.{result_by}
use Rattle.pl_model.specs.History.{asked_after, goals_after, known_of}
use Rattle.pl_model.specs.declared.heard.Fate.{Fate}
use Rattle.pl_model.specs.Known.{Known, known_by}
use Rattle.pl_model.specs.Problems.{at_position, end_problems, ends_well, own_problem, problems_at, request_problem}
use Rattle.pl_model.specs.Requests.{asked_by, fate_of, goals_by}
use Rattle.pl_model.specs.State.{opened_by, opened_of}
use Rattle.pl_model.specs.Step.{Summary, after, answer, begin, configured_by, keep, known_in, plain_history, results_after, settle, settled, summary_of, tell}
use Rattle.pl_model_step.specs.Law.{SummarySteps}
use Rattle.pl_model_step.proofs.Alike.{Alike, closed_alike, recorded_alike, removed_alike, result_alike, same_fate, same_opened, same_problems}
use Rattle.pl_model_step.proofs.Plain.{plain_begun, plain_host, plain_recorded, plain_removed}
use Rattle.pl_model_step.proofs.PlainTickets.{same_fresh}
use Rattle.pl_model_step.proofs.Unchanged.{only_made, only_own, stays_over}
use Rattle.pl_model_step.proofs.Settling.{added_goals, settled_answered, settled_told}

-- ---- what a history tells

pub run_of : (run : Fixed) (history : List Event) → (known_of run history).run ≡ run
unfolding known_of
run_of run [] = refl
run_of run (event ∷ past) = run_of run past

pub history_of : (run : Fixed) (history : List Event) → (known_of run history).history ≡ history
unfolding known_of
history_of run [] = refl
history_of run (event ∷ past) = ap (λ (events : List Event). event ∷ events) (history_of run past)

answers_as : (run : Fixed) (history : List Event) → answers_of (known_of run history).history ≡ (known_of run history).answers
unfolding known_of
answers_as run [] = refl
answers_as run (event ∷ past) = refl

decided_as : (run : Fixed) (history : List Event)
    → decided_of (known_of run history).run (known_of run history).answers (known_of run history).goals ≡ (known_of run history).decided
unfolding known_of
decided_as run [] = refl
decided_as run (event ∷ past) = refl

-- plain events tell the same as the history
pub plain_alike : (run : Fixed) (history : List Event) → Alike history (plain_history (summary_of run history))
plain_alike run history = record {
  recorded = sym (plain_recorded (summary_of run history));
  fresh = λ goal. sym (same_fresh run history goal);
  removed = sym (plain_removed (summary_of run history));
  begun = sym (plain_begun (summary_of run history));
  host = sym (plain_host (summary_of run history));
}

module _ (run : Fixed) (past : List Event) where
  abbrev pub known : Known
  known = known_of run past

  abbrev before : Summary
  before = summary_of run past

  abbrev alike : Alike past (plain_history before)
  alike = plain_alike run past

  -- what is known, of this run and this history
  abbrev pub placed : Known
  placed = record known { run = run; history = past }

  pub place : known ≡ placed
  place = λ i. record known { run = run_of run past i; history = history_of run past i }

  fates : (request : Request) → fate_of known request ≡ fate_of (known_in run before) request
  fates request = ap (λ (one : Known). fate_of one request) place ∙ same_fate placed (plain_history before) alike request

  goals_told : (request : Request)
      → goals_by known request (fate_of known request) ≡ goals_by (known_in run before) request (fate_of (known_in run before) request)
  goals_told request =
      ap (λ (one : Known). goals_by one request (fate_of known request)) place
      ∙ ap (λ (fate : Fate). goals_by (known_in run before) request fate) (fates request)

  asked_told : (request : Request)
      → asked_by known request (fate_of known request) ≡ asked_by (known_in run before) request (fate_of (known_in run before) request)
  asked_told request =
      ap (λ (one : Known). asked_by one request (fate_of known request)) place
      ∙ ap (λ (fate : Fate). asked_by (known_in run before) request fate) (fates request)

  opened : (what : What) → opened_by known what ≡ opened_by (known_in run before) what
  opened what = ap (λ (one : Known). opened_by one what) place ∙ same_opened placed (plain_history before) alike what

  -- ---- the cells but for problems and the count

  abbrev plain : List Event
  plain = plain_history before

  decided_so : decided_of run known.answers known.goals ≡ known.decided
  decided_so = (λ i. decided_of (sym (run_of run past) i) known.answers known.goals) ∙ decided_as run past

  decided_same : decided_of known.run (answers_of known.history) known.goals ≡ known.decided
  decided_same = (λ i. decided_of known.run (answers_as run past i) known.goals) ∙ decided_as run past

  closed : (what : What) → closed_by known.history what ≡ closed_by plain what
  closed what = ap (λ (history : List Event). closed_by history what) (history_of run past) ∙ closed_alike past plain alike what

  abbrev answers_with : What → List Closed
  answers_with what = cons_option (closed_by plain what) known.answers

  decided_answered : (what : What)
      → decided_of known.run (cons_option (closed_by known.history what) (answers_of known.history)) known.goals
      ≡ settled run (answers_with what) known.decided known.goals
  decided_answered what =
      (λ i. decided_of (run_of run past i) (cons_option (closed what i) (answers_as run past i)) known.goals)
      ∙ sym (settled_answered run (closed_by plain what) known.answers known.goals)
      ∙ (λ i. settled run (answers_with what) (decided_so i) known.goals)

  decided_told : (request : Request)
      → decided_of known.run (answers_of known.history) (goals_by known request (fate_of known request))
      ≡ settled run known.answers known.decided (goals_by (known_in run before) request (fate_of (known_in run before) request))
  decided_told request =
      (λ i. decided_of (run_of run past i) (answers_as run past i) (goals_told request i))
      ∙ sym (settled_told run known.answers known.goals _ (added_goals (known_in run before) request (fate_of (known_in run before) request)))
      ∙ (λ i. settled run known.answers (decided_so i) (goals_by (known_in run before) request (fate_of (known_in run before) request)))

  abbrev cells : ℕ → What → Summary
  cells seat (Told request) = settle run (tell run before request)
  cells seat (HostGone end) = record before { host_gone = true }
  cells seat (Begun ticket lane about) = begin run before seat ticket lane about
  cells seat (Answered ticket reply) = settle run (answer run before ticket reply)
  cells seat (Lost ticket why) = record before { lost = ticket ∷ before.lost }
  cells seat (Kept goal fresh) = keep run before goal fresh
  cells seat (Dropped row) = record before { removed = row ∷ before.removed }
  cells seat (Cleared at) = record before { cleared = at ∷ before.cleared }
  cells seat (Posted n) = record before { posted = n ∷ before.posted }
  cells seat (Stopped stop) = record before { stopped = true }

  abbrev with_event : ℕ → What → List Event
  with_event seat what = record { seat = seat; what = what } ∷ past

  -- the summary with the event, but for problems and the count
  abbrev target : ℕ → What → Summary
  target seat what = record (summary_of run (with_event seat what)) { count = before.count; problems = before.problems }

  -- what an event leaves as it was
  others : record before {
    answers = answers_of known.history;
    decided = decided_of known.run (answers_of known.history) known.goals;
    fresh = λ goal. option_or (before.fresh goal) None;
    results = λ number goal one. option_or (before.results number goal one) None;
  } ≡ before
  others = λ i. record before {
    answers = answers_as run past i;
    decided = decided_same i;
    fresh = λ goal. or_none (before.fresh goal) i;
    results = λ number goal one. or_none (before.results number goal one) i;
  }

  gives : (what : What) → (λ number goal one. option_or (before.results number goal one) (result_by (known_of run []) number goal one past what))
      ≡ results_after run before what
  gives what = λ i number goal one.
      option_or (before.results number goal one) (result_alike (known_of run []) number goal one past plain alike what i)

  same_cells : (seat : ℕ) (what : What) → target seat what ≡ cells seat what
  unfolding known_of opened_of
  same_cells seat (Told request) = λ i. record (others i) {
    goals = goals_told request i;
    asked = asked_told request i ∷ known.asked;
    decided = decided_told request i;
  }
  same_cells seat (HostGone end) = λ i. record (others i) { host_gone = true }
  same_cells seat (Begun ticket lane about) = λ i. record (others i) {
    begun = record { ticket = ticket; seat = seat; lane = lane; op = about } ∷ before.begun;
    opened = cons_option (opened (Begun ticket lane about) i) before.opened;
  }
  same_cells seat (Answered ticket reply) = λ i. record (others i) {
    answers = cons_option (closed (Answered ticket reply) i) (answers_as run past i);
    answered = ticket ∷ before.answered;
    configured = cons_option (configured_by ticket reply) before.configured;
    decided = decided_answered (Answered ticket reply) i;
    recorded = cons_option (recorded_alike past plain alike (Answered ticket reply) i) before.recorded;
    removed = cons_option (removed_alike past plain alike (Answered ticket reply) i) before.removed;
    results = gives (Answered ticket reply) i;
  }
  same_cells seat (Lost ticket why) = λ i. record (others i) { lost = ticket ∷ before.lost }
  same_cells seat (Kept goal fresh) = λ i. record (others i) {
    recorded = goal ∷ before.recorded;
    fresh = λ number. option_or (before.fresh number) (fresh_by number (Kept goal fresh));
    results = gives (Kept goal fresh) i;
  }
  same_cells seat (Dropped row) = λ i. record (others i) { removed = row ∷ before.removed }
  same_cells seat (Cleared at) = λ i. record (others i) { cleared = at ∷ before.cleared }
  same_cells seat (Posted n) = λ i. record (others i) { posted = n ∷ before.posted }
  same_cells seat (Stopped stop) = λ i. record (others i) { stopped = true }

  -- ---- problems

  -- what is known with the event, as the problems are told of it
  abbrev known_with : ℕ → What → Known
  known_with seat what =
      known_by known.run (record { seat = seat; what = what } ∷ known.history) (goals_after known what) (asked_after known what) known.problems

  abbrev placed_with : ℕ → What → Known
  placed_with seat what = record (known_in run (cells seat what)) { history = with_event seat what }

  place_with : (seat : ℕ) (what : What) → known_with seat what ≡ placed_with seat what
  unfolding known_of opened_of
  place_with seat what = λ i. record {
    run = run_of run past i;
    history = record { seat = seat; what = what } ∷ history_of run past i;
    answers = (same_cells seat what i).answers;
    goals = (same_cells seat what i).goals;
    decided = (same_cells seat what i).decided;
    asked = (same_cells seat what i).asked;
    problems = (same_cells seat what i).problems;
  }

  alike_with : (seat : ℕ) (what : What) → Alike (with_event seat what) (plain_history (cells seat what))
  alike_with seat what =
      subst (λ (summary : Summary). Alike (with_event seat what) (plain_history summary)) (same_cells seat what)
      (plain_alike run (with_event seat what))

  made : (seat : ℕ) (what : What)
      → problems_at known (known_with seat what) what ≡ problems_at (known_in run before) (known_in run (cells seat what)) what
  made seat what =
      (λ i. problems_at (place i) (place_with seat what i) what)
      ∙ same_problems placed (placed_with seat what) plain (plain_history (cells seat what)) alike (alike_with seat what) what

  same_made : (seat : ℕ) (what : What)
      → (summary_of run (with_event seat what)).problems
      ≡ before.problems ++ at_position before.count (problems_at (known_in run before) (known_in run (cells seat what)) what)
  unfolding known_of
  same_made seat what = λ i. known.problems ++ at_position (length (history_of run past i)) (made seat what i)

  -- ---- the step

  stepped : (seat : ℕ) (what : What) → summary_of run (with_event seat what) ≡ record (cells seat what) {
    count = before.count + 1;
    problems = before.problems ++ at_position before.count (problems_at (known_in run before) (known_in run (cells seat what)) what);
  }
  stepped seat what =
      λ i. record (same_cells seat what i) { count = suc-eq-add-one before.count i; problems = same_made seat what i }

  abbrev at_first : Known
  at_first = known_in run before

  abbrev at_last : ℕ → What → Known
  at_last seat what = known_in run (cells seat what)

  -- where the problems that an event makes are these
  stepped_with : (seat : ℕ) (what : What) (troubles : List Problem) → problems_at at_first (at_last seat what) what ≡ troubles
      → summary_of run (with_event seat what)
      ≡ record (cells seat what) { count = before.count + 1; problems = before.problems ++ at_position before.count troubles }
  stepped_with seat what troubles same =
      stepped seat what
      ∙ (λ i. record (cells seat what) { count = before.count + 1; problems = before.problems ++ at_position before.count (same i) })

  -- where an event decides nothing
  stepped_own : (seat : ℕ) (what : What) → (cells seat what).decided ≡ before.decided → request_problem at_first what ≡ None
      → problems_at at_first (at_last seat what) what
      ≡ option_list (own_problem at_first what) ++ (if ends_well at_first (at_last seat what) what then end_problems (at_last seat what) else [])
  stepped_own seat what decided none =
      λ i. only_own run before (cells seat what) what decided none i
      ++ (if ends_well at_first (at_last seat what) what then end_problems (at_last seat what) else [])

  -- where it records nothing too, and is no end of the host
  stepped_alone : (seat : ℕ) (what : What) → (cells seat what).decided ≡ before.decided → (cells seat what).goals ≡ before.goals
      → (cells seat what).recorded ≡ before.recorded → (cells seat what).host_gone ≡ before.host_gone
      → request_problem at_first what ≡ None
      → problems_at at_first (at_last seat what) what ≡ option_list (own_problem at_first what)
  stepped_alone seat what decided goals recorded host none =
      only_made run before (cells seat what) what (stays_over run before (cells seat what) host recorded ([], goals))
      ∙ only_own run before (cells seat what) what decided none

  stepped_none : (seat : ℕ) (what : What) → problems_at at_first (at_last seat what) what ≡ []
      → summary_of run (with_event seat what) ≡ record (cells seat what) { count = before.count + 1; problems = before.problems }
  stepped_none seat what none =
      stepped_with seat what [] none
      ∙ (λ i. record (cells seat what) { count = before.count + 1; problems = append-nil before.problems i })

  step_by : (seat : ℕ) (what : What) → summary_of run (with_event seat what) ≡ after run before (record { seat = seat; what = what })
  step_by seat (Told request) =
      stepped_with seat (Told request) _ (only_made run before (cells seat (Told request)) (Told request)
      (stays_over run before (cells seat (Told request)) refl refl (added_goals at_first request (fate_of at_first request))))
  step_by seat (HostGone end) = stepped_with seat (HostGone end) _ (stepped_own seat (HostGone end) refl refl)
  step_by seat (Begun ticket lane about) =
      stepped_none seat (Begun ticket lane about) (stepped_alone seat (Begun ticket lane about) refl refl refl refl refl)
  step_by seat (Answered ticket reply) = stepped seat (Answered ticket reply)
  step_by seat (Lost ticket why) =
      stepped_with seat (Lost ticket why) _ (stepped_alone seat (Lost ticket why) refl refl refl refl refl)
  step_by seat (Kept goal fresh) = stepped_with seat (Kept goal fresh) _ (stepped_own seat (Kept goal fresh) refl refl)
  step_by seat (Dropped row) = stepped_none seat (Dropped row) (stepped_alone seat (Dropped row) refl refl refl refl refl)
  step_by seat (Cleared at) = stepped_none seat (Cleared at) (stepped_alone seat (Cleared at) refl refl refl refl refl)
  step_by seat (Posted n) = stepped_none seat (Posted n) (stepped_alone seat (Posted n) refl refl refl refl refl)
  step_by seat (Stopped stop) = stepped_with seat (Stopped stop) _ (stepped_alone seat (Stopped stop) refl refl refl refl refl)

pub summary-steps : SummarySteps
summary-steps run event past = step_by run past event.seat event.what
