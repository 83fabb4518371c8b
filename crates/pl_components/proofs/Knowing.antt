-- What the history of a component run tells, in the words of the definitions of components.
use Rattle.std.proofs.Common.{◌≡◌, ℕ, ◌+◌, ◌-◌, ◌==◌, Bool, true, false, not, ◌||◌, if◌then◌else◌, List, [], ◌∷◌, ◌++◌, length, map, take, Option, Result, Some, None, is_some, refl, sym, ◌∙◌, ap, subst, arith, length-append, append-nil, bytes_eq, nat_lt}
use Rattle.std.proofs.lemmas.Bool.Decides.{nat_tests}
use Rattle.std.specs.List.{cons_option, list_any}
use Rattle.pl_urn.specs.Grammar.{IsScope}
use Rattle.pl_state.specs.declared.fault.OptionFault.{OptionFault}
use Rattle.pl_state.specs.Component.{plain_goal, plain_registration}
use Rattle.pl_lemmas.specs.Words.{number_where, option_list}
use Rattle.pl_state.specs.declared.goal.Goal.{Goal}
use Rattle.pl_state.specs.declared.goal.Registration.{Registration}
use Rattle.pl_events.specs.declared.event.Event.{Event}
use Rattle.pl_events.specs.declared.event.Request.{Request}
use Rattle.pl_events.specs.declared.event.Request.TheVariants.{Register, Outputs, Invoke}
use Rattle.pl_events.specs.declared.event.What.{What}
use Rattle.pl_events.specs.declared.event.What.TheVariants.{Told, HostGone, Begun, Answered, Lost, Kept, Dropped, Cleared, Posted, Stopped}
use Rattle.pl_decide.specs.declared.problem.Problem.{Problem}
use Rattle.pl_model.specs.declared.decided.Decided.{Decided}
use Rattle.pl_model.specs.declared.errand.Closed.{Closed}
use Rattle.pl_model.specs.declared.errand.Errand.{Errand}
use Rattle.pl_model.specs.declared.heard.Fate.{Fate}
use Rattle.pl_model.specs.declared.heard.Fate.TheVariants.{Accepted as accepted, Halted as halted}
use Rattle.pl_model.specs.declared.heard.Heard.{Heard}
use Rattle.pl_model.specs.Claims.{goal_number}
use Rattle.pl_model.specs.Tickets.{answers_of, begun_of, closed_by, errand_by}
use Rattle.pl_model.specs.Known.{Known, known_with, number_of}
use Rattle.pl_model.specs.Requests as requests
use Rattle.pl_model.specs.Problems.{at_position, decision_problems, end_problems, ends_well, made_problems, missing_provider, newly_decided, own_problem, problems_at, provider_problems, refusal_in, request_problem}
use Rattle.pl_model.specs.Problems as problems
use Rattle.pl_model.specs.History.{known_after, known_of, with_problems}
use Rattle.pl_model.specs.History as history
use Rattle.pl_model.specs.Run.{Spelling}
use Rattle.pl_components.specs.Run.{Fixed}
use Rattle.pl_components.specs.Problems.{has_problem, problem_of_event}
use Rattle.pl_components.specs.Requests.{goal_for, goals_after, goals_of, has_goal, has_parent, last_number, is_acceptable, made_by, may_be_next, may_stand}
use Rattle.pl_components.specs.Legal.{IsLegal, MayHappen, is_of_provider_type}
use Rattle.pl_components.specs.Whole.{IsComponentRun, whole}
use Rattle.pl_components.proofs.Lists.{Each, Each-all, Each-reverse, Each-take, and_right, filter_map-none}
use Rattle.pl_components.proofs.Goals.{IsAcceptable, IsAcceptable-from_test, IsFit, IsFit-made, decided_for, decided_goals, goal_of-acceptable, plain_decided}

-- ---- what a history tells

abbrev pub fate_if : Bool → Fate
fate_if true = halted
fate_if false = accepted

abbrev pub asked_as : Bool → List Goal → Request → Heard
asked_as shut goals request = record { request = request; fate = fate_if shut; about = made_by shut goals }

abbrev pub asked_after : Bool → List Goal → What → List Heard → List Heard
asked_after shut goals (Told request) asked = asked_as shut goals request ∷ asked
asked_after shut goals _ asked = asked

-- the told requests, newest first
abbrev pub asked_of : Fixed → List Event → List Heard
asked_of run [] = []
asked_of run (event ∷ past) = asked_after (has_problem past) (goals_of run past) event.what (asked_of run past)

-- the problems, each with its position
abbrev pub placed_of : List Event → List (ℕ × Problem)
placed_of [] = []
placed_of (event ∷ past) = placed_of past ++ at_position (length past) (option_list (problem_of_event event.what))

abbrev pub known_as : Fixed → ℕ → List Event → Known
known_as run parallel past = record {
  run = whole run parallel;
  history = past;
  answers = [];
  goals = goals_of run past;
  decided = map decided_for (goals_of run past);
  asked = asked_of run past;
  problems = placed_of past;
}

-- ---- tests that are the same

pub has_number_where : (test : Goal → Bool) (goals : List Goal) → is_some (number_where test goals) ≡ list_any test goals
has_number_where test [] = refl
has_number_where test (goal ∷ earlier) = by (test goal) (has_number_where test earlier)
  where
    by : (b : Bool) → is_some (number_where test earlier) ≡ list_any test earlier
        → is_some (if b then Some (length earlier) else number_where test earlier) ≡ (b || list_any test earlier)
    by true rest = refl
    by false rest = rest

pub has_goal-known : (goals : List Goal) (urn : List ℕ) → is_some (goal_number goals urn) ≡ has_goal goals urn
has_goal-known goals urn = has_number_where (λ goal. bytes_eq goal.urn urn) goals

placed_more : (position : ℕ) (trouble : Option Problem) (placed : List (ℕ × Problem)) (b : Bool)
    → not (length placed == 0) ≡ b → not (length (placed ++ at_position position (option_list trouble)) == 0) ≡ (is_some trouble || b)
placed_more position None placed b h = ap (λ (xs : List (ℕ × Problem)). not (length xs == 0)) (append-nil placed) ∙ h
placed_more position (Some trouble) placed b h =
    let longer : length (placed ++ (position, trouble) ∷ []) ≡ length placed + 1 = length-append placed ((position, trouble) ∷ []) in
    grind (arith, nat_tests)

pub has_problem-placed : (past : List Event) → not (length (placed_of past) == 0) ≡ has_problem past
has_problem-placed [] = refl
has_problem-placed (event ∷ past) =
    placed_more (length past) (problem_of_event event.what) (placed_of past) (has_problem past) (has_problem-placed past)

-- ---- goals

-- only a registration may come next, and it is halted or acceptable
pub may_stand-next : (run : Fixed) (past : List Event) (request : Request) → may_be_next run past request ≡ true → may_stand run past request ≡ true
may_stand-next run past request next = and_right (nat_lt (last_number past) (number_of request)) (may_stand run past request) next

module _ (run : Fixed) (stack : IsScope run.stack) (project : IsScope run.project) where
  fit_told : (past : List Event) (request : Request) → may_stand run past request ≡ true
      → is_of_provider_type request ≡ false → Each IsFit (goals_of run past)
      → Each IsFit (goals_after run (Told request) (has_problem past) (goals_of run past))
  fit_told past (Outputs n urn outputs) stands type fit = absurd (let e : false ≡ true = stands in cc)
  fit_told past (Invoke n token args provider version) stands type fit = absurd (let e : false ≡ true = stands in cc)
  fit_told past (Register n told) stands type fit = by (has_problem past) stands
    where
      by : (b : Bool) → (b || is_acceptable run (goals_of run past) told) ≡ true → Each IsFit (if b then goals_of run past else (goal_for run told ∷ goals_of run past))
      by true is = fit
      by false is = (IsFit-made run (goals_of run past) told stack project fit type (IsAcceptable-from_test run (goals_of run past) told is), fit)

  fit_after : (spelling : Spelling) (past : List Event) (seat : ℕ) (what : What) → MayHappen run spelling past seat what
      → Each IsFit (goals_of run past)
      → Each IsFit (goals_after run what (has_problem past) (goals_of run past))
  fit_after spelling past seat (Told request) may fit =
      fit_told past request (may_stand-next run past request may.next) may.spelled.other fit
  fit_after spelling past seat (HostGone end) may fit = fit
  fit_after spelling past seat (Begun ticket lane op) may fit = fit
  fit_after spelling past seat (Answered ticket reply) may fit = fit
  fit_after spelling past seat (Lost ticket why) may fit = fit
  fit_after spelling past seat (Kept goal fresh) may fit = fit
  fit_after spelling past seat (Dropped row) may fit = fit
  fit_after spelling past seat (Cleared at) may fit = fit
  fit_after spelling past seat (Posted n) may fit = fit
  fit_after spelling past seat (Stopped stop) may fit = fit

  pub fit_goals : (spelling : Spelling) (past : List Event) → IsLegal run spelling past
      → Each IsFit (goals_of run past)
  fit_goals spelling [] legal = tt
  fit_goals spelling (event ∷ past) legal =
      fit_after spelling past event.seat event.what legal.1 (fit_goals spelling past legal.0)

-- ---- a request that is told

module _ (run : Fixed) (parallel : ℕ) (past : List Event) where
  abbrev before : Known
  before = known_as run parallel past

  refusal_none : (urn kind name : List ℕ) (parent : Option (List ℕ)) → has_parent (goals_of run past) parent ≡ true
      → has_goal (goals_of run past) urn ≡ false
      → requests.goal_refusal before (plain_registration kind name parent) (plain_goal urn kind parent) ≡ None
  refusal_none urn kind name None above fresh = rw (has_goal-known (goals_of run past) urn, fresh) refl
  refusal_none urn kind name (Some parent) above fresh =
      rw (has_goal-known (goals_of run past) parent, above, has_goal-known (goals_of run past) urn, fresh) refl

  fate_calm : (n : ℕ) (told : Registration) → Each IsFit (goals_of run past) → IsAcceptable run (goals_of run past) told
      → requests.refusal_of before (Register n told) ≡ None
  fate_calm n told fit ok =
      ap (λ (r : Result Goal OptionFault). requests.result_refusal before told r) (goal_of-acceptable run (goals_of run past) told fit ok)
      ∙ ap (λ (one : Registration). requests.goal_refusal before one (goal_for run told)) ok.plain
      ∙ refusal_none (goal_for run told).urn told.kind told.name told.parent ok.parent ok.fresh

  made_calm : (n : ℕ) (told : Registration) → Each IsFit (goals_of run past) → IsAcceptable run (goals_of run past) told
      → requests.goals_made before (Register n told) ≡ goal_for run told ∷ goals_of run past
  made_calm n told fit ok =
      ap (λ (r : Result Goal OptionFault). requests.with_result before told r) (goal_of-acceptable run (goals_of run past) told fit ok)
      ∙ ap (λ (one : Registration). requests.with_goal before one (goal_for run told)) ok.plain

  -- its fate, the goals after it, and how it is asked
  pub record IsTold (request : Request) : Type 0 where
    pub fate : requests.fate_of before request ≡ fate_if (has_problem past)
    pub goals : requests.goals_by before request (requests.fate_of before request) ≡ goals_after run (Told request) (has_problem past) (goals_of run past)
    pub asked : requests.asked_by before request (requests.fate_of before request) ≡ asked_as (has_problem past) (goals_of run past) request

  halted_told : (request : Request) → has_problem past ≡ true → IsTold request
  halted_told request is =
      let fate : requests.fate_of before request ≡ halted = rw (has_problem-placed past, is) refl in
      record {
        fate = rw (fate, is) refl;
        goals = rw (fate, is) refl;
        asked = rw (fate, is) refl;
      }

  calm_told : (n : ℕ) (told : Registration) → has_problem past ≡ false → Each IsFit (goals_of run past)
      → IsAcceptable run (goals_of run past) told → IsTold (Register n told)
  calm_told n told is fit ok =
      let fate : requests.fate_of before (Register n told) ≡ accepted = rw (has_problem-placed past, is, fate_calm n told fit ok) refl in
      record {
        fate = rw (fate, is) refl;
        goals = rw (fate, is) (made_calm n told fit ok);
        asked = rw (fate, is, made_calm n told fit ok) refl;
      }

  pub IsTold-next : (request : Request) → may_stand run past request ≡ true → Each IsFit (goals_of run past) → IsTold request
  IsTold-next (Outputs n urn outputs) stands fit = absurd (let e : false ≡ true = stands in cc)
  IsTold-next (Invoke n token args provider version) stands fit = absurd (let e : false ≡ true = stands in cc)
  IsTold-next (Register n told) stands fit = by (has_problem past) refl
    where
      by : (b : Bool) → has_problem past ≡ b → IsTold (Register n told)
      by true is = halted_told (Register n told) is
      by false is = calm_told n told is fit (IsAcceptable-from_test run (goals_of run past) told
          (sym (ap (λ b. b || is_acceptable run (goals_of run past) told) is) ∙ stands))

-- ---- what no component run has

pub no_reply : (run : Fixed) (spelling : Spelling) (past : List Event) (seat : ℕ) (what : What) → MayHappen run spelling past seat what
    → closed_by past what ≡ None
no_reply run spelling past seat (Told request) may = refl
no_reply run spelling past seat (HostGone end) may = refl
no_reply run spelling past seat (Begun ticket lane op) may = refl
no_reply run spelling past seat (Answered ticket reply) may = absurd may
no_reply run spelling past seat (Lost ticket why) may = refl
no_reply run spelling past seat (Kept goal fresh) may = refl
no_reply run spelling past seat (Dropped row) may = refl
no_reply run spelling past seat (Cleared at) may = refl
no_reply run spelling past seat (Posted n) may = refl
no_reply run spelling past seat (Stopped stop) may = refl

-- nothing is answered by a provider
pub no_answers : (run : Fixed) (spelling : Spelling) (past : List Event) → IsLegal run spelling past → answers_of past ≡ []
no_answers run spelling [] legal = refl
no_answers run spelling (event ∷ past) legal =
    ap (λ (closed : Option Closed). cons_option closed (answers_of past)) (no_reply run spelling past event.seat event.what legal.1)
    ∙ no_answers run spelling past legal.0

pub no_errand : (run : Fixed) (spelling : Spelling) (past : List Event) (seat : ℕ) (what : What) → MayHappen run spelling past seat what
    → errand_by seat what ≡ None
no_errand run spelling past seat (Told request) may = refl
no_errand run spelling past seat (HostGone end) may = refl
no_errand run spelling past seat (Begun ticket lane op) may = absurd may
no_errand run spelling past seat (Answered ticket reply) may = refl
no_errand run spelling past seat (Lost ticket why) may = refl
no_errand run spelling past seat (Kept goal fresh) may = refl
no_errand run spelling past seat (Dropped row) may = refl
no_errand run spelling past seat (Cleared at) may = refl
no_errand run spelling past seat (Posted n) may = refl
no_errand run spelling past seat (Stopped stop) may = refl

-- no operation is begun
pub no_errands : (run : Fixed) (spelling : Spelling) (past : List Event) → IsLegal run spelling past → begun_of past ≡ []
no_errands run spelling [] legal = refl
no_errands run spelling (event ∷ past) legal =
    ap (λ (errand : Option Errand). cons_option errand (begun_of past)) (no_errand run spelling past event.seat event.what legal.1)
    ∙ no_errands run spelling past legal.0

-- ---- problems

own_same : (before : Known) (run : Fixed) (spelling : Spelling) (past : List Event) (seat : ℕ) (what : What) → MayHappen run spelling past seat what
    → own_problem before what ≡ problem_of_event what
own_same before run spelling past seat (Told request) may = refl
own_same before run spelling past seat (HostGone end) may = refl
own_same before run spelling past seat (Begun ticket lane op) may = absurd may
own_same before run spelling past seat (Answered ticket reply) may = absurd may
own_same before run spelling past seat (Lost ticket why) may = absurd may
own_same before run spelling past seat (Kept goal fresh) may = refl
own_same before run spelling past seat (Dropped row) may = absurd may
own_same before run spelling past seat (Cleared at) may = absurd may
own_same before run spelling past seat (Posted n) may = refl
own_same before run spelling past seat (Stopped stop) may = refl

if_same : {X : Type 0} (b : Bool) (xs : List X) → (if b then xs else xs) ≡ xs
if_same true xs = refl
if_same false xs = refl

each_plain : (P : Decided → Type 0) → P plain_decided → (goals : List Goal) → Each P (map decided_for goals)
each_plain P h [] = tt
each_plain P h (goal ∷ earlier) = (h, each_plain P h earlier)

module _ (run : Fixed) (parallel : ℕ) (past : List Event) (event : Event) where
  abbrev old : Known
  old = known_as run parallel past

  -- what is known after the event, but for the problems that it makes
  abbrev new : Known
  new = record {
    run = whole run parallel;
    history = event ∷ past;
    answers = [];
    goals = goals_of run (event ∷ past);
    decided = map decided_for (goals_of run (event ∷ past));
    asked = asked_of run (event ∷ past);
    problems = placed_of past;
  }

  no_refusals : decision_problems old new ≡ []
  no_refusals = filter_map-none (λ (one : Decided). refusal_in one.decision) (newly_decided old new)
      (Each-reverse (λ (one : Decided). refusal_in one.decision ≡ None) (take (length new.decided - length old.decided) new.decided)
      (Each-take (λ (one : Decided). refusal_in one.decision ≡ None) (length new.decided - length old.decided) new.decided
      (each_plain (λ (one : Decided). refusal_in one.decision ≡ None) refl (goals_of run (event ∷ past)))))

  no_lacks : provider_problems old new ≡ []
  no_lacks = filter_map-none (missing_provider new) (newly_decided old new)
      (Each-all (λ (one : Decided). missing_provider new one ≡ None) (λ one. refl) (newly_decided old new))

  problem_told : (what : What) → ((request : Request) → what ≡ Told request → IsTold run parallel past request)
      → request_problem old what ≡ None
  problem_told (Told request) told =
      ap (λ (fate : Fate). problems.problem_of_fate fate) ((told request refl).fate) ∙ by (has_problem past)
    where
      by : (b : Bool) → problems.problem_of_fate (fate_if b) ≡ None
      by true = refl
      by false = refl
  problem_told (HostGone end) told = refl
  problem_told (Begun ticket lane op) told = refl
  problem_told (Answered ticket reply) told = refl
  problem_told (Lost ticket why) told = refl
  problem_told (Kept goal fresh) told = refl
  problem_told (Dropped row) told = refl
  problem_told (Cleared at) told = refl
  problem_told (Posted n) told = refl
  problem_told (Stopped stop) told = refl

  -- the problems that it makes
  problems_made : (spelling : Spelling) → MayHappen run spelling past event.seat event.what
      → ((request : Request) → event.what ≡ Told request → IsTold run parallel past request)
      → problems_at old new event.what ≡ option_list (problem_of_event event.what)
  problems_made spelling may told =
      ap (λ (more : List Problem). made_problems old new event.what ++ more) (if_same (ends_well old new event.what) [])
      ∙ append-nil (made_problems old new event.what)
      ∙ ap (λ (first : Option Problem). option_list first ++ (decision_problems old new ++ (option_list (own_problem old event.what) ++ provider_problems old new))) (problem_told event.what told)
      ∙ ap (λ (more : List Problem). more ++ (option_list (own_problem old event.what) ++ provider_problems old new)) no_refusals
      ∙ ap (λ (more : List Problem). option_list (own_problem old event.what) ++ more) no_lacks
      ∙ append-nil (option_list (own_problem old event.what))
      ∙ ap (λ (own : Option Problem). option_list own) (own_same old run spelling past event.seat event.what may)

  goals_known : (what : What) → ((request : Request) → what ≡ Told request → IsTold run parallel past request)
      → history.goals_after old what ≡ goals_after run what (has_problem past) (goals_of run past)
  goals_known (Told request) told = (told request refl).goals
  goals_known (HostGone end) told = refl
  goals_known (Begun ticket lane op) told = refl
  goals_known (Answered ticket reply) told = refl
  goals_known (Lost ticket why) told = refl
  goals_known (Kept goal fresh) told = refl
  goals_known (Dropped row) told = refl
  goals_known (Cleared at) told = refl
  goals_known (Posted n) told = refl
  goals_known (Stopped stop) told = refl

  asked_known : (what : What) → ((request : Request) → what ≡ Told request → IsTold run parallel past request)
      → history.asked_after old what ≡ asked_after (has_problem past) (goals_of run past) what (asked_of run past)
  asked_known (Told request) told = ap (λ (one : Heard). one ∷ asked_of run past) ((told request refl).asked)
  asked_known (HostGone end) told = refl
  asked_known (Begun ticket lane op) told = refl
  asked_known (Answered ticket reply) told = refl
  asked_known (Lost ticket why) told = refl
  asked_known (Kept goal fresh) told = refl
  asked_known (Dropped row) told = refl
  asked_known (Cleared at) told = refl
  asked_known (Posted n) told = refl
  asked_known (Stopped stop) told = refl

  abbrev with : List Closed → List Goal → List Heard → Known
  with answers goals asked = known_with (whole run parallel) (event ∷ past) answers goals asked (placed_of past)

  known_new : answers_of (event ∷ past) ≡ [] → Each IsFit (goals_of run (event ∷ past))
      → ((request : Request) → event.what ≡ Told request → IsTold run parallel past request)
      → with (answers_of (event ∷ past)) (history.goals_after old event.what) (history.asked_after old event.what) ≡ new
  known_new none fit told =
      ap (λ (answers : List Closed). with answers (history.goals_after old event.what) (history.asked_after old event.what)) none
      ∙ ap (λ (goals : List Goal). with [] goals (history.asked_after old event.what)) (goals_known event.what told)
      ∙ ap (λ (asked : List Heard). with [] (goals_of run (event ∷ past)) asked) (asked_known event.what told)
      ∙ ap (λ (decided : List Decided). record new { decided = decided }) (decided_goals run parallel (goals_of run (event ∷ past)) fit)

  known_next : (spelling : Spelling) → MayHappen run spelling past event.seat event.what → answers_of (event ∷ past) ≡ []
      → Each IsFit (goals_of run (event ∷ past))
      → ((request : Request) → event.what ≡ Told request → IsTold run parallel past request)
      → known_after event old ≡ known_as run parallel (event ∷ past)
  known_next spelling may none fit told =
      ap (λ (after : Known). with_problems old event.what after) (known_new none fit told)
      ∙ ap (λ (made : List Problem). record new { problems = placed_of past ++ at_position (length past) made }) (problems_made spelling may told)

-- a run up to the event before
pub before_run : (run : Fixed) (spelling : Spelling) (event : Event) (past : List Event) → IsComponentRun run spelling (event ∷ past)
    → IsComponentRun run spelling past
before_run run spelling event past h = record { stack = h.stack; project = h.project; legal = h.legal.0 }

told_in : (run : Fixed) (parallel : ℕ) (spelling : Spelling) (past : List Event) (seat : ℕ) (what : What)
    → MayHappen run spelling past seat what → Each IsFit (goals_of run past)
    → (request : Request) → what ≡ Told request → IsTold run parallel past request
told_in run parallel spelling past seat what may fit request is =
    let told : MayHappen run spelling past seat (Told request) =
    subst (λ (w : What). MayHappen run spelling past seat w) is may in
    IsTold-next run parallel past request (may_stand-next run past request told.next) fit

-- what the history of a component run tells
pub known_is : (run : Fixed) (parallel : ℕ) (spelling : Spelling) (past : List Event) → IsComponentRun run spelling past
    → known_of (whole run parallel) past ≡ known_as run parallel past
unfolding known_of
known_is run parallel spelling [] h = refl
known_is run parallel spelling (event ∷ past) h =
    ap (λ (before : Known). known_after event before) (known_is run parallel spelling past (before_run run spelling event past h))
    ∙ known_next run parallel past event spelling h.legal.1
    (no_answers run spelling (event ∷ past) h.legal)
    (fit_goals run h.stack h.project spelling (event ∷ past) h.legal)
    (told_in run parallel spelling past event.seat event.what h.legal.1 (fit_goals run h.stack h.project spelling past h.legal.0))
