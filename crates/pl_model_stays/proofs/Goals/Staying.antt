-- References that are recorded stay so when a history grows, and so does the operation that a goal needs.
use Rattle.std.proofs.Common.{◌≡◌, ℕ, ◌==◌, Bool, true, false, not, ◌&&◌, ◌||◌, if◌then◌else◌, List, [], ◌∷◌, length, Option, Some, None, is_some, Ok, Err, refl, sym, ◌∙◌, ap, subst, find, option_map, option_and_then, bytes_eq}
use Rattle.std.proofs.lemmas.Slice.Eq.{bytes_eq-Decides}
use Rattle.std.specs.List.{list_any}
use Rattle.std.specs.Option.{option_or}
use Rattle.std.proofs.Math.Bool.{or-true}
use Rattle.std.proofs.lemmas.Option.{same_Some}
use Rattle.pl_lemmas.proofs.Truth.{and_left, and_right}
use Rattle.pl_lemmas.proofs.Numbers.{same_number}
use Rattle.pl_lemmas.proofs.Lists.{all_weaker}
use Rattle.pl_urn.specs.Grammar.{package_of}
use Rattle.pl_value.specs.Inside.{any_field_unknown}
use Rattle.pl_options.specs.GoalOf.{GoalResult, given, goal_of}
use Rattle.pl_state.specs.References.{further_urns}
use Rattle.pl_lemmas.specs.Words.{has_number, none_or, some_passes}
use Rattle.pl_lemmas.proofs.Options.{passing, only_some}
use Rattle.pl_state.specs.Kinds.{is_provided}
use Rattle.pl_state.specs.declared.goal.Goal.{Goal}
use Rattle.pl_state.specs.declared.goal.Registration.{Registration}
use Rattle.pl_events.specs.declared.event.Event.{Event}
use Rattle.pl_events.specs.declared.event.Request.{Request}
use Rattle.pl_events.specs.declared.event.Request.TheVariants.{Register, Outputs, Invoke}
use Rattle.pl_events.specs.declared.event.What.{What}
use Rattle.pl_events.specs.declared.event.What.TheVariants.{Told, Answered}
use Rattle.pl_events.specs.declared.operation.Op.{Op}
use Rattle.pl_events.specs.declared.operation.Op.TheVariants as op
use Rattle.pl_events.specs.declared.operation.Source.{Source}
use Rattle.pl_events.specs.declared.operation.Source.TheVariants as source
use Rattle.pl_events.specs.declared.operation.Subject.{Subject}
use Rattle.pl_events.specs.declared.operation.Subject.TheVariants as subject
use Rattle.pl_events.specs.declared.reply.Reply.{Reply}
use Rattle.pl_decide.specs.declared.problem.Problem.{Problem}
use Rattle.pl_decide.specs.declared.problem.Problem.TheVariants.{DuplicateUrn}
use Rattle.pl_model.specs.declared.decided.Decided.{Decided}
use Rattle.pl_model.specs.declared.errand.Errand.{Errand}
use Rattle.pl_model.specs.declared.fixed.Fixed.{Fixed}
use Rattle.pl_model.specs.declared.heard.Fate.{Fate}
use Rattle.pl_model.specs.declared.heard.Fate.TheVariants.{Accepted as accepted, Halted as halted, Refused as refused}
use Rattle.pl_model.specs.Run.{is_preview}
use Rattle.pl_model.specs.Tickets.{begun_of, errand_at, same_op, same_source, same_subject, was_begun}
use Rattle.pl_model.specs.Recording.{goal_of_op, is_thing, recorded_by, recorded_by_reply, recorded_of}
use Rattle.pl_model.specs.Claims.{goal_number}
use Rattle.pl_model.specs.History.{goals_after, known_of}
use Rattle.pl_model.specs.Known.{Known, decided_goal, goal_at, has_problem, is_recorded}
use Rattle.pl_model.specs.Requests.{default_goal, default_urn, fate_by, fate_of, goals_by, goals_made, has_goal, invoked_version, named_provider, refusal_of, refused_if, result_refusal, uses_default, with_default, with_goal, with_invoked, with_provider, with_result}
use Rattle.pl_model.specs.Due.{has_unknown_provider, is_reading, is_recorded_urn, op_of_decision, op_of_goal, references_recorded}
use Rattle.pl_model_stays.specs.Laws.{is_configure}
use Rattle.pl_model_stays.proofs.Lists.Growing.{decisions-stay, goals-stay, recordings-stay, run_of}
use Rattle.pl_model_stays.proofs.Operations.Once.{history_of}

-- ---- tests

-- what one pair of tests says, another does too
and_more : (a b c d : Bool) → (a ≡ true → c ≡ true) → (b ≡ true → d ≡ true) → (a && b) ≡ true → (c && d) ≡ true
and_more true b c d first second h = rw (first refl) (second h)
and_more false b c d first second h = absurd (let e : false ≡ true = h in cc)

-- what one of two tests says, one of two others does too
pub or_more : (a b c d : Bool) → (a ≡ true → c ≡ true) → (b ≡ true → d ≡ true) → (a || b) ≡ true → (c || d) ≡ true
or_more true b c d first second h = rw (first refl) refl
or_more false b c d first second h = rw (second h) (or-true c)

-- what one of a list passes, it passes with a weaker test too
pub any_more : {X : Type 0} (test other : X → Bool) → ((x : X) → test x ≡ true → other x ≡ true)
    → (xs : List X) → list_any test xs ≡ true → list_any other xs ≡ true
any_more test other more [] h = absurd (let e : false ≡ true = h in cc)
any_more test other more (x ∷ xs) h =
    or_more (test x) (list_any test xs) (other x) (list_any other xs) (more x) (any_more test other more xs) h

-- what is there, if it is, passes a weaker test too
none_more : {X : Type 0} (test other : X → Bool) → ((x : X) → test x ≡ true → other x ≡ true)
    → (o : Option X) → none_or test o ≡ true → none_or other o ≡ true
none_more test other more None h = refl
none_more test other more (Some x) h = more x h

-- ---- the numbers of URNs

-- a URN that has a number keeps it
abbrev Names : List Goal → List Goal → Type 0
Names earlier later = (urn : List ℕ) (n : ℕ) → goal_number earlier urn ≡ Some n → goal_number later urn ≡ Some n

names_not : (goals : List Goal) → Names goals goals
names_not goals urn n h = h

-- a goal of a new URN hides none
names_more : (goal : Goal) (first goals : List Goal) → is_some (goal_number first goal.urn) ≡ false
    → Names first goals → Names first (goal ∷ goals)
names_more goal first goals new names urn n h = by (bytes_eq goal.urn urn) refl
  where
    by : (b : Bool) → bytes_eq goal.urn urn ≡ b → (if b then Some (length goals) else goal_number goals urn) ≡ Some n
    by true is =
        let same : goal.urn ≡ urn = (bytes_eq-Decides goal.urn urn).0 is in
        let none : is_some (goal_number first urn) ≡ false =
        subst (λ (text : List ℕ). is_some (goal_number first text) ≡ false) same new in
        absurd (let e : true ≡ false = sym (ap (λ (o : Option ℕ). is_some o) h) ∙ none in cc)
    by false is = names urn n h

-- a default provider's own goal is made only where its URN is new
names_default : (known : Known) (provided : List ℕ) (version : Option (List ℕ))
    → Names known.goals (with_default known provided version)
names_default known provided version = by (has_goal known (default_urn known provided version)) refl
  where
    by : (b : Bool) → has_goal known (default_urn known provided version) ≡ b
        → Names known.goals (if b then known.goals else default_goal known provided version ∷ known.goals)
    by true is = names_not known.goals
    by false is = names_more (default_goal known provided version) known.goals known.goals is (names_not known.goals)

-- the goal of a registration, where its URN is new
names_with : (known : Known) (told : Registration) (goal : Goal) → has_goal known goal.urn ≡ false
    → Names known.goals (with_goal known told goal)
names_with known told goal new = by (uses_default told goal)
  where
    by : (b : Bool) → Names known.goals (if b
        then with_provider (with_default known (package_of goal.urn) goal.version) (default_urn known (package_of goal.urn) goal.version) goal
        else record goal { provider = named_provider known (given told.provider) } ∷ known.goals)
    by true = names_more (record goal {
      provider = goal_number (with_default known (package_of goal.urn) goal.version) (default_urn known (package_of goal.urn) goal.version);
    })
        known.goals (with_default known (package_of goal.urn) goal.version) new
        (names_default known (package_of goal.urn) goal.version)
    by false = names_more (record goal { provider = named_provider known (given told.provider) }) known.goals known.goals new
        (names_not known.goals)

pub or_none : {X : Type 0} (first second : Option X) → option_or first second ≡ None → second ≡ None
or_none None second h = h
or_none (Some x) second h = absurd (let e : Some x ≡ None = h in cc)

pub not_refused : (b : Bool) (problem : Problem) → refused_if b problem ≡ None → b ≡ false
not_refused true problem h = absurd (let e : Some problem ≡ None = h in cc)
not_refused false problem h = refl

-- a registration that is not refused has a URN of its own
names_result : (known : Known) (told : Registration) (result : GoalResult) → result_refusal known told result ≡ None
    → Names known.goals (with_result known told result)
names_result known told (Err fault) h = names_not known.goals
names_result known told (Ok goal) h =
    names_with known told goal (not_refused (has_goal known goal.urn) (DuplicateUrn goal.urn) (or_none _ _ (or_none _ _ h)))

names_invoked : (known : Known) (token : List ℕ) (provider version : Option (List ℕ))
    → Names known.goals (with_invoked known token provider version)
names_invoked known token None version = names_default known _ version
names_invoked known token (Some text) version = names_not known.goals

names_made : (known : Known) (request : Request) → refusal_of known request ≡ None → Names known.goals (goals_made known request)
names_made known (Register n told) h = names_result known told (goal_of known.run.stack known.run.project told) h
names_made known (Outputs n urn outputs) h = names_not known.goals
names_made known (Invoke n token args provider version) h = names_invoked known token (given provider) (invoked_version version)

unrefused : (o : Option Problem) → fate_by o ≡ accepted → o ≡ None
unrefused None h = refl
unrefused (Some problem) h = absurd (let e : refused problem ≡ accepted = h in cc)

-- what is accepted is not refused
accepted_unrefused : (known : Known) (request : Request) → fate_of known request ≡ accepted → refusal_of known request ≡ None
accepted_unrefused known request h = by (has_problem known) h
  where
    by : (b : Bool) → (if b then halted else fate_by (refusal_of known request)) ≡ accepted → refusal_of known request ≡ None
    by true h = absurd (let e : halted ≡ accepted = h in cc)
    by false h = unrefused (refusal_of known request) h

names_fate : (known : Known) (request : Request) (fate : Fate) → fate_of known request ≡ fate
    → Names known.goals (goals_by known request fate)
names_fate known request accepted is = names_made known request (accepted_unrefused known request is)
names_fate known request halted is = names_not known.goals
names_fate known request (refused problem) is = names_not known.goals

names_after : (known : Known) (what : What) → Names known.goals (goals_after known what)
names_after known (Told request) = names_fate known request (fate_of known request) refl
names_after known _ = names_not known.goals

-- the number of a URN stays when the history grows
pub names-stay : (run : Fixed) (event : Event) (past : List Event) (urn : List ℕ) (n : ℕ)
    → goal_number (known_of run past).goals urn ≡ Some n → goal_number (known_of run (event ∷ past)).goals urn ≡ Some n
unfolding known_of
names-stay run event past urn n h = names_after (known_of run past) event.what urn n h

-- ---- what stays

-- what a history records, as what it tells has it
pub recorded-as : (run : Fixed) (history : List Event) (number : ℕ)
    → is_recorded (known_of run history) number ≡ has_number (recorded_of history) number
recorded-as run history number = ap (λ (events : List Event). has_number (recorded_of events) number) (history_of run history)

pub recorded-stays : (run : Fixed) (event : Event) (past : List Event) (number : ℕ)
    → is_recorded (known_of run past) number ≡ true → is_recorded (known_of run (event ∷ past)) number ≡ true
recorded-stays run event past number h =
    recorded-as run (event ∷ past) number ∙ recordings-stay run event past number (sym (recorded-as run past number) ∙ h)

module _ (first last : Known) (names : Names first.goals last.goals)
    (stays : (n : ℕ) → is_recorded first n ≡ true → is_recorded last n ≡ true) where
  urn_stays : (urn : List ℕ) → is_recorded_urn first urn ≡ true → is_recorded_urn last urn ≡ true
  urn_stays urn h =
      let found = passing (is_recorded first) (goal_number first.goals urn) h in
      rw (names urn found.0 found.1) (stays found.0 found.2)

  -- the goals of references stay recorded
  references_more : (goal : Goal) → references_recorded first goal ≡ true → references_recorded last goal ≡ true
  references_more goal h =
      and_more _ _ _ _ (and_more _ _ _ _
      (none_more (is_recorded_urn first) (is_recorded_urn last) urn_stays goal.parent)
      (none_more (is_recorded first) (is_recorded last) stays goal.provider))
      (all_weaker (is_recorded_urn first) (is_recorded_urn last) urn_stays (further_urns goal))
      h

pub references-stay : (run : Fixed) (event : Event) (past : List Event) (goal : Goal)
    → references_recorded (known_of run past) goal ≡ true → references_recorded (known_of run (event ∷ past)) goal ≡ true
references-stay run event past goal h =
    references_more (known_of run past) (known_of run (event ∷ past)) (names-stay run event past) (recorded-stays run event past) goal h

-- a goal stands under a number and is decided, and the goals of its references are recorded
pub record IsPlaced (known : Known) (number : ℕ) (goal : Goal) (one : Decided) : Type 0 where
  pub stands : goal_at known number ≡ Some goal
  pub decided : decided_goal known number ≡ Some one
  pub references : references_recorded known goal ≡ true

-- so it is with the goal of a number
abbrev pub IsThere : Known → ℕ → Type 0
IsThere known number = (goal : Goal) × (one : Decided) × IsPlaced known number goal one

-- and this is the operation that the goal needs
abbrev pub IsSent : Known → ℕ → Op → Type 0
IsSent known number about =
    (goal : Goal) × (one : Decided) × IsPlaced known number goal one × (op_of_goal known number goal one ≡ Some about)

pub placed-stays : (run : Fixed) (event : Event) (past : List Event) (number : ℕ) (goal : Goal) (one : Decided)
    → IsPlaced (known_of run past) number goal one → IsPlaced (known_of run (event ∷ past)) number goal one
placed-stays run event past number goal one h = record {
  stands = goals-stay run event past number goal h.stands;
  decided = decisions-stay run event past number one h.decided;
  references = references-stay run event past goal h.references;
}

pub there-stays : (run : Fixed) (event : Event) (past : List Event) (number : ℕ)
    → IsThere (known_of run past) number → IsThere (known_of run (event ∷ past)) number
there-stays run event past number h = (h.0, h.1, placed-stays run event past number h.0 h.1 h.2)

-- the provider of a goal whose references are recorded is recorded
pub provider_recorded : (known : Known) (goal : Goal) (n : ℕ) → references_recorded known goal ≡ true → goal.provider ≡ Some n
    → is_recorded known n ≡ true
provider_recorded known goal n h is =
    subst (λ (o : Option ℕ). none_or (is_recorded known) o ≡ true) is
    (and_right (none_or (is_recorded_urn known) goal.parent) _ (and_left _ _ h))

module _ (first last : Known) (runs : first.run ≡ last.run)
    (stays : (n : ℕ) (one : Decided) → decided_goal first n ≡ Some one → decided_goal last n ≡ Some one)
    (number : ℕ) (goal : Goal) (one : Decided)
    (provided : (n : ℕ) → goal.provider ≡ Some n → (other : Decided) × (decided_goal first n ≡ Some other)) where
  -- whether its provider is not known stays where the provider is decided
  unknown_same : has_unknown_provider first goal ≡ has_unknown_provider last goal
  unknown_same = by goal.provider refl
    where
      by : (o : Option ℕ) → goal.provider ≡ o
          → (is_preview first.run.mode && some_passes (λ n. some_passes (λ other. any_field_unknown other.checked) (decided_goal first n)) o)
          ≡ (is_preview last.run.mode && some_passes (λ n. some_passes (λ other. any_field_unknown other.checked) (decided_goal last n)) o)
      by None is = ap (λ (run : Fixed). is_preview run.mode && false) runs
      by (Some n) is =
          let found = provided n is in
          rw (found.1, stays n found.0 found.1) (ap (λ (run : Fixed). is_preview run.mode && any_field_unknown found.0.checked) runs)

  op_same : op_of_goal first number goal one ≡ op_of_goal last number goal one
  op_same =
      ap (λ (unknown : Bool). if (is_provided goal && (not (is_preview first.run.mode) || (is_reading one.decision && not unknown)))
      then op_of_decision number one.decision else None) unknown_same
      ∙ ap (λ (run : Fixed). if (is_provided goal && (not (is_preview run.mode) || (is_reading one.decision && not (has_unknown_provider last goal))))
      then op_of_decision number one.decision else None) runs

-- the operation of a goal stays when the history grows
pub sent-stays : (run : Fixed) (event : Event) (past : List Event) (number : ℕ) (about : Op)
    → ((n : ℕ) → has_number (recorded_of past) n ≡ true → IsThere (known_of run past) n)
    → IsSent (known_of run past) number about → IsSent (known_of run (event ∷ past)) number about
sent-stays run event past number about held sent = (
  sent.0,
  sent.1,
  placed-stays run event past number sent.0 sent.1 sent.2,
  sym (op_same (known_of run past) (known_of run (event ∷ past)) (run_of run past ∙ sym (run_of run (event ∷ past)))
      (decisions-stay run event past) number sent.0 sent.1 provided) ∙ sent.3,
)
  where
    provided : (n : ℕ) → sent.0.provider ≡ Some n → (other : Decided) × (decided_goal (known_of run past) n ≡ Some other)
    provided n is =
        let there = held n (sym (recorded-as run past n) ∙ provider_recorded (known_of run past) sent.0 n sent.2.references is) in
        (there.1, there.2.decided)

-- two goals of one number need the same operation
pub same_need : (known : Known) (number : ℕ) (a b : Goal) (one other : Decided)
    → IsPlaced known number a one → IsPlaced known number b other
    → op_of_goal known number a one ≡ op_of_goal known number b other
same_need known number a b one other first second =
    ap (λ (goal : Goal). op_of_goal known number goal one) (same_Some a b (sym first.stands ∙ second.stands))
    ∙ ap (λ (decided : Decided). op_of_goal known number b decided) (same_Some one other (sym first.decided ∙ second.decided))

-- ---- errands

pub same_source_self : (a : Source) → same_source a a ≡ true
same_source_self (source.Goal a) = same_number a
same_source_self (source.Row a) = same_number a

same_subject_self : (a : Subject) → same_subject a a ≡ true
same_subject_self (subject.Goal a) = same_number a
same_subject_self (subject.Row a) = same_number a
same_subject_self (subject.Pending a) = same_number a

pub same_op_self : (a : Op) → same_op a a ≡ true
same_op_self (op.CheckConfig a) = same_subject_self a
same_op_self (op.Configure a) = same_source_self a
same_op_self (op.Check a) = same_subject_self a
same_op_self (op.Diff a) = same_subject_self a
same_op_self (op.Create a) = same_subject_self a
same_op_self (op.Update a) = same_subject_self a
same_op_self (op.Delete a) = same_subject_self a
same_op_self (op.Read a) = same_subject_self a
same_op_self (op.Invoke a) = same_number a

-- whether an operation was begun under a ticket
abbrev pub was_sent : List Event → ℕ → Op → Bool
was_sent history ticket about = list_any (λ errand. (errand.ticket == ticket) && same_op errand.op about) (begun_of history)

pub sent_begun : (history : List Event) (ticket : ℕ) (about : Op) → was_sent history ticket about ≡ true
    → was_begun history about ≡ true
sent_begun history ticket about h =
    any_more (λ errand. (errand.ticket == ticket) && same_op errand.op about) (λ errand. same_op errand.op about)
    (λ errand both. and_right (errand.ticket == ticket) _ both) (begun_of history) h

found_sent : (ticket : ℕ) (errands : List Errand) (errand : Errand) → find (λ one. one.ticket == ticket) errands ≡ Some errand
    → list_any (λ one. (one.ticket == ticket) && same_op one.op errand.op) errands ≡ true
found_sent ticket [] errand h = absurd (let e : None ≡ Some errand = h in cc)
found_sent ticket (first ∷ others) errand h = by (first.ticket == ticket) refl (found_sent ticket others errand) h
  where
    by : (b : Bool) → (first.ticket == ticket) ≡ b
        → (find (λ one. one.ticket == ticket) others ≡ Some errand
        → list_any (λ one. (one.ticket == ticket) && same_op one.op errand.op) others ≡ true)
        → (if b then Some first else find (λ one. one.ticket == ticket) others) ≡ Some errand
        → ((b && same_op first.op errand.op) || list_any (λ one. (one.ticket == ticket) && same_op one.op errand.op) others) ≡ true
    by true is rest h =
        rw (subst (λ (one : Errand). same_op first.op one.op ≡ true) (same_Some first errand h) (same_op_self first.op)) refl
    by false is rest h = rest h

-- the errand of a ticket was begun
pub errand_sent : (history : List Event) (ticket : ℕ) (errand : Errand) → errand_at history ticket ≡ Some errand
    → was_sent history ticket errand.op ≡ true
errand_sent history ticket errand h = found_sent ticket (begun_of history) errand h

-- an operation on a goal is no configuration
pub not_configure : (about : Op) (number : ℕ) → goal_of_op about ≡ Some number → is_configure about ≡ false
not_configure (op.Configure provider) number h = absurd (let e : None ≡ Some number = h in cc)
not_configure _ number h = refl

-- an answer records the goal of its errand
pub answered_errand : (past : List Event) (ticket : ℕ) (reply : Reply) (number : ℕ)
    → recorded_by past (Answered ticket reply) ≡ Some number
    → (errand : Errand) × (errand_at past ticket ≡ Some errand) × (goal_of_op errand.op ≡ Some number)
answered_errand past ticket reply number h = by (errand_at past ticket) refl h
  where
    by : (o : Option Errand) → errand_at past ticket ≡ o
        → option_and_then recorded_by_reply (option_map (λ about. record { op = about; reply = reply }) (option_map (λ errand. errand.op) o)) ≡ Some number
        → (errand : Errand) × (errand_at past ticket ≡ Some errand) × (goal_of_op errand.op ≡ Some number)
    by None is h = absurd (let e : None ≡ Some number = h in cc)
    by (Some errand) is h = (errand, is, only_some (is_thing reply) (goal_of_op errand.op) number h)
