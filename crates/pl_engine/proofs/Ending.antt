-- How a run begins and what it leaves when the host's messages have ended.
use Rattle.std.proofs.Common.{◌≡◌, ℕ, Bool, true, false, ◌||◌, is_some, List, [], ◌∷◌, length, Option, Some, None, IfSome, refl, sym, ◌∙◌, ap, subst, inl, inr, arith}
use Rattle.std.proofs.lemmas.Grind.{common_steps}
use Rattle.std.proofs.lemmas.List.{append-nil}
use Rattle.pl_decide.specs.declared.outcome.Outcome.{Outcome}
use Rattle.pl_decide.specs.declared.outcome.Outcome.TheVariants.{Done, OutOfMemory}
use Rattle.pl_decide.specs.declared.problem.Problem.{Problem}
use Rattle.pl_decide.specs.declared.problem.Problem.TheVariants as problem
use Rattle.pl_events.specs.Closing.{has_stop}
use Rattle.pl_events.specs.declared.event.Event.{Event}
use Rattle.pl_world.specs.Told.{Grew, Piece}
use Rattle.pl_model.specs.Outcomes.{outcome_of_problem}
use Rattle.pl_components.specs.Run.{Fixed}
use Rattle.pl_components.specs.Problems.{first_of, has_problem, least_outcome, outcome_of_event, problem_of_event}
use Rattle.pl_components.specs.Requests.{waiting_of}
use Rattle.pl_components.specs.Entries.{unrecorded_of}
use Rattle.pl_components.specs.HostLines.{HostGave}
use Rattle.pl_engine.specs.Spelled.{host_spelling}
use Rattle.pl_engine.specs.Stored.{IsKeptUp, Stored}
use Rattle.pl_engine.specs.Answered.{IsAnswered, Taken, Written}
use Rattle.pl_engine.specs.Running.{Over}
use Rattle.pl_engine.specs.Headline.{IsDone, IsFinal, IsLegalRun, IsOutcome}
use Rattle.pl_engine.specs.declared.journal.Journal.{Journal}
use Rattle.pl_engine.proofs.Storing.{IsKeptUp-from_complete}

Grew-nothing : (story : Option (List (List ℕ))) → Grew story story []
Grew-nothing None = refl
Grew-nothing (Some told) = ap (λ (xs : List (List ℕ)). Some xs) (sym (append-nil told))

-- before the first event nothing was saved
pub Stored-begun : (run : Fixed) (rose : Type 0) (wanted : Bool) (history : List Event) (marks : List ℕ) (story : Option (List (List ℕ)))
    → history ≡ [] → marks ≡ [] → Stored run host_spelling rose wanted history marks story story
Stored-begun run rose wanted history marks story is none =
    subst (λ (h : List Event). Stored run host_spelling rose wanted h marks story story) (sym is)
    (subst (λ (ms : List ℕ). Stored run host_spelling rose wanted [] ms story story) (sym none) (record {
      complete = λ _. record {
        rising = grind (arith, common_steps);
        after_saves = λ k d below. absurd (omega arith);
        all_marked = tt;
        grown = Grew-nothing story;
        present = inl (refl, refl);
      };
      kept_up = λ some. absurd (let e : false ≡ true = some in cc);
    }))

pub IsKeptUp-stored : (run : Fixed) (rose : Type 0) (wanted : Bool) (history : List Event) (marks : List ℕ) (before now : Option (List (List ℕ)))
    → Stored run host_spelling rose wanted history marks before now → IsKeptUp run host_spelling rose wanted history marks before now
IsKeptUp-stored run rose wanted history marks before now h = by (has_stop history) refl
  where
    by : (b : Bool) → has_stop history ≡ b → IsKeptUp run host_spelling rose wanted history marks before now
    by true is = h.kept_up is
    by false is = IsKeptUp-from_complete run host_spelling rose wanted history marks before now (h.complete is)

-- before the first event nothing was taken and nothing given
pub Taken-begun : (run : Fixed) (history : List Event) (taken : Option (List ℕ)) → history ≡ [] → IfSome taken (λ bytes. bytes ≡ []) → Taken run history taken
Taken-begun run history taken is none = subst (λ (h : List Event). Taken run h taken) (sym is) (λ half. none)

answered-begun : (run : Fixed) (given : Option (List Piece)) → IfSome given (λ pieces. pieces ≡ []) → IfSome given (IsAnswered run [])
answered-begun run None h = tt
answered-begun run (Some pieces) h = subst (λ (ps : List Piece). IsAnswered run [] ps) (sym h)
    (record { uncovered = λ k d below. absurd (omega arith); exact = refl })

pub Written-begun : (run : Fixed) (faults : ℕ) (wanted : Bool) (history : List Event) (given : Option (List Piece))
    → history ≡ [] → IfSome given (λ pieces. pieces ≡ []) → Written run faults wanted false history given
Written-begun run faults wanted history given is none = subst (λ (h : List Event). Written run faults wanted false h given) (sym is) (record {
  exact = λ _. answered-begun run given none;
  loose = λ shut. absurd (let e : false ≡ true = shut in cc);
  cause = λ shut. absurd (let e : false ≡ true = shut in cc);
})

gave-exact : (run : Fixed) (faults : ℕ) (wanted : Bool) (history : List Event) (given : Option (List Piece))
    → IfSome given (IsAnswered run history)
    → IfSome given (HostGave run host_spelling (record { faults = faults; ends = 0; wanted = wanted }) history)
gave-exact run faults wanted history None h = tt
gave-exact run faults wanted history (Some pieces) h = record { uncovered = h.uncovered; answered = inl h.exact }

pub HostGave-written : (run : Fixed) (faults : ℕ) (wanted failed : Bool) (history : List Event) (given : Option (List Piece))
    → Written run faults wanted failed history given
    → IfSome given (HostGave run host_spelling (record { faults = faults; ends = 0; wanted = wanted }) history)
HostGave-written run faults wanted false history given h = gave-exact run faults wanted history given (h.exact refl)
HostGave-written run faults wanted true history given h = h.loose refl

pub IsLegalRun-over : (run : Fixed) (journal : Journal) (failed : Bool) (faults : ℕ) (given : Option (List Piece))
    → Over run journal failed → Written run faults journal.wanted failed journal.history given
    → IsLegalRun run journal.history faults journal.wanted
IsLegalRun-over run journal false faults given over written = record {
  legal = over.consistent.legal;
  ended = over.ended;
  answered = inl (over.answered refl);
}
IsLegalRun-over run journal true faults given over written = record {
  legal = over.consistent.legal;
  ended = over.ended;
  answered = inr (written.cause refl);
}

-- no problem gives success
problem_not_done : (at : ℕ) (trouble : Problem) → outcome_of_problem at trouble ≡ Some Done → ⊥
problem_not_done at problem.MessageTooLong h = cc
problem_not_done at problem.StoreFault h = cc
problem_not_done at (problem.PipeFault child) h = cc
problem_not_done at (problem.ChildEnded child) h = cc
problem_not_done at (problem.BadFrame child bytes) h = cc
problem_not_done at problem.TooManyResources h = cc
problem_not_done at problem.NoMemory h = cc
problem_not_done at problem.StartFault h = cc
problem_not_done at trouble h = cc

event_not_done : (at : ℕ) (trouble : Option Problem) → outcome_of_event at trouble ≡ Some Done → ⊥
event_not_done at None h = cc
event_not_done at (Some trouble) h = problem_not_done at trouble h

first_not_done : (first second : Option Outcome) → (first ≡ Some Done → ⊥) → (second ≡ Some Done → ⊥) → first_of first second ≡ Some Done → ⊥
first_not_done None second f s h = s h
first_not_done (Some outcome) second f s h = f h

not_done : (history : List Event) → least_outcome history ≡ Some Done → ⊥
not_done [] h = cc
not_done (event ∷ past) h = first_not_done (least_outcome past) (outcome_of_event (length past) (problem_of_event event.what))
    (not_done past) (event_not_done (length past) (problem_of_event event.what)) h

final-none : (least : Option Outcome) (wanted : Bool) (outcome : Outcome) → (least ≡ Some Done → ⊥) → IsFinal least wanted outcome → outcome ≡ Done
    → (is_some least || wanted) ≡ false
final-none (Some least) wanted outcome never final done = absurd (never (ap (λ (o : Outcome). Some o) (sym final ∙ done)))
final-none None true outcome never final done = absurd (let e : OutOfMemory ≡ Done = sym final ∙ done in cc)
final-none None false outcome never final done = refl

-- what success means
pub IsOutcome-over : (run : Fixed) (rose : Type 0) (journal : Journal) (failed : Bool) (outcome : Outcome) (before now : Option (List (List ℕ)))
    → Over run journal failed → Stored run host_spelling rose journal.wanted journal.history journal.marks.items before now
    → IsFinal journal.outcome journal.wanted outcome
    → IsOutcome run journal.history journal.marks.items journal.wanted outcome before now
IsOutcome-over run rose journal failed outcome before now over stored final =
    let least : IsFinal (least_outcome journal.history) journal.wanted outcome =
    subst (λ (o : Option Outcome). IsFinal o journal.wanted outcome) over.consistent.outcome final in
    record {
      least = least;
      done = λ done. by
          (sym over.consistent.halted ∙ over.consistent.known
          ∙ ap (λ (o : Option Outcome). is_some o || journal.wanted) over.consistent.outcome
          ∙ final-none (least_outcome journal.history) journal.wanted outcome (not_done journal.history) least done);
    }
  where
    going : has_problem journal.history ≡ false → (b : Bool) → journal.stopped ≡ b → journal.stopped ≡ false
    going free false is = is
    going free true is = absurd (let e : true ≡ false = sym (over.consistent.halting is) ∙ over.consistent.halted ∙ free in cc)

    unfailed : journal.stopped ≡ false → (b : Bool) → failed ≡ b → failed ≡ false
    unfailed calm false is = is
    unfailed calm true is = absurd (let e : true ≡ false = sym (over.failing is) ∙ calm in cc)

    by : has_problem journal.history ≡ false → IsDone run journal.history journal.marks.items before now
    by free =
        let calm : journal.stopped ≡ false = going free journal.stopped refl in
        let idle : waiting_of run journal.history ≡ [] = over.answered (unfailed calm failed refl) in
        let none : unrecorded_of run journal.history ≡ [] = over.recorded.recorded free in
        record {
          quiet = record {
            nothing_due = record { no_post = λ n. rw idle refl; no_keep = λ g. rw none refl };
            nothing_over = λ g. rw none refl;
          };
          complete = stored.complete (sym over.consistent.stopped ∙ calm);
          fulfils = over.recorded.in_order free;
        }
