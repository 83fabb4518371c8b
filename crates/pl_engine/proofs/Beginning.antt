-- How what is evident since a later moment is so since an earlier one.
use Rattle.std.proofs.Common.{◌≡◌, ℕ, ◌≤◌, Bool, List, [], ◌∷◌, ◌++◌, reverse, Option, Some, None, MatchOption, ◌∙◌, ap, subst, inl, inr}
use Rattle.pl_events.specs.declared.event.Event.{Event}
use Rattle.pl_decide.specs.declared.outcome.Outcome.{Outcome}
use Rattle.pl_decide.specs.declared.outcome.Outcome.TheVariants.{StoreFault, StartFault}
use Rattle.pl_world.specs.Counts.{Rose}
use Rattle.pl_components.specs.Run.{Fixed}
use Rattle.pl_engine.specs.Content.{IsBegun}
use Rattle.pl_engine.specs.Evidence.{Evidence, Halves, IsServed, IsUnstarted, IsWorked, Told}
use Rattle.pl_engine.specs.Headline.{IsEarly, IsOutcome, run_over}
use Rattle.pl_engine.specs.Spelled.{host_spelling}
use Rattle.pl_engine.specs.Stored.{IsKeptUp}
use Rattle.pl_engine.proofs.Saving.{AllMarked-caused}
use Rattle.pl_engine.proofs.Storing.{Rose-earlier}

IsKeptUp-caused : (run : Fixed) (rose rose' : Type 0) (wanted : Bool) (history : List Event) (marks : List ℕ) (before now : Option (List (List ℕ)))
    → (rose → rose') → IsKeptUp run host_spelling rose wanted history marks before now → IsKeptUp run host_spelling rose' wanted history marks before now
IsKeptUp-caused run rose rose' wanted history marks before now up k = record {
  saved = record {
    rising = k.saved.rising;
    after_saves = k.saved.after_saves;
    all_marked = AllMarked-caused rose rose' wanted wanted None history marks up (λ w. w) k.saved.all_marked;
  };
  grown = (
    k.grown.0,
    k.grown.1,
    elim k.grown.2 [
      | inl exact ↦ inl exact
      | inr more ↦ inr (more.0, more.1, record { cause = up more.2.cause; of_prefix = more.2.of_prefix })
    ],
  );
}

-- an outcome from before the run has its cause also by counts that rose earlier
IsEarly-caused : (content : Option (List (List ℕ))) (store store' spawner spawner' : Type 0) (outcome : Outcome)
    → (store → store') → (spawner → spawner') → IsEarly content store spawner outcome → IsEarly content store' spawner' outcome
IsEarly-caused content store store' spawner spawner' StoreFault up starts h = up h
IsEarly-caused content store store' spawner spawner' StartFault up starts h = (h.0, starts h.1)
IsEarly-caused content store store' spawner spawner' _ up starts h = h

-- the moment stands between the start and now: the store's story is as it was, and its count no lower
module _ (before middle : Told) (le : before.store_faults ≤ middle.store_faults) (is : middle.story ≡ before.story) where
  served-earlier : (run : Fixed) (now : Told) (history : List Event) (marks : List ℕ) (wanted : Bool) (outcome : Outcome) (used : Halves)
      → IsServed run middle now history marks wanted outcome used → IsServed run before now history marks wanted outcome used
  served-earlier run now history marks wanted outcome used h = record {
    legal = h.legal;
    saved = subst (λ (story : Option (List (List ℕ))). IsKeptUp run host_spelling (Rose before.store_faults now.store_faults) wanted history marks story now.story) is
        (IsKeptUp-caused run (Rose middle.store_faults now.store_faults) (Rose before.store_faults now.store_faults) wanted history marks middle.story now.story
        (λ rose. Rose-earlier before.store_faults middle.store_faults now.store_faults le rose) h.saved);
    host_lines = h.host_lines;
    causes = record {
      store = λ has. Rose-earlier before.store_faults middle.store_faults now.store_faults le (h.causes.store has);
      answers = h.causes.answers;
      reads = h.causes.reads;
      output = h.causes.output;
      memory = h.causes.memory;
    };
    outcome_is = subst (λ (story : Option (List (List ℕ))). IsOutcome run history marks wanted outcome story now.story) is h.outcome_is;
    one_way = h.one_way;
  }

-- what was evident since the store was read is evident since the start
module _ (e : Evidence) (middle : Told) (le : e.before.store_faults ≤ middle.store_faults) (is : middle.story ≡ e.before.story)
    (starts : middle.started ≡ e.before.started) (faults : middle.start_faults ≡ e.before.start_faults) where
  unstarted-earlier : IsUnstarted (record e { before = middle }) → IsUnstarted e
  unstarted-earlier h = record {
    empty = h.empty;
    untouched = record { marks = h.untouched.marks; story = h.untouched.story ∙ is };
    same_starts = h.same_starts ∙ starts;
    no_base = h.no_base;
    early = subst (λ (story : Option (List (List ℕ))). IsEarly story (Rose e.before.store_faults e.now.store_faults) (Rose e.before.start_faults e.now.start_faults) e.outcome) is
        (IsEarly-caused middle.story (Rose middle.store_faults e.now.store_faults) (Rose e.before.store_faults e.now.store_faults)
        (Rose middle.start_faults e.now.start_faults) (Rose e.before.start_faults e.now.start_faults) e.outcome
        (λ rose. Rose-earlier e.before.store_faults middle.store_faults e.now.store_faults le rose)
        (λ rose. subst (λ (n : ℕ). Rose n e.now.start_faults) faults rose) h.early);
  }

  pub worked-earlier : (stack project : List ℕ) (command : List (List ℕ)) (host : Option Halves)
      → MatchOption host (IsUnstarted (record e { before = middle })) (IsWorked stack project command (record e { before = middle }))
      → MatchOption host (IsUnstarted e) (IsWorked stack project command e)
  worked-earlier stack project command None h = unstarted-earlier h
  worked-earlier stack project command (Some used) h = record {
    served = served-earlier e.before middle le is (run_over stack project e.base) e.now (reverse e.events) e.marks e.wanted e.outcome used h.served;
    started = h.started ∙ ap (λ (past : List (List (List ℕ))). past ++ command ∷ []) starts;
    begun = subst (λ (story : Option (List (List ℕ))). IsBegun story stack e.base) is h.begun;
  }
