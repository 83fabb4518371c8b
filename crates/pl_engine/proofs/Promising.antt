-- What a run of components does is what the definitions of a history say.
use Rattle.std.proofs.Common.{◌≡◌, ◌⊎◌, ℕ, Bool, true, false, List, [], ◌∷◌, ◌++◌, Option, None, refl, sym, ◌∙◌, ap, subst, inl, inr}
use Rattle.pl_urn.specs.Grammar.{IsScope}
use Rattle.pl_world.specs.Counts.{Rose}
use Rattle.pl_world.specs.Told.{Grew, Piece}
use Rattle.pl_state.specs.declared.snapshot.Snapshot.{Snapshot}
use Rattle.pl_decide.specs.declared.outcome.Outcome.{Outcome}
use Rattle.pl_events.specs.declared.event.Event.{Event}
use Rattle.pl_events.specs.declared.event.What.{What}
use Rattle.pl_events.specs.declared.event.What.TheVariants.{Stopped}
use Rattle.pl_events.specs.declared.event.Stop.{Stop}
use Rattle.pl_events.specs.declared.event.Stop.TheVariants.{StartFault}
use Rattle.pl_model.specs.Causes.{HasStartCause, has_stop_by, is_start_fault, is_stop_by}
use Rattle.pl_model.specs.Frames.{Causes}
use Rattle.pl_model.specs.Fulfilment as whole_fulfilment
use Rattle.pl_model.specs.Saves as whole_saves
use Rattle.pl_model.specs.State as whole_state
use Rattle.pl_components.specs.Run.{Fixed}
use Rattle.pl_components.specs.Entries.{state_of}
use Rattle.pl_model.specs.Posts.{AllAnswered}
use Rattle.pl_components.specs.HostLines as parts
use Rattle.pl_components.specs.Legal.{IsLegal, MayHappen, StopFits}
use Rattle.pl_components.specs.Requests.{waiting_of}
use Rattle.pl_components.specs.Saves.{saves_of}
use Rattle.pl_components.specs.Whole.{IsComponentRun}
use Rattle.pl_components.proofs.Legality.{fulfils_too, legal_too, quiet_too}
use Rattle.pl_components.proofs.Lines.{lines_too}
use Rattle.pl_components.proofs.Outcomes.{outcomes_agree}
use Rattle.pl_components.proofs.Saving.{answered_too, saved_too, story_too, texts_same}
use Rattle.pl_components.proofs.States.{states_agree}
use Rattle.pl_components.proofs.Knowing.{known_is}
use Rattle.pl_components.proofs.Works.{closed}
use Rattle.pl_model.specs.Due.{has_open}
use Rattle.pl_model.specs.Known.{Known}
use Rattle.pl_engine.specs.Headline as worked
use Rattle.pl_engine.specs.Promise as promise
use Rattle.pl_engine.specs.Spelled.{host_spelling}
use Rattle.pl_engine.specs.Stored as stored

no_error : (body : List ℕ) → host_spelling.error_in body ≡ None
unfolding host_spelling
no_error body = refl

module _ (run : Fixed) (stack : IsScope run.stack) (project : IsScope run.project) (history : List Event) (legal : IsLegal run host_spelling history) where
  component : IsComponentRun run host_spelling history
  component = record { stack = stack; project = project; legal = legal }

  answered : (faults : ℕ) (wanted : Bool) → (waiting_of run history ≡ []) ⊎ (Rose 0 faults ⊎ (wanted ≡ true))
      → AllAnswered (promise.known_as run history) ⊎ (Rose 0 faults ⊎ (wanted ≡ true))
  answered faults wanted (inl none) = inl (answered_too run 1 host_spelling history component none)
  answered faults wanted (inr cause) = inr cause

  pub history_too : (faults : ℕ) (wanted : Bool) → worked.IsLegalRun run history faults wanted → promise.IsHistory run history faults wanted
  history_too faults wanted is = record {
    legal = legal_too run 1 host_spelling history component;
    names = λ _. (stack, project);
    ended = is.ended;
    closed = ap (λ (known : Known). has_open known) (known_is run 1 host_spelling history component) ∙ closed run 1 host_spelling history component;
    answered = answered faults wanted is.answered;
  }

  pub kept_too : (rose : Type 0) (wanted : Bool) (marks : List ℕ) (before now : Option (List (List ℕ)))
      → stored.IsKeptUp run host_spelling rose wanted history marks before now → promise.IsKept run rose wanted history marks before now
  kept_too rose wanted marks before now is =
      let (texts, grew, story) = is.grown in
      record {
        saved = saved_too run 1 host_spelling history component rose wanted marks is.saved;
        grown = (texts, grew, story_too run 1 host_spelling history component rose marks texts story);
      }

  pub lines_whole : (reading writing : Causes) (taken : Option (List ℕ)) (given : Option (List Piece))
      → parts.HostLines run host_spelling reading writing history taken given
      → promise.HostLines run reading writing history taken given
  lines_whole reading writing taken given is =
      lines_too run 1 host_spelling history component no_error reading writing taken given is

  same_state : whole_state.state_of (promise.run_as run) history ≡ state_of run history
  same_state = states_agree run 1 host_spelling history component

  same_texts : (marks : List ℕ) → whole_saves.saves_of (promise.run_as run) host_spelling history marks ≡ saves_of run host_spelling history marks
  same_texts marks = texts_same run 1 host_spelling history component marks

  present_too : (marks : List ℕ) → stored.IsPresent run host_spelling history marks → promise.IsLast run history marks
  present_too marks (inl (none, empty)) = inl (none, ap (λ (state : Snapshot). state.entries) same_state ∙ empty)
  present_too marks (inr (earlier, last)) =
      inr (earlier, same_texts marks ∙ last ∙ ap (λ (state : Snapshot). earlier ++ host_spelling.state_text state ∷ []) (sym same_state))

  done_too : (marks : List ℕ) (before now : Option (List (List ℕ))) → worked.IsDone run history marks before now → promise.IsDone run history marks before now
  done_too marks before now is = record {
    quiet = quiet_too run 1 host_spelling history component is.quiet;
    saved = saved_too run 1 host_spelling history component ⊥ false marks
        (record { rising = is.complete.rising; after_saves = is.complete.after_saves; all_marked = is.complete.all_marked });
    grown = subst (λ (texts : List (List ℕ)). Grew before now texts) (sym (same_texts marks)) is.complete.grown;
    present = present_too marks is.complete.present;
    fulfils = subst (λ (state : Snapshot). whole_fulfilment.Fulfils (promise.run_as run) state history) (sym same_state)
        (fulfils_too run 1 host_spelling history component is.fulfils);
  }

  pub outcome_too : (marks : List ℕ) (wanted : Bool) (outcome : Outcome) (before now : Option (List (List ℕ)))
      → worked.IsOutcome run history marks wanted outcome before now → promise.IsOutcome run history marks wanted outcome before now
  outcome_too marks wanted outcome before now is = record {
    least = subst (λ (least : Option Outcome). worked.IsFinal least wanted outcome) (outcomes_agree run 1 host_spelling history component) is.least;
    done = λ success. done_too marks before now (is.done success);
  }

-- ---- what the definitions of components say alone

-- no start failed: no child is started yet
fits_no_start : (run : Fixed) (past : List Event) (stop : Stop) → StopFits run host_spelling past stop → is_start_fault stop ≡ false
fits_no_start run past StartFault h = absurd h
fits_no_start run past _ h = refl

happens_no_start : (run : Fixed) (past : List Event) (seat : ℕ) (what : What) → MayHappen run host_spelling past seat what
    → is_stop_by is_start_fault what ≡ false
happens_no_start run past seat (Stopped stop) h = fits_no_start run past stop h.fits
happens_no_start run past seat _ h = refl

no_start : (run : Fixed) (history : List Event) → IsLegal run host_spelling history → has_stop_by is_start_fault history ≡ false
no_start run [] legal = refl
no_start run (event ∷ past) legal =
    let here : is_stop_by is_start_fault event.what ≡ false = happens_no_start run past event.seat event.what legal.1 in
    rw here (no_start run past legal.0)

pub start_caused : (run : Fixed) (history : List Event) (before now : ℕ) → IsLegal run host_spelling history → HasStartCause before now history
start_caused run history before now legal =
    λ stands. absurd (let e : false ≡ true = sym (no_start run history legal) ∙ stands in cc)
