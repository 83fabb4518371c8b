-- Histories with the same summary go on the same.
use Rattle.std.proofs.Common.{◌≡◌, [], ◌||◌, List, sym, ◌∙◌, ap}
use Rattle.pl_events.specs.declared.event.Event.{Event}
use Rattle.pl_model.specs.declared.fixed.Fixed.{Fixed}
use Rattle.pl_model.specs.Asked.{ask_of}
use Rattle.pl_model.specs.Choice.{chosen}
use Rattle.pl_model.specs.Due.{is_due, is_due_on, is_over_limit, is_post_due}
use Rattle.pl_model.specs.History.{known_of}
use Rattle.pl_model.specs.Known.{Known}
use Rattle.pl_model.specs.Left.{left_of}
use Rattle.pl_model.specs.Posts.{answer_of}
use Rattle.pl_lemmas.specs.Words.{has_number}
use Rattle.pl_model.specs.Saves.{must_save}
use Rattle.pl_model.specs.State.{pending_for, state_now}
use Rattle.pl_model.specs.Step.{summary_of}
use Rattle.pl_model_step.specs.Enough.{SameNext, SummaryIsEnough}
use Rattle.pl_model_step.proofs.Alike.{opening, over}
use Rattle.pl_model_step.proofs.Lanes.{SameTickets, errands, free_lane, opens}
use Rattle.pl_model_step.proofs.Next.{answering, choosing, remaining, saving}
use Rattle.pl_model_step.proofs.Reading.{same_results, tells_answered, tells_closed, tells_configured, tells_lost}
use Rattle.pl_model_step.proofs.Steps.{place, placed, run_of}
use Rattle.pl_model_step.proofs.Whole.{AlikeMost, AlikeWhole, state_alike}
use Rattle.pl_model_step.proofs.Works.{due, due_on, passed}
use Rattle.pl_model_step.proofs.Ready.{asking, post_due}

module _ (run : Fixed) (a b : List Event) (same : summary_of run a ≡ summary_of run b) where
  pub tickets : SameTickets a b
  tickets = record {
    begun = λ i. (same i).begun;
    closed = λ ticket.
        tells_closed a ticket ∙ (λ i. has_number (same i).answered ticket || has_number (same i).lost ticket)
        ∙ sym (tells_closed b ticket);
    lost = λ ticket. tells_lost a ticket ∙ (λ i. has_number (same i).lost ticket) ∙ sym (tells_lost b ticket);
    configured = λ errand.
        tells_configured a errand ∙ (λ i. has_number (same i).configured errand.ticket) ∙ sym (tells_configured b errand);
  }

  pub most : AlikeMost a b
  most = record {
    core = record {
      recorded = λ i. (same i).recorded;
      fresh = λ goal i. (same i).fresh goal;
      removed = λ i. (same i).removed;
      begun = λ i. (same i).begun;
      host = λ i. (same i).host_gone;
    };
    tickets = tickets;
    cleared = λ i. (same i).cleared;
    posted = λ i. (same i).posted;
  }

  pub whole : AlikeWhole run a b
  whole = record {
    most = most;
    answered = λ ticket. tells_answered a ticket ∙ (λ i. has_number (same i).answered ticket) ∙ sym (tells_answered b ticket);
    results = λ known of_run number goal one.
        same_results known (known_of run []) (of_run ∙ sym (run_of run [])) number goal one a
        ∙ (λ i. (same i).results number goal one)
        ∙ sym (same_results known (known_of run []) (of_run ∙ sym (run_of run [])) number goal one b);
    opened = λ i. (same i).opened;
  }

  -- what is the same with the other history is the same of the other
  pub moved : {X : Type 0} (reads : Known → X) → reads (placed run a) ≡ reads (over (placed run a) b)
      → reads (known_of run a) ≡ reads (known_of run b)
  moved reads alike =
      ap reads (place run a) ∙ alike
      ∙ (λ i. reads (record {
        run = run;
        history = b;
        answers = (same i).answers;
        goals = (same i).goals;
        decided = (same i).decided;
        asked = (same i).asked;
        problems = (same i).problems;
      }))
      ∙ sym (ap reads (place run b))

  pub same_next : SameNext run a b
  same_next = record {
    errands = errands a b tickets;
    tickets = opens a b tickets;
    lanes = free_lane a b tickets;
    due = moved is_due (due (placed run a) b whole);
    due_on = moved is_due_on (due_on (placed run a) b whole);
    over = moved is_over_limit (passed (placed run a) b whole);
    posts = moved is_post_due (post_due (placed run a) b most);
    choice = λ half_home. moved (chosen half_home) (choosing (placed run a) b whole half_home);
    asks = moved ask_of (λ i about. asking (placed run a) b most about i);
    opens = moved pending_for (λ i about. opening (placed run a) b most.core about i);
    answers = λ spelling. moved (answer_of spelling) (answering (placed run a) b whole spelling);
    state = moved state_now (state_alike (placed run a) b whole);
    saves = moved must_save (saving (placed run a) b whole);
    left = moved left_of (remaining (placed run a) b whole);
  }

pub summary-is_enough : SummaryIsEnough
summary-is_enough = same_next
