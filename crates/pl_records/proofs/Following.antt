-- Each event changes the records as it changes the columns of a summary.
use Rattle.std.proofs.Common.{◌≡◌, ℕ, ◌==◌, ◌∷◌, Bool, true, false, List, Option, None, Some, option_and_then, refl, sym, ap, ◌∙◌}
use Rattle.std.specs.List.{cons_option}
use Rattle.std.specs.Option.{option_or}
use Rattle.pl_lemmas.specs.Words.{only_if}
use Rattle.pl_events.specs.declared.event.Event.{Event}
use Rattle.pl_events.specs.declared.event.What.{What}
use Rattle.pl_events.specs.declared.event.What.TheVariants.{Answered, Cleared, Dropped, HostGone, Kept, Posted, Stopped}
use Rattle.pl_events.specs.declared.reply.Reply.{Reply}
use Rattle.pl_events.specs.declared.reply.Reply.TheVariants.{Removed}
use Rattle.pl_model.specs.declared.errand.Closed.{Closed}
use Rattle.pl_model.specs.declared.fixed.Fixed.{Fixed}
use Rattle.pl_model.specs.Recording.{goal_of_op, is_removed, is_thing, recorded_by, recorded_by_reply, removed_by, removed_by_reply, row_of_delete}
use Rattle.pl_model.specs.Step.{Summary, after, changed, plain_history}
use Rattle.pl_records.specs.Columns.{Records}
use Rattle.pl_records.specs.Follows.{AnswerRecords, HasRecords, RecordsFollow, records_after, with_answer}

changing : (run : Fixed) (before : Summary) (seat : ℕ) (what : What) (records : Records) → HasRecords before records
    → HasRecords (changed run before seat what) (records_after before what records)
changing run before seat (HostGone end) records has = record {
  recorded = has.recorded;
  fresh = has.fresh;
  removed = has.removed;
  cleared = has.cleared;
  posted = has.posted;
  host_gone = refl;
  stopped = has.stopped;
}
changing run before seat (Answered ticket reply) records has = record {
  recorded = ap (cons_option (recorded_by (plain_history before) (Answered ticket reply))) has.recorded;
  fresh = has.fresh;
  removed = ap (cons_option (removed_by (plain_history before) (Answered ticket reply))) has.removed;
  cleared = has.cleared;
  posted = has.posted;
  host_gone = has.host_gone;
  stopped = has.stopped;
}
changing run before seat (Kept goal fresh) records has = record {
  recorded = ap (λ (goals : List ℕ). goal ∷ goals) has.recorded;
  fresh = λ number. ap (λ (first : Option ℕ). option_or first (only_if (goal == number) fresh)) (has.fresh number);
  removed = has.removed;
  cleared = has.cleared;
  posted = has.posted;
  host_gone = has.host_gone;
  stopped = has.stopped;
}
changing run before seat (Dropped row) records has = record {
  recorded = has.recorded;
  fresh = has.fresh;
  removed = ap (λ (rows : List ℕ). row ∷ rows) has.removed;
  cleared = has.cleared;
  posted = has.posted;
  host_gone = has.host_gone;
  stopped = has.stopped;
}
changing run before seat (Cleared at) records has = record {
  recorded = has.recorded;
  fresh = has.fresh;
  removed = has.removed;
  cleared = ap (λ (places : List ℕ). at ∷ places) has.cleared;
  posted = has.posted;
  host_gone = has.host_gone;
  stopped = has.stopped;
}
changing run before seat (Posted n) records has = record {
  recorded = has.recorded;
  fresh = has.fresh;
  removed = has.removed;
  cleared = has.cleared;
  posted = ap (λ (numbers : List ℕ). n ∷ numbers) has.posted;
  host_gone = has.host_gone;
  stopped = has.stopped;
}
changing run before seat (Stopped stop) records has = record {
  recorded = has.recorded;
  fresh = has.fresh;
  removed = has.removed;
  cleared = has.cleared;
  posted = has.posted;
  host_gone = has.host_gone;
  stopped = refl;
}
changing run before seat _ records has = record {
  recorded = has.recorded;
  fresh = has.fresh;
  removed = has.removed;
  cleared = has.cleared;
  posted = has.posted;
  host_gone = has.host_gone;
  stopped = has.stopped;
}

happening : (run : Fixed) (before : Summary) (event : Event) (records : Records) → HasRecords before records
    → HasRecords (after run before event) (records_after before event.what records)
happening run before event records has =
    let then : HasRecords (changed run before event.seat event.what) (records_after before event.what records) =
    changing run before event.seat event.what records has in
    record {
      recorded = then.recorded;
      fresh = then.fresh;
      removed = then.removed;
      cleared = then.cleared;
      posted = then.posted;
      host_gone = then.host_gone;
      stopped = then.stopped;
    }

-- ---- answered operations

no_thing : (reply : Reply) → is_removed reply ≡ true → is_thing reply ≡ false
no_thing Removed is = refl
no_thing _ is = absurd (let e : false ≡ true = is in cc)

-- what neither records nor removes anything is told apart by its reply
no_removal : (reply : Reply) (goal row : Option ℕ) → (b : Bool) → is_removed reply ≡ b → (number : ℕ)
    → only_if (is_thing reply) goal ≡ Some number → only_if b row ≡ None
no_removal reply goal row false is number records = refl
no_removal reply goal row true is number records =
    absurd (let e : None ≡ Some number = sym (ap (λ (b : Bool). only_if b goal) (no_thing reply is)) ∙ records in cc)

no_recording : (reply : Reply) (goal row : Option ℕ) → (b : Bool) → is_removed reply ≡ b → (number : ℕ)
    → only_if b row ≡ Some number → only_if (is_thing reply) goal ≡ None
no_recording reply goal row true is number removes = ap (λ (b : Bool). only_if b goal) (no_thing reply is)
no_recording reply goal row false is number removes = absurd (let e : None ≡ Some number = removes in cc)

none_removed : (closed : Option Closed) (goal : ℕ) → option_and_then recorded_by_reply closed ≡ Some goal → option_and_then removed_by_reply closed ≡ None
none_removed None goal records = refl
none_removed (Some closed) goal records =
    no_removal closed.reply (goal_of_op closed.op) (row_of_delete closed.op) (is_removed closed.reply) refl goal records

none_recorded : (closed : Option Closed) (row : ℕ) → option_and_then removed_by_reply closed ≡ Some row → option_and_then recorded_by_reply closed ≡ None
none_recorded None row removes = refl
none_recorded (Some closed) row removes =
    no_recording closed.reply (goal_of_op closed.op) (row_of_delete closed.op) (is_removed closed.reply) refl row removes

answering : (closed : Option Closed) (records : Records) → AnswerRecords closed records
answering closed records = record {
  recorded = λ goal is. with_both is (none_removed closed goal is);
  removed = λ row is. with_both (none_recorded closed row is) is;
  neither = with_both;
}
  where
    with_both : {goal row : Option ℕ} → option_and_then recorded_by_reply closed ≡ goal → option_and_then removed_by_reply closed ≡ row
        → with_answer closed records
        ≡ record records { recorded = cons_option goal records.recorded; removed = cons_option row records.removed }
    with_both goal row = λ i. record records { recorded = cons_option (goal i) records.recorded; removed = cons_option (row i) records.removed }

pub records-follow : RecordsFollow
records-follow = record {
  none = λ run. record {
    recorded = refl;
    fresh = λ number. refl;
    removed = refl;
    cleared = refl;
    posted = refl;
    host_gone = refl;
    stopped = refl;
  };
  changes = changing;
  events = happening;
  answers = answering;
}
