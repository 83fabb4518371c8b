-- What is kept of a history's summary changes by an event as the summary does.
use Rattle.std.proofs.Common.{◌≡◌, ℕ, List, ◌∷◌, length, refl, sym, ◌∙◌, ap}
use Rattle.pl_events.specs.declared.event.Event.{Event}
use Rattle.pl_events.specs.declared.event.What.{What}
use Rattle.pl_events.specs.declared.event.What.TheVariants.{Answered, Begun, Cleared, Dropped, HostGone, Kept, Lost, Posted, Stopped, Told}
use Rattle.pl_model.specs.declared.fixed.Fixed.{Fixed}
use Rattle.pl_model.specs.Step.{Summary, after, summary_of}
use Rattle.pl_model_step.specs.Law.{SummarySteps}
use Rattle.pl_course.specs.Kept.{kept_after, kept_of}

same_after : (run : Fixed) (before : Summary) (seat : ℕ) (what : What)
    → kept_after run before.count seat what (kept_of before) ≡ kept_of (after run before (record { seat = seat; what = what }))
same_after run before seat (Told request) = refl
same_after run before seat (HostGone end) = refl
same_after run before seat (Begun ticket lane about) = refl
same_after run before seat (Answered ticket reply) = refl
same_after run before seat (Lost ticket why) = refl
same_after run before seat (Kept goal fresh) = refl
same_after run before seat (Dropped row) = refl
same_after run before seat (Cleared at) = refl
same_after run before seat (Posted n) = refl
same_after run before seat (Stopped stop) = refl

-- where what is kept is that of a history, with an event more it is that of the history with the event
pub told_on : SummarySteps → (run : Fixed) (past : List Event) (kept : Summary) (seat : ℕ) (what : What) → kept ≡ kept_of (summary_of run past)
    → kept_after run (length past) seat what kept ≡ kept_of (summary_of run (record { seat = seat; what = what } ∷ past))
told_on steps run past kept seat what same =
    ap (kept_after run (length past) seat what) same
    ∙ same_after run (summary_of run past) seat what
    ∙ ap kept_of (sym (steps run (record { seat = seat; what = what }) past))
