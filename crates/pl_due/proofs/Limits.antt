-- What the limit says after a history that is told.
use Rattle.std.proofs.Common.{◌≡◌, ◌+◌, ◌==◌, nat_lt, not, ◌&&◌, if◌then◌else◌, List, refl}
use Rattle.pl_decide.specs.Limited.{is_create_first}
use Rattle.pl_events.specs.declared.event.Event.{Event}
use Rattle.pl_lemmas.specs.Words.{some_passes}
use Rattle.pl_model.specs.Due.{added_by, passes_limit}
use Rattle.pl_model.specs.Known.{decided_goal}
use Rattle.pl_model.specs.declared.work.Work.{Work}
use Rattle.pl_model.specs.declared.work.Work.TheVariants.{Keep}
use Rattle.pl_state.specs.Formed.{most_resources}
use Rattle.pl_due.specs.Seen.{Tells, known_after, known_in}
use Rattle.pl_due.specs.declared.seen.Seen.{Seen}

module _ (seen : Seen) (history : List Event) (tells : Tells seen history) where
  pub added_told : (work : Work) → added_by (known_after seen history) work ≡ added_by (known_in seen) work
  added_told (Keep number) = λ i.
      if some_passes (λ one. some_passes (tells.knows.left i) one.claim && not (is_create_first one.decision)) (decided_goal (known_in seen) number)
      then 0 else 1
  added_told _ = refl

  pub limit_told : (work : Work) → passes_limit (known_after seen history) work
      ≡ (not (added_by (known_in seen) work == 0) && nat_lt most_resources (seen.count + added_by (known_in seen) work))
  limit_told work = λ i. not (added_told work i == 0) && nat_lt most_resources (tells.count i + added_told work i)
