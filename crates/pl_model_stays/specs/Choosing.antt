-- Laws on the choice of work and of lanes: what is chosen is due, and a table of lanes that tells the lanes decides it.
use Rattle.std.specs.Prelude.{◌≡◌, ◌<◌, ℕ, Bool, true, false, not, ◌&&◌, All, None, Some, is_some, if◌then◌else◌, List, option_and_then}
use Rattle.std.specs.Bool.{Decides}
use Rattle.pl_events.specs.Lanes.{LanesTold}
use Rattle.pl_events.specs.declared.event.Event.{Event}
use Rattle.pl_events.specs.declared.operation.Op.{Op}
use Rattle.pl_events.specs.declared.operation.Op.TheVariants as op
use Rattle.pl_events.specs.declared.operation.Source.{Source}
use Rattle.pl_model.specs.declared.fixed.Fixed.{Fixed}
use Rattle.pl_model.specs.declared.work.Work.{Work}
use Rattle.pl_model.specs.declared.work.Work.TheVariants.{Post as to_post, Send as to_send}
use Rattle.pl_model.specs.Choice.{TellsLanes, first_taken, is_too_many, lane_for, lane_there}
use Rattle.pl_model.specs.Due.{due_work, first_due, is_checked_lane, is_due, is_due_on, is_wanted_op, passes_limit, source_of_op, wants_lane}
use Rattle.pl_model.specs.History.{known_of}
use Rattle.pl_model.specs.Known.{Known, has_problem}
use Rattle.pl_model.specs.Legal.{IsOrderly, MayBeTooMany}
use Rattle.pl_model.specs.Tickets.{lane_count}

-- ---- lanes

-- an operation that is due is due on the lane that it goes to
abbrev pub ChosenLaneDue : Type 0
ChosenLaneDue = (known : Known) (about : Op) → is_due known (to_send about) ≡ true
    → is_due_on known about (lane_for known about) ≡ true

-- a lane that there is, on which an operation is due, and on no lower one
pub record IsLeastDue (known : Known) (about : Op) (lane : ℕ) : Type 0 where
  pub there : lane < lane_count known.history
  pub due : is_due_on known about lane ≡ true
  pub least : (lower : ℕ) → lower < lane → is_due_on known about lower ≡ false

-- the lane there is that an operation goes to is the least one on which it is due
abbrev pub LaneThereLeast : Type 0
LaneThereLeast = (known : Known) (about : Op) (lane : ℕ) → lane_there known about ≡ Some lane → IsLeastDue known about lane

-- while a lane of a provider is to be configured where its inputs were checked, no new lane of it is wanted
abbrev pub CheckedOrNew : Type 0
CheckedOrNew = (run : Fixed) (history : List Event) (wanted : Source) (lane : ℕ)
    → IsOrderly run history → is_checked_lane (known_of run history) wanted lane ≡ true
    → wants_lane (known_of run history) wanted ≡ false

-- whether an operation is sent to a lane that is there: it is neither a check of a provider's inputs nor a
-- configuration
abbrev pub uses_lane : Op → Bool
uses_lane (op.CheckConfig about) = false
uses_lane (op.Configure provider) = false
uses_lane _ = true

-- a table that tells the lanes tells the lane there is that an operation goes to: the free one of its source, if the
-- operation is due
abbrev pub TableTells : Type 0
TableTells = (known : Known) (table : LanesTold) (about : Op) (wanted : Source) → TellsLanes table known
    → uses_lane about ≡ true → source_of_op known about ≡ Some wanted
    → lane_there known about ≡ (if is_due known (to_send about) then table.free wanted else None)

-- and whether the operation is due: it is wanted, its source has a free lane, and it does not pass the limit
abbrev pub TableDecides : Type 0
TableDecides = (known : Known) (table : LanesTold) (about : Op) → TellsLanes table known → uses_lane about ≡ true
    → is_due known (to_send about)
    ≡ (not (has_problem known) && is_wanted_op known about && is_some (option_and_then table.free (source_of_op known about))
    && not (passes_limit known (to_send about)))

-- ---- work

-- the word on too many resources is right
abbrev pub TooManyAgrees : Type 0
TooManyAgrees = (known : Known) → Decides (is_too_many known) (MayBeTooMany known)

abbrev pub is_post : Work → Bool
is_post (to_post n) = true
is_post _ = false

-- what is taken up: the first due work while the host's writing half is at home, and else due work that is no post, or
-- none where all due work is posts
pub record IsTakenDue (known : Known) : Type 0 where
  pub at_home : first_taken true known ≡ first_due known
  pub due : (work : Work) → first_taken false known ≡ Some work → is_due known work ≡ true
  pub no_post : (work : Work) → first_taken false known ≡ Some work → is_post work ≡ false
  pub posts_only : first_taken false known ≡ None → All (λ work. is_post work ≡ true) (due_work known)

abbrev pub TakenOrNone : Type 0
TakenOrNone = (known : Known) → IsTakenDue known
