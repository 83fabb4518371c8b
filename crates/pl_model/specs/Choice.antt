-- Which work is chosen next, and on which lane.
use Rattle.std.specs.Prelude.{◌≡◌, ℕ, Bool, true, not, ◌&&◌, if◌then◌else◌, nat_lt, unwrap_or, Option, None, Some, find, length}
use Rattle.std.specs.List.{range_with_len}
use Rattle.pl_lemmas.specs.Words.{has_none}
use Rattle.pl_events.specs.Lanes.{LanesTold}
use Rattle.pl_events.specs.declared.operation.Op.{Op}
use Rattle.pl_events.specs.declared.operation.Source.{Source}
use Rattle.pl_model.specs.Tickets.{lane_count, lane_free, lanes_from}
use Rattle.pl_model.specs.Known.{Known}
use Rattle.pl_model.specs.declared.work.Work.{Work}
use Rattle.pl_model.specs.declared.work.Work.TheVariants.{Clear as to_clear, Drop as to_drop, Keep as to_keep, Post as to_post, Send as to_send}
use Rattle.pl_model.specs.Due.{due_work, has_open, is_due, is_due_on, over_limit, works_of}

-- ---- lanes

-- the lane there is that an operation goes to, the least one; none where a new one is to be started
abbrev pub lane_there : Known → Op → Option ℕ
lane_there known about = find (is_due_on known about) (range_with_len 0 (lane_count known.history))

-- the lane that an operation goes to: one that there is, or else the next one
abbrev pub lane_for : Known → Op → ℕ
lane_for known about = unwrap_or (lane_there known about) (lane_count known.history)

-- a table tells the lanes of a history
pub record TellsLanes (table : LanesTold) (known : Known) : Type 0 where
  pub free : (source : Source) → table.free source ≡ lane_free known.history source
  pub may_start : (source : Source)
      → table.may_start source ≡ nat_lt (length (lanes_from known.history source)) known.run.parallel

-- ---- the choice

-- whether work can be taken up: a post needs the host's writing half at home
abbrev pub can_be_taken : Bool → Work → Bool
can_be_taken half_home (to_post n) = half_home
can_be_taken half_home _ = true

-- the first due work, in the order of choice, that can be taken up
abbrev pub first_taken : Bool → Known → Option Work
first_taken half_home known = find (λ work. can_be_taken half_home work && is_due known work) (works_of known)

-- whether work is over the limit and nothing else can be waited for, wherever the writing half is
abbrev pub is_too_many : Known → Bool
is_too_many known = has_none (due_work known) && not (has_open known) && not (has_none (over_limit known))

-- what is chosen: nothing now, to stop since there would be too many resources, work without an operation, or an
-- operation on a lane there is or on a new one
pub data Choice : Type 0 where
  nothing : Choice
  too_many : Choice
  taken : Work → Choice
  sent : Op → Option ℕ → Choice

abbrev pub choice_of : Known → Option Work → Choice
choice_of known None = if is_too_many known then too_many else nothing
choice_of known (Some (to_post n)) = taken (to_post n)
choice_of known (Some (to_keep number)) = taken (to_keep number)
choice_of known (Some (to_clear at)) = taken (to_clear at)
choice_of known (Some (to_drop row)) = taken (to_drop row)
choice_of known (Some (to_send about)) = sent about (lane_there known about)

-- what is chosen after a history, where the writing half is at home or not
abbrev pub chosen : Bool → Known → Choice
chosen half_home known = choice_of known (first_taken half_home known)
