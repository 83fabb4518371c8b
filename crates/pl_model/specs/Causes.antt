-- What the counts of the outside tell of a run's stops and of its host's end.
use Rattle.std.specs.Prelude.{◌≡◌, ℕ, Bool, true, false, ◌||◌, List, [], ◌∷◌}
use Rattle.pl_world.specs.Counts.{Rose}
use Rattle.pl_events.specs.declared.event.Event.{Event}
use Rattle.pl_events.specs.declared.event.What.{What}
use Rattle.pl_events.specs.declared.event.What.TheVariants.{HostGone, Lost, Stopped}
use Rattle.pl_events.specs.declared.event.HostEnd.{HostEnd}
use Rattle.pl_events.specs.declared.event.HostEnd.TheVariants as ended
use Rattle.pl_events.specs.declared.event.Stop.{Stop}
use Rattle.pl_events.specs.declared.event.Stop.TheVariants as stopped
use Rattle.pl_events.specs.declared.reply.Loss.{Loss}
use Rattle.pl_events.specs.declared.reply.Loss.TheVariants as lost

-- the counts of a run: the store's faults at its start and at its end; the faults and ends of the host's
-- reading half and the faults of its writing half, which began at 0; and whether memory was wanted
pub record RunCounts : Type 0 where
  pub store_before : ℕ
  pub store_now : ℕ
  pub reading : ℕ
  pub ends : ℕ
  pub writing : ℕ
  pub wanted : Bool

-- whether the stop says that the checkpoint could not be replaced
abbrev pub is_store_fault : Stop → Bool
is_store_fault stopped.StoreFault = true
is_store_fault _ = false

-- whether the stop says that a child could not be started
abbrev pub is_start_fault : Stop → Bool
is_start_fault stopped.StartFault = true
is_start_fault _ = false

-- whether the stop says that an answer could not be given
abbrev pub is_answer_fault : Stop → Bool
is_answer_fault stopped.HostPipeFault = true
is_answer_fault _ = false

-- whether the stop is want of memory
abbrev pub is_want_stop : Stop → Bool
is_want_stop stopped.NoMemory = true
is_want_stop _ = false

-- whether the host's end says that a read failed
abbrev pub is_read_fault : HostEnd → Bool
is_read_fault ended.PipeFault = true
is_read_fault _ = false

-- whether the host's end says that its output ended
abbrev pub is_output_end : HostEnd → Bool
is_output_end ended.Ended = true
is_output_end _ = false

-- whether the host's end is want of memory
abbrev pub is_want_end : HostEnd → Bool
is_want_end ended.NoMemory = true
is_want_end _ = false

-- whether the loss is want of memory
abbrev pub is_want_loss : Loss → Bool
is_want_loss lost.NoMemory = true
is_want_loss _ = false

-- whether the event is a stop of this kind
abbrev pub is_stop_by : (Stop → Bool) → What → Bool
is_stop_by kind (Stopped stop) = kind stop
is_stop_by kind _ = false

-- whether the event is a host's end of this kind
abbrev pub is_end_by : (HostEnd → Bool) → What → Bool
is_end_by kind (HostGone end) = kind end
is_end_by kind _ = false

-- whether a stop of this kind stands in the history
abbrev pub has_stop_by : (Stop → Bool) → List Event → Bool
has_stop_by kind [] = false
has_stop_by kind (event ∷ past) = is_stop_by kind event.what || has_stop_by kind past

-- whether a host's end of this kind stands in the history
abbrev pub has_end_by : (HostEnd → Bool) → List Event → Bool
has_end_by kind [] = false
has_end_by kind (event ∷ past) = is_end_by kind event.what || has_end_by kind past

-- whether the event says that memory was wanted
abbrev pub is_want : What → Bool
is_want (HostGone end) = is_want_end end
is_want (Lost ticket why) = is_want_loss why
is_want (Stopped stop) = is_want_stop stop
is_want _ = false

-- whether the history says that memory was wanted
abbrev pub has_want : List Event → Bool
has_want [] = false
has_want (event ∷ past) = is_want event.what || has_want past

-- a start that the history says failed has its cause: the spawner's count of faults rose in the run
abbrev pub HasStartCause : ℕ → ℕ → List Event → Type 0
HasStartCause before now history = has_stop_by is_start_fault history ≡ true → Rose before now

-- every other fault, end and want that the history tells of has its cause, whatever the outcome is
pub record HasCauses (counts : RunCounts) (history : List Event) : Type 0 where
  pub store : has_stop_by is_store_fault history ≡ true → Rose counts.store_before counts.store_now
  pub answers : has_stop_by is_answer_fault history ≡ true → Rose 0 counts.writing
  pub reads : has_end_by is_read_fault history ≡ true → Rose 0 counts.reading
  pub output : has_end_by is_output_end history ≡ true → Rose 0 counts.ends
  pub memory : has_want history ≡ true → counts.wanted ≡ true
