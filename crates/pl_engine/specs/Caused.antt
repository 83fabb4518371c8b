-- How the causes of a run's stops and of its host's end are kept while it goes on.
use Rattle.std.specs.Prelude.{◌≡◌, ℕ, Bool, true, false, List}
use Rattle.pl_events.specs.declared.event.Event.{Event}
use Rattle.pl_world.specs.Counts.{Rose}
use Rattle.pl_model.specs.Causes.{has_end_by, has_stop_by, is_answer_fault, is_output_end, is_read_fault, is_store_fault}

-- what stands now and did not stand before has its cause
abbrev pub NewlyFor : Bool → Bool → Type 0 → Type 0
NewlyFor before now cause = before ≡ false → now ≡ true → cause

-- a store fault that is new in the history: the store's count rose
abbrev pub StoreCaused : List Event → List Event → ℕ → ℕ → Type 0
StoreCaused old new faults faults' =
    NewlyFor (has_stop_by is_store_fault old) (has_stop_by is_store_fault new) (Rose faults faults')

-- an answer's fault that is new in the history: the writing half's count rose
abbrev pub AnswersCaused : List Event → List Event → ℕ → ℕ → Type 0
AnswersCaused old new faults faults' =
    NewlyFor (has_stop_by is_answer_fault old) (has_stop_by is_answer_fault new) (Rose faults faults')

-- the store's faults in the history are as they were
abbrev pub SameStoreFaults : List Event → List Event → Type 0
SameStoreFaults old new = has_stop_by is_store_fault new ≡ has_stop_by is_store_fault old

-- the answers' faults in the history are as they were
abbrev pub SameAnswerFaults : List Event → List Event → Type 0
SameAnswerFaults old new = has_stop_by is_answer_fault new ≡ has_stop_by is_answer_fault old

-- the host's end has its cause: the counts of the reading half, which began at 0
pub record EndCaused (faults ends : ℕ) (history : List Event) : Type 0 where
  pub reads : has_end_by is_read_fault history ≡ true → Rose 0 faults
  pub output : has_end_by is_output_end history ≡ true → Rose 0 ends
