-- A summary is all that later steps read of a history.
use Rattle.std.specs.Prelude.{◌≡◌, ℕ, Bool, List}
use Rattle.pl_events.specs.declared.event.Event.{Event}
use Rattle.pl_events.specs.declared.event.What.{What}
use Rattle.pl_model.specs.declared.fixed.Fixed.{Fixed}
use Rattle.pl_model.specs.Run.{Spelling}
use Rattle.pl_model.specs.Tickets.{errand_at, is_open, lane_free}
use Rattle.pl_model.specs.Asked.{ask_of}
use Rattle.pl_model.specs.Choice.{chosen}
use Rattle.pl_model.specs.Due.{is_due, is_due_on, is_over_limit, is_post_due}
use Rattle.pl_model.specs.History.{known_of}
use Rattle.pl_model.specs.Left.{left_of}
use Rattle.pl_model.specs.Legal.{MayHappen}
use Rattle.pl_model.specs.Posts.{answer_of}
use Rattle.pl_model.specs.Saves.{must_save}
use Rattle.pl_model.specs.State.{pending_for, state_of}
use Rattle.pl_model.specs.Step.{summary_of}

-- what is open, due, chosen, asked, answered, saved and left is the same after two histories, and so is the state
pub record SameNext (run : Fixed) (a b : List Event) : Type 0 where
  pub errands : errand_at a ≡ errand_at b
  pub tickets : is_open a ≡ is_open b
  pub lanes : lane_free a ≡ lane_free b
  pub due : is_due (known_of run a) ≡ is_due (known_of run b)
  pub due_on : is_due_on (known_of run a) ≡ is_due_on (known_of run b)
  pub over : is_over_limit (known_of run a) ≡ is_over_limit (known_of run b)
  pub posts : is_post_due (known_of run a) ≡ is_post_due (known_of run b)
  pub choice : (half_home : Bool) → chosen half_home (known_of run a) ≡ chosen half_home (known_of run b)
  pub asks : ask_of (known_of run a) ≡ ask_of (known_of run b)
  pub opens : pending_for (known_of run a) ≡ pending_for (known_of run b)
  pub answers : (spelling : Spelling) → answer_of spelling (known_of run a) ≡ answer_of spelling (known_of run b)
  pub state : state_of run a ≡ state_of run b
  pub saves : must_save (known_of run a) ≡ must_save (known_of run b)
  pub left : left_of (known_of run a) ≡ left_of (known_of run b)

-- histories with the same summary go on the same
abbrev pub SummaryIsEnough : Type 0
SummaryIsEnough = (run : Fixed) (a b : List Event) → summary_of run a ≡ summary_of run b → SameNext run a b

-- and what may happen after one of them may happen after the other
abbrev pub SameMayHappen : Type 0
SameMayHappen = (run : Fixed) (a b : List Event) → summary_of run a ≡ summary_of run b
    → (seat : ℕ) (what : What) → MayHappen (known_of run a) seat what → MayHappen (known_of run b) seat what
