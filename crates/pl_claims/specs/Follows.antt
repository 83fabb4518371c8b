-- What is decided follows the summary of a history, decision by decision.
use Rattle.std.specs.Prelude.{◌≡◌, ◌<◌, ℕ, Bool, true, false, Option, Some, None, IfSome, List, ◌∷◌, length}
use Rattle.pl_state.specs.declared.goal.Goal.{Goal}
use Rattle.pl_events.specs.declared.event.Request.{Request}
use Rattle.pl_events.specs.declared.event.What.{What}
use Rattle.pl_events.specs.declared.event.What.TheVariants.{Answered, Told}
use Rattle.pl_events.specs.declared.reply.Reply.{Reply}
use Rattle.pl_model.specs.declared.decided.Decided.{Decided}
use Rattle.pl_model.specs.declared.errand.Closed.{Closed}
use Rattle.pl_model.specs.declared.fixed.Fixed.{Fixed}
use Rattle.pl_model.specs.Claims.{is_claimed}
use Rattle.pl_model.specs.Decisions.{Turn, decided_at, turn_in}
use Rattle.pl_model.specs.Run.{rows_of}
use Rattle.pl_model.specs.Step.{Summary, after, answer, settled, tell}

-- whether an event may have goals decided: it brings goals, or what they wait for
abbrev pub may_settle : What → Bool
may_settle (Told request) = true
may_settle (Answered ticket reply) = true
may_settle _ = false

-- the turn of the first goal that is not decided gives this decision, or none
pub record Decides (run : Fixed) (answers : List Closed) (goals : List Goal) (decided : List Decided) (one : Option Decided) : Type 0 where
  pub turn : Turn
  pub is_next : turn_in run answers goals decided ≡ Some turn
  pub gives : decided_at turn ≡ one

-- what is decided follows the summary step by step: where the next goal's turn decides it, one decision more leaves
-- what is to be settled; its claim is a row, which no goal claims; where the turn gives none, or no goal is left, all is
-- settled; a told request and an answer settle what follows of them, and no other event decides anything
pub record FollowsSummary : Type 0 where
  pub decided : (run : Fixed) (answers : List Closed) (goals : List Goal) (decided : List Decided) (one : Decided)
      → Decides run answers goals decided (Some one)
      → settled run answers decided goals ≡ settled run answers (one ∷ decided) goals
  pub claim : (run : Fixed) (answers : List Closed) (goals : List Goal) (decided : List Decided) (one : Decided)
      → Decides run answers goals decided (Some one) → IfSome one.claim (λ row. row < length (rows_of run))
  pub unclaimed : (run : Fixed) (answers : List Closed) (goals : List Goal) (decided : List Decided) (one : Decided)
      → Decides run answers goals decided (Some one) → IfSome one.claim (λ row. is_claimed decided row ≡ false)
  pub waits : (run : Fixed) (answers : List Closed) (goals : List Goal) (decided : List Decided)
      → Decides run answers goals decided None → settled run answers decided goals ≡ decided
  pub over : (run : Fixed) (answers : List Closed) (goals : List Goal) (decided : List Decided)
      → turn_in run answers goals decided ≡ None → settled run answers decided goals ≡ decided
  pub told : (run : Fixed) (before : Summary) (seat : ℕ) (request : Request)
      → (after run before (record { seat = seat; what = Told request })).decided
      ≡ settled run before.answers before.decided (tell run before request).goals
  pub answered : (run : Fixed) (before : Summary) (seat ticket : ℕ) (reply : Reply)
      → (after run before (record { seat = seat; what = Answered ticket reply })).decided
      ≡ settled run (answer run before ticket reply).answers before.decided before.goals
  pub others : (run : Fixed) (before : Summary) (seat : ℕ) (what : What) → may_settle what ≡ false
      → (after run before (record { seat = seat; what = what })).decided ≡ before.decided
