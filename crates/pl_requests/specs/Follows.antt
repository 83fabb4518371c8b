-- Goals and told requests follow the summary of a history.
use Rattle.std.specs.Prelude.{◌≡◌, ℕ, Bool, true, false, List}
use Rattle.pl_events.specs.declared.event.Request.{Request}
use Rattle.pl_events.specs.declared.event.What.{What}
use Rattle.pl_events.specs.declared.event.What.TheVariants.{Told}
use Rattle.pl_state.specs.declared.goal.Goal.{Goal}
use Rattle.pl_model.specs.declared.fixed.Fixed.{Fixed}
use Rattle.pl_model.specs.declared.heard.Heard.{Heard}
use Rattle.pl_model.specs.Step.{Summary, after, known_in}
use Rattle.pl_told.specs.Column.{Change, Kept, with_change}
use Rattle.pl_requests.specs.Column.{IsTold}
use Rattle.pl_requests.specs.Ids.{known_over}

-- the columns of a summary that are kept
pub record Columns : Type 0 where
  pub goals : List Goal
  pub asked : List Heard

abbrev pub columns_of : Summary → Columns
columns_of summary = record { goals = summary.goals; asked = summary.asked }

abbrev pub columns_in : Kept → Columns
columns_in kept = record { goals = kept.goals; asked = kept.asked }

abbrev pub is_telling : What → Bool
is_telling (Told request) = true
is_telling _ = false

-- what is kept follows the summary step by step: what is known by the summary is among what `ForKnown` speaks of, a
-- told request changes its columns as the request's change does, and no other event changes them
pub record FollowsSummary : Type 0 where
  pub known : (run : Fixed) (before : Summary) → known_over run before.goals (known_in run before) ≡ known_in run before
  pub told : (run : Fixed) (before : Summary) (seat : ℕ) (request : Request) (change : Change) (kept : Kept)
      → IsTold (known_in run before) request change → columns_in kept ≡ columns_of before
      → columns_in (with_change change kept) ≡ columns_of (after run before (record { seat = seat; what = Told request }))
  pub others : (run : Fixed) (before : Summary) (seat : ℕ) (what : What) → is_telling what ≡ false
      → columns_of (after run before (record { seat = seat; what = what })) ≡ columns_of before
