-- How what was known before an event stands to what is known after it.
use Rattle.std.specs.Prelude.{◌≡◌, ℕ, length}
use Rattle.pl_model.specs.Known.{Known, has_problem}
use Rattle.pl_model.specs.Tickets.{begun_of}

-- before a reply: the run, its goals, what was begun and the problems were the same, and so many goals were decided
pub record IsBeforeReply (before : ℕ) (earlier later : Known) : Type 0 where
  pub run : earlier.run ≡ later.run
  pub goals : earlier.goals ≡ later.goals
  pub begun : begun_of earlier.history ≡ begun_of later.history
  pub problems : has_problem earlier ≡ has_problem later
  pub count : length earlier.decided ≡ before

-- before an event that decides nothing and makes no problem but of itself: as much was decided, and the problems were
-- the same
pub record IsBeforeEnd (earlier later : Known) : Type 0 where
  pub decided : length earlier.decided ≡ length later.decided
  pub problems : has_problem earlier ≡ has_problem later
