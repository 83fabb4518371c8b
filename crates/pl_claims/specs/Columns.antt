-- What is decided in a run, by itself: the columns of a summary that are kept, and what is read from them alone.
--
-- These definitions read the data of the run and what is decided, and nothing else of a history: `rows_of`, `row_at`,
-- `row_numbers`, `claimed_row`, `keeper_of` and `is_target` the data alone; `decided_goal`, `is_decided`,
-- `decision_of`, `stands_beside`, `claimer_of`, `is_claimed` and `is_deleted_first` what is decided alone;
-- `chain_of_goal`, `is_chained`, `may_claim`, `claim_by` and `claim_for` both.
use Rattle.std.specs.Prelude.{ℕ, Bool, not, ◌&&◌, List, []}
use Rattle.pl_model.specs.declared.decided.Decided.{Decided}
use Rattle.pl_model.specs.declared.fixed.Fixed.{Fixed}
use Rattle.pl_model.specs.Claims.{is_chained, is_claimed}
use Rattle.pl_model.specs.Known.{Known}

-- the data of the run and what is decided, newest first, with the number of decisions more that there is memory for
pub record Kept : Type 0 where
  pub run : Fixed
  pub decided : List Decided
  pub ready : ℕ

abbrev pub nothing_decided : Fixed → Kept
nothing_decided run = record { run = run; decided = []; ready = 0 }

-- what is kept, as the definitions over what is known read it
abbrev pub known_by : Kept → Known
known_by kept = record {
  run = kept.run;
  history = [];
  answers = [];
  goals = [];
  decided = kept.decided;
  asked = [];
  problems = [];
}

-- whether a row is left for a goal to claim: no goal claims it or has it in its chain
abbrev pub is_left_over : Fixed → List Decided → ℕ → Bool
is_left_over run decided row = not (is_claimed decided row) && not (is_chained run decided row)
