-- Goals and told requests by themselves: what is kept of them, and what a told request changes.
use Rattle.std.specs.Prelude.{ℕ, Bool, true, false, Option, None, Some, List, [], ◌∷◌, ◌++◌, drop, length}
use Rattle.pl_lemmas.specs.Words.{option_list}
use Rattle.pl_state.specs.declared.goal.Goal.{Goal}
use Rattle.pl_model.specs.declared.heard.Heard.{Heard}

-- goals and told requests, newest first; whether there is memory for one more request with the goals that it makes; and
-- how many goals the newest request made, as long as it may be taken back
pub record Kept : Type 0 where
  pub goals : List Goal
  pub asked : List Heard
  pub ready : Bool
  pub newest : Option ℕ

abbrev pub nothing_kept : Kept
nothing_kept = record { goals = []; asked = []; ready = false; newest = None }

-- what a told request makes: a registration's own goal, the default provider before it, and the request with its fate
pub record Change : Type 0 where
  pub own : Option Goal
  pub default : Option Goal
  pub heard : Heard

-- the goals of a change, newest first
abbrev pub made_by : Change → List Goal
made_by change = option_list change.own ++ option_list change.default

-- what is kept, with memory for one more request; what was told before stands for good
abbrev pub prepared : Kept → Kept
prepared kept = record kept { ready = true; newest = None }

-- what is kept, with a change
abbrev pub with_change : Change → Kept → Kept
with_change change kept = record {
  goals = made_by change ++ kept.goals;
  asked = change.heard ∷ kept.asked;
  ready = false;
  newest = Some (length (made_by change));
}

-- the goals but the newest ones, of which there are so many
abbrev pub earlier_goals : Option ℕ → List Goal → List Goal
earlier_goals None goals = goals
earlier_goals (Some made) goals = drop made goals

-- what is kept, without the newest request and the goals that it made, and with the memory for them
abbrev pub retracted : Kept → Kept
retracted kept = record {
  goals = earlier_goals kept.newest kept.goals;
  asked = drop 1 kept.asked;
  ready = true;
  newest = None;
}
